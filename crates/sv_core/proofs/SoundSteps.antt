-- What holds of each history that a core keeps, entry by entry.
use Rattle.std.proofs.Common.{◌≡◌, ℕ, suc, ◌<◌, ◌≤◌, Bool, true, false, ◌&&◌, cond, nat_eq, inl, inr, List, [], ◌∷◌, ◌++◌, map, length, Some, None, slice_get, refl, sym, ◌∙◌, ap, subst, arith}
use Rattle.std.proofs.lemmas.Bool.{cases_Bool, eqb-true, cond_both, and_parts, or_cases, or_left, or_right}
use Rattle.std.proofs.lemmas.List.{length-map, map-append}
use Rattle.sv_world.specs.declared.action.Action.{Action}
use Rattle.sv_world.specs.Control.{is_in, action_at, last_writer, IsClosed, SentIsClosed}
use Rattle.sv_world.specs.Limits.{most_positions}
use Rattle.sv_world.specs.Sets.{read_set}
use Rattle.sv_world.proofs.Members.{is_in-append_cases, is_in-append_left, is_in-append_right}
use Rattle.sv_world.proofs.Writers.{action_at-append, last_writer-same}
use Rattle.sv_journal.specs.declared.entry.Entry.{Entry}
use Rattle.sv_journal.specs.History.{Authored, Accepted, is_relay, is_noted, reports, either, new_action, client_of, outcomes_of, accepted, actions_of, result_at, commit_of}
use Rattle.sv_journal.specs.Sessions.{is_end, is_last, welcomes, is_over, positions_in, named_in, sent_to, named_to, is_ended}
use Rattle.sv_journal.specs.Answer.{Rules}
use Rattle.sv_core.specs.Agreement.{IsSoundHistory}

-- What the next entry may bring.
pub record IsSoundStep (r : Rules) (h : List Entry) (e : Entry) : Type 0 where
  pub grows : length (accepted h) ≤ length (accepted (e ∷ h))
  pub positions : length (accepted (e ∷ h)) ≤ r.positions
  pub numbers : (k : ℕ) → length (outcomes_of (e ∷ h) k) ≤ most_positions
  pub commit : commit_of h ≤ commit_of (e ∷ h)
  pub reported : is_noted e.reply ≡ true → (p : ℕ) → length (accepted h) < p → reports p e.request ≡ None
  pub sent : (p : ℕ) → is_in p (positions_in e.reply) ≡ true → p ≤ length (accepted (e ∷ h))
  pub closed : IsClosed (actions_of (e ∷ h)) (commit_of (e ∷ h)) (sent_to h e.session) (λ p. is_in p (positions_in e.reply))
  pub named : (x q : ℕ) → is_in q (named_in e.reply x) ≡ true → q ≤ commit_of (e ∷ h)
  pub outcomes : (k n p : ℕ) → slice_get (outcomes_of (e ∷ h) k) n ≡ Some (Accepted p) → p ≤ length (accepted (e ∷ h))
  pub ended : is_end e.request ≡ true → is_last e.reply ≡ true

-- The actions so far stay.
actions-stay : (e : Entry) (h : List Entry) (k : ℕ) → k ≤ length (accepted h) → action_at (actions_of (e ∷ h)) k ≡ action_at (actions_of h) k
actions-stay e h k low =
    ap (λ acts. action_at acts k) (map-append (λ (a : Authored). a.action) (accepted h) more)
    ∙ action_at-append (actions_of h) (map (λ (a : Authored). a.action) more) k (omega (arith, length-map (accepted h) (λ (a : Authored). a.action)))
  where
    more : List Authored
    more = cond (is_relay e.reply) (new_action (client_of h e.session) (λ j. suc (length (outcomes_of h j))) e.request) []

-- What was sent before has what it reads from among what was sent before.
old-closed : (r : Rules) (h : List Entry) (e : Entry) (s p x : ℕ) → IsSoundStep r h e → IsSoundHistory r h → is_in p (sent_to h s) ≡ true →
    is_in x (read_set (action_at (actions_of (e ∷ h)) p)) ≡ true → commit_of (e ∷ h) < last_writer (actions_of (e ∷ h)) x p →
    is_in (last_writer (actions_of (e ∷ h)) x p) (sent_to h s) ≡ true
old-closed r h e s p x step sound m reads above =
    let low : p ≤ length (accepted h) = sound.sent s p m in
    let same : last_writer (actions_of (e ∷ h)) x p ≡ last_writer (actions_of h) x p =
    last_writer-same (actions_of (e ∷ h)) (actions_of h) x p (λ k a b. actions-stay e h k (omega arith)) in
    subst (λ n. is_in n (sent_to h s) ≡ true) (sym same)
    (sound.closed s p x m (ap (λ (a : Action). is_in x (read_set a)) (sym (actions-stay e h p low)) ∙ reads) (omega (arith, above, same, step.commit)))

sent-closed : (r : Rules) (h : List Entry) (e : Entry) (s : ℕ) → IsSoundStep r h e → IsSoundHistory r h →
    SentIsClosed (actions_of (e ∷ h)) (commit_of (e ∷ h)) (sent_to (e ∷ h) s)
sent-closed r h e s step sound p x m reads above = go (nat_eq e.session s) refl m
  where
    j : ℕ
    j = last_writer (actions_of (e ∷ h)) x p

    here : e.session ≡ s → is_in p (sent_to h s ++ positions_in e.reply) ≡ true → is_in j (sent_to h s ++ positions_in e.reply) ≡ true
    here at k = elim (is_in-append_cases p (sent_to h s) (positions_in e.reply) k) [
      | inl old ↦ is_in-append_left j (sent_to h s) (positions_in e.reply) (old-closed r h e s p x step sound old reads above)
      | inr new' ↦ elim (cases_Bool (is_in j (sent_to h s))) [
        | inl was ↦ is_in-append_left j (sent_to h s) (positions_in e.reply) was
        | inr none ↦ is_in-append_right j (sent_to h s) (positions_in e.reply)
            (step.closed p x new' reads above (subst (λ t. is_in j (sent_to h t) ≡ false) (sym at) none))
      ]
    ]

    go : (b : Bool) → nat_eq e.session s ≡ b → is_in p (cond b (sent_to h s ++ positions_in e.reply) (sent_to h s)) ≡ true →
        is_in j (cond b (sent_to h s ++ positions_in e.reply) (sent_to h s)) ≡ true
    go true q k = here (eqb-true e.session s q) k
    go false q k = old-closed r h e s p x step sound k reads above

pub sound-next : (r : Rules) (h : List Entry) (e : Entry) → IsSoundStep r h e → IsSoundHistory r h → IsSoundHistory r (e ∷ h)
sound-next r h e step sound = record {
  results = λ p high. result p (omega (arith, high, step.grows));
  sent = λ s p m. sent s p m;
  closed = λ s. sent-closed r h e s step sound;
  named = λ s x q m. named s x q m;
  outcomes = step.outcomes;
  ended = λ s q. ended s q;
  positions = step.positions;
  numbers = step.numbers;
}
  where
    result : (p : ℕ) → length (accepted h) < p → result_at (e ∷ h) p ≡ None
    result p high = ap (λ o. either o (cond (is_noted e.reply) (reports p e.request) None)) (sound.results p high)
        ∙ elim (cases_Bool (is_noted e.reply)) [
          | inl q ↦ ap (λ b. cond b (reports p e.request) None) q ∙ step.reported q p high
          | inr q ↦ ap (λ b. cond b (reports p e.request) None) q
        ]

    sent : (s p : ℕ) → is_in p (sent_to (e ∷ h) s) ≡ true → p ≤ length (accepted (e ∷ h))
    sent s p = cond_both (nat_eq e.session s) (sent_to h s ++ positions_in e.reply) (sent_to h s) (λ xs. is_in p xs ≡ true → p ≤ length (accepted (e ∷ h)))
        (λ q m. elim (is_in-append_cases p (sent_to h s) (positions_in e.reply) m) [
          | inl old ↦ omega (arith, sound.sent s p old, step.grows)
          | inr new' ↦ step.sent p new'
        ])
        (λ q m. omega (arith, sound.sent s p m, step.grows))

    named : (s x q : ℕ) → is_in q (named_to (e ∷ h) s x) ≡ true → q ≤ commit_of (e ∷ h)
    named s x q = cond_both (nat_eq e.session s) (named_to h s x ++ named_in e.reply x) (named_to h s x) (λ xs. is_in q xs ≡ true → q ≤ commit_of (e ∷ h))
        (λ t m. elim (is_in-append_cases q (named_to h s x) (named_in e.reply x) m) [
          | inl old ↦ omega (arith, sound.named s x q old, step.commit)
          | inr new' ↦ step.named x q new'
        ])
        (λ t m. omega (arith, sound.named s x q m, step.commit))

    ended : (s : ℕ) → is_ended (e ∷ h) s ≡ true → is_over (e ∷ h) s ≡ true
    ended s q = elim (or_cases (nat_eq e.session s && is_end e.request) (is_ended h s) q) [
      | inl now ↦ (let both = and_parts (nat_eq e.session s) (is_end e.request) now in
          or_right (is_over h s) (cond (nat_eq e.session s) (is_last e.reply) (welcomes e (client_of h s)))
          (ap (λ b. cond b (is_last e.reply) (welcomes e (client_of h s))) both.0 ∙ step.ended both.1))
      | inr old' ↦ or_left (is_over h s) (cond (nat_eq e.session s) (is_last e.reply) (welcomes e (client_of h s))) (sound.ended s old')
    ]
