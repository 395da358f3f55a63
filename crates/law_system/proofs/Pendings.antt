-- A trace's pending actions: their numbers, and that the outstanding Submits are theirs, in order.
use Rattle.std.proofs.Common.{◌≡◌, ℕ, suc, ◌+◌, ◌-◌, ◌<◌, ◌≤◌, Bool, true, false, not, ◌==◌, inl, inr, List, [], ◌∷◌, ◌++◌, map, drop, length, ℤ, Option, Some, slice_get, refl, sym, ap, ◌∙◌, subst, arith, eqb-true, append-nil, append_assoc}
use Rattle.std.specs.Prelude.{if◌then◌else◌}
use Rattle.std.proofs.lemmas.Bool.{cond-true, cond-false, cases_Bool}
use Rattle.std.proofs.lemmas.List.{length-append, map-append, length-map, drop-append-le}
use Rattle.std.proofs.lemmas.Option.{slice_get_within}
use Rattle.sv_world.specs.declared.action.Action.{Action}
use Rattle.sv_versions.specs.Held.{Held}
use Rattle.sv_pending.specs.Pending.{PendingAction, kept_of, redone_after, redone}
use Rattle.sv_wire.specs.declared.message.Request.{Request}
use Rattle.sv_wire.specs.declared.message.Request.TheVariants as requests
use Rattle.sv_wire.specs.declared.message.Reply.{Reply}
use Rattle.sv_wire.specs.declared.message.Reply.TheVariants as replies
use Rattle.sv_client.specs.declared.trace.Event.{Event}
use Rattle.sv_client.specs.declared.trace.Event.TheVariants as events
use Rattle.sv_client.specs.Traces.{makes, held_of, with_reply, head_held, results_of, last_values, are_same, without_front, settled_by, has_news, pending_with, done_for, pending_of, submit_of, asked_by_event, asked, got}
use Rattle.sv_client.specs.Taking.{Identity}
use Rattle.sv_client.specs.Proper.{IsReadyToMake}
use Rattle.law_system.specs.Clients.{AreClientEvents}
use Rattle.law_system.proofs.Asked.{may-answer}

-- An action with its client's number for it.
abbrev pub Numbered : Type 0
Numbered = ℕ × Action

abbrev pub key_of : PendingAction → Numbered
key_of p = (p.seq, p.action)

abbrev pub keys : List PendingAction → List Numbered
keys ps = map key_of ps

abbrev pub without_first : List Numbered → List Numbered
without_first [] = []
without_first (k ∷ ks) = ks

-- A reply that settles the front pending action.
abbrev pub settles : Reply → Bool
settles (replies.Relay seq commit head items) = not (seq == 0)
settles (replies.Dropped seq chain far) = true
settles (replies.Denied seq object) = true
settles (replies.Settled seq pos) = true
settles _ = false

redone-after_keys : (held : List Held) (earlier ps : List PendingAction) → keys (redone_after held earlier ps) ≡ keys earlier ++ keys ps
redone-after_keys held earlier [] = sym (append-nil (keys earlier))
redone-after_keys held earlier (p ∷ ps) =
    let q : PendingAction = record p { kept = kept_of held earlier p.action } in
    redone-after_keys held (earlier ++ q ∷ []) ps
    ∙ ap (λ (l : List Numbered). l ++ keys ps) (map-append key_of earlier (q ∷ []))
    ∙ append_assoc (keys earlier) (key_of p ∷ []) (keys ps)

redone-keys : (held : List Held) (ps : List PendingAction) → keys (redone held ps) ≡ keys ps
redone-keys held ps = redone-after_keys held [] ps

without-keys : (ps : List PendingAction) → keys (without_front ps) ≡ without_first (keys ps)
without-keys [] = refl
without-keys (p ∷ ps) = refl

settled-keys : (held : List Held) (own : Option (List (List ℤ))) (ps : List PendingAction) → keys (settled_by held own ps) ≡ without_first (keys ps)
settled-keys held own [] = refl
settled-keys held own (p ∷ ps) =
    elim (cases_Bool (are_same own p.kept)) [
      | inl e ↦ ap keys (cond-true (are_same own p.kept) ps (redone held ps) e)
      | inr e ↦ ap keys (cond-false (are_same own p.kept) ps (redone held ps) e) ∙ redone-keys held ps
    ]

pub keys-with : (before more : List Held) (r : Reply) (ps : List PendingAction) → keys (pending_with before more r ps) ≡ (if settles r then without_first (keys ps) else keys ps)
keys-with before more (replies.Relay seq commit head items) ps =
    let own = last_values (results_of (before ++ head_held commit head) items) in
    elim (cases_Bool (seq == 0)) [
      | inl e ↦ ap keys (cond-true (seq == 0) ps (settled_by more own ps) e) ∙ sym (ap (λ (b : Bool). if not b then without_first (keys ps) else keys ps) e)
      | inr e ↦ ap keys (cond-false (seq == 0) ps (settled_by more own ps) e) ∙ settled-keys more own ps ∙ sym (ap (λ (b : Bool). if not b then without_first (keys ps) else keys ps) e)
    ]
keys-with before more (replies.Dropped seq chain far) ps = redone-keys more (without_front ps) ∙ without-keys ps
keys-with before more (replies.Denied seq object) ps = redone-keys more (without_front ps) ∙ without-keys ps
keys-with before more (replies.Seen last commit head items) ps =
    elim (cases_Bool (has_news head items)) [
      | inl e ↦ ap keys (cond-true (has_news head items) (redone more ps) ps e) ∙ redone-keys more ps
      | inr e ↦ ap keys (cond-false (has_news head items) (redone more ps) ps e)
    ]
keys-with before more (replies.Settled seq pos) ps = redone-keys more (without_front ps) ∙ without-keys ps
keys-with before more (replies.Welcome commit head) ps = refl
keys-with before more (replies.Noted commit) ps = refl
keys-with before more replies.Idle ps = refl
keys-with before more (replies.Refused code detail) ps = refl
keys-with before more replies.Bye ps = refl

-- ---- Numbers

-- Numbers that go up by one from some number on.
abbrev pub AreFrom : ℕ → List Numbered → Type 0
AreFrom n [] = Unit {0}
AreFrom n (k ∷ ks) = (k.0 ≡ n) × AreFrom (suc n) ks

from-push : (n : ℕ) (ks : List Numbered) (k : Numbered) → AreFrom n ks → k.0 ≡ n + length ks → AreFrom n (ks ++ k ∷ [])
from-push n [] k f e = (omega arith, tt)
from-push n (j ∷ ks) k f e = (f.0, from-push (suc n) ks k f.1 (omega arith))

-- How many actions are settled.
abbrev pub settled : List Event → ℕ
settled t = makes t - length (keys (pending_of t))

-- The pending actions are the last ones made, at most eight.
pub record IsCounted (t : List Event) : Type 0 where
  pub numbered : AreFrom (suc (settled t)) (keys (pending_of t))
  pub within : length (keys (pending_of t)) ≤ makes t
  pub few : length (keys (pending_of t)) ≤ 8

counted-same : (t u : List Event) → keys (pending_of u) ≡ keys (pending_of t) → makes u ≡ makes t → IsCounted t → IsCounted u
counted-same t u e m c = record {
  numbered = subst (λ (n : ℕ). AreFrom (suc (makes u - length (keys (pending_of u)))) (keys (pending_of u))) m
      (subst (λ (n : ℕ). AreFrom (suc (n - length (keys (pending_of u)))) (keys (pending_of u))) (sym m)
      (subst (λ (ks : List Numbered). AreFrom (suc (makes t - length ks)) ks) (sym e) c.numbered));
  within = subst (λ (ks : List Numbered). length ks ≤ makes u) (sym e) (subst (λ (n : ℕ). length (keys (pending_of t)) ≤ n) (sym m) c.within);
  few = subst (λ (ks : List Numbered). length ks ≤ 8) (sym e) c.few;
}

counted-settle : (t u : List Event) → keys (pending_of u) ≡ without_first (keys (pending_of t)) → makes u ≡ makes t → IsCounted t → IsCounted u
counted-settle t u e m c = go (keys (pending_of t)) c.numbered c.within c.few e
  where
    go : (ks : List Numbered) → AreFrom (suc (makes t - length ks)) ks → length ks ≤ makes t → length ks ≤ 8 → keys (pending_of u) ≡ without_first ks → IsCounted u
    go [] f w l d = record {
      numbered = subst (λ (js : List Numbered). AreFrom (suc (makes u - length js)) js) (sym d) tt;
      within = subst (λ (js : List Numbered). length js ≤ makes u) (sym d) (omega arith);
      few = subst (λ (js : List Numbered). length js ≤ 8) (sym d) (omega arith);
    }
    go (k ∷ ks) f w l d = record {
      numbered = subst (λ (js : List Numbered). AreFrom (suc (makes u - length js)) js) (sym d)
          (subst (λ (n : ℕ). AreFrom n ks) (let s : suc (suc (makes t - length (k ∷ ks))) ≡ suc (makes u - length ks) = omega arith in s) f.1);
      within = subst (λ (js : List Numbered). length js ≤ makes u) (sym d) (omega arith);
      few = subst (λ (js : List Numbered). length js ≤ 8) (sym d) (omega arith);
    }

-- ---- Outstanding Submits

abbrev pub submitted_by : Request → List Numbered
submitted_by (requests.Submit seq a) = (seq, a) ∷ []
submitted_by _ = []

abbrev pub submits : List Request → List Numbered
submits [] = []
submits (q ∷ qs) = submitted_by q ++ submits qs

pub submits-append : (ps qs : List Request) → submits (ps ++ qs) ≡ submits ps ++ submits qs
submits-append [] qs = refl
submits-append (p ∷ ps) qs = ap (λ (l : List Numbered). submitted_by p ++ l) (submits-append ps qs) ∙ sym (append_assoc (submitted_by p) (submits ps) (submits qs))

pub submits-pending : (ps : List PendingAction) → submits (map submit_of ps) ≡ keys ps
submits-pending [] = refl
submits-pending (p ∷ ps) = ap (λ (l : List Numbered). key_of p ∷ l) (submits-pending ps)

module _ (who : Identity) where
  pub keys-made : (action : Action) (t : List Event) → keys (pending_of (events.Make action ∷ t)) ≡ keys (pending_of t) ++ (suc (makes t), action) ∷ []
  keys-made action t = map-append key_of (pending_of t) (record { seq = suc (makes t); action = action; kept = kept_of (held_of t) (pending_of t) action } ∷ [])

  counted-make : (action : Action) (t : List Event) → IsReadyToMake who t action → IsCounted t → IsCounted (events.Make action ∷ t)
  counted-make action t m c =
      let ks = keys (pending_of t) in
      let e = keys-made action t in
      let room : length (pending_of t) < 8 = m.room in
      let count : length ks ≡ length (pending_of t) = length-map (pending_of t) key_of in
      let more : length (ks ++ (suc (makes t), action) ∷ []) ≡ length ks + 1 = length-append ks ((suc (makes t), action) ∷ []) in
      let within : length ks ≤ makes t = c.within in
      let same_from : suc (makes t - length ks) ≡ suc (suc (makes t) - length (ks ++ (suc (makes t), action) ∷ [])) = omega arith in
      record {
        numbered = subst (λ (js : List Numbered). AreFrom (suc (suc (makes t) - length js)) js) (sym e)
            (subst (λ (n : ℕ). AreFrom n (ks ++ (suc (makes t), action) ∷ [])) same_from (from-push (suc (makes t - length ks)) ks (suc (makes t), action) c.numbered (omega arith)));
        within = subst (λ (js : List Numbered). length js ≤ suc (makes t)) (sym e) (omega arith);
        few = subst (λ (js : List Numbered). length js ≤ 8) (sym e) (omega arith);
      }

  counted-got : (s : ℕ) (r : Reply) (t : List Event) → IsCounted t → IsCounted (events.Got s r ∷ t)
  counted-got s r t c =
      let e = keys-with (held_of t) (with_reply (held_of t) r) r (pending_of t) in
      elim (cases_Bool (settles r)) [
        | inl y ↦ counted-settle t (events.Got s r ∷ t) (e ∙ cond-true (settles r) _ _ y) refl c
        | inr n ↦ counted-same t (events.Got s r ∷ t) (e ∙ cond-false (settles r) _ _ n) refl c
      ]

  pub counted : (t : List Event) → AreClientEvents who t → IsCounted t
  counted [] p = record { numbered = tt; within = omega arith; few = omega arith }
  counted (events.Make action ∷ t) p = counted-make action t p.0 (counted t p.1)
  counted (events.Got s r ∷ t) p = counted-got s r t (counted t p.1)
  counted (events.Join s ∷ t) p = counted-same t (events.Join s ∷ t) refl refl (counted t p.1)
  counted (events.Poll ∷ t) p = counted-same t (events.Poll ∷ t) refl refl (counted t p.1)
  counted (events.Observe objects wait ∷ t) p = counted-same t (events.Observe objects wait ∷ t) refl refl (counted t p.1)
  counted (events.Leave ∷ t) p = counted-same t (events.Leave ∷ t) refl refl (counted t p.1)
  counted (events.Cut ∷ t) p = counted-same t (events.Cut ∷ t) refl refl (counted t p.1)
  counted (events.Quit ∷ t) p = counted-same t (events.Quit ∷ t) refl refl (counted t p.1)
  counted (events.Show objects ∷ t) p = counted-same t (events.Show objects ∷ t) refl refl (counted t p.1)

  abbrev asked_there : List Event → ℕ → List Request
  asked_there t s = asked who.client who.interest t s

  -- At most as many replies were got as requests were asked.
  pub got-fewer : (t : List Event) → AreClientEvents who t → (s : ℕ) → length (got t s) ≤ length (asked who.client who.interest t s)
  got-fewer [] p s = omega arith
  got-fewer (events.Got m r ∷ t) p s =
      let less : length (got t s) ≤ length (asked_there t s) = got-fewer t p.1 s in
      let a = may-answer who t m r p.0 in
      let more = asked_by_event who.client who.interest t (events.Got m r) s in
      let all' : length (asked_there t s ++ more) ≡ length (asked_there t s) + length more = length-append (asked_there t s) more in
      elim (cases_Bool (m == s)) [
        | inr e ↦ (let same : length (got (events.Got m r ∷ t) s) ≡ length (got t s) = ap length (cond-false (m == s) (got t s ++ r ∷ []) (got t s) e) in omega arith)
        | inl e ↦
            (let one : length (got (events.Got m r ∷ t) s) ≡ length (got t s) + 1 = ap length (cond-true (m == s) (got t s ++ r ∷ []) (got t s) e) ∙ length-append (got t s) (r ∷ []) in
            let there : slice_get (asked_there t s) (length (got t s)) ≡ Some a.request = subst (λ (n : ℕ). slice_get (asked_there t n) (length (got t n)) ≡ Some a.request) (eqb-true m s e) a.asked_there in
            let within : length (got t s) < length (asked_there t s) = slice_get_within (asked_there t s) (length (got t s)) a.request there in
            omega arith)
      ]
  got-fewer (events.Join m ∷ t) p s = fewer-more (events.Join m) t s (got-fewer t p.1 s)
    where
      fewer-more : (e : Event) (t : List Event) (s : ℕ) → length (got t s) ≤ length (asked_there t s) → length (got t s) ≤ length (asked_there t s ++ asked_by_event who.client who.interest t e s)
      fewer-more e t s l = (let a : length (asked_there t s ++ asked_by_event who.client who.interest t e s) ≡ length (asked_there t s) + length (asked_by_event who.client who.interest t e s) = length-append (asked_there t s) (asked_by_event who.client who.interest t e s) in omega arith)
  got-fewer (events.Make action ∷ t) p s = (let l : length (got t s) ≤ length (asked_there t s) = got-fewer t p.1 s in let a : length (asked_there (events.Make action ∷ t) s) ≡ length (asked_there t s) + length (asked_by_event who.client who.interest t (events.Make action) s) = length-append (asked_there t s) _ in omega arith)
  got-fewer (events.Poll ∷ t) p s = (let l : length (got t s) ≤ length (asked_there t s) = got-fewer t p.1 s in let a : length (asked_there (events.Poll ∷ t) s) ≡ length (asked_there t s) + length (asked_by_event who.client who.interest t events.Poll s) = length-append (asked_there t s) _ in omega arith)
  got-fewer (events.Observe objects wait ∷ t) p s = (let l : length (got t s) ≤ length (asked_there t s) = got-fewer t p.1 s in let a : length (asked_there (events.Observe objects wait ∷ t) s) ≡ length (asked_there t s) + length (asked_by_event who.client who.interest t (events.Observe objects wait) s) = length-append (asked_there t s) _ in omega arith)
  got-fewer (events.Leave ∷ t) p s = (let l : length (got t s) ≤ length (asked_there t s) = got-fewer t p.1 s in let a : length (asked_there (events.Leave ∷ t) s) ≡ length (asked_there t s) + length (asked_by_event who.client who.interest t events.Leave s) = length-append (asked_there t s) _ in omega arith)
  got-fewer (events.Cut ∷ t) p s = (let l : length (got t s) ≤ length (asked_there t s) = got-fewer t p.1 s in let a : length (asked_there (events.Cut ∷ t) s) ≡ length (asked_there t s) + length (asked_by_event who.client who.interest t events.Cut s) = length-append (asked_there t s) _ in omega arith)
  got-fewer (events.Quit ∷ t) p s = (let l : length (got t s) ≤ length (asked_there t s) = got-fewer t p.1 s in let a : length (asked_there (events.Quit ∷ t) s) ≡ length (asked_there t s) + length (asked_by_event who.client who.interest t events.Quit s) = length-append (asked_there t s) _ in omega arith)
  got-fewer (events.Show objects ∷ t) p s = (let l : length (got t s) ≤ length (asked_there t s) = got-fewer t p.1 s in let a : length (asked_there (events.Show objects ∷ t) s) ≡ length (asked_there t s) + length (asked_by_event who.client who.interest t (events.Show objects) s) = length-append (asked_there t s) _ in omega arith)

  -- The Submits among the outstanding requests of a session.
  abbrev pub waiting : List Event → ℕ → List Numbered
  waiting t s = submits (drop (length (got t s)) (asked who.client who.interest t s))

  abbrev pub IsAligned : List Event → ℕ → Type 0
  IsAligned t s = waiting t s ≡ keys (pending_of t)

  -- one more event that is no Got
  pub waiting-more : (t : List Event) (s : ℕ) (more : List Request) → length (got t s) ≤ length (asked_there t s) →
      submits (drop (length (got t s)) (asked_there t s ++ more)) ≡ waiting t s ++ submits more
  waiting-more t s more l = ap submits (drop-append-le (length (got t s)) (asked_there t s) more l) ∙ submits-append (drop (length (got t s)) (asked_there t s)) more

  pub quiet : (t : List Event) (s : ℕ) (more : List Request) → submits more ≡ [] → length (got t s) ≤ length (asked_there t s) → IsAligned t s →
      submits (drop (length (got t s)) (asked_there t s ++ more)) ≡ keys (pending_of t)
  quiet t s more none l a = waiting-more t s more l ∙ ap (λ (ks : List Numbered). waiting t s ++ ks) none ∙ append-nil (waiting t s) ∙ a

  pub quiet-if : (b : Bool) (q : Request) → submitted_by q ≡ [] → submits (if b then q ∷ [] else []) ≡ []
  quiet-if true q e = ap (λ (l : List Numbered). l ++ []) e
  quiet-if false q e = refl

  quiet-done : (held : List Held) (r : Reply) → submits (done_for held r) ≡ []
  quiet-done held (replies.Relay seq commit head items) = refl
  quiet-done held (replies.Welcome commit head) = refl
  quiet-done held (replies.Dropped seq chain far) = refl
  quiet-done held (replies.Denied seq object) = refl
  quiet-done held (replies.Seen last commit head []) = refl
  quiet-done held (replies.Seen last commit head (item ∷ items)) = refl
  quiet-done held (replies.Settled seq pos) = refl
  quiet-done held (replies.Noted commit) = refl
  quiet-done held replies.Idle = refl
  quiet-done held (replies.Refused code detail) = refl
  quiet-done held replies.Bye = refl

  pub quiet-got : (m : ℕ) (r : Reply) (t : List Event) (s : ℕ) → submits (asked_by_event who.client who.interest t (events.Got m r) s) ≡ []
  quiet-got m r t s = go (m == s)
    where
      go : (b : Bool) → submits (if b then done_for (held_of t) r else []) ≡ []
      go true = quiet-done (held_of t) r
      go false = refl
