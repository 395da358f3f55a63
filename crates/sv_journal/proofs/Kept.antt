-- What is kept of a history has the same sessions, clients, outcomes, accepted actions and sent positions as all of it.
use Rattle.std.proofs.Common.{◌≡◌, ℕ, suc, ◌+◌, ◌≤◌, Bool, ◌&&◌, ◌||◌, not, ◌==◌, List, [], ◌∷◌, ◌++◌, map, filter, length, Option, Some, None, is_some, refl, sym, ap, ap₂, subst, ◌∙◌}
use Rattle.std.specs.Prelude.{if◌then◌else◌, max, nat_le}
use Rattle.sv_world.specs.declared.action.Action.{Action}
use Rattle.sv_world.specs.Control.{is_in, action_at}
use Rattle.sv_world.specs.Sets.{write_set}
use Rattle.sv_wire.specs.declared.message.Done1.{Done1}
use Rattle.sv_wire.specs.declared.message.Request.{Request}
use Rattle.sv_wire.specs.declared.message.Request.TheVariants as requests
use Rattle.sv_journal.specs.declared.entry.Entry.{Entry}
use Rattle.sv_journal.specs.History.{Authored, Outcome, either, is_welcome, is_relay, joining, client_of, is_client, is_submit_of, outcome_in, new_action, outcomes_of, accepted, next_seq, actions_of, commit_of}
use Rattle.sv_journal.specs.Sessions.{is_last, welcomes, is_over, is_live, is_end, asked_in, life_in, life_of, outcome_at, kept_count, kept_outcome, positions_in, sent_to, named_in, named_to, given_at}
use Rattle.sv_journal.specs.Serving.{Keeping, with_results, IsKeeping}
use Rattle.sv_journal.proofs.Commits.{commit_within, commit_grows}

-- ---- A request with some of its results

joining-same : (test : Done1 → Bool) (q : Request) → joining (with_results test q) ≡ joining q
joining-same test (requests.Join client life interest) = refl
joining-same test (requests.Submit seq a) = refl
joining-same test (requests.Done results) = refl
joining-same test requests.Poll = refl
joining-same test (requests.Observe objects wait) = refl
joining-same test requests.Leave = refl
joining-same test requests.Bad = refl
joining-same test requests.End = refl

submit-same : (test : Done1 → Bool) (q : Request) (n : ℕ) → is_submit_of (with_results test q) n ≡ is_submit_of q n
submit-same test (requests.Join client life interest) n = refl
submit-same test (requests.Submit seq a) n = refl
submit-same test (requests.Done results) n = refl
submit-same test requests.Poll n = refl
submit-same test (requests.Observe objects wait) n = refl
submit-same test requests.Leave n = refl
submit-same test requests.Bad n = refl
submit-same test requests.End n = refl

new-same : (test : Done1 → Bool) (o : Option ℕ) (next : ℕ → ℕ) (q : Request) → new_action o next (with_results test q) ≡ new_action o next q
new-same test None next q = refl
new-same test (Some k) next (requests.Join client life interest) = refl
new-same test (Some k) next (requests.Submit seq a) = refl
new-same test (Some k) next (requests.Done results) = refl
new-same test (Some k) next requests.Poll = refl
new-same test (Some k) next (requests.Observe objects wait) = refl
new-same test (Some k) next requests.Leave = refl
new-same test (Some k) next requests.Bad = refl
new-same test (Some k) next requests.End = refl

-- Only the number of the session's own client is looked at.
new-by : (o : Option ℕ) (f g : ℕ → ℕ) (q : Request) → ((k : ℕ) → f k ≡ g k) → new_action o f q ≡ new_action o g q
new-by None f g q e = refl
new-by (Some k) f g (requests.Submit seq a) e =
    ap (λ n. if seq == n then record { client = k; seq = seq; action = a } ∷ [] else []) (e k)
new-by (Some k) f g (requests.Join client life interest) e = refl
new-by (Some k) f g (requests.Done results) e = refl
new-by (Some k) f g requests.Poll e = refl
new-by (Some k) f g (requests.Observe objects wait) e = refl
new-by (Some k) f g requests.Leave e = refl
new-by (Some k) f g requests.Bad e = refl
new-by (Some k) f g requests.End e = refl

pub end-same : (test : Done1 → Bool) (q : Request) → is_end (with_results test q) ≡ is_end q
end-same test (requests.Join client life interest) = refl
end-same test (requests.Submit seq a) = refl
end-same test (requests.Done results) = refl
end-same test requests.Poll = refl
end-same test (requests.Observe objects wait) = refl
end-same test requests.Leave = refl
end-same test requests.Bad = refl
end-same test requests.End = refl

life-same : (test : Done1 → Bool) (q : Request) → life_in (with_results test q) ≡ life_in q
life-same test (requests.Join client life interest) = refl
life-same test (requests.Submit seq a) = refl
life-same test (requests.Done results) = refl
life-same test requests.Poll = refl
life-same test (requests.Observe objects wait) = refl
life-same test requests.Leave = refl
life-same test requests.Bad = refl
life-same test requests.End = refl

-- ---- One entry more

-- An entry with some of its Done's results, after a history that is the same, tells the same.
module _ (test : Done1 → Bool) (e : Entry) (g h : List Entry) where
  abbrev d : Entry
  d = record e { request = with_results test e.request }

  client-next : (s : ℕ) → client_of g s ≡ client_of h s → client_of (d ∷ g) s ≡ client_of (e ∷ h) s
  client-next s c =
      ap₂ (λ (o j : Option ℕ). either o (if (e.session == s) && is_welcome e.reply then j else None)) c (joining-same test e.request)

  outcomes-next : (k : ℕ) → outcomes_of g k ≡ outcomes_of h k → client_of g e.session ≡ client_of h e.session → accepted g ≡ accepted h →
      outcomes_of (d ∷ g) k ≡ outcomes_of (e ∷ h) k
  outcomes-next k o c a =
      ap (λ (os : List Outcome). os ++ (if is_client (client_of g e.session) k && is_submit_of d.request (suc (length os)) then outcome_in (suc (length (accepted g))) e.reply else [])) o
      ∙ ap (λ (b : Bool). outcomes_of h k ++ (if is_client (client_of g e.session) k && b then outcome_in (suc (length (accepted g))) e.reply else [])) (submit-same test e.request (suc (length (outcomes_of h k))))
      ∙ ap₂ (λ (j : Option ℕ) (A : List Authored). outcomes_of h k ++ (if is_client j k && is_submit_of e.request (suc (length (outcomes_of h k))) then outcome_in (suc (length A)) e.reply else [])) c a

  accepted-next : ((k : ℕ) → outcomes_of g k ≡ outcomes_of h k) → client_of g e.session ≡ client_of h e.session → accepted g ≡ accepted h →
      accepted (d ∷ g) ≡ accepted (e ∷ h)
  accepted-next o c a =
      ap₂ (λ (A new : List Authored). A ++ (if is_relay e.reply then new else [])) a
      (new-same test (client_of g e.session) (λ k. suc (length (outcomes_of g k))) e.request
      ∙ new-by (client_of g e.session) (λ k. suc (length (outcomes_of g k))) (λ k. suc (length (outcomes_of h k))) e.request (λ k. ap (λ (os : List Outcome). suc (length os)) (o k))
      ∙ ap (λ (j : Option ℕ). new_action j (λ k. suc (length (outcomes_of h k))) e.request) c)

  welcomes-same : (o : Option ℕ) → welcomes d o ≡ welcomes e o
  welcomes-same None = refl
  welcomes-same (Some k) = ap (λ (j : Option ℕ). is_welcome e.reply && is_client j k) (joining-same test e.request)

  over-next : (s : ℕ) → is_over g s ≡ is_over h s → client_of g s ≡ client_of h s → is_over (d ∷ g) s ≡ is_over (e ∷ h) s
  over-next s o c =
      ap₂ (λ (b w : Bool). b || (if e.session == s then is_last e.reply else w)) o (welcomes-same (client_of g s) ∙ ap (welcomes e) c)

  asked-next : (s : ℕ) → asked_in g s ≡ asked_in h s → asked_in (d ∷ g) s ≡ asked_in (e ∷ h) s
  asked-next s n = ap₂ (λ (m : ℕ) (b : Bool). if e.session == s && not b then suc m else m) n (end-same test e.request)

  life-next : (k : ℕ) → life_of g k ≡ life_of h k → life_of (d ∷ g) k ≡ life_of (e ∷ h) k
  life-next k l =
      ap (λ (m : ℕ). if welcomes d (Some k) then max (life_in d.request) m else m) l
      ∙ ap₂ (λ (b : Bool) (m : ℕ). if b then max m (life_of h k) else life_of h k) (welcomes-same (Some k)) (life-same test e.request)

  sent-next : (s : ℕ) → sent_to g s ≡ sent_to h s → sent_to (d ∷ g) s ≡ sent_to (e ∷ h) s
  sent-next s p = ap (λ (ps : List ℕ). if e.session == s then ps ++ positions_in e.reply else ps) p

  named-next : (s x : ℕ) → named_to g s x ≡ named_to h s x → named_to (d ∷ g) s x ≡ named_to (e ∷ h) s x
  named-next s x p = ap (λ (ps : List ℕ). if e.session == s then ps ++ named_in e.reply x else ps) p

-- ---- What is kept of a history

abbrev AreSame : Keeping → List Entry → Type 0
AreSame k h = ((j : ℕ) → outcomes_of (k.kept h) j ≡ outcomes_of h j) × (accepted (k.kept h) ≡ accepted h)

module _ (k : Keeping) (law : IsKeeping k) where
  pub client-kept : (h : List Entry) (s : ℕ) → client_of (k.kept h) s ≡ client_of h s
  client-kept [] s = ap (λ (g : List Entry). client_of g s) law.none
  client-kept (e ∷ h) s =
      let n = law.next e h in
      ap (λ (g : List Entry). client_of g s) n.1 ∙ client-next n.0 e (k.kept h) h s (client-kept h s)

  are-same : (h : List Entry) → AreSame k h
  are-same [] = ((λ j. ap (λ (g : List Entry). outcomes_of g j) law.none), ap accepted law.none)
  are-same (e ∷ h) =
      let n = law.next e h in
      let before = are-same h in
      let client = client-kept h e.session in (
        (λ j. ap (λ (g : List Entry). outcomes_of g j) n.1 ∙ outcomes-next n.0 e (k.kept h) h j (before.0 j) client before.1),
        ap accepted n.1 ∙ accepted-next n.0 e (k.kept h) h before.0 client before.1,
      )

  pub outcomes-kept : (h : List Entry) (j : ℕ) → outcomes_of (k.kept h) j ≡ outcomes_of h j
  outcomes-kept h j = (are-same h).0 j

  pub accepted-kept : (h : List Entry) → accepted (k.kept h) ≡ accepted h
  accepted-kept h = (are-same h).1

  pub over-kept : (h : List Entry) (s : ℕ) → is_over (k.kept h) s ≡ is_over h s
  over-kept [] s = ap (λ (g : List Entry). is_over g s) law.none
  over-kept (e ∷ h) s =
      let n = law.next e h in
      ap (λ (g : List Entry). is_over g s) n.1 ∙ over-next n.0 e (k.kept h) h s (over-kept h s) (client-kept h s)

  pub asked-kept : (h : List Entry) (s : ℕ) → asked_in (k.kept h) s ≡ asked_in h s
  asked-kept [] s = ap (λ (g : List Entry). asked_in g s) law.none
  asked-kept (e ∷ h) s =
      let n = law.next e h in
      ap (λ (g : List Entry). asked_in g s) n.1 ∙ asked-next n.0 e (k.kept h) h s (asked-kept h s)

  pub life-kept : (h : List Entry) (j : ℕ) → life_of (k.kept h) j ≡ life_of h j
  life-kept [] j = ap (λ (g : List Entry). life_of g j) law.none
  life-kept (e ∷ h) j =
      let n = law.next e h in
      ap (λ (g : List Entry). life_of g j) n.1 ∙ life-next n.0 e (k.kept h) h j (life-kept h j)

  pub sent-kept : (h : List Entry) (s : ℕ) → sent_to (k.kept h) s ≡ sent_to h s
  sent-kept [] s = ap (λ (g : List Entry). sent_to g s) law.none
  sent-kept (e ∷ h) s =
      let n = law.next e h in
      ap (λ (g : List Entry). sent_to g s) n.1 ∙ sent-next n.0 e (k.kept h) h s (sent-kept h s)

  pub named-kept : (h : List Entry) (s x : ℕ) → named_to (k.kept h) s x ≡ named_to h s x
  named-kept [] s x = ap (λ (g : List Entry). named_to g s x) law.none
  named-kept (e ∷ h) s x =
      let n = law.next e h in
      ap (λ (g : List Entry). named_to g s x) n.1 ∙ named-next n.0 e (k.kept h) h s x (named-kept h s x)

  pub length-kept : (h : List Entry) → length (k.kept h) ≡ length h
  length-kept [] = ap length law.none
  length-kept (e ∷ h) = ap length (law.next e h).1 ∙ ap suc (length-kept h)

  -- ---- What follows

  pub actions-kept : (h : List Entry) → actions_of (k.kept h) ≡ actions_of h
  actions-kept h = ap (λ (A : List Authored). map (λ (a : Authored). a.action) A) (accepted-kept h)

  pub next-kept : (h : List Entry) (j : ℕ) → next_seq (k.kept h) j ≡ next_seq h j
  next-kept h j = ap (λ (os : List Outcome). suc (length os)) (outcomes-kept h j)

  pub kept_outcome-kept : (h : List Entry) (j seq : ℕ) → kept_outcome (k.kept h) j seq ≡ kept_outcome h j seq
  kept_outcome-kept h j seq =
      ap (λ (os : List Outcome). if nat_le (suc (length os)) (seq + kept_count) then outcome_at os seq else None) (outcomes-kept h j)

  pub live-kept : (h : List Entry) (s : ℕ) → is_live (k.kept h) s ≡ is_live h s
  live-kept h s = ap₂ (λ (o : Option ℕ) (b : Bool). is_some o && not b) (client-kept h s) (over-kept h s)

  pub given-kept : (h : List Entry) (s x : ℕ) → given_at (k.kept h) s x ≡ given_at h s x
  given-kept h s x =
      ap (λ (A : List Action). named_to (k.kept h) s x ++ filter (λ p. is_in x (write_set (action_at A p))) (sent_to (k.kept h) s)) (actions-kept h)
      ∙ ap₂ (λ (ns ps : List ℕ). ns ++ filter (λ p. is_in x (write_set (action_at (actions_of h) p))) ps) (named-kept h s x) (sent-kept h s)

  -- ---- The commit

  pub commit_within-kept : (h : List Entry) → commit_of (k.kept h) ≤ length (accepted h)
  commit_within-kept h = subst (λ (A : List Authored). commit_of (k.kept h) ≤ length A) (accepted-kept h) (commit_within (k.kept h))

  pub commit_grows-kept : (e : Entry) (h : List Entry) → commit_of (k.kept h) ≤ commit_of (k.kept (e ∷ h))
  commit_grows-kept e h =
      let n = law.next e h in
      subst (λ (g : List Entry). commit_of (k.kept h) ≤ commit_of g) (sym n.1) (commit_grows (record e { request = with_results n.0 e.request }) (k.kept h))
