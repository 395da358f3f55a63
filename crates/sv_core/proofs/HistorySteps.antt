-- What one more entry makes of what a history says.
use Rattle.std.proofs.Common.{◌≡◌, ℕ, zero, suc, ◌<◌, ◌≤◌, Bool, true, false, ◌&&◌, cond, nat_eq, ◌⊎◌, inl, inr, List, [], ◌∷◌, ◌++◌, length, ℤ, Some, None, refl, sym, ◌∙◌, ap, subst, arith, append-nil}
use Rattle.std.proofs.lemmas.Bool.{cases_eq, eq-eqb, eqb-true, ne_eqb, cond-true, cond-false, and_right, both_ways}
use Rattle.sv_wire.specs.declared.message.Request.{Request}
use Rattle.sv_journal.specs.declared.entry.Entry.{Entry}
use Rattle.sv_journal.specs.History.{Authored, either, is_relay, is_noted, is_client, is_submit_of, outcome_in, new_action, client_of, outcomes_of, accepted, next_seq, result_at, run_length, installed, actions_of, reports}
use Rattle.sv_journal.proofs.Commits.{run_within}
use Rattle.sv_journal.proofs.Results.{either_none}
use Rattle.sv_core.specs.Decisions.{IsOld, IsNextSubmit, action_in}
use Rattle.sv_core.specs.Fits.{actions_in, values_after}

-- ---- Accepted actions and outcomes

pub accepted-quiet : (e : Entry) (h : List Entry) → is_relay e.reply ≡ false → accepted (e ∷ h) ≡ accepted h
accepted-quiet e h q =
    ap (λ b. accepted h ++ cond b (new_action (client_of h e.session) (λ k. suc (length (outcomes_of h k))) e.request) []) q ∙ append-nil (accepted h)

pub accepted-old : (e : Entry) (h : List Entry) → IsOld h e.session e.request → accepted (e ∷ h) ≡ accepted h
accepted-old e h old = go (is_relay e.reply)
  where
    go : (b : Bool) → accepted h ++ cond b (new_action (client_of h e.session) (λ k. suc (length (outcomes_of h k))) e.request) [] ≡ accepted h
    go true = ap (λ xs. accepted h ++ xs) old.accepts ∙ append-nil (accepted h)
    go false = append-nil (accepted h)

pub outcomes-quiet : (e : Entry) (h : List Entry) (k : ℕ) → outcome_in (suc (length (accepted h))) e.reply ≡ [] → outcomes_of (e ∷ h) k ≡ outcomes_of h k
outcomes-quiet e h k q = go (is_client (client_of h e.session) k && is_submit_of e.request (suc (length (outcomes_of h k))))
  where
    go : (b : Bool) → outcomes_of h k ++ cond b (outcome_in (suc (length (accepted h))) e.reply) [] ≡ outcomes_of h k
    go true = ap (λ xs. outcomes_of h k ++ xs) q ∙ append-nil (outcomes_of h k)
    go false = append-nil (outcomes_of h k)

pub outcomes-old : (e : Entry) (h : List Entry) (k : ℕ) → IsOld h e.session e.request → outcomes_of (e ∷ h) k ≡ outcomes_of h k
outcomes-old e h k old =
    ap (λ b. outcomes_of h k ++ cond b (outcome_in (suc (length (accepted h))) e.reply) []) (old.outcomes k) ∙ append-nil (outcomes_of h k)

-- A client's next Submit.
abbrev pub authored_by : ℕ → ℕ → Request → Authored
authored_by k seq request = record { client = k; seq = seq; action = action_in request }

pub new_action-next : (h : List Entry) (s : ℕ) (request : Request) (k seq : ℕ) → IsNextSubmit h s request k seq →
    new_action (client_of h s) (next_seq h) request ≡ authored_by k seq request ∷ []
new_action-next h s request k seq is =
    ap (λ c. new_action c (next_seq h) request) is.client
    ∙ subst (λ r. new_action (Some k) (next_seq h) r ≡ record { client = k; seq = seq; action = action_in r } ∷ []) (sym is.submit)
    (cond-true (nat_eq seq (next_seq h k)) (record { client = k; seq = seq; action = action_in request } ∷ []) [] (eq-eqb seq (next_seq h k) is.next))

pub accepted-next : (e : Entry) (h : List Entry) (k seq : ℕ) → is_relay e.reply ≡ true → IsNextSubmit h e.session e.request k seq →
    accepted (e ∷ h) ≡ accepted h ++ authored_by k seq e.request ∷ []
accepted-next e h k seq q is =
    ap (λ b. accepted h ++ cond b (new_action (client_of h e.session) (λ j. suc (length (outcomes_of h j))) e.request) []) q
    ∙ ap (λ xs. accepted h ++ xs) (new_action-next h e.session e.request k seq is)

is_next-of : (h : List Entry) (s : ℕ) (request : Request) (k seq j : ℕ) → IsNextSubmit h s request k seq →
    (is_client (client_of h s) j && is_submit_of request (next_seq h j)) ≡ nat_eq k j
is_next-of h s request k seq j is =
    ap (λ c. is_client c j && is_submit_of request (next_seq h j)) is.client
    ∙ ap (λ r. nat_eq k j && is_submit_of r (next_seq h j)) is.submit
    ∙ elim (cases_eq k j) [
      | inl same ↦ rw (eq-eqb k j same) (eq-eqb seq (next_seq h j) (is.next ∙ ap (next_seq h) same))
      | inr ne ↦ rw (ne_eqb k j ne) refl
    ]

pub outcomes-next : (e : Entry) (h : List Entry) (k seq j : ℕ) → IsNextSubmit h e.session e.request k seq →
    outcomes_of (e ∷ h) j ≡ cond (nat_eq k j) (outcomes_of h k ++ outcome_in (suc (length (accepted h))) e.reply) (outcomes_of h j)
outcomes-next e h k seq j is =
    ap (λ b. outcomes_of h j ++ cond b (outcome_in (suc (length (accepted h))) e.reply) []) (is_next-of h e.session e.request k seq j is)
    ∙ go (nat_eq k j) refl
  where
    go : (b : Bool) → nat_eq k j ≡ b → outcomes_of h j ++ cond b (outcome_in (suc (length (accepted h))) e.reply) []
        ≡ cond b (outcomes_of h k ++ outcome_in (suc (length (accepted h))) e.reply) (outcomes_of h j)
    go true q = ap (λ i. outcomes_of h i ++ outcome_in (suc (length (accepted h))) e.reply) (sym (eqb-true k j q))
    go false q = append-nil (outcomes_of h j)

-- ---- Results, and the commit

pub result-quiet : (e : Entry) (h : List Entry) (p : ℕ) → is_noted e.reply ≡ false → result_at (e ∷ h) p ≡ result_at h p
result-quiet e h p q = ap (λ b. either (result_at h p) (cond b (reports p e.request) None)) q ∙ either_none (result_at h p)

-- Tests that agree pass as far.
pub run_length-ext : (f g : ℕ → Bool) (n : ℕ) → ((p : ℕ) → f p ≡ g p) → run_length f n ≡ run_length g n
run_length-ext f g zero same = refl
run_length-ext f g (suc n) same = rw (run_length-ext f g n same, same (suc n)) refl

-- The number up to which all pass a test, and the next one does not, is the length of the run.
pub run_length-is : (test : ℕ → Bool) (n c : ℕ) → c ≤ n → ((p : ℕ) → 0 < p → p ≤ c → test p ≡ true) → (c < n → test (suc c) ≡ false) → run_length test n ≡ c
run_length-is test zero c low pass stop = omega arith
run_length-is test (suc n) c low pass stop = elim (cases_eq c (suc n)) [
  | inl same ↦ (let before : run_length test n ≡ n = run_length-is test n n (omega arith) (λ p a b. pass p a (omega arith)) (λ l. absurd (omega arith)) in
      cond-true (nat_eq (run_length test n) n && test (suc n)) (suc n) (run_length test n)
      (rw (eq-eqb (run_length test n) n before) (pass (suc n) (omega arith) (omega arith))) ∙ sym same)
  | inr ne ↦ (let before : run_length test n ≡ c = run_length-is test n c (omega arith) pass (λ l. stop (omega arith)) in
      cond-false (nat_eq (run_length test n) n && test (suc n)) (suc n) (run_length test n) (stopped (cases_eq c n) before) ∙ before)
]
  where
    stopped : (c ≡ n) ⊎ (c ≡ n → ⊥) → run_length test n ≡ c → (nat_eq (run_length test n) n && test (suc n)) ≡ false
    stopped (inl at) before = and_right (nat_eq (run_length test n) n) (test (suc n)) (subst (λ m. test (suc m) ≡ false) at (stop (omega arith)))
    stopped (inr not') before = ap (λ b. b && test (suc n)) (ne_eqb (run_length test n) n (λ q. not' (sym before ∙ q)))

pub run_length-stops : (test : ℕ → Bool) (n : ℕ) → run_length test n < n → test (suc (run_length test n)) ≡ false
run_length-stops test zero low = absurd (omega arith)
run_length-stops test (suc n) low = go (nat_eq (run_length test n) n) refl (test (suc n)) refl low (run_length-stops test n) (run_within test n)
  where
    go : (b : Bool) → nat_eq (run_length test n) n ≡ b → (d : Bool) → test (suc n) ≡ d → cond (b && d) (suc n) (run_length test n) < suc n →
        (run_length test n < n → test (suc (run_length test n)) ≡ false) → run_length test n ≤ n → test (suc (cond (b && d) (suc n) (run_length test n))) ≡ false
    go true q true r l ih most = absurd (omega arith)
    go true q false r l ih most = ap (λ m. test (suc m)) (eqb-true (run_length test n) n q) ∙ r
    go false q d r l ih most = ih (elim (cases_eq (run_length test n) n) [ inl same ↦ absurd (both_ways (nat_eq (run_length test n) n) q (eq-eqb (run_length test n) n same)) | inr ne ↦ omega arith ])

-- The committed values are those after the results up to the commit.
pub installed-is : (opening : List (List ℤ)) (h : List Entry) (p : ℕ) → installed opening h p ≡ values_after opening (actions_in (accepted h)) (result_at h) p
installed-is opening h zero = refl
installed-is opening h (suc p) = rw (installed-is opening h p) refl

pub actions-are : (h : List Entry) → actions_of h ≡ actions_in (accepted h)
actions-are h = refl
