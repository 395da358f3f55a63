-- The set of the sessions that are not over.
use Rattle.std.proofs.Common.{◌≡◌, ℕ, zero, suc, ◌+◌, ◌<◌, ◌≤◌, Bool, true, false, ◌&&◌, ◌||◌, not, cond, nat_eq, nat_lt, inl, inr, List, [], ◌∷◌, length, refl, sym, ◌∙◌, ap, subst, arith}
use Rattle.std.proofs.lemmas.Bool.{cases_Bool, cases_lt, cases_eq, eq-eqb, ne_eqb, lt-ltb, le-ltb, and_right, or_cases, or_left, or_right, not-true, not_from_false, not_from_true, both_ways, false_from_ne_true}
use Rattle.std.proofs.lemmas.List.{get_or_past}
use Rattle.std.specs.List.{list_any, list_all}
use Rattle.sv_world.specs.Control.{is_in, below}
use Rattle.sv_world.proofs.Members.{same_test}
use Rattle.sv_queue.specs.Queue.{QueueView, sent_positions}
use Rattle.sv_queue.specs.Slots.{SlotSet, with_slot}
use Rattle.sv_queue.proofs.SlotSets.{in_slots, out_of_slots}
use Rattle.sv_core.specs.declared.sessions.SessionRow.{SessionRow}
use Rattle.sv_core.specs.Orphans.{is_live_row, is_abandoned_in, HasLive}
use Rattle.sv_core.specs.Rows.{no_session, row_at}
use Rattle.sv_core.proofs.Abandoned.{all-below-at, all-below-from}
use Rattle.sv_core.proofs.FitInstalls.{any-none}

any-at : (p : ℕ → Bool) (k : ℕ) (xs : List ℕ) → is_in k xs ≡ true → p k ≡ true → list_any p xs ≡ true
any-at p k [] m here = cc
any-at p k (x ∷ xs) m here = elim (cases_eq k x) [
  | inl same ↦ or_left (p x) (list_any p xs) (ap p (sym same) ∙ here)
  | inr ne ↦ or_right (p x) (list_any p xs) (any-at p k xs (sym (ap (λ b. b || is_in k xs) (ne_eqb k x ne)) ∙ m) here)
]

-- A row that there is not has no session.
past-live : (rows : List SessionRow) (i : ℕ) → is_live_row (row_at rows i) ≡ true → i < length rows
past-live rows i live = elim (cases_lt i (length rows)) [
  | inl low ↦ low
  | inr high ↦ (let none : false ≡ true = sym (ap is_live_row (get_or_past rows i no_session high)) ∙ live in cc)
]

-- A position was sent to no session that is not over where it was sent to none of the set.
pub abandoned-by-set : (v : QueueView) (rows : List SessionRow) (set : SlotSet) (p : ℕ) → HasLive rows set →
    not (list_any (λ s. is_in p (sent_positions v s)) set.slots) ≡ is_abandoned_in v rows p
abandoned-by-set v rows set p has = same_test (not (list_any sent set.slots)) (is_abandoned_in v rows p) there back
  where
    sent : ℕ → Bool
    sent s = is_in p (sent_positions v s)

    T : ℕ → Bool
    T slot = not (is_live_row (row_at rows slot)) || not (is_in p (sent_positions v slot))

    there : not (list_any sent set.slots) ≡ true → is_abandoned_in v rows p ≡ true
    there q = all-below-from T (length rows) (λ slot low. elim (cases_Bool (is_live_row (row_at rows slot))) [
      | inl live ↦ or_right (not (is_live_row (row_at rows slot))) (not (sent slot)) (not_from_false (sent slot)
          (false_from_ne_true (sent slot) (λ m. both_ways (list_any sent set.slots) (not-true (list_any sent set.slots) q) (any-at sent slot set.slots (has slot ∙ live) m))))
      | inr gone ↦ or_left (not (is_live_row (row_at rows slot))) (not (sent slot)) (not_from_false (is_live_row (row_at rows slot)) gone)
    ])

    back : is_abandoned_in v rows p ≡ true → not (list_any sent set.slots) ≡ true
    back q = not_from_false (list_any sent set.slots) (any-none sent set.slots (λ slot m.
        let live : is_live_row (row_at rows slot) ≡ true = sym (has slot) ∙ m in
        elim (or_cases (not (is_live_row (row_at rows slot))) (not (sent slot)) (all-below-at T (length rows) slot q (past-live rows slot live))) [
          | inl gone ↦ absurd (both_ways (is_live_row (row_at rows slot)) (not-true (is_live_row (row_at rows slot)) gone) live)
          | inr none ↦ not-true (sent slot) none
        ]))

-- ---- The set, slot by slot

-- It has those of the sessions that are not over whose slots are below a number.
abbrev pub HasLiveBelow : ℕ → List SessionRow → List ℕ → Type 0
HasLiveBelow n rows slots = (i : ℕ) → is_in i slots ≡ (nat_lt i n && is_live_row (row_at rows i))

pub live-none : (rows : List SessionRow) (i : ℕ) → is_in i [] ≡ (nat_lt i 0 && is_live_row (row_at rows i))
live-none rows i = sym (ap (λ b. b && is_live_row (row_at rows i)) (le-ltb i 0 (omega arith)))

pub live-added : (rows : List SessionRow) (n : ℕ) (slots : List ℕ) → n < 1024 → is_live_row (row_at rows n) ≡ true → HasLiveBelow n rows slots → HasLiveBelow (n + 1) rows (with_slot n slots)
live-added rows n slots small live has i = elim (cases_lt i 1024) [
  | inl low ↦ in_slots (λ u. nat_eq u n || is_in u slots) i low ∙ elim (cases_eq i n) [
    | inl same ↦ ap (λ b. b || is_in i slots) (eq-eqb i n same)
        ∙ sym (ap (λ b. b && is_live_row (row_at rows i)) (lt-ltb i (n + 1) (omega arith)) ∙ ap (λ j. is_live_row (row_at rows j)) same ∙ live)
    | inr ne ↦ ap (λ b. b || is_in i slots) (ne_eqb i n ne) ∙ has i ∙ ap (λ b. b && is_live_row (row_at rows i)) (below-same i ne)
  ]
  | inr high ↦ out_of_slots (λ u. nat_eq u n || is_in u slots) i high ∙ sym (ap (λ b. b && is_live_row (row_at rows i)) (le-ltb i (n + 1) (omega arith)))
]
  where
    below-same : (i : ℕ) → (i ≡ n → ⊥) → nat_lt i n ≡ nat_lt i (n + 1)
    below-same i ne = elim (cases_lt i n) [
      | inl low ↦ lt-ltb i n low ∙ sym (lt-ltb i (n + 1) (omega arith))
      | inr high ↦ le-ltb i n high ∙ sym (le-ltb i (n + 1) (omega (arith, high, ne)))
    ]

pub live-left : (rows : List SessionRow) (n : ℕ) (slots : List ℕ) → is_live_row (row_at rows n) ≡ false → HasLiveBelow n rows slots → HasLiveBelow (n + 1) rows slots
live-left rows n slots gone has i = has i ∙ elim (cases_eq i n) [
  | inl same ↦ dead i same (nat_lt i n) ∙ sym (dead i same (nat_lt i (n + 1)))
  | inr ne ↦ ap (λ b. b && is_live_row (row_at rows i)) (elim (cases_lt i n) [
    | inl low ↦ lt-ltb i n low ∙ sym (lt-ltb i (n + 1) (omega arith))
    | inr high ↦ le-ltb i n high ∙ sym (le-ltb i (n + 1) (omega (arith, high, ne)))
  ])
]
  where
    dead : (i : ℕ) → i ≡ n → (b : Bool) → (b && is_live_row (row_at rows i)) ≡ false
    dead i same b = and_right b (is_live_row (row_at rows i)) (ap (λ j. is_live_row (row_at rows j)) same ∙ gone)

pub live-all : (rows : List SessionRow) (n : ℕ) (slots : List ℕ) → length rows ≤ n → HasLiveBelow n rows slots → (i : ℕ) → is_in i slots ≡ is_live_row (row_at rows i)
live-all rows n slots all has i = has i ∙ elim (cases_lt i n) [
  | inl low ↦ ap (λ b. b && is_live_row (row_at rows i)) (lt-ltb i n low)
  | inr high ↦ ap (λ b. b && is_live_row (row_at rows i)) (le-ltb i n high) ∙ sym (ap is_live_row (get_or_past rows i no_session (omega (arith, all, high))))
]
