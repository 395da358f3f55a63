-- Sets of objects, one flag for each number, and how the walk goes on with them.
use Rattle.std.proofs.Common.{◌≡◌, ◌⊎◌, ◌↔◌, ℕ, ℤ, zero, suc, ◌<◌, ◌≤◌, ◌-◌, inl, inr, Bool, true, false, ◌||◌, List, [], ◌∷◌, ◌++◌, map, reverse, length, get_or, set, refl, sym, ◌∙◌, ap, subst, arith, nat_eq, eq-eqb, ne_eqb, append_assoc}
use Rattle.std.specs.Prelude.{All, slice_index_or}
use Rattle.std.specs.List.{list_any, AllByRecursion}
use Rattle.std.proofs.lemmas.Bool.{cases_eq, or_left}
use Rattle.std.proofs.lemmas.List.{get_or-set_same, get_or-set_other, reverse-append}
use Rattle.sv_world.specs.declared.action.Action.{Action}
use Rattle.sv_world.specs.declared.world.ObjectId.{ObjectId}
use Rattle.sv_world.specs.Sets.{read_set, write_set, at_mask}
use Rattle.sv_world.specs.Control.{is_in, action_at, IsNeeded}
use Rattle.sv_world.proofs.Members.{all-members}
use Rattle.sv_world.specs.Faults.{is_ascending}
use Rattle.sv_world.proofs.Needs.{needed-ascending, needed-bounds, needed-iff}
use Rattle.sv_world.proofs.Writers.{last_writer-most}
use Rattle.sv_why.specs.Reasons.{writer_by, reasons_of, world_by, Explains}
use Rattle.sv_why.proofs.Alone.{reasons-give}
use Rattle.sv_why.specs.Walks.{walk}
use Rattle.sv_why.proofs.Walks.{walk-same, walk-taken, walk-left, walk_is_reasons}

-- ---- Flags

pub mark : (ws : List Bool) (o x : ℕ) → o < length ws → get_or (set ws o true) x false ≡ (nat_eq x o || get_or ws x false)
mark ws o x l =
    elim (cases_eq x o) [
      | inl e ↦
          subst (λ (y : ℕ). get_or (set ws o true) y false ≡ (nat_eq y o || get_or ws y false)) (sym e)
          (get_or-set_same ws o true false l ∙ sym (or_left (nat_eq o o) (get_or ws o false) (eq-eqb o o refl)))
      | inr n ↦ get_or-set_other ws o x true false n ∙ sym (ap (λ (b : Bool). b || get_or ws x false) (ne_eqb x o n))
    ]

pub or_move : (a b c : Bool) → ((a || b) || c) ≡ (b || (a || c))
or_move true true c = refl
or_move true false c = refl
or_move false true c = refl
or_move false false c = refl

-- A flag is set in a list that is that with this one set.
pub mark-at : (ws vs : List Bool) (o i x : ℕ) → vs ≡ set ws i true → i ≡ o → length ws ≡ 65536 → o < 65536 → get_or vs x false ≡ (nat_eq x o || get_or ws x false)
mark-at ws vs o i x e is len low =
    ap (λ (us : List Bool). get_or us x false) (e ∙ ap (λ (j : ℕ). set ws j true) is) ∙ mark ws o x (omega (arith, len, low))

pub no-flag : (fs : List Bool) → AllByRecursion (λ y. (y ≡ false) ⊎ (y ≡ false)) fs → (x : ℕ) → get_or fs x false ≡ false
no-flag [] h x = refl
no-flag (f ∷ fs) h zero = elim h.0 [ inl e ↦ e | inr e ↦ e ]
no-flag (f ∷ fs) h (suc x) = no-flag fs h.1 x

-- ---- The walk

-- At first the object alone is wanted.
pub walk-first : (A : List Action) (x pos : ℕ) (q : ℕ → Bool) → ((y : ℕ) → q y ≡ nat_eq y x) → walk A pos q ≡ reasons_of A x pos
walk-first A x pos q marked = walk-same A pos q (λ y. nat_eq y x) marked ∙ walk_is_reasons A x pos

-- A position that writes a wanted object is found.
pub walk-found : (A : List Action) (at : ℕ) (p q : ℕ → Bool) (found : List ℕ) → 0 < at → list_any p (write_set (action_at A at)) ≡ true →
    ((y : ℕ) → q y ≡ (is_in y (read_set (action_at A at)) || p y)) → walk A (at - 1) q ++ reverse (found ++ at ∷ []) ≡ walk A at p ++ reverse found
walk-found A zero p q found low t more = absurd (omega arith)
walk-found A (suc n) p q found low t more =
    let e : suc n - 1 ≡ n = omega arith in
    ap (λ (m : ℕ). walk A m q ++ reverse (found ++ suc n ∷ [])) e
    ∙ ap (λ (ks : List ℕ). ks ++ reverse (found ++ suc n ∷ [])) (walk-same A n q (λ y. is_in y (read_set (action_at A (suc n))) || p y) more)
    ∙ ap (λ (ks : List ℕ). walk A n (λ y. is_in y (read_set (action_at A (suc n))) || p y) ++ ks) (reverse-append found (suc n ∷ []))
    ∙ sym (append_assoc (walk A n (λ y. is_in y (read_set (action_at A (suc n))) || p y)) (suc n ∷ []) (reverse found))
    ∙ sym (ap (λ (ks : List ℕ). ks ++ reverse found) (walk-taken A n p t))

-- Another one is passed.
pub walk-passed : (A : List Action) (at : ℕ) (p q : ℕ → Bool) (found : List ℕ) → 0 < at → list_any p (write_set (action_at A at)) ≡ false →
    ((y : ℕ) → q y ≡ p y) → walk A (at - 1) q ++ reverse found ≡ walk A at p ++ reverse found
walk-passed A zero p q found low t same = absurd (omega arith)
walk-passed A (suc n) p q found low t same =
    let e : suc n - 1 ≡ n = omega arith in
    ap (λ (ks : List ℕ). ks ++ reverse found) (ap (λ (m : ℕ). walk A m q) e ∙ walk-same A n q p same ∙ sym (walk-left A n p t))

abbrev numbers : List ObjectId → List ℕ
numbers os = map (λ (o : ObjectId). o.0) os

-- Looking at a position, as the code does it: the action that was placed there, and its reads.
module _ (A : List Action) (at : ℕ) (a : Action) (reads : List ObjectId) (p q : ℕ → Bool) (test : Bool) (low : 1 ≤ at) (placed : a ≡ action_at A at) (read : reads ≡ a.reads)
    (tested : test ≡ list_any p (at_mask a.mask 0 (numbers reads))) where
  meets : test ≡ list_any p (write_set (action_at A at))
  meets = tested ∙ ap (λ (os : List ObjectId). list_any p (at_mask a.mask 0 (numbers os))) read ∙ ap (λ (b : Action). list_any p (write_set b)) placed

  pub looked-found : (again : List ObjectId) (found more : List ℕ) → test ≡ true → again ≡ a.reads → ((y : ℕ) → q y ≡ (is_in y (numbers again) || p y)) → more ≡ found ++ at ∷ [] →
      walk A (at - 1) q ++ reverse more ≡ walk A at p ++ reverse found
  looked-found again found more yes' read2 marked pushed =
      ap (λ (ks : List ℕ). walk A (at - 1) q ++ reverse ks) pushed
      ∙ walk-found A at p q found (omega arith) (sym meets ∙ yes')
      (λ y. marked y ∙ ap (λ (os : List ObjectId). is_in y (numbers os) || p y) read2 ∙ ap (λ (b : Action). is_in y (read_set b) || p y) placed)

  pub looked-passed : (found : List ℕ) → test ≡ false → ((y : ℕ) → q y ≡ p y) → walk A (at - 1) q ++ reverse found ≡ walk A at p ++ reverse found
  looked-passed found no' same = walk-passed A at p q found (omega arith) (sym meets ∙ no') same

-- ---- The positions

pub no-reasons : (A : List Action) (x pos : ℕ) → writer_by A x pos ≡ 0 → reasons_of A x pos ≡ []
no-reasons A x pos e = rw e refl

-- They are positions up to the last one asked for.
pub reasons-bounded : (A : List Action) (x pos most : ℕ) → pos ≤ most → All (λ p. (1 ≤ p) × (p ≤ most)) (reasons_of A x pos)
reasons-bounded A x pos most high =
    all-members (λ p. (1 ≤ p) × (p ≤ most)) (reasons_of A x pos)
    (λ j m. elim (cases_eq (writer_by A x pos) 0) [
      | inl e ↦ (let none : is_in j [] ≡ true = subst (λ (ks : List ℕ). is_in j ks ≡ true) (no-reasons A x pos e) m in cc)
      | inr n ↦
          (let low : 0 < writer_by A x pos = omega arith in
          let b = needed-bounds A 0 [] (writer_by A x pos) low j m in
          let above : 0 < j = b.0 in
          let below : j ≤ writer_by A x pos = b.1 in
          let top : writer_by A x pos ≤ pos = last_writer-most A x pos in
          (omega arith, omega arith))
    ])

-- The positions that the value comes from, and the value that they give alone, explain it.
pub explained : (opening : List (List ℤ)) (A : List Action) (x pos : ℕ) (ks : List ℕ) (value : List ℤ) → ks ≡ reasons_of A x pos →
    value ≡ slice_index_or (world_by opening A ks) x [] → Explains opening A x pos ks value
explained opening A x pos ks value is e = record {
  ascending = ap is_ascending is ∙ needed-ascending A 0 [] (writer_by A x pos);
  unwritten = λ none. is ∙ no-reasons A x pos none;
  exactly = λ j low. subst (λ (ms : List ℕ). (is_in j ms ≡ true) ↔ IsNeeded A 0 [] (writer_by A x pos) j) (sym is) (needed-iff A 0 [] (writer_by A x pos) j low refl);
  alone = e;
  serial = e ∙ ap (λ (ms : List ℕ). slice_index_or (world_by opening A ms) x []) is ∙ reasons-give opening A x pos;
}
