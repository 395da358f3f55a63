-- A number that is put into an ascending list below its last ones, which are taken off and put back.
use Rattle.std.proofs.Common.{◌≡◌, ℕ, ◌<◌, inl, inr, Bool, true, ◌||◌, List, [], ◌∷◌, ◌++◌, nat_eq, sym, ◌∙◌, ap, subst, arith}
use Rattle.sv_world.specs.Control.{is_in}
use Rattle.sv_world.specs.Faults.{is_ascending}
use Rattle.sv_world.proofs.Members.{is_in-head, is_in-append_right, is_in-append_cases, is_in-cons_cases, is_in-one}
use Rattle.sv_influence.proofs.Growth.{ascending-last}
use Rattle.sv_influence.proofs.Places.{is_in-known, or_swap}
use Rattle.sv_influence.proofs.Takes.{is_in-swap}

pub under-placed : (rest placed : List ℕ) (top pos : ℕ) → is_ascending (rest ++ top ∷ []) ≡ true → pos < top → ((j : ℕ) → is_in j placed ≡ is_in j (pos ∷ rest)) →
    (j : ℕ) → is_in j placed ≡ true → j < top
under-placed rest placed top pos h l is j m =
    elim (is_in-cons_cases j pos rest (sym (is j) ∙ m)) [
      | inl e ↦ subst (λ (k : ℕ). k < top) (sym e) l
      | inr r ↦ ascending-last rest top h j r
    ]

pub under-all : (rest : List ℕ) (top pos : ℕ) → is_ascending (rest ++ top ∷ []) ≡ true → top < pos → (j : ℕ) → is_in j (rest ++ top ∷ []) ≡ true → j < pos
under-all rest top pos h l j m =
    elim (is_in-append_cases j rest (top ∷ []) m) [
      | inl r ↦ (let b = ascending-last rest top h j r in omega arith)
      | inr e ↦ (let same = is_in-one j top e in omega arith)
    ]

-- It was placed below the last one.
pub placed-under : (rest placed : List ℕ) (top pos : ℕ) → ((j : ℕ) → is_in j placed ≡ is_in j (pos ∷ rest)) →
    (j : ℕ) → is_in j (placed ++ top ∷ []) ≡ is_in j (pos ∷ (rest ++ top ∷ []))
placed-under rest placed top pos is j =
    is_in-swap j placed (top ∷ [])
    ∙ ap (λ (b : Bool). nat_eq j top || b) (is j)
    ∙ or_swap (nat_eq j top) (nat_eq j pos) (is_in j rest)
    ∙ ap (λ (b : Bool). nat_eq j pos || b) (sym (is_in-swap j rest (top ∷ [])))

-- It is the last one.
pub placed-known : (rest : List ℕ) (top pos : ℕ) → top ≡ pos → (j : ℕ) → is_in j (rest ++ top ∷ []) ≡ is_in j (pos ∷ (rest ++ top ∷ []))
placed-known rest top pos e =
    is_in-known pos (rest ++ top ∷ []) (subst (λ (k : ℕ). is_in k (rest ++ top ∷ []) ≡ true) e (is_in-append_right top rest (top ∷ []) (is_in-head top [])))

-- It comes after the last one.
pub placed-over : (rest : List ℕ) (top pos j : ℕ) → is_in j ((rest ++ top ∷ []) ++ pos ∷ []) ≡ is_in j (pos ∷ (rest ++ top ∷ []))
placed-over rest top pos j = is_in-swap j (rest ++ top ∷ []) (pos ∷ [])
