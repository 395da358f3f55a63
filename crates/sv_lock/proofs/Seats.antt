-- Lists of views, of which one changes; seats that hold the object; and functions that are changed at one number.
use Rattle.std.proofs.Common.{◌≡◌, ◌≢◌, ◌⊎◌, ℕ, zero, suc, ◌==◌, cond, List, [], ◌∷◌, ◌++◌, Option, Some, length, set, sym, refl, ap, ◌∙◌, subst, inl, inr, ⊎_elim, arith, eq-eqb, ne_eqb}
use mathlib.Core.Option.{some, some-injective, some-ne-none}
use lib.ListN.{get_elem?}
use Rattle.sv_lock.specs.declared.view.SeatView.{SeatView}
use Rattle.sv_lock.specs.declared.view.Stage.{Stage}
use Rattle.sv_lock.specs.declared.view.Stage.TheVariants.{Idle, Holds}
use Rattle.sv_lock.specs.Holding.{Hand, IsBusy}
use Rattle.atomic_table.proofs.Lists.{at_set}

module _ {A : Type 0} where
  pub here : (l : List A) (i : ℕ) (a b : A) → get_elem? l i ≡ some b → get_elem? (set l i a) i ≡ some a
  here [] i a b e = absurd (some-ne-none b (sym e))
  here (x ∷ xs) zero a b e = refl
  here (x ∷ xs) (suc i) a b e = here xs i a b e

  pub snoc : (l : List A) (a b : A) (j : ℕ) → get_elem? (l ++ a ∷ []) j ≡ some b → (get_elem? l j ≡ some b) ⊎ ((j ≡ length l) × (a ≡ b))
  snoc [] a b zero e = inr (refl, some-injective a b e)
  snoc [] a b (suc j) e = absurd (some-ne-none b (sym e))
  snoc (x ∷ xs) a b zero e = inl e
  snoc (x ∷ xs) a b (suc j) e = ⊎_elim (λ t. inl t) (λ t. inr (ap suc t.0, t.1)) (snoc xs a b j e)

  pub same_place : (l : List A) (i j : ℕ) (a b : A) → get_elem? l i ≡ some a → get_elem? l j ≡ some b → j ≡ i → a ≡ b
  same_place l i j a b p q e = some-injective a b (sym p ∙ (ap (get_elem? l) (sym e) ∙ q))

-- what is true of each seat, after one changed
pub seats_stay : {V : Type 0} (K : ℕ → V → Type 0) (vs : List V) (i : ℕ) (w : V) → K i w → ((j : ℕ) (v : V) → j ≢ i → get_elem? vs j ≡ some v → K j v)
    → (j : ℕ) (v : V) → get_elem? (set vs i w) j ≡ some v → K j v
seats_stay K vs i w mine others j v e = ⊎_elim (λ (t : (j ≡ i) × (w ≡ v)). subst (λ (x : ℕ × _). K x.0 x.1) (λ k. (sym t.0 k, t.1 k)) mine)
    (λ (t : (j ≢ i) × (get_elem? vs j ≡ some v)). others j v t.0 t.1) (at_set vs i j w v e)

abbrev pub put : (ℕ → ℕ) → ℕ → ℕ → ℕ → ℕ
put f i x n = cond (n == i) x (f n)

pub put_here : (f : ℕ → ℕ) (i x n : ℕ) → n ≡ i → put f i x n ≡ x
put_here f i x n e = ap (λ b. cond b x (f n)) (eq-eqb n i e)

pub put_else : (f : ℕ → ℕ) (i x n : ℕ) → n ≢ i → put f i x n ≡ f n
put_else f i x n e = ap (λ b. cond b x (f n)) (ne_eqb n i e)

abbrev rank : Stage → ℕ
rank Idle = 0
rank Holds = 1

-- a seat that holds the object is not one that does not
pub apart : {B E : Type 0} (vs : List (SeatView B E)) (i j : ℕ) (v w : SeatView B E) → get_elem? vs i ≡ some v → get_elem? vs j ≡ some w → v.stage ≡ Idle → w.stage ≡ Holds → j ≢ i
apart {B} {E} vs i j v w p q idle holds same =
    let e : rank v.stage ≡ rank w.stage = ap (λ (u : SeatView B E). rank u.stage) (same_place vs i j v w p q same) in
    let none_of = ap rank idle in let one = ap rank holds in absurd (omega arith)

-- a seat that is not the holder has nothing in hand, whoever is the holder then
pub empty_hand : {E : Type 0} (log log' : List E) (holder holder' : Option ℕ) (made : ℕ) (owner : ℕ → ℕ) (j : ℕ) (seen : List E) (s : Stage) → holder ≢ Some j
    → Hand log holder made owner j seen s → Hand log' holder' made owner j seen s
empty_hand log log' holder holder' made owner j seen Idle other k = tt
empty_hand log log' holder holder' made owner j seen Holds other k = absurd (other k.0)

-- when numbers go from seat to seat, the holder stays it, as long as it is still busy
pub hand_stays : {E : Type 0} (log : List E) (holder : Option ℕ) (made made' : ℕ) (owner owner' : ℕ → ℕ) (j : ℕ) (seen : List E) (s : Stage) → (IsBusy made owner j → IsBusy made' owner' j)
    → Hand log holder made owner j seen s → Hand log holder made' owner' j seen s
hand_stays log holder made made' owner owner' j seen Idle busy k = tt
hand_stays log holder made made' owner owner' j seen Holds busy k = (k.0, busy k.1, k.2)
