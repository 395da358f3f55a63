-- One turn of the loop over the slots of a mask, and the object in a slot.
use Rattle.std.proofs.Common.{◌≡◌, ℕ, zero, suc, ◌+◌, ◌/◌, ◌%◌, ◌<◌, ◌≤◌, true, false, cond, eqb, List, [], ◌∷◌, ◌++◌, length, drop, get_or, refl, sym, ap, ◌∙◌, append_assoc, arith}
use Rattle.std.proofs.Math.Seq.{drop-cons}
use Rattle.std.proofs.lemmas.List.Concat.{flat_map-cons}
use Rattle.sv_world.specs.declared.world.ObjectId.{ObjectId}
use Rattle.sv_text.specs.Canonical.{object_in, object_text, spaced_objects, written}

spaced_objects-written : (r : ObjectId) (rs : List ObjectId) (mask : ℕ) → spaced_objects (written (r ∷ rs) mask) ≡ cond (eqb (mask % 2) 1) (object_text r) [] ++ spaced_objects (written rs (mask / 2))
spaced_objects-written r rs mask = elim (eqb (mask % 2) 1) as (λ b. spaced_objects (cond b (r ∷ written rs (mask / 2)) (written rs (mask / 2))) ≡ cond b (object_text r) [] ++ spaced_objects (written rs (mask / 2))) [
  | true ↦ flat_map-cons object_text r (written rs (mask / 2))
  | false ↦ refl
]

-- what is printed so far and what is left are all
pub written_turn : (reads : List ObjectId) (i mask : ℕ) (d : ObjectId) (front after total : List ℕ) → i < length reads
    → after ≡ front ++ cond (eqb (mask % 2) 1) (object_text (get_or reads i d)) []
    → front ++ spaced_objects (written (drop i reads) mask) ≡ total → after ++ spaced_objects (written (drop (i + 1) reads) (mask / 2)) ≡ total
written_turn reads i mask d front after total lt new told =
    let one : i + 1 ≡ suc i = omega arith in
    let r = get_or reads i d in
    let rest = written (drop (suc i) reads) (mask / 2) in
    let here : front ++ spaced_objects (written (drop i reads) mask) ≡ front ++ (cond (eqb (mask % 2) 1) (object_text r) [] ++ spaced_objects rest) =
    ap (λ (l : List ObjectId). front ++ spaced_objects (written l mask)) (drop-cons reads i d lt) ∙ ap (λ (l : List ℕ). front ++ l) (spaced_objects-written r (drop (suc i) reads) mask) in
    rw (new, one) (append_assoc front (cond (eqb (mask % 2) 1) (object_text r) []) (spaced_objects rest) ∙ sym here ∙ told)

pub object_in_at : (reads : List ObjectId) (k : ℕ) (d : ObjectId) → k < length reads → object_in reads k ≡ (get_or reads k d).0
object_in_at [] k d lt = absurd (omega arith)
object_in_at (r ∷ rs) zero d lt = refl
object_in_at (r ∷ rs) (suc k) d lt = object_in_at rs k d (omega arith)

pub object_in_past : (reads : List ObjectId) (k : ℕ) → length reads ≤ k → object_in reads k ≡ 0
object_in_past [] k le = refl
object_in_past (r ∷ rs) zero le = absurd (omega arith)
object_in_past (r ∷ rs) (suc k) le = object_in_past rs k (omega arith)
