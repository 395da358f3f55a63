-- The first of a mask's objects that passes a test, slot by slot.
use Rattle.std.proofs.Common.{◌≡◌, ℕ, ◌+◌, ◌<◌, Bool, true, false, List, ◌∷◌, length, get_or, drop, Option, Some, refl, ap, ◌∙◌}
use Rattle.std.proofs.lemmas.List.{drop_more}
use Rattle.std.specs.Prelude.{filter, if◌then◌else◌}
use Rattle.sv_world.specs.declared.world.ObjectId.{ObjectId}
use Rattle.sv_world.specs.Rights.{first_of}
use Rattle.sv_world.specs.Sets.{at_mask, is_in_mask, numbers_of}

abbrev pub first_from : (ℕ → Bool) → ℕ → ℕ → List ObjectId → Option ℕ
first_from test mask k xs = first_of (filter test (at_mask mask k (numbers_of (drop k xs))))

-- It is at a slot in the mask that passes.
pub first_here : (test : ℕ → Bool) (mask k : ℕ) (xs : List ObjectId) (d : ObjectId) → k < length xs → is_in_mask mask k ≡ true
    → test (get_or xs k d).0 ≡ true → first_from test mask k xs ≡ Some (get_or xs k d).0
first_here test mask k xs d l e t = ap (λ ys. first_of (filter test (at_mask mask k (numbers_of ys)))) (drop_more xs k d l) ∙ rw e (rw t refl)

-- It is not at a slot out of the mask, nor at one that does not pass.
pub first_after_out : (test : ℕ → Bool) (mask k : ℕ) (xs : List ObjectId) (d : ObjectId) → k < length xs → is_in_mask mask k ≡ false
    → first_from test mask k xs ≡ first_from test mask (k + 1) xs
first_after_out test mask k xs d l e = ap (λ ys. first_of (filter test (at_mask mask k (numbers_of ys)))) (drop_more xs k d l) ∙ rw e refl

failing : (test : ℕ → Bool) (b : Bool) (x : ℕ) (xs : List ℕ) → test x ≡ false
    → first_of (filter test (if b then x ∷ xs else xs)) ≡ first_of (filter test xs)
failing test true x xs t = rw t refl
failing test false x xs t = refl

pub first_after_fail : (test : ℕ → Bool) (mask k : ℕ) (xs : List ObjectId) (d : ObjectId) → k < length xs → test (get_or xs k d).0 ≡ false
    → first_from test mask k xs ≡ first_from test mask (k + 1) xs
first_after_fail test mask k xs d l t =
    ap (λ ys. first_of (filter test (at_mask mask k (numbers_of ys)))) (drop_more xs k d l)
    ∙ failing test (is_in_mask mask k) (get_or xs k d).0 (at_mask mask (k + 1) (numbers_of (drop (k + 1) xs))) t
