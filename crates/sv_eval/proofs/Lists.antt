-- What holds of each element of a list.
use Rattle.std.proofs.Common.{ℕ, zero, suc, List, [], ◌∷◌, set, arith}
use Rattle.std.specs.Prelude.{All, IfSome, slice_get}

pub all_head : {A : Type 0} (P : A → Type 0) (x : A) (xs : List A) → All P (x ∷ xs) → P x
all_head P x xs h = h 0 x (omega arith)

pub all_tail : {A : Type 0} (P : A → Type 0) (x : A) (xs : List A) → All P (x ∷ xs) → All P xs
all_tail P x xs h k d lt = h (suc k) d (omega arith)

pub all_cons : {A : Type 0} (P : A → Type 0) (x : A) (xs : List A) → P x → All P xs → All P (x ∷ xs)
all_cons P x xs p h zero d lt = p
all_cons P x xs p h (suc k) d lt = h k d (omega arith)

pub all_set : {A : Type 0} (P : A → Type 0) (xs : List A) (i : ℕ) (x : A) → All P xs → P x → All P (set xs i x)
all_set P [] i x h p = h
all_set P (y ∷ ys) zero x h p = all_cons P x ys p (all_tail P y ys h)
all_set P (y ∷ ys) (suc i) x h p =
    all_cons P y (set ys i x) (all_head P y ys h) (all_set P ys i x (all_tail P y ys h) p)

pub all_at : {A : Type 0} (P : A → Type 0) (xs : List A) (i : ℕ) → All P xs → IfSome (slice_get xs i) P
all_at P [] i h = tt
all_at P (x ∷ xs) zero h = all_head P x xs h
all_at P (x ∷ xs) (suc i) h = all_at P xs i (all_tail P x xs h)
