-- The elements at a mask's slots.
use Rattle.std.proofs.Common.{◌≡◌, ℕ, suc, ◌+◌, ◌<◌, Bool, true, false, List, [], ◌∷◌, ◌++◌, length, map, get_or, drop, append_assoc, refl, ap, sym, ◌∙◌, arith}
use Rattle.std.proofs.lemmas.List.{drop_more}
use Rattle.std.specs.Prelude.{All, if◌then◌else◌}
use Rattle.sv_world.specs.Sets.{at_mask, is_in_mask}
use Rattle.sv_eval.proofs.Lists.{all_head, all_tail, all_cons}

-- Lists of equal length have as many elements at the slots in a mask.
at_mask_step : {A B : Type 0} (b : Bool) (x : A) (y : B) (xs : List A) (ys : List B) → length xs ≡ length ys
    → length (if b then x ∷ xs else xs) ≡ length (if b then y ∷ ys else ys)
at_mask_step true x y xs ys e = ap suc e
at_mask_step false x y xs ys e = e

pub at_mask_lengths : {A B : Type 0} (mask k : ℕ) (xs : List A) (ys : List B) → length xs ≡ length ys
    → length (at_mask mask k xs) ≡ length (at_mask mask k ys)
at_mask_lengths mask k [] [] e = refl
at_mask_lengths mask k [] (y ∷ ys) e = absurd (omega arith)
at_mask_lengths mask k (x ∷ xs) [] e = absurd (omega arith)
at_mask_lengths mask k (x ∷ xs) (y ∷ ys) e =
    at_mask_step (is_in_mask mask k) x y (at_mask mask (k + 1) xs) (at_mask mask (k + 1) ys)
    (at_mask_lengths mask (k + 1) xs ys (omega arith))

-- What is made of the elements at the slots in a mask stands at those slots of what is made of all.
map_choice : {A B : Type 0} (f : A → B) (b : Bool) (x : A) (xs : List A) (ys : List B) → map f xs ≡ ys
    → map f (if b then x ∷ xs else xs) ≡ (if b then f x ∷ ys else ys)
map_choice f true x xs ys e = ap (λ zs. f x ∷ zs) e
map_choice f false x xs ys e = e

pub at_mask_map : {A B : Type 0} (f : A → B) (mask k : ℕ) (xs : List A) → map f (at_mask mask k xs) ≡ at_mask mask k (map f xs)
at_mask_map f mask k [] = refl
at_mask_map f mask k (x ∷ xs) =
    map_choice f (is_in_mask mask k) x (at_mask mask (k + 1) xs) (at_mask mask (k + 1) (map f xs)) (at_mask_map f mask (k + 1) xs)

-- Those so far, and those from a slot on: with the element at the slot, where it is in the mask.
pub at_mask_in : {A : Type 0} (mask k : ℕ) (xs before : List A) (d : A) → k < length xs → is_in_mask mask k ≡ true
    → (before ++ get_or xs k d ∷ []) ++ at_mask mask (k + 1) (drop (k + 1) xs) ≡ before ++ at_mask mask k (drop k xs)
at_mask_in mask k xs before d l e =
    append_assoc before (get_or xs k d ∷ []) (at_mask mask (k + 1) (drop (k + 1) xs))
    ∙ ap (λ ys. before ++ ys) (sym (ap (at_mask mask k) (drop_more xs k d l) ∙ rw e refl))

pub at_mask_out : {A : Type 0} (mask k : ℕ) (xs before : List A) (d : A) → k < length xs → is_in_mask mask k ≡ false
    → before ++ at_mask mask (k + 1) (drop (k + 1) xs) ≡ before ++ at_mask mask k (drop k xs)
at_mask_out mask k xs before d l e = ap (λ ys. before ++ ys) (sym (ap (at_mask mask k) (drop_more xs k d l) ∙ rw e refl))

-- Each of them is an element.
all_choice : {A : Type 0} (P : A → Type 0) (b : Bool) (x : A) (xs : List A) → P x → All P xs → All P (if b then x ∷ xs else xs)
all_choice P true x xs p h = all_cons P x xs p h
all_choice P false x xs p h = h

pub at_mask_all : {A : Type 0} (P : A → Type 0) (mask k : ℕ) (xs : List A) → All P xs → All P (at_mask mask k xs)
at_mask_all P mask k [] h = h
at_mask_all P mask k (x ∷ xs) h =
    all_choice P (is_in_mask mask k) x (at_mask mask (k + 1) xs) (all_head P x xs h)
    (at_mask_all P mask (k + 1) xs (all_tail P x xs h))
