-- Tests of the elements of a list, and the objects that an action writes.
use Rattle.std.proofs.Common.{◌≡◌, ℕ, ◌+◌, Bool, true, false, ◌||◌, inl, inr, List, [], ◌∷◌, ◌++◌, refl, ◌∙◌, subst, true≢false}
use Rattle.std.specs.List.{list_any}
use Rattle.std.proofs.lemmas.Bool.{cond_both, or_cases, or_left, or_right}
use Rattle.std.proofs.lemmas.List.Folds.{list_any-append}
use Rattle.sv_world.specs.Control.{is_in}
use Rattle.sv_world.specs.Faults.{is_ascending}
use Rattle.sv_world.specs.Sets.{at_mask, is_in_mask}
use Rattle.sv_world.proofs.Members.{is_in-cons_cases, is_in-head, is_in-tail}
use Rattle.sv_world.proofs.Ascending.{ascending-tail, ascending-head, ascending-cons}

pub three-false : (a b c : Bool) → a ≡ false → b ≡ false → c ≡ false → (a || b || c) ≡ false
three-false true b c e f g = absurd (true≢false e)
three-false false true c e f g = absurd (true≢false f)
three-false false false true e f g = absurd (true≢false g)
three-false false false false e f g = refl

pub four-false : (a b c d : Bool) → a ≡ false → b ≡ false → c ≡ false → d ≡ false → (a || b || c || d) ≡ false
four-false true b c d e f g h = absurd (true≢false e)
four-false false true c d e f g h = absurd (true≢false f)
four-false false false true d e f g h = absurd (true≢false g)
four-false false false false true e f g h = absurd (true≢false h)
four-false false false false false e f g h = refl

pub five-false : (a b c d e : Bool) → a ≡ false → b ≡ false → c ≡ false → d ≡ false → e ≡ false → (a || b || c || d || e) ≡ false
five-false true b c d e f g h i j = absurd (true≢false f)
five-false false true c d e f g h i j = absurd (true≢false g)
five-false false false true d e f g h i j = absurd (true≢false h)
five-false false false false true e f g h i j = absurd (true≢false i)
five-false false false false false true f g h i j = absurd (true≢false j)
five-false false false false false false f g h i j = refl

pub any-into : {X : Type 0} (p q : X → Bool) (xs : List X) → ((x : X) → p x ≡ true → q x ≡ true) → list_any p xs ≡ true → list_any q xs ≡ true
any-into p q [] f h = h
any-into p q (x ∷ xs) f h =
    elim (or_cases (p x) (list_any p xs) h) [
      | inl e ↦ or_left (q x) (list_any q xs) (f x e)
      | inr r ↦ or_right (q x) (list_any q xs) (any-into p q xs f r)
    ]

pub any-left : {X : Type 0} (p : X → Bool) (xs ys : List X) → list_any p xs ≡ true → list_any p (xs ++ ys) ≡ true
any-left p xs ys h = list_any-append p xs ys ∙ or_left (list_any p xs) (list_any p ys) h

pub any-right : {X : Type 0} (p : X → Bool) (xs ys : List X) → list_any p ys ≡ true → list_any p (xs ++ ys) ≡ true
any-right p xs ys h = list_any-append p xs ys ∙ or_right (list_any p xs) (list_any p ys) h

-- ---- The elements at a mask's slots

pub at_mask-members : (mask k : ℕ) (xs : List ℕ) (x : ℕ) → is_in x (at_mask mask k xs) ≡ true → is_in x xs ≡ true
at_mask-members mask k [] x h = h
at_mask-members mask k (y ∷ ys) x h =
    let later : is_in x (at_mask mask (k + 1) ys) ≡ true → is_in x ys ≡ true = at_mask-members mask (k + 1) ys x in
    cond_both (is_in_mask mask k) (y ∷ at_mask mask (k + 1) ys) (at_mask mask (k + 1) ys) (λ (zs : List ℕ). is_in x zs ≡ true → is_in x (y ∷ ys) ≡ true)
    (λ e g. elim (is_in-cons_cases x y (at_mask mask (k + 1) ys) g) [
      | inl s ↦ subst (λ (z : ℕ). is_in x (z ∷ ys) ≡ true) s (is_in-head x ys)
      | inr r ↦ is_in-tail x y ys (later r)
    ])
    (λ e g. is_in-tail x y ys (later g))
    h

pub at_mask-ascending : (mask k : ℕ) (xs : List ℕ) → is_ascending xs ≡ true → is_ascending (at_mask mask k xs) ≡ true
at_mask-ascending mask k [] h = refl
at_mask-ascending mask k (y ∷ ys) h =
    let later : is_ascending (at_mask mask (k + 1) ys) ≡ true = at_mask-ascending mask (k + 1) ys (ascending-tail y ys h) in
    cond_both (is_in_mask mask k) (y ∷ at_mask mask (k + 1) ys) (at_mask mask (k + 1) ys) (λ (zs : List ℕ). is_ascending zs ≡ true)
    (λ e. ascending-cons y (at_mask mask (k + 1) ys) (λ j m. ascending-head y ys h j (at_mask-members mask (k + 1) ys j m)) later)
    (λ e. later)
