-- Serial worlds have as many objects as the opening world, with as many numbers each, and change only where an action writes.
use Rattle.std.proofs.Common.{◌≡◌, ℕ, zero, suc, ◌<◌, false, nat_eq, List, [], ◌∷◌, length, get_or, set, ℤ, Option, Some, None, refl, sym, ◌∙◌, subst, arith, length-set}
use Rattle.std.specs.Prelude.{All, IfSome, slice_get}
use Rattle.std.proofs.lemmas.Bool.Decides.{nat_tests}
use Rattle.std.proofs.lemmas.Grind.{common_steps}
use Rattle.sv_world.specs.Control.{is_in}
use Rattle.sv_world.specs.Sets.{read_set, write_set}
use Rattle.sv_world.specs.declared.action.Action.{Action}
use Rattle.sv_world.proofs.Good.{left_false, right_false}
use Rattle.sv_eval.specs.Evaluation.{Slots, effect_of}
use Rattle.sv_eval.specs.Serial.{values_at, put_all, world_after_some, serial_world}
use Rattle.sv_eval.proofs.Lists.{all_head, all_tail, all_cons, all_set, all_at}
use Rattle.sv_eval.proofs.Effects.{effect_shaped}

pub put_all_length : (world : Slots) (objects : List ℕ) (values : Slots) → length (put_all world objects values) ≡ length world
put_all_length world [] values = refl
put_all_length world (x ∷ xs) [] = refl
put_all_length world (x ∷ xs) (v ∷ vs) = put_all_length (set world x v) xs vs ∙ length-set world x v

pub put_all_shaped : (P : List ℤ → Type 0) (world : Slots) (objects : List ℕ) (values : Slots) → All P world → All P values → All P (put_all world objects values)
put_all_shaped P world [] values h q = h
put_all_shaped P world (x ∷ xs) [] h q = h
put_all_shaped P world (x ∷ xs) (v ∷ vs) h q =
    put_all_shaped P (set world x v) xs vs (all_set P world x v h (all_head P v vs q)) (all_tail P v vs q)

values_at_shaped : (P : List ℤ → Type 0) (world : Slots) (objects : List ℕ) → All P world → All (λ x. x < length world) objects → All P (values_at world objects)
values_at_shaped P world [] h below = λ k d lt. absurd (omega arith)
values_at_shaped P world (x ∷ xs) h below =
    all_cons P (get_or world x []) (values_at world xs) (h x [] (all_head (λ y. y < length world) x xs below))
    (values_at_shaped P world xs h (all_tail (λ y. y < length world) x xs below))

pub after_some_length : (world : Slots) (action : Option Action) → length (world_after_some world action) ≡ length world
after_some_length world None = refl
after_some_length world (Some a) =
    put_all_length world (write_set a) (effect_of a (values_at world (read_set a))).writes

pub serial_length : (opening : Slots) (actions : List Action) (p : ℕ) → length (serial_world opening actions p) ≡ length opening
serial_length opening actions zero = refl
serial_length opening actions (suc p) =
    after_some_length (serial_world opening actions p) (slice_get actions p) ∙ serial_length opening actions p

after_some_shaped : (attrs : ℕ) (world : Slots) (action : Option Action) → All (λ value. length value ≡ attrs) world
    → IfSome action (λ a. All (λ x. x < length world) (read_set a)) → All (λ value. length value ≡ attrs) (world_after_some world action)
after_some_shaped attrs world None h below = h
after_some_shaped attrs world (Some a) h below =
    put_all_shaped (λ value. length value ≡ attrs) world (write_set a) (effect_of a (values_at world (read_set a))).writes h
    (effect_shaped attrs a (values_at world (read_set a)) (values_at_shaped (λ value. length value ≡ attrs) world (read_set a) h below))

pub serial_shaped : (attrs : ℕ) (opening : Slots) (actions : List Action) (p : ℕ) → All (λ value. length value ≡ attrs) opening
    → All (λ a. All (λ x. x < length opening) (read_set a)) actions → All (λ value. length value ≡ attrs) (serial_world opening actions p)
serial_shaped attrs opening actions zero h below = h
serial_shaped attrs opening actions (suc p) h below =
    after_some_shaped attrs (serial_world opening actions p) (slice_get actions p) (serial_shaped attrs opening actions p h below)
    (subst (λ (n : ℕ). IfSome (slice_get actions p) (λ a. All (λ x. x < n) (read_set a))) (sym (serial_length opening actions p))
    (all_at (λ a. All (λ x. x < length opening) (read_set a)) actions p below))

-- A value that is not among those put stays.
set_elsewhere : (world : Slots) (x y : ℕ) (value : List ℤ) → nat_eq x y ≡ false → get_or (set world y value) x [] ≡ get_or world x []
set_elsewhere world x y value e = grind (arith, nat_tests, common_steps)

pub put_all_elsewhere : (world : Slots) (objects : List ℕ) (values : Slots) (x : ℕ) → is_in x objects ≡ false
    → get_or (put_all world objects values) x [] ≡ get_or world x []
put_all_elsewhere world [] values x e = refl
put_all_elsewhere world (y ∷ ys) [] x e = refl
put_all_elsewhere world (y ∷ ys) (v ∷ vs) x e =
    put_all_elsewhere (set world y v) ys vs x (right_false (nat_eq x y) (is_in x ys) e)
    ∙ set_elsewhere world x y v (left_false (nat_eq x y) (is_in x ys) e)
