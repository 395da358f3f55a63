-- An action has no fault exactly where it is good.
use Rattle.std.proofs.Common.{◌≡◌, ℕ, zero, suc, ◌^◌, ◌<◌, ◌≤◌, Bool, true, false, ◌||◌, not, nat_eq, nat_le, nat_lt, List, [], ◌∷◌, length, Option, Some, None, get_or, refl, arith}
use Rattle.std.specs.Prelude.{All, if◌then◌else◌}
use Rattle.std.specs.List.{list_any}
use Rattle.std.proofs.lemmas.Bool.Decides.{nat_tests}
use Rattle.std.proofs.lemmas.List.Folds.{list_any_none}
use Rattle.sv_world.specs.Sets.{read_set}
use Rattle.sv_world.specs.Trees.{body_nodes, body_depth}
use Rattle.sv_world.specs.Faults.{is_ascending, has_no_reads, has_too_many_reads, is_not_ascending, reads_no_object, has_bad_mask, has_slots, sets_in_mask, has_attrs, is_too_large, is_too_deep, has_origin, first_of, causes, first_fault_of_action, IsGoodAction}
use Rattle.sv_world.specs.declared.action.Action.{Action}
use Rattle.sv_world.specs.declared.world.Shape.{Shape}
use Rattle.sv_world.specs.declared.check.BadAction.{BadAction}

-- No cause of a list applies.
abbrev NoneApplies : List (Bool × BadAction) → Type 0
NoneApplies [] = Unit {0}
NoneApplies (c ∷ cs) = (c.0 ≡ false) × NoneApplies cs

none_here : (b : Bool) (c : BadAction) (rest : Option BadAction) → (if b then Some c else rest) ≡ None → b ≡ false
none_here true c rest e = cc
none_here false c rest e = refl

none_after : (b : Bool) (c : BadAction) (rest : Option BadAction) → (if b then Some c else rest) ≡ None → rest ≡ None
none_after true c rest e = cc
none_after false c rest e = e

passes_over : (b : Bool) (c : BadAction) (rest : Option BadAction) → b ≡ false → rest ≡ None → (if b then Some c else rest) ≡ None
passes_over true c rest e h = cc
passes_over false c rest e h = h

none_of_first : (cs : List (Bool × BadAction)) → first_of cs ≡ None → NoneApplies cs
none_of_first [] e = tt
none_of_first (c ∷ cs) e =
    (none_here c.0 c.1 (first_of cs) e, none_of_first cs (none_after c.0 c.1 (first_of cs) e))

first_of_none : (cs : List (Bool × BadAction)) → NoneApplies cs → first_of cs ≡ None
first_of_none [] h = refl
first_of_none (c ∷ cs) h = passes_over c.0 c.1 (first_of cs) h.0 (first_of_none cs h.1)

not_false : (b : Bool) → not b ≡ false → b ≡ true
not_false true e = refl
not_false false e = cc

not_true : (b : Bool) → b ≡ true → not b ≡ false
not_true true e = refl
not_true false e = cc

pub left_false : (p q : Bool) → (p || q) ≡ false → p ≡ false
left_false true q e = cc
left_false false q e = refl

pub right_false : (p q : Bool) → (p || q) ≡ false → q ≡ false
right_false true q e = cc
right_false false q e = e

below_of_test : (x y : ℕ) → nat_le y x ≡ false → x < y
below_of_test x y e = grind (arith, nat_tests)

test_of_below : (x y : ℕ) → x < y → nat_le y x ≡ false
test_of_below x y e = grind (arith, nat_tests)

within_of_test : (x y : ℕ) → nat_lt x y ≡ false → y ≤ x
within_of_test x y e = grind (arith, nat_tests)

test_of_within : (x y : ℕ) → y ≤ x → nat_lt x y ≡ false
test_of_within x y e = grind (arith, nat_tests)

some_of_test : (x : ℕ) → nat_eq x 0 ≡ false → 1 ≤ x
some_of_test x e = grind (arith, nat_tests)

test_of_some : (x : ℕ) → 1 ≤ x → nat_eq x 0 ≡ false
test_of_some x e = grind (arith, nat_tests)

all_below : (n : ℕ) (xs : List ℕ) → list_any (λ x. nat_le n x) xs ≡ false → All (λ x. x < n) xs
all_below n [] e k d h = absurd (omega arith)
all_below n (x ∷ xs) e zero d h = below_of_test x n (left_false (nat_le n x) (list_any (λ y. nat_le n y) xs) e)
all_below n (x ∷ xs) e (suc k) d h =
    all_below n xs (right_false (nat_le n x) (list_any (λ y. nat_le n y) xs) e) k d (omega arith)

pub good_of_none : (shape : Shape) (a : Action) → first_fault_of_action shape a ≡ None → IsGoodAction shape a
unfolding first_fault_of_action has_no_reads has_too_many_reads is_not_ascending reads_no_object has_bad_mask is_too_large is_too_deep
good_of_none shape a e =
    let none = none_of_first (causes shape a) e in
    record {
      some_reads = some_of_test (length a.reads) none.0;
      few_reads = within_of_test 16 (length a.reads) none.1.0;
      ascending = not_false (is_ascending (read_set a)) none.1.1.0;
      objects = all_below shape.objects (read_set a) none.1.1.1.0;
      mask = below_of_test a.mask (2 ^ length a.reads) none.1.1.1.1.0;
      slots = not_false (has_slots a) none.1.1.1.1.1.0;
      writable = not_false (sets_in_mask a) none.1.1.1.1.1.1.0;
      attrs = not_false (has_attrs shape a) none.1.1.1.1.1.1.1.0;
      few_nodes = within_of_test 64 (body_nodes a.body) none.1.1.1.1.1.1.1.1.0;
      shallow = within_of_test 8 (body_depth a.body) none.1.1.1.1.1.1.1.1.1.0;
      origin = not_false (has_origin a) none.1.1.1.1.1.1.1.1.1.1.0;
    }

pub none_of_good : (shape : Shape) (a : Action) → IsGoodAction shape a → first_fault_of_action shape a ≡ None
unfolding first_fault_of_action has_no_reads has_too_many_reads is_not_ascending reads_no_object has_bad_mask is_too_large is_too_deep
none_of_good shape a good =
    first_of_none (causes shape a) (
      test_of_some (length a.reads) good.some_reads,
      (
        test_of_within 16 (length a.reads) good.few_reads,
        (
          not_true (is_ascending (read_set a)) good.ascending,
          (
            list_any_none (λ x. nat_le shape.objects x) (read_set a) (λ k d h. test_of_below (get_or (read_set a) k d) shape.objects (good.objects k d h)),
            (
              test_of_below a.mask (2 ^ length a.reads) good.mask,
              (
                not_true (has_slots a) good.slots,
                (
                  not_true (sets_in_mask a) good.writable,
                  (
                    not_true (has_attrs shape a) good.attrs,
                    (
                      test_of_within 64 (body_nodes a.body) good.few_nodes,
                      (
                        test_of_within 8 (body_depth a.body) good.shallow,
                        (not_true (has_origin a) good.origin, tt),
                      ),
                    ),
                  ),
                ),
              ),
            ),
          ),
        ),
      ),
    )
