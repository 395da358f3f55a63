-- The first fault of each of the actions that are refused.
use Rattle.std.proofs.Common.{◌≡◌, ℕ, zero, suc, ◌+◌, ◌*◌, ◌≤◌, ltb, leb, max, Bool, true, false, ◌&&◌, ◌||◌, not, ℤ, pos, List, [], ◌∷◌, length, Some, Result, Ok, Err, IfOk, refl, ap, ◌∙◌, arith}
use Rattle.std.proofs.lemmas.Bool.Decides.{nat_tests}
use Rattle.sv_world.specs.declared.world.ObjectId.{ObjectId}
use Rattle.sv_world.specs.declared.world.Shape.{Shape}
use Rattle.sv_world.specs.declared.action.Action.{Action}
use Rattle.sv_world.specs.declared.action.Expr.{Expr}
use Rattle.sv_world.specs.declared.action.Expr.TheVariants as expr
use Rattle.sv_world.specs.declared.action.Stmt.TheVariants as stmt
use Rattle.sv_world.specs.declared.check.BadAction.{BadAction}
use Rattle.sv_world.specs.declared.check.BadAction.TheVariants.{NoReads, TooManyReads, NotAscending, NoSuchObject, BadMask, BadSlot, NotWritable, BadAttr, TooLarge, TooDeep, BadOrigin}
use Rattle.sv_world.specs.declared.node.Operator.TheVariants as ops
use Rattle.sv_world.specs.Sets.{object_numbered, is_in_mask}
use Rattle.sv_world.specs.Faults.{has_no_reads, has_too_many_reads, is_not_ascending, reads_no_object, has_bad_mask, has_slots, sets_in_mask, has_attrs, is_too_large, is_too_deep, has_origin, first_of, first_fault_of_action}
use Rattle.sv_world.specs.Short.{stmt_is_short_step, has_short_blocks}
use Rattle.sv_world.specs.Trees.{expr_by, expr_nodes, expr_depth, expr_passes, body_nodes, body_depth, body_passes}
use Rattle.sv_world.proofs.Layers.{lit_fold, set_fold}
use Rattle.sv_world.proofs.TreeMeasures.{pair_nodes, pair_depth, pair_passes, lit_nodes, lit_depth, set_nodes, set_depth, set_passes}
use Rattle.sv_entries.specs.Refused.{zeros, setting, single}

-- ---- The body

zeros_nodes : (n : ℕ) → expr_nodes (zeros n) ≡ 1 + 2 * n
zeros_nodes zero = lit_nodes (pos 0)
zeros_nodes (suc n) = omega (arith, pair_nodes ops.Add (zeros n) (expr.Lit (pos 0)), zeros_nodes n, lit_nodes (pos 0))

deeper : (n d : ℕ) → d ≡ 1 + n → 1 + max d 1 ≡ 2 + n
deeper n d e = grind (arith, nat_tests, e)

zeros_depth : (n : ℕ) → expr_depth (zeros n) ≡ 1 + n
zeros_depth zero = lit_depth (pos 0)
zeros_depth (suc n) =
    let whole = pair_depth ops.Add (zeros n) (expr.Lit (pos 0)) in
    let last : 1 + max (expr_depth (zeros n)) (expr_depth (expr.Lit (pos 0))) ≡ 2 + n = rw (lit_depth (pos 0)) (deeper n (expr_depth (zeros n)) (zeros_depth n)) in
    omega (arith, whole, last)

lit_passes : (get : ℕ → ℕ → Bool) (z : ℤ) → expr_passes get (expr.Lit z) ≡ true
lit_passes get z = lit_fold Bool (expr_by true get (λ x y. x && y)) z

zeros_pass : (get : ℕ → ℕ → Bool) (n : ℕ) → expr_passes get (zeros n) ≡ true
zeros_pass get zero = lit_passes get (pos 0)
zeros_pass get (suc n) = pair_passes ops.Add (zeros n) (expr.Lit (pos 0)) get ∙ rw (zeros_pass get n, lit_passes get (pos 0)) refl

pub set_is_short : (slot attr : ℕ) (e : Expr) → has_short_blocks (stmt.Set slot attr e ∷ []) ≡ true
set_is_short slot attr e = rw (set_fold Bool stmt_is_short_step slot attr e) refl

alone : (t : Bool) → ((t && true) && true) ≡ t
alone true = refl
alone false = refl

body_test : (set get : ℕ → ℕ → Bool) (slot attr levels : ℕ) → body_passes set get (setting slot attr levels) ≡ set slot attr
body_test set get slot attr levels = rw (set_passes slot attr (zeros levels) set get, zeros_pass get levels) (alone (set slot attr))

setting_nodes : (slot attr levels : ℕ) → body_nodes (setting slot attr levels) ≡ 2 + 2 * levels
setting_nodes slot attr levels = rw (set_nodes slot attr (zeros levels), zeros_nodes levels) (omega arith)

at_least : (n : ℕ) → max n 0 ≡ n
at_least n = grind (arith, nat_tests)

setting_depth : (slot attr levels : ℕ) → body_depth (setting slot attr levels) ≡ 2 + levels
setting_depth slot attr levels = rw (set_depth slot attr (zeros levels), zeros_depth levels) (at_least (1 + (1 + levels)) ∙ omega arith)

-- ---- The tests

module _ (reads : List ObjectId) (mask : ℕ) (x : ℤ) (slot attr levels : ℕ) where
  abbrev it : Action
  it = single reads mask x slot attr levels

  slots_test : has_slots it ≡ ltb slot (length reads)
  unfolding has_slots
  slots_test = body_test (λ s _. ltb s (length reads)) (λ s _. ltb s (length reads)) slot attr levels

  sets_test : sets_in_mask it ≡ is_in_mask mask slot
  unfolding sets_in_mask
  sets_test = body_test (λ s _. is_in_mask mask s) (λ _ _. true) slot attr levels

  attrs_test : (shape : Shape) → has_attrs shape it ≡ ltb attr shape.attrs
  unfolding has_attrs
  attrs_test shape = body_test (λ _ a. ltb a shape.attrs) (λ _ a. ltb a shape.attrs) slot attr levels

  large_test : is_too_large it ≡ ltb 64 (2 + 2 * levels)
  unfolding is_too_large
  large_test = ap (λ (n : ℕ). ltb 64 n) (setting_nodes slot attr levels)

  deep_test : is_too_deep it ≡ ltb 8 (2 + levels)
  unfolding is_too_deep
  deep_test = ap (λ (n : ℕ). ltb 8 n) (setting_depth slot attr levels)

-- ---- The causes

abbrev pub first : ObjectId
first = object_numbered 0

pub no_reads : (shape : Shape) → first_fault_of_action shape (single [] 0 (pos 0) 0 0 0) ≡ Some NoReads
unfolding first_fault_of_action has_no_reads
no_reads shape = refl

-- One object too many.
abbrev pub many : List ObjectId
many = first ∷ first ∷ first ∷ first ∷ first ∷ first ∷ first ∷ first ∷ first ∷ first ∷ first ∷ first ∷ first ∷ first ∷ first ∷ first ∷ first ∷ []

pub too_many_reads : (shape : Shape) → first_fault_of_action shape (single many 0 (pos 0) 0 0 0) ≡ Some TooManyReads
unfolding first_fault_of_action has_no_reads has_too_many_reads
too_many_reads shape = refl

pub not_ascending : (shape : Shape) → first_fault_of_action shape (single (first ∷ first ∷ []) 0 (pos 0) 0 0 0) ≡ Some NotAscending
unfolding first_fault_of_action has_no_reads has_too_many_reads is_not_ascending
not_ascending shape = refl

itself : (n : ℕ) → leb n n ≡ true
itself n = grind (arith, nat_tests)

beyond : (shape : Shape) → reads_no_object shape (single (object_numbered shape.objects ∷ []) 0 (pos 0) 0 0 0) ≡ true
unfolding reads_no_object
beyond shape = (let whole : (leb shape.objects shape.objects || false) ≡ true = rw (itself shape.objects) refl in whole)

pub no_such_object : (shape : Shape) → first_fault_of_action shape (single (object_numbered shape.objects ∷ []) 0 (pos 0) 0 0 0) ≡ Some NoSuchObject
unfolding first_fault_of_action has_no_reads has_too_many_reads is_not_ascending
no_such_object shape = rw (beyond shape) refl

module _ (shape : Shape) (objects : 1 ≤ shape.objects) where
  within : leb shape.objects 0 ≡ false
  within = grind (arith, nat_tests, objects)

  module _ (mask : ℕ) (x : ℤ) (slot attr levels : ℕ) where
    abbrev one : Action
    one = single (first ∷ []) mask x slot attr levels

    known : reads_no_object shape one ≡ false
    unfolding reads_no_object
    known = (let whole : (leb shape.objects 0 || false) ≡ false = rw within refl in whole)

    mask_test : has_bad_mask one ≡ leb 2 mask
    unfolding has_bad_mask
    mask_test = refl

    behind_reads : first_fault_of_action shape one ≡ first_of ((has_bad_mask one, BadMask) ∷ (not (has_slots one), BadSlot) ∷ (not (sets_in_mask one), NotWritable) ∷ (not (has_attrs shape one), BadAttr)
        ∷ (is_too_large one, TooLarge) ∷ (is_too_deep one, TooDeep) ∷ (not (has_origin one), BadOrigin) ∷ [])
    unfolding first_fault_of_action has_no_reads has_too_many_reads is_not_ascending
    behind_reads = rw known refl

    tests : first_fault_of_action shape one ≡ first_of ((leb 2 mask, BadMask) ∷ (not (ltb slot 1), BadSlot) ∷ (not (is_in_mask mask slot), NotWritable) ∷ (not (ltb attr shape.attrs), BadAttr)
        ∷ (ltb 64 (2 + 2 * levels), TooLarge) ∷ (ltb 8 (2 + levels), TooDeep) ∷ (not (has_origin one), BadOrigin) ∷ [])
    tests =
        behind_reads
        ∙ rw (
          mask_test,
          slots_test (first ∷ []) mask x slot attr levels,
          sets_test (first ∷ []) mask x slot attr levels,
          attrs_test (first ∷ []) mask x slot attr levels shape,
          large_test (first ∷ []) mask x slot attr levels,
          deep_test (first ∷ []) mask x slot attr levels,
        ) refl

  pub bad_mask : first_fault_of_action shape (single (first ∷ []) 2 (pos 0) 0 0 0) ≡ Some BadMask
  bad_mask = tests 2 (pos 0) 0 0 0

  pub bad_slot : first_fault_of_action shape (single (first ∷ []) 1 (pos 0) 1 0 0) ≡ Some BadSlot
  bad_slot = tests 1 (pos 0) 1 0 0

  pub not_writable : first_fault_of_action shape (single (first ∷ []) 0 (pos 0) 0 0 0) ≡ Some NotWritable
  not_writable = tests 0 (pos 0) 0 0 0

  no_attr : ltb shape.attrs shape.attrs ≡ false
  no_attr = grind (arith, nat_tests)

  pub bad_attr : first_fault_of_action shape (single (first ∷ []) 1 (pos 0) 0 shape.attrs 0) ≡ Some BadAttr
  bad_attr = tests 1 (pos 0) 0 shape.attrs 0 ∙ rw no_attr refl

  module _ (attrs : 1 ≤ shape.attrs) where
    some_attr : ltb 0 shape.attrs ≡ true
    some_attr = grind (arith, nat_tests, attrs)

    pub too_large : first_fault_of_action shape (single (first ∷ []) 1 (pos 0) 0 0 32) ≡ Some TooLarge
    too_large = tests 1 (pos 0) 0 0 32 ∙ rw some_attr refl

    pub too_deep : first_fault_of_action shape (single (first ∷ []) 1 (pos 0) 0 0 8) ≡ Some TooDeep
    too_deep = tests 1 (pos 0) 0 0 8 ∙ rw some_attr refl

    far : has_origin (single (first ∷ []) 1 (pos 1000001) 0 0 0) ≡ false
    unfolding has_origin
    far = refl

    pub bad_origin : first_fault_of_action shape (single (first ∷ []) 1 (pos 1000001) 0 0 0) ≡ Some BadOrigin
    bad_origin = tests 1 (pos 1000001) 0 0 0 ∙ rw (some_attr, far) refl

-- What is made as an action that is refused is refused as that.
pub made_is_refused : {E : Type 0} (r : Result Action E) (a : Action) (shape : Shape) (cause : BadAction) → IfOk r (λ b. b ≡ a) → first_fault_of_action shape a ≡ Some cause →
    IfOk r (λ b. first_fault_of_action shape b ≡ Some cause)
made_is_refused (Ok b) a shape cause e f = ap (first_fault_of_action shape) e ∙ f
made_is_refused (Err x) a shape cause e f = tt
