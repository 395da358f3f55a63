-- What the measures and the tests of a tree are at each kind of node.
use Rattle.std.proofs.Common.{◌≡◌, ℕ, ◌+◌, max, Bool, true, ◌&&◌, ℤ, List, refl, ◌∙◌}
use Rattle.sv_world.specs.Trees.{expr_by, cond_by, expr_nodes, cond_nodes, stmt_nodes, stmt_nodes_step, body_nodes, expr_depth, cond_depth, stmt_depth, stmt_depth_step, body_depth, expr_passes, cond_passes, stmt_passes, stmt_passes_step, body_passes}
use Rattle.sv_world.specs.declared.action.Expr.{Expr}
use Rattle.sv_world.specs.declared.action.Expr.TheVariants as expr
use Rattle.sv_world.specs.declared.action.Cond.{Cond}
use Rattle.sv_world.specs.declared.action.Cond.TheVariants as test
use Rattle.sv_world.specs.declared.action.Cond.TheOpen.{Cond-F}
use Rattle.sv_world.specs.declared.action.Stmt.{Stmt}
use Rattle.sv_world.specs.declared.action.Stmt.TheVariants as stmt
use Rattle.sv_world.specs.declared.node.Operator.{Operator}
use Rattle.sv_world.specs.declared.node.Operator.TheVariants.{Add, Sub, Mul, Div, Rem, Min, Max}
use Rattle.sv_world.specs.declared.node.Comparison.{Comparison}
use Rattle.sv_world.specs.declared.node.Comparison.TheVariants.{Eq, Lt, Le}
use Rattle.sv_world.specs.declared.node.Connective.{Connective}
use Rattle.sv_world.specs.declared.node.Connective.TheVariants.{And, Or}
use Rattle.sv_world.specs.Parts.{binary_by, compare_by, join_by}
use Rattle.sv_world.proofs.Layers.{binary_layer, compare_layer, join_layer, lit_fold, attr_fold, binary_fold, compare_fold, join_fold, not_fold, set_fold, if_fold}

-- ---- expressions

-- what a test or a measure gives of two operands
pub value_layer : {A : Type 0} (lit : A) (attr : ℕ → ℕ → A) (both : A → A → A) (o : Operator) (x y : A) → expr_by lit attr both (binary_layer o x y) ≡ both x y
value_layer lit attr both Add x y = refl
value_layer lit attr both Sub x y = refl
value_layer lit attr both Mul x y = refl
value_layer lit attr both Div x y = refl
value_layer lit attr both Rem x y = refl
value_layer lit attr both Min x y = refl
value_layer lit attr both Max x y = refl

-- an expression of two parts
module _ (o : Operator) (a b : Expr) where
  pub pair_nodes : expr_nodes (binary_by o a b) ≡ 1 + expr_nodes a + expr_nodes b
  pair_nodes = binary_fold ℕ (expr_by 1 (λ _ _. 1) (λ x y. 1 + x + y)) o a b ∙ value_layer 1 (λ _ _. 1) (λ x y. 1 + x + y) o (expr_nodes a) (expr_nodes b)

  pub pair_depth : expr_depth (binary_by o a b) ≡ 1 + max (expr_depth a) (expr_depth b)
  pair_depth = binary_fold ℕ (expr_by 1 (λ _ _. 1) (λ x y. 1 + max x y)) o a b ∙ value_layer 1 (λ _ _. 1) (λ x y. 1 + max x y) o (expr_depth a) (expr_depth b)

  pub pair_passes : (get : ℕ → ℕ → Bool) → expr_passes get (binary_by o a b) ≡ (expr_passes get a && expr_passes get b)
  pair_passes get = binary_fold Bool (expr_by true get (λ x y. x && y)) o a b ∙ value_layer true get (λ x y. x && y) o (expr_passes get a) (expr_passes get b)

pub lit_nodes : (z : ℤ) → expr_nodes (expr.Lit z) ≡ 1
lit_nodes z = lit_fold ℕ (expr_by 1 (λ _ _. 1) (λ x y. 1 + x + y)) z

pub lit_depth : (z : ℤ) → expr_depth (expr.Lit z) ≡ 1
lit_depth z = lit_fold ℕ (expr_by 1 (λ _ _. 1) (λ x y. 1 + max x y)) z

pub attr_nodes : (slot attr : ℕ) → expr_nodes (expr.Attr slot attr) ≡ 1
attr_nodes slot attr = attr_fold ℕ (expr_by 1 (λ _ _. 1) (λ x y. 1 + x + y)) slot attr

pub attr_depth : (slot attr : ℕ) → expr_depth (expr.Attr slot attr) ≡ 1
attr_depth slot attr = attr_fold ℕ (expr_by 1 (λ _ _. 1) (λ x y. 1 + max x y)) slot attr

pub attr_passes : (get : ℕ → ℕ → Bool) (slot attr : ℕ) → expr_passes get (expr.Attr slot attr) ≡ get slot attr
attr_passes get slot attr = attr_fold Bool (expr_by true get (λ x y. x && y)) slot attr

-- ---- conditions

pub compare_value : {A : Type 0} (value : Expr → A) (both : A → A → A) (one : A → A) (o : Comparison) (a b : Expr) → cond_by value both one (compare_layer o a b) ≡ both (value a) (value b)
compare_value value both one Eq a b = refl
compare_value value both one Lt a b = refl
compare_value value both one Le a b = refl

pub join_value : {A : Type 0} (value : Expr → A) (both : A → A → A) (one : A → A) (o : Connective) (x y : A) → cond_by value both one (join_layer o x y) ≡ both x y
join_value value both one And x y = refl
join_value value both one Or x y = refl

abbrev cond_counts : Cond-F ℕ → ℕ
cond_counts = cond_by expr_nodes (λ x y. 1 + x + y) (λ x. 1 + x)

abbrev cond_levels : Cond-F ℕ → ℕ
cond_levels = cond_by expr_depth (λ x y. 1 + max x y) (λ x. 1 + x)

-- a comparison
module _ (o : Comparison) (a b : Expr) where
  pub test_nodes : cond_nodes (compare_by o a b) ≡ 1 + expr_nodes a + expr_nodes b
  test_nodes = compare_fold ℕ cond_counts o a b ∙ compare_value expr_nodes (λ x y. 1 + x + y) (λ x. 1 + x) o a b

  pub test_depth : cond_depth (compare_by o a b) ≡ 1 + max (expr_depth a) (expr_depth b)
  test_depth = compare_fold ℕ cond_levels o a b ∙ compare_value expr_depth (λ x y. 1 + max x y) (λ x. 1 + x) o a b

  pub test_passes : (get : ℕ → ℕ → Bool) → cond_passes get (compare_by o a b) ≡ (expr_passes get a && expr_passes get b)
  test_passes get = compare_fold Bool (cond_by (expr_passes get) (λ x y. x && y) (λ x. x)) o a b ∙ compare_value (expr_passes get) (λ x y. x && y) (λ x. x) o a b

-- a condition of two parts
module _ (o : Connective) (a b : Cond) where
  pub joint_nodes : cond_nodes (join_by o a b) ≡ 1 + cond_nodes a + cond_nodes b
  joint_nodes = join_fold ℕ cond_counts o a b ∙ join_value expr_nodes (λ x y. 1 + x + y) (λ x. 1 + x) o (cond_nodes a) (cond_nodes b)

  pub joint_depth : cond_depth (join_by o a b) ≡ 1 + max (cond_depth a) (cond_depth b)
  joint_depth = join_fold ℕ cond_levels o a b ∙ join_value expr_depth (λ x y. 1 + max x y) (λ x. 1 + x) o (cond_depth a) (cond_depth b)

  pub joint_passes : (get : ℕ → ℕ → Bool) → cond_passes get (join_by o a b) ≡ (cond_passes get a && cond_passes get b)
  joint_passes get = join_fold Bool (cond_by (expr_passes get) (λ x y. x && y) (λ x. x)) o a b ∙ join_value (expr_passes get) (λ x y. x && y) (λ x. x) o (cond_passes get a) (cond_passes get b)

-- the contrary of a condition
module _ (a : Cond) where
  pub not_nodes : cond_nodes (test.Not a) ≡ 1 + cond_nodes a
  not_nodes = not_fold ℕ cond_counts a

  pub not_depth : cond_depth (test.Not a) ≡ 1 + cond_depth a
  not_depth = not_fold ℕ cond_levels a

  pub not_passes : (get : ℕ → ℕ → Bool) → cond_passes get (test.Not a) ≡ cond_passes get a
  not_passes get = not_fold Bool (cond_by (expr_passes get) (λ x y. x && y) (λ x. x)) a

-- ---- statements

module _ (slot attr : ℕ) (e : Expr) where
  pub set_nodes : stmt_nodes (stmt.Set slot attr e) ≡ 1 + expr_nodes e
  set_nodes = set_fold ℕ stmt_nodes_step slot attr e

  pub set_depth : stmt_depth (stmt.Set slot attr e) ≡ 1 + expr_depth e
  set_depth = set_fold ℕ stmt_depth_step slot attr e

  pub set_passes : (set get : ℕ → ℕ → Bool) → stmt_passes set get (stmt.Set slot attr e) ≡ (set slot attr && expr_passes get e)
  set_passes set get = set_fold Bool (stmt_passes_step set get) slot attr e

module _ (c : Cond) (xs ys : List Stmt) where
  pub if_nodes : stmt_nodes (stmt.If c xs ys) ≡ 1 + cond_nodes c + body_nodes xs + body_nodes ys
  if_nodes = if_fold ℕ stmt_nodes_step c xs ys

  pub if_depth : stmt_depth (stmt.If c xs ys) ≡ 1 + max (cond_depth c) (max (body_depth xs) (body_depth ys))
  if_depth = if_fold ℕ stmt_depth_step c xs ys

  pub if_passes : (set get : ℕ → ℕ → Bool) → stmt_passes set get (stmt.If c xs ys) ≡ (cond_passes get c && (body_passes set get xs && body_passes set get ys))
  if_passes set get = if_fold Bool (stmt_passes_step set get) c xs ys
