-- What the spelling of a body is at each kind of node.
use Rattle.std.proofs.Common.{◌≡◌, ℕ, ℤ, List, [], ◌∷◌, ◌++◌, map, Some, refl, ◌∙◌}
use Rattle.std.specs.Int.{w64}
use Rattle.sv_world.specs.declared.action.Expr.{Expr}
use Rattle.sv_world.specs.declared.action.Expr.TheVariants as expr
use Rattle.sv_world.specs.declared.action.Cond.{Cond}
use Rattle.sv_world.specs.declared.action.Cond.TheVariants as test
use Rattle.sv_world.specs.declared.action.Stmt.{Stmt}
use Rattle.sv_world.specs.declared.action.Stmt.TheVariants as stmt
use Rattle.sv_world.specs.declared.node.Operator.{Operator}
use Rattle.sv_world.specs.declared.node.Operator.TheVariants.{Add, Sub, Mul, Div, Rem, Min, Max}
use Rattle.sv_wire.specs.declared.nodes.ExprKind.TheVariants as expr_kind
use Rattle.sv_world.specs.declared.node.Comparison.{Comparison}
use Rattle.sv_world.specs.declared.node.Comparison.TheVariants.{Eq, Lt, Le}
use Rattle.sv_world.specs.declared.node.Connective.{Connective}
use Rattle.sv_world.specs.declared.node.Connective.TheVariants.{And, Or}
use Rattle.sv_wire.specs.declared.nodes.CondKind.TheVariants as cond_kind
use Rattle.sv_world.specs.Parts.{binary_by as expr_by, compare_by, join_by}
use Rattle.sv_world.proofs.Layers.{binary_layer, compare_layer, join_layer, lit_fold, attr_fold, binary_fold, compare_fold, join_fold, not_fold, set_fold, if_fold}
use Rattle.sv_wire.specs.Nodes.{expr_kind_of, cond_kind_of}
use Rattle.sv_wire.specs.Spelling.{operator_byte, comparison_byte, connective_byte, int_bytes, expr_bytes_step, expr_bytes, cond_bytes_step, cond_bytes, with_count, stmt_bytes_step, stmt_bytes}

-- ---- expressions

bytes_layer : (o : Operator) (x y : List ℕ) → expr_bytes_step (binary_layer o x y) ≡ operator_byte o ∷ (x ++ y)
bytes_layer Add x y = refl
bytes_layer Sub x y = refl
bytes_layer Mul x y = refl
bytes_layer Div x y = refl
bytes_layer Rem x y = refl
bytes_layer Min x y = refl
bytes_layer Max x y = refl

pub bytes_by : (o : Operator) (a b : Expr) → expr_bytes (expr_by o a b) ≡ operator_byte o ∷ (expr_bytes a ++ expr_bytes b)
bytes_by o a b = binary_fold (List ℕ) expr_bytes_step o a b ∙ bytes_layer o (expr_bytes a) (expr_bytes b)

pub kind_by : (o : Operator) → expr_kind_of (operator_byte o) ≡ Some (expr_kind.Both o)
unfolding expr_kind_of
kind_by Add = refl
kind_by Sub = refl
kind_by Mul = refl
kind_by Div = refl
kind_by Rem = refl
kind_by Min = refl
kind_by Max = refl

-- ---- conditions

compare_bytes_layer : (o : Comparison) (a b : Expr) → cond_bytes_step (compare_layer o a b) ≡ comparison_byte o ∷ (expr_bytes a ++ expr_bytes b)
compare_bytes_layer Eq a b = refl
compare_bytes_layer Lt a b = refl
compare_bytes_layer Le a b = refl

pub compare_bytes : (o : Comparison) (a b : Expr) → cond_bytes (compare_by o a b) ≡ comparison_byte o ∷ (expr_bytes a ++ expr_bytes b)
compare_bytes o a b = compare_fold (List ℕ) cond_bytes_step o a b ∙ compare_bytes_layer o a b

join_bytes_layer : (o : Connective) (x y : List ℕ) → cond_bytes_step (join_layer o x y) ≡ connective_byte o ∷ (x ++ y)
join_bytes_layer And x y = refl
join_bytes_layer Or x y = refl

pub join_bytes : (o : Connective) (a b : Cond) → cond_bytes (join_by o a b) ≡ connective_byte o ∷ (cond_bytes a ++ cond_bytes b)
join_bytes o a b = join_fold (List ℕ) cond_bytes_step o a b ∙ join_bytes_layer o (cond_bytes a) (cond_bytes b)

pub compare_kind : (o : Comparison) → cond_kind_of (comparison_byte o) ≡ Some (cond_kind.Compare o)
unfolding cond_kind_of
compare_kind Eq = refl
compare_kind Lt = refl
compare_kind Le = refl

pub join_kind : (o : Connective) → cond_kind_of (connective_byte o) ≡ Some (cond_kind.Both o)
unfolding cond_kind_of
join_kind And = refl
join_kind Or = refl

-- ---- the other nodes

pub lit_bytes : (n : ℤ) → expr_bytes (expr.Lit n) ≡ 0x20 ∷ int_bytes w64 n
lit_bytes n = lit_fold (List ℕ) expr_bytes_step n

pub attr_bytes : (slot attr : ℕ) → expr_bytes (expr.Attr slot attr) ≡ 0x21 ∷ slot ∷ attr ∷ []
attr_bytes slot attr = attr_fold (List ℕ) expr_bytes_step slot attr

pub not_bytes : (a : Cond) → cond_bytes (test.Not a) ≡ 0x35 ∷ cond_bytes a
not_bytes a = not_fold (List ℕ) cond_bytes_step a

pub set_bytes : (slot attr : ℕ) (value : Expr) → stmt_bytes (stmt.Set slot attr value) ≡ 0x10 ∷ slot ∷ attr ∷ expr_bytes value
set_bytes slot attr value = set_fold (List ℕ) stmt_bytes_step slot attr value

pub if_bytes : (c : Cond) (xs ys : List Stmt) → stmt_bytes (stmt.If c xs ys) ≡ 0x11 ∷ (cond_bytes c ++ with_count (map stmt_bytes xs) ++ with_count (map stmt_bytes ys))
if_bytes c xs ys = if_fold (List ℕ) stmt_bytes_step c xs ys
