-- Induction over expressions, conditions and statements, with one case for all operators.
use Rattle.std.proofs.Common.{ℕ, ℤ, List, [], ◌∷◌, map, sym, subst}
use Rattle.std.specs.List.{AllByRecursion}
use Rattle.sv_world.specs.declared.action.Expr.{Expr, map-Expr}
use Rattle.sv_world.specs.declared.action.Expr.TheVariants as expr
use Rattle.sv_world.specs.declared.action.Expr.TheOpen.{Expr-F}
use Rattle.sv_world.specs.declared.action.Expr.TheViews.{roll-Expr}
use Rattle.sv_world.specs.declared.action.Expr.TheFolds.{ind-Expr}
use Rattle.sv_world.specs.declared.action.Cond.{Cond, map-Cond}
use Rattle.sv_world.specs.declared.action.Cond.TheVariants as test
use Rattle.sv_world.specs.declared.action.Cond.TheOpen.{Cond-F}
use Rattle.sv_world.specs.declared.action.Cond.TheViews.{roll-Cond}
use Rattle.sv_world.specs.declared.action.Cond.TheFolds.{ind-Cond}
use Rattle.sv_world.specs.declared.action.Stmt.{Stmt, map-Stmt}
use Rattle.sv_world.specs.declared.action.Stmt.TheVariants as stmt
use Rattle.sv_world.specs.declared.action.Stmt.TheOpen.{Stmt-F}
use Rattle.sv_world.specs.declared.action.Stmt.TheViews.{roll-Stmt}
use Rattle.sv_world.specs.declared.action.Stmt.TheFolds.{ind-Stmt}
use Rattle.sv_world.specs.declared.node.Operator.{Operator}
use Rattle.sv_world.specs.declared.node.Operator.TheVariants.{Add, Sub, Mul, Div, Rem, Min, Max}
use Rattle.sv_world.specs.declared.node.Comparison.{Comparison}
use Rattle.sv_world.specs.declared.node.Comparison.TheVariants.{Eq, Lt, Le}
use Rattle.sv_world.specs.declared.node.Connective.{Connective}
use Rattle.sv_world.specs.declared.node.Connective.TheVariants.{And, Or}
use Rattle.sv_world.specs.Parts.{binary_by, compare_by, join_by}

module _ (P : Expr → Type 0) (lit : (n : ℤ) → P (expr.Lit n)) (attr : (slot attr : ℕ) → P (expr.Attr slot attr)) (binary : (o : Operator) (a b : Expr) → P a → P b → P (binary_by o a b)) where
  expr_layer : {Z : Type 0} (p : Z → Expr) → ((z : Z) → P (p z)) → (y : Expr-F Z) → P (roll-Expr (map-Expr Z Expr p y))
  expr_layer p each (Expr-F.Lit n) = subst P (sym (expr.rolls-Lit n)) (lit n)
  expr_layer p each (Expr-F.Attr slot field) = subst P (sym (expr.rolls-Attr slot field)) (attr slot field)
  expr_layer p each (Expr-F.Add x y) = subst P (sym (expr.rolls-Add (p x) (p y))) (binary Add (p x) (p y) (each x) (each y))
  expr_layer p each (Expr-F.Sub x y) = subst P (sym (expr.rolls-Sub (p x) (p y))) (binary Sub (p x) (p y) (each x) (each y))
  expr_layer p each (Expr-F.Mul x y) = subst P (sym (expr.rolls-Mul (p x) (p y))) (binary Mul (p x) (p y) (each x) (each y))
  expr_layer p each (Expr-F.Div x y) = subst P (sym (expr.rolls-Div (p x) (p y))) (binary Div (p x) (p y) (each x) (each y))
  expr_layer p each (Expr-F.Rem x y) = subst P (sym (expr.rolls-Rem (p x) (p y))) (binary Rem (p x) (p y) (each x) (each y))
  expr_layer p each (Expr-F.Min x y) = subst P (sym (expr.rolls-Min (p x) (p y))) (binary Min (p x) (p y) (each x) (each y))
  expr_layer p each (Expr-F.Max x y) = subst P (sym (expr.rolls-Max (p x) (p y))) (binary Max (p x) (p y) (each x) (each y))

  pub each_expr : (e : Expr) → P e
  each_expr = ind-Expr P (λ x y is. subst (λ (z : Expr-F Expr). P (roll-Expr z)) is (expr_layer (λ e. e.0) (λ e. e.1) y))

module _ (P : Cond → Type 0) (compare : (o : Comparison) (a b : Expr) → P (compare_by o a b)) (join : (o : Connective) (a b : Cond) → P a → P b → P (join_by o a b)) (negate : (a : Cond) → P a → P (test.Not a)) where
  cond_layer : {Z : Type 0} (p : Z → Cond) → ((z : Z) → P (p z)) → (y : Cond-F Z) → P (roll-Cond (map-Cond Z Cond p y))
  cond_layer p each (Cond-F.Eq a b) = subst P (sym (test.rolls-Eq a b)) (compare Eq a b)
  cond_layer p each (Cond-F.Lt a b) = subst P (sym (test.rolls-Lt a b)) (compare Lt a b)
  cond_layer p each (Cond-F.Le a b) = subst P (sym (test.rolls-Le a b)) (compare Le a b)
  cond_layer p each (Cond-F.And x y) = subst P (sym (test.rolls-And (p x) (p y))) (join And (p x) (p y) (each x) (each y))
  cond_layer p each (Cond-F.Or x y) = subst P (sym (test.rolls-Or (p x) (p y))) (join Or (p x) (p y) (each x) (each y))
  cond_layer p each (Cond-F.Not x) = subst P (sym (test.rolls-Not (p x))) (negate (p x) (each x))

  pub each_cond : (c : Cond) → P c
  each_cond = ind-Cond P (λ x y is. subst (λ (z : Cond-F Cond). P (roll-Cond z)) is (cond_layer (λ e. e.0) (λ e. e.1) y))

module _ (P : Stmt → Type 0) (assign : (slot attr : ℕ) (value : Expr) → P (stmt.Set slot attr value)) (choose : (c : Cond) (xs ys : List Stmt) → AllByRecursion P xs → AllByRecursion P ys → P (stmt.If c xs ys)) where
  each_of : {Z : Type 0} (p : Z → Stmt) → ((z : Z) → P (p z)) → (zs : List Z) → AllByRecursion P (map p zs)
  each_of p each [] = tt
  each_of p each (z ∷ zs) = (each z, each_of p each zs)

  stmt_layer : {Z : Type 0} (p : Z → Stmt) → ((z : Z) → P (p z)) → (y : Stmt-F Z) → P (roll-Stmt (map-Stmt Z Stmt p y))
  stmt_layer p each (Stmt-F.Set slot attr value) = subst P (sym (stmt.rolls-Set slot attr value)) (assign slot attr value)
  stmt_layer p each (Stmt-F.If c xs ys) = subst P (sym (stmt.rolls-If c (map p xs) (map p ys))) (choose c (map p xs) (map p ys) (each_of p each xs) (each_of p each ys))

  pub each_stmt : (s : Stmt) → P s
  each_stmt = ind-Stmt P (λ x y is. subst (λ (z : Stmt-F Stmt). P (roll-Stmt z)) is (stmt_layer (λ e. e.0) (λ e. e.1) y))

  pub all_stmts : (xs : List Stmt) → AllByRecursion P xs
  all_stmts [] = tt
  all_stmts (x ∷ xs) = (each_stmt x, all_stmts xs)
