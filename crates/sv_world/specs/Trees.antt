-- The size and the depth of an action's body, and tests of the objects' attributes that it names.
use Rattle.std.specs.Prelude.{ℕ, ◌+◌, max, Bool, true, ◌&&◌, List, [], ◌∷◌, map, sum}
use Rattle.sv_world.specs.declared.action.Expr.{Expr}
use Rattle.sv_world.specs.declared.action.Expr.TheOpen.{Expr-F}
use Rattle.sv_world.specs.declared.action.Expr.TheFolds.{fold-Expr}
use Rattle.sv_world.specs.declared.action.Cond.{Cond}
use Rattle.sv_world.specs.declared.action.Cond.TheOpen.{Cond-F}
use Rattle.sv_world.specs.declared.action.Cond.TheFolds.{fold-Cond}
use Rattle.sv_world.specs.declared.action.Stmt.{Stmt}
use Rattle.sv_world.specs.declared.action.Stmt.TheOpen.{Stmt-F}
use Rattle.sv_world.specs.declared.action.Stmt.TheFolds.{fold-Stmt}

-- One node of an expression: what a literal gives, what an attribute gives, and what two operands give together.
abbrev pub expr_by : {A : Type 0} → A → (ℕ → ℕ → A) → (A → A → A) → Expr-F A → A
expr_by lit attr both (Expr-F.Lit n) = lit
expr_by lit attr both (Expr-F.Attr slot a) = attr slot a
expr_by lit attr both (Expr-F.Add x y) = both x y
expr_by lit attr both (Expr-F.Sub x y) = both x y
expr_by lit attr both (Expr-F.Mul x y) = both x y
expr_by lit attr both (Expr-F.Div x y) = both x y
expr_by lit attr both (Expr-F.Rem x y) = both x y
expr_by lit attr both (Expr-F.Min x y) = both x y
expr_by lit attr both (Expr-F.Max x y) = both x y

-- One node of a condition: what an expression gives, and what two parts or one part of a node give.
abbrev pub cond_by : {A : Type 0} → (Expr → A) → (A → A → A) → (A → A) → Cond-F A → A
cond_by expr both one (Cond-F.Eq x y) = both (expr x) (expr y)
cond_by expr both one (Cond-F.Lt x y) = both (expr x) (expr y)
cond_by expr both one (Cond-F.Le x y) = both (expr x) (expr y)
cond_by expr both one (Cond-F.And x y) = both x y
cond_by expr both one (Cond-F.Or x y) = both x y
cond_by expr both one (Cond-F.Not x) = one x

-- How many nodes there are: each statement, condition and expression is one.
abbrev pub expr_nodes : Expr → ℕ
expr_nodes = fold-Expr ℕ (expr_by 1 (λ _ _. 1) (λ x y. 1 + x + y))

abbrev pub cond_nodes : Cond → ℕ
cond_nodes = fold-Cond ℕ (cond_by expr_nodes (λ x y. 1 + x + y) (λ x. 1 + x))

abbrev pub stmt_nodes_step : Stmt-F ℕ → ℕ
stmt_nodes_step (Stmt-F.Set slot attr expr) = 1 + expr_nodes expr
stmt_nodes_step (Stmt-F.If test xs ys) = 1 + cond_nodes test + sum xs + sum ys

abbrev pub stmt_nodes : Stmt → ℕ
stmt_nodes = fold-Stmt ℕ stmt_nodes_step

abbrev pub body_nodes : List Stmt → ℕ
body_nodes body = sum (map stmt_nodes body)

-- The greatest of some numbers, and 0 where there are none.
abbrev pub greatest : List ℕ → ℕ
greatest [] = 0
greatest (n ∷ ns) = max n (greatest ns)

-- How deep the nodes are nested: one more than the deepest child.
abbrev pub expr_depth : Expr → ℕ
expr_depth = fold-Expr ℕ (expr_by 1 (λ _ _. 1) (λ x y. 1 + max x y))

abbrev pub cond_depth : Cond → ℕ
cond_depth = fold-Cond ℕ (cond_by expr_depth (λ x y. 1 + max x y) (λ x. 1 + x))

abbrev pub stmt_depth_step : Stmt-F ℕ → ℕ
stmt_depth_step (Stmt-F.Set slot attr expr) = 1 + expr_depth expr
stmt_depth_step (Stmt-F.If test xs ys) = 1 + max (cond_depth test) (max (greatest xs) (greatest ys))

abbrev pub stmt_depth : Stmt → ℕ
stmt_depth = fold-Stmt ℕ stmt_depth_step

abbrev pub body_depth : List Stmt → ℕ
body_depth body = greatest (map stmt_depth body)

-- Whether each slot and attribute that is set passes the test `set`, and each one that is got the test `get`.
abbrev pub all_true : List Bool → Bool
all_true [] = true
all_true (b ∷ bs) = b && all_true bs

abbrev pub expr_passes : (ℕ → ℕ → Bool) → Expr → Bool
expr_passes get = fold-Expr Bool (expr_by true get (λ x y. x && y))

abbrev pub cond_passes : (ℕ → ℕ → Bool) → Cond → Bool
cond_passes get = fold-Cond Bool (cond_by (expr_passes get) (λ x y. x && y) (λ x. x))

abbrev pub stmt_passes_step : (ℕ → ℕ → Bool) → (ℕ → ℕ → Bool) → Stmt-F Bool → Bool
stmt_passes_step set get (Stmt-F.Set slot attr expr) = set slot attr && expr_passes get expr
stmt_passes_step set get (Stmt-F.If test xs ys) = cond_passes get test && (all_true xs && all_true ys)

abbrev pub stmt_passes : (ℕ → ℕ → Bool) → (ℕ → ℕ → Bool) → Stmt → Bool
stmt_passes set get = fold-Stmt Bool (stmt_passes_step set get)

abbrev pub body_passes : (ℕ → ℕ → Bool) → (ℕ → ℕ → Bool) → List Stmt → Bool
body_passes set get body = all_true (map (stmt_passes set get) body)
