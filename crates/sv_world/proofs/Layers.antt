-- What a fold over trees gives at each kind of node, and so the nodes that each tree is spelled by.
use Rattle.std.proofs.Common.{◌≡◌, ℕ, suc, ℤ, List, [], ◌∷◌, ◌++◌, length, map, refl, sym, ap, ◌∙◌}
use Rattle.std.specs.List.{flat_map}
use Rattle.sv_world.specs.declared.action.Expr.{Expr}
use Rattle.sv_world.specs.declared.action.Expr.TheVariants as expr
use Rattle.sv_world.specs.declared.action.Expr.TheOpen.{Expr-F}
use Rattle.sv_world.specs.declared.action.Expr.TheFolds.{fold-Expr, fold-roll-Expr}
use Rattle.sv_world.specs.declared.action.Cond.{Cond}
use Rattle.sv_world.specs.declared.action.Cond.TheVariants as test
use Rattle.sv_world.specs.declared.action.Cond.TheOpen.{Cond-F}
use Rattle.sv_world.specs.declared.action.Cond.TheFolds.{fold-Cond, fold-roll-Cond}
use Rattle.sv_world.specs.declared.action.Stmt.{Stmt}
use Rattle.sv_world.specs.declared.action.Stmt.TheVariants as stmt
use Rattle.sv_world.specs.declared.action.Stmt.TheOpen.{Stmt-F}
use Rattle.sv_world.specs.declared.action.Stmt.TheFolds.{fold-Stmt, fold-roll-Stmt}
use Rattle.sv_world.specs.declared.node.Node.{Node}
use Rattle.sv_world.specs.declared.node.Node.TheVariants as node
use Rattle.sv_world.specs.declared.node.Operator.{Operator}
use Rattle.sv_world.specs.declared.node.Operator.TheVariants.{Add, Sub, Mul, Div, Rem, Min, Max}
use Rattle.sv_world.specs.declared.node.Comparison.{Comparison}
use Rattle.sv_world.specs.declared.node.Comparison.TheVariants.{Eq, Lt, Le}
use Rattle.sv_world.specs.declared.node.Connective.{Connective}
use Rattle.sv_world.specs.declared.node.Connective.TheVariants.{And, Or}
use Rattle.sv_world.specs.Parts.{binary_by, compare_by, join_by}
use Rattle.sv_world.specs.Spelled.{expr_spelled_step, expr_spelled, cond_spelled_step, cond_spelled, block_spelled, stmt_spelled_step, stmt_spelled, run_spelled, body_spelled}

-- ---- expressions

abbrev pub binary_layer : {A : Type 0} → Operator → A → A → Expr-F A
binary_layer Add a b = Expr-F.Add a b
binary_layer Sub a b = Expr-F.Sub a b
binary_layer Mul a b = Expr-F.Mul a b
binary_layer Div a b = Expr-F.Div a b
binary_layer Rem a b = Expr-F.Rem a b
binary_layer Min a b = Expr-F.Min a b
binary_layer Max a b = Expr-F.Max a b

pub lit_fold : (A : Type 0) (step : Expr-F A → A) (n : ℤ) → fold-Expr A step (expr.Lit n) ≡ step (Expr-F.Lit n)
lit_fold A step n = ap (fold-Expr A step) (sym (expr.rolls-Lit n)) ∙ fold-roll-Expr A step (Expr-F.Lit n)

pub attr_fold : (A : Type 0) (step : Expr-F A → A) (slot attr : ℕ) → fold-Expr A step (expr.Attr slot attr) ≡ step (Expr-F.Attr slot attr)
attr_fold A step slot attr = ap (fold-Expr A step) (sym (expr.rolls-Attr slot attr)) ∙ fold-roll-Expr A step (Expr-F.Attr slot attr)

pub binary_fold : (A : Type 0) (step : Expr-F A → A) (o : Operator) (a b : Expr) → fold-Expr A step (binary_by o a b) ≡ step (binary_layer o (fold-Expr A step a) (fold-Expr A step b))
binary_fold A step Add a b = ap (fold-Expr A step) (sym (expr.rolls-Add a b)) ∙ fold-roll-Expr A step (Expr-F.Add a b)
binary_fold A step Sub a b = ap (fold-Expr A step) (sym (expr.rolls-Sub a b)) ∙ fold-roll-Expr A step (Expr-F.Sub a b)
binary_fold A step Mul a b = ap (fold-Expr A step) (sym (expr.rolls-Mul a b)) ∙ fold-roll-Expr A step (Expr-F.Mul a b)
binary_fold A step Div a b = ap (fold-Expr A step) (sym (expr.rolls-Div a b)) ∙ fold-roll-Expr A step (Expr-F.Div a b)
binary_fold A step Rem a b = ap (fold-Expr A step) (sym (expr.rolls-Rem a b)) ∙ fold-roll-Expr A step (Expr-F.Rem a b)
binary_fold A step Min a b = ap (fold-Expr A step) (sym (expr.rolls-Min a b)) ∙ fold-roll-Expr A step (Expr-F.Min a b)
binary_fold A step Max a b = ap (fold-Expr A step) (sym (expr.rolls-Max a b)) ∙ fold-roll-Expr A step (Expr-F.Max a b)

pub lit_spelled : (n : ℤ) → expr_spelled (expr.Lit n) ≡ node.Lit n ∷ []
lit_spelled n = lit_fold (List Node) expr_spelled_step n

pub attr_spelled : (slot attr : ℕ) → expr_spelled (expr.Attr slot attr) ≡ node.Attr slot attr ∷ []
attr_spelled slot attr = attr_fold (List Node) expr_spelled_step slot attr

binary_spelled_layer : (o : Operator) (x y : List Node) → expr_spelled_step (binary_layer o x y) ≡ node.Binary o ∷ (x ++ y)
binary_spelled_layer Add x y = refl
binary_spelled_layer Sub x y = refl
binary_spelled_layer Mul x y = refl
binary_spelled_layer Div x y = refl
binary_spelled_layer Rem x y = refl
binary_spelled_layer Min x y = refl
binary_spelled_layer Max x y = refl

pub binary_spelled : (o : Operator) (a b : Expr) → expr_spelled (binary_by o a b) ≡ node.Binary o ∷ (expr_spelled a ++ expr_spelled b)
binary_spelled o a b = binary_fold (List Node) expr_spelled_step o a b ∙ binary_spelled_layer o (expr_spelled a) (expr_spelled b)

-- ---- conditions

abbrev pub compare_layer : {A : Type 0} → Comparison → Expr → Expr → Cond-F A
compare_layer Eq a b = Cond-F.Eq a b
compare_layer Lt a b = Cond-F.Lt a b
compare_layer Le a b = Cond-F.Le a b

abbrev pub join_layer : {A : Type 0} → Connective → A → A → Cond-F A
join_layer And a b = Cond-F.And a b
join_layer Or a b = Cond-F.Or a b

pub compare_fold : (A : Type 0) (step : Cond-F A → A) (o : Comparison) (a b : Expr) → fold-Cond A step (compare_by o a b) ≡ step (compare_layer o a b)
compare_fold A step Eq a b = ap (fold-Cond A step) (sym (test.rolls-Eq a b)) ∙ fold-roll-Cond A step (Cond-F.Eq a b)
compare_fold A step Lt a b = ap (fold-Cond A step) (sym (test.rolls-Lt a b)) ∙ fold-roll-Cond A step (Cond-F.Lt a b)
compare_fold A step Le a b = ap (fold-Cond A step) (sym (test.rolls-Le a b)) ∙ fold-roll-Cond A step (Cond-F.Le a b)

pub join_fold : (A : Type 0) (step : Cond-F A → A) (o : Connective) (a b : Cond) → fold-Cond A step (join_by o a b) ≡ step (join_layer o (fold-Cond A step a) (fold-Cond A step b))
join_fold A step And a b = ap (fold-Cond A step) (sym (test.rolls-And a b)) ∙ fold-roll-Cond A step (Cond-F.And a b)
join_fold A step Or a b = ap (fold-Cond A step) (sym (test.rolls-Or a b)) ∙ fold-roll-Cond A step (Cond-F.Or a b)

pub not_fold : (A : Type 0) (step : Cond-F A → A) (a : Cond) → fold-Cond A step (test.Not a) ≡ step (Cond-F.Not (fold-Cond A step a))
not_fold A step a = ap (fold-Cond A step) (sym (test.rolls-Not a)) ∙ fold-roll-Cond A step (Cond-F.Not a)

compare_spelled_layer : (o : Comparison) (a b : Expr) → cond_spelled_step (compare_layer o a b) ≡ node.Compare o ∷ (expr_spelled a ++ expr_spelled b)
compare_spelled_layer Eq a b = refl
compare_spelled_layer Lt a b = refl
compare_spelled_layer Le a b = refl

pub compare_spelled : (o : Comparison) (a b : Expr) → cond_spelled (compare_by o a b) ≡ node.Compare o ∷ (expr_spelled a ++ expr_spelled b)
compare_spelled o a b = compare_fold (List Node) cond_spelled_step o a b ∙ compare_spelled_layer o a b

join_spelled_layer : (o : Connective) (x y : List Node) → cond_spelled_step (join_layer o x y) ≡ node.Join o ∷ (x ++ y)
join_spelled_layer And x y = refl
join_spelled_layer Or x y = refl

pub join_spelled : (o : Connective) (a b : Cond) → cond_spelled (join_by o a b) ≡ node.Join o ∷ (cond_spelled a ++ cond_spelled b)
join_spelled o a b = join_fold (List Node) cond_spelled_step o a b ∙ join_spelled_layer o (cond_spelled a) (cond_spelled b)

pub not_spelled : (a : Cond) → cond_spelled (test.Not a) ≡ node.Not ∷ cond_spelled a
not_spelled a = not_fold (List Node) cond_spelled_step a

-- ---- statements

pub set_fold : (A : Type 0) (step : Stmt-F A → A) (slot attr : ℕ) (value : Expr) → fold-Stmt A step (stmt.Set slot attr value) ≡ step (Stmt-F.Set slot attr value)
set_fold A step slot attr value = ap (fold-Stmt A step) (sym (stmt.rolls-Set slot attr value)) ∙ fold-roll-Stmt A step (Stmt-F.Set slot attr value)

pub if_fold : (A : Type 0) (step : Stmt-F A → A) (c : Cond) (xs ys : List Stmt) → fold-Stmt A step (stmt.If c xs ys) ≡ step (Stmt-F.If c (map (fold-Stmt A step) xs) (map (fold-Stmt A step) ys))
if_fold A step c xs ys = ap (fold-Stmt A step) (sym (stmt.rolls-If c xs ys)) ∙ fold-roll-Stmt A step (Stmt-F.If c xs ys)

pub set_spelled : (slot attr : ℕ) (value : Expr) → stmt_spelled (stmt.Set slot attr value) ≡ node.Set slot attr ∷ expr_spelled value
set_spelled slot attr value = set_fold (List Node) stmt_spelled_step slot attr value

lengths_map : (xs : List Stmt) → length (map stmt_spelled xs) ≡ length xs
lengths_map [] = refl
lengths_map (x ∷ xs) = ap suc (lengths_map xs)

joined_map : (xs : List Stmt) → flat_map (λ (x : List Node). x) (map stmt_spelled xs) ≡ run_spelled xs
joined_map [] = refl
joined_map (x ∷ xs) = ap (λ (ns : List Node). stmt_spelled x ++ ns) (joined_map xs)

block_over : (xs : List Stmt) (n : ℕ) (run : List Node) → n ≡ length xs → run ≡ run_spelled xs → node.Block n (length run) ∷ run ≡ body_spelled xs
block_over xs n run e f = cc

pub block_map : (xs : List Stmt) → block_spelled (map stmt_spelled xs) ≡ body_spelled xs
block_map xs = block_over xs (length (map stmt_spelled xs)) (flat_map (λ (x : List Node). x) (map stmt_spelled xs)) (lengths_map xs) (joined_map xs)

pub if_spelled : (c : Cond) (xs ys : List Stmt) → stmt_spelled (stmt.If c xs ys) ≡ node.If ∷ (cond_spelled c ++ body_spelled xs ++ body_spelled ys)
if_spelled c xs ys =
    if_fold (List Node) stmt_spelled_step c xs ys
    ∙ ap (λ (ns : List Node). node.If ∷ (cond_spelled c ++ ns ++ block_spelled (map stmt_spelled ys))) (block_map xs)
    ∙ ap (λ (ns : List Node). node.If ∷ (cond_spelled c ++ body_spelled xs ++ ns)) (block_map ys)
