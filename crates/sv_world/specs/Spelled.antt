-- The nodes of a tree, each before its parts.
use Rattle.std.specs.Prelude.{List, [], ◌∷◌, ◌++◌, length}
use Rattle.std.specs.List.{flat_map}
use Rattle.sv_world.specs.declared.action.Expr.{Expr}
use Rattle.sv_world.specs.declared.action.Expr.TheOpen.{Expr-F}
use Rattle.sv_world.specs.declared.action.Expr.TheFolds.{fold-Expr}
use Rattle.sv_world.specs.declared.action.Cond.{Cond}
use Rattle.sv_world.specs.declared.action.Cond.TheOpen.{Cond-F}
use Rattle.sv_world.specs.declared.action.Cond.TheFolds.{fold-Cond}
use Rattle.sv_world.specs.declared.action.Stmt.{Stmt}
use Rattle.sv_world.specs.declared.action.Stmt.TheOpen.{Stmt-F}
use Rattle.sv_world.specs.declared.action.Stmt.TheFolds.{fold-Stmt}
use Rattle.sv_world.specs.declared.node.Node.{Node}
use Rattle.sv_world.specs.declared.node.Node.TheVariants as node
use Rattle.sv_world.specs.declared.node.Operator.TheVariants.{Add, Sub, Mul, Div, Rem, Min, Max}
use Rattle.sv_world.specs.declared.node.Comparison.TheVariants.{Eq, Lt, Le}
use Rattle.sv_world.specs.declared.node.Connective.TheVariants.{And, Or}

-- A node is itself, and the nodes of its parts.
abbrev pub expr_spelled_step : Expr-F (List Node) → List Node
expr_spelled_step (Expr-F.Lit n) = node.Lit n ∷ []
expr_spelled_step (Expr-F.Attr slot attr) = node.Attr slot attr ∷ []
expr_spelled_step (Expr-F.Add a b) = node.Binary Add ∷ (a ++ b)
expr_spelled_step (Expr-F.Sub a b) = node.Binary Sub ∷ (a ++ b)
expr_spelled_step (Expr-F.Mul a b) = node.Binary Mul ∷ (a ++ b)
expr_spelled_step (Expr-F.Div a b) = node.Binary Div ∷ (a ++ b)
expr_spelled_step (Expr-F.Rem a b) = node.Binary Rem ∷ (a ++ b)
expr_spelled_step (Expr-F.Min a b) = node.Binary Min ∷ (a ++ b)
expr_spelled_step (Expr-F.Max a b) = node.Binary Max ∷ (a ++ b)

abbrev pub expr_spelled : Expr → List Node
expr_spelled = fold-Expr (List Node) expr_spelled_step

abbrev pub cond_spelled_step : Cond-F (List Node) → List Node
cond_spelled_step (Cond-F.Eq a b) = node.Compare Eq ∷ (expr_spelled a ++ expr_spelled b)
cond_spelled_step (Cond-F.Lt a b) = node.Compare Lt ∷ (expr_spelled a ++ expr_spelled b)
cond_spelled_step (Cond-F.Le a b) = node.Compare Le ∷ (expr_spelled a ++ expr_spelled b)
cond_spelled_step (Cond-F.And a b) = node.Join And ∷ (a ++ b)
cond_spelled_step (Cond-F.Or a b) = node.Join Or ∷ (a ++ b)
cond_spelled_step (Cond-F.Not a) = node.Not ∷ a

abbrev pub cond_spelled : Cond → List Node
cond_spelled = fold-Cond (List Node) cond_spelled_step

-- a block of statements: how many they are, how many nodes they have, and these nodes
abbrev pub block_spelled : List (List Node) → List Node
block_spelled parts = node.Block (length parts) (length (flat_map (λ x. x) parts)) ∷ flat_map (λ x. x) parts

abbrev pub stmt_spelled_step : Stmt-F (List Node) → List Node
stmt_spelled_step (Stmt-F.Set slot attr value) = node.Set slot attr ∷ expr_spelled value
stmt_spelled_step (Stmt-F.If c xs ys) = node.If ∷ (cond_spelled c ++ block_spelled xs ++ block_spelled ys)

abbrev pub stmt_spelled : Stmt → List Node
stmt_spelled = fold-Stmt (List Node) stmt_spelled_step

-- statements one after the other
abbrev pub run_spelled : List Stmt → List Node
run_spelled body = flat_map stmt_spelled body

abbrev pub body_spelled : List Stmt → List Node
body_spelled body = node.Block (length body) (length (run_spelled body)) ∷ run_spelled body
