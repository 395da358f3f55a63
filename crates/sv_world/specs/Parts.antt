-- The trees that a list of nodes spells, one after the other.
use Rattle.std.specs.Prelude.{◌≡◌, ℕ, zero, suc, Bool, true, false, List, [], ◌∷◌, length, drop, nat_eq}
use Rattle.sv_world.specs.declared.action.Expr.{Expr}
use Rattle.sv_world.specs.declared.action.Expr.TheVariants as expr
use Rattle.sv_world.specs.declared.action.Cond.{Cond}
use Rattle.sv_world.specs.declared.action.Cond.TheVariants as test
use Rattle.sv_world.specs.declared.action.Stmt.{Stmt}
use Rattle.sv_world.specs.declared.action.Stmt.TheVariants as stmt
use Rattle.sv_world.specs.declared.node.Node.{Node}
use Rattle.sv_world.specs.declared.node.Node.TheVariants as node
use Rattle.sv_world.specs.declared.node.Operator.{Operator}
use Rattle.sv_world.specs.declared.node.Operator.TheVariants.{Add, Sub, Mul, Div, Rem, Min, Max}
use Rattle.sv_world.specs.declared.node.Comparison.{Comparison}
use Rattle.sv_world.specs.declared.node.Comparison.TheVariants.{Eq, Lt, Le}
use Rattle.sv_world.specs.declared.node.Connective.{Connective}
use Rattle.sv_world.specs.declared.node.Connective.TheVariants.{And, Or}
use Rattle.sv_world.specs.Spelled.{run_spelled}

-- The expression of an operator, and the conditions of a comparison and a connective.
abbrev pub binary_by : Operator → Expr → Expr → Expr
binary_by Add a b = expr.Add a b
binary_by Sub a b = expr.Sub a b
binary_by Mul a b = expr.Mul a b
binary_by Div a b = expr.Div a b
binary_by Rem a b = expr.Rem a b
binary_by Min a b = expr.Min a b
binary_by Max a b = expr.Max a b

abbrev pub compare_by : Comparison → Expr → Expr → Cond
compare_by Eq a b = test.Eq a b
compare_by Lt a b = test.Lt a b
compare_by Le a b = test.Le a b

abbrev pub join_by : Connective → Cond → Cond → Cond
join_by And a b = test.And a b
join_by Or a b = test.Or a b

-- What some nodes spell: a tree, or nothing.
pub data Part : Type 0 where
  Expression : Expr → Part
  Condition : Cond → Part
  Statement : Stmt → Part
  Block : List Stmt → Part
  Bad : Part

abbrev pub first : List Part → Part
first [] = Bad
first (p ∷ ps) = p

abbrev pub second : List Part → Part
second ps = first (drop 1 ps)

abbrev pub third : List Part → Part
third ps = first (drop 2 ps)

-- What a node makes of its parts.
abbrev pub binary : Operator → Part → Part → Part
binary o (Expression a) (Expression b) = Expression (binary_by o a b)
binary o p q = Bad

abbrev pub comparison : Comparison → Part → Part → Part
comparison o (Expression a) (Expression b) = Condition (compare_by o a b)
comparison o p q = Bad

abbrev pub connective : Connective → Part → Part → Part
connective o (Condition a) (Condition b) = Condition (join_by o a b)
connective o p q = Bad

abbrev pub negated : Part → Part
negated (Condition a) = Condition (test.Not a)
negated p = Bad

abbrev pub assignment : ℕ → ℕ → Part → Part
assignment slot attr (Expression a) = Statement (stmt.Set slot attr a)
assignment slot attr p = Bad

abbrev pub choice : Part → Part → Part → Part
choice (Condition c) (Block xs) (Block ys) = Statement (stmt.If c xs ys)
choice p q r = Bad

abbrev pub with_statement : Part → Part → Part
with_statement (Statement s) (Block xs) = Block (s ∷ xs)
with_statement p q = Bad

-- A block of so many statements.
abbrev pub block : ℕ → List Part → Part
block zero ps = Block []
block (suc n) [] = Bad
block (suc n) (p ∷ ps) = with_statement p (block n ps)

abbrev pub kept : Bool → List Stmt → Part
kept true xs = Block xs
kept false xs = Bad

-- A block whose statements have so many nodes.
abbrev pub sized : ℕ → Part → Part
sized size (Block xs) = kept (nat_eq size (length (run_spelled xs))) xs
sized size p = Bad

abbrev pub part_of : Node → List Part → Part
part_of (node.Lit n) ps = Expression (expr.Lit n)
part_of (node.Attr slot attr) ps = Expression (expr.Attr slot attr)
part_of (node.Binary o) ps = binary o (first ps) (second ps)
part_of (node.Compare o) ps = comparison o (first ps) (second ps)
part_of (node.Join o) ps = connective o (first ps) (second ps)
part_of node.Not ps = negated (first ps)
part_of (node.Set slot attr) ps = assignment slot attr (first ps)
part_of node.If ps = choice (first ps) (second ps) (third ps)
part_of (node.Block count size) ps = sized size (block count ps)

-- How many parts a node has.
abbrev pub arity : Node → ℕ
arity (node.Lit n) = 0
arity (node.Attr slot attr) = 0
arity (node.Binary o) = 2
arity (node.Compare o) = 2
arity (node.Join o) = 2
arity node.Not = 1
arity (node.Set slot attr) = 1
arity node.If = 3
arity (node.Block count size) = count

-- The trees that stand one after the other. Each node takes its parts away, also where they spell nothing.
abbrev pub parts : List Node → List Part
parts [] = []
parts (n ∷ ns) = part_of n (parts ns) ∷ drop (arity n) (parts ns)

abbrev pub is_expr : Part → Bool
is_expr (Expression e) = true
is_expr p = false

abbrev pub is_cond : Part → Bool
is_cond (Condition c) = true
is_cond p = false

abbrev pub is_stmt : Part → Bool
is_stmt (Statement s) = true
is_stmt p = false

abbrev pub is_block : Part → Bool
is_block (Block xs) = true
is_block p = false

-- The statements of a block.
abbrev pub block_in : Part → List Stmt
block_in (Block xs) = xs
block_in p = []

-- The nodes spell one block and nothing more.
abbrev pub IsBody : List Node → Type 0
IsBody nodes = parts nodes ≡ Block (block_in (first (parts nodes))) ∷ []
