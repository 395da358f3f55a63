-- Whether two bodies are the same, by a test of their nodes.
use Rattle.std.specs.Prelude.{ℕ, ℤ, pos, Bool, true, false, ◌==◌, ◌&&◌, List, [], ◌∷◌}
use Rattle.std.specs.Ordering.{int_eq}
use Rattle.sv_world.specs.declared.action.Stmt.{Stmt}
use Rattle.sv_world.specs.declared.node.Node.{Node}
use Rattle.sv_world.specs.declared.node.Node.TheVariants as node
use Rattle.sv_world.specs.declared.node.Operator.{Operator}
use Rattle.sv_world.specs.declared.node.Operator.TheVariants.{Add, Sub, Mul, Div, Rem, Min, Max}
use Rattle.sv_world.specs.declared.node.Comparison.{Comparison}
use Rattle.sv_world.specs.declared.node.Comparison.TheVariants.{Eq, Lt, Le}
use Rattle.sv_world.specs.declared.node.Connective.{Connective}
use Rattle.sv_world.specs.declared.node.Connective.TheVariants.{And, Or}
use Rattle.sv_world.specs.Spelled.{body_spelled}

abbrev pub operator_number : Operator → ℕ
operator_number Add = 0
operator_number Sub = 1
operator_number Mul = 2
operator_number Div = 3
operator_number Rem = 4
operator_number Min = 5
operator_number Max = 6

abbrev pub comparison_number : Comparison → ℕ
comparison_number Eq = 0
comparison_number Lt = 1
comparison_number Le = 2

abbrev pub connective_number : Connective → ℕ
connective_number And = 0
connective_number Or = 1

-- A node's kind and its two fields, as numbers.
abbrev pub node_kind : Node → ℕ
node_kind (node.Lit n) = 0
node_kind (node.Attr slot attr) = 1
node_kind (node.Binary o) = 2
node_kind (node.Compare o) = 3
node_kind (node.Join o) = 4
node_kind node.Not = 5
node_kind (node.Set slot attr) = 6
node_kind node.If = 7
node_kind (node.Block count size) = 8

abbrev pub node_field : Node → ℤ
node_field (node.Lit n) = n
node_field (node.Attr slot attr) = pos slot
node_field (node.Binary o) = pos (operator_number o)
node_field (node.Compare o) = pos (comparison_number o)
node_field (node.Join o) = pos (connective_number o)
node_field node.Not = pos 0
node_field (node.Set slot attr) = pos slot
node_field node.If = pos 0
node_field (node.Block count size) = pos count

abbrev pub last_field : Node → ℕ
last_field (node.Lit n) = 0
last_field (node.Attr slot attr) = attr
last_field (node.Binary o) = 0
last_field (node.Compare o) = 0
last_field (node.Join o) = 0
last_field node.Not = 0
last_field (node.Set slot attr) = attr
last_field node.If = 0
last_field (node.Block count size) = size

-- The same kind, and the same fields.
abbrev pub is_same_node : Node → Node → Bool
is_same_node m n = node_kind m == node_kind n && int_eq (node_field m) (node_field n) && last_field m == last_field n

abbrev pub are_same_nodes : List Node → List Node → Bool
are_same_nodes [] [] = true
are_same_nodes (m ∷ ms) (n ∷ ns) = is_same_node m n && are_same_nodes ms ns
are_same_nodes _ _ = false

-- Two bodies are the same where their nodes are. A law says that this is equality.
unfoldable pub is_same_body : List Stmt → List Stmt → Bool
is_same_body xs ys = are_same_nodes (body_spelled xs) (body_spelled ys)
