-- The one payload of each message.
use Rattle.std.specs.Prelude.{ℕ, ℤ, List, [], ◌∷◌, ◌++◌, length, map}
use Rattle.std.specs.List.{flat_map}
use Rattle.std.specs.Int.{Width, w32, w64, byte_len, cast_unsigned}
use Rattle.byteorder.specs.Endian.{big_bytes}
use Rattle.sv_world.specs.declared.action.Action.{Action}
use Rattle.sv_world.specs.declared.action.Point.{Point}
use Rattle.sv_world.specs.declared.action.Expr.{Expr}
use Rattle.sv_world.specs.declared.action.Expr.TheOpen.{Expr-F}
use Rattle.sv_world.specs.declared.action.Expr.TheFolds.{fold-Expr}
use Rattle.sv_world.specs.declared.action.Cond.{Cond}
use Rattle.sv_world.specs.declared.action.Cond.TheOpen.{Cond-F}
use Rattle.sv_world.specs.declared.action.Cond.TheFolds.{fold-Cond}
use Rattle.sv_world.specs.declared.action.Stmt.{Stmt}
use Rattle.sv_world.specs.declared.action.Stmt.TheOpen.{Stmt-F}
use Rattle.sv_world.specs.declared.action.Stmt.TheFolds.{fold-Stmt}
use Rattle.sv_world.specs.declared.world.ObjectId.{ObjectId}
use Rattle.sv_world.specs.declared.node.Node.{Node}
use Rattle.sv_world.specs.declared.node.Node.TheVariants as node
use Rattle.sv_world.specs.declared.node.Operator.{Operator}
use Rattle.sv_world.specs.declared.node.Operator.TheVariants.{Add, Sub, Mul, Div, Rem, Min, Max}
use Rattle.sv_world.specs.declared.node.Comparison.{Comparison}
use Rattle.sv_world.specs.declared.node.Comparison.TheVariants.{Eq, Lt, Le}
use Rattle.sv_world.specs.declared.node.Connective.{Connective}
use Rattle.sv_world.specs.declared.node.Connective.TheVariants.{And, Or}
use Rattle.sv_wire.specs.declared.message.ObjectValue.{ObjectValue}
use Rattle.sv_wire.specs.declared.message.Done1.{Done1}
use Rattle.sv_wire.specs.declared.message.Item.{Item}
use Rattle.sv_wire.specs.declared.message.Request.{Request}
use Rattle.sv_wire.specs.declared.message.Request.TheVariants.{Join, Submit, Done, Poll, Observe, Leave, Bad, End}
use Rattle.sv_wire.specs.declared.message.Reply.{Reply}
use Rattle.sv_wire.specs.declared.message.Reply.TheVariants.{Welcome, Relay, Dropped, Denied, Seen, Settled, Noted, Idle, Refused, Bye}

-- a signed number, in two's complement
abbrev pub int_bytes : Width → ℤ → List ℕ
int_bytes w z = big_bytes (byte_len w) (cast_unsigned w z)

abbrev pub object_bytes : ObjectId → List ℕ
object_bytes o = big_bytes 2 o.0

-- a count, and the numbers
abbrev pub value_bytes : List ℤ → List ℕ
value_bytes v = length v ∷ flat_map (int_bytes w64) v

abbrev pub held_bytes : ObjectValue → List ℕ
held_bytes h = object_bytes h.object ++ value_bytes h.value

abbrev pub head_bytes : List ObjectValue → List ℕ
head_bytes head = big_bytes 2 (length head) ++ flat_map held_bytes head

abbrev pub result_bytes : Done1 → List ℕ
result_bytes r = big_bytes 4 r.pos ++ length r.values ∷ flat_map value_bytes r.values

-- The byte of a node that joins two parts.
abbrev pub operator_byte : Operator → ℕ
operator_byte Add = 0x22
operator_byte Sub = 0x23
operator_byte Mul = 0x24
operator_byte Div = 0x25
operator_byte Rem = 0x26
operator_byte Min = 0x27
operator_byte Max = 0x28

abbrev pub comparison_byte : Comparison → ℕ
comparison_byte Eq = 0x30
comparison_byte Lt = 0x31
comparison_byte Le = 0x32

abbrev pub connective_byte : Connective → ℕ
connective_byte And = 0x33
connective_byte Or = 0x34

-- A node is its own byte, and the bytes of its parts.
abbrev pub expr_bytes_step : Expr-F (List ℕ) → List ℕ
expr_bytes_step (Expr-F.Lit n) = 0x20 ∷ int_bytes w64 n
expr_bytes_step (Expr-F.Attr slot attr) = 0x21 ∷ slot ∷ attr ∷ []
expr_bytes_step (Expr-F.Add a b) = operator_byte Add ∷ (a ++ b)
expr_bytes_step (Expr-F.Sub a b) = operator_byte Sub ∷ (a ++ b)
expr_bytes_step (Expr-F.Mul a b) = operator_byte Mul ∷ (a ++ b)
expr_bytes_step (Expr-F.Div a b) = operator_byte Div ∷ (a ++ b)
expr_bytes_step (Expr-F.Rem a b) = operator_byte Rem ∷ (a ++ b)
expr_bytes_step (Expr-F.Min a b) = operator_byte Min ∷ (a ++ b)
expr_bytes_step (Expr-F.Max a b) = operator_byte Max ∷ (a ++ b)

abbrev pub expr_bytes : Expr → List ℕ
expr_bytes = fold-Expr (List ℕ) expr_bytes_step

abbrev pub cond_bytes_step : Cond-F (List ℕ) → List ℕ
cond_bytes_step (Cond-F.Eq a b) = comparison_byte Eq ∷ (expr_bytes a ++ expr_bytes b)
cond_bytes_step (Cond-F.Lt a b) = comparison_byte Lt ∷ (expr_bytes a ++ expr_bytes b)
cond_bytes_step (Cond-F.Le a b) = comparison_byte Le ∷ (expr_bytes a ++ expr_bytes b)
cond_bytes_step (Cond-F.And a b) = connective_byte And ∷ (a ++ b)
cond_bytes_step (Cond-F.Or a b) = connective_byte Or ∷ (a ++ b)
cond_bytes_step (Cond-F.Not a) = 0x35 ∷ a

abbrev pub cond_bytes : Cond → List ℕ
cond_bytes = fold-Cond (List ℕ) cond_bytes_step

-- a count, and the parts
abbrev pub with_count : List (List ℕ) → List ℕ
with_count parts = length parts ∷ flat_map (λ x. x) parts

abbrev pub stmt_bytes_step : Stmt-F (List ℕ) → List ℕ
stmt_bytes_step (Stmt-F.Set slot attr expr) = 0x10 ∷ slot ∷ attr ∷ expr_bytes expr
stmt_bytes_step (Stmt-F.If c xs ys) = 0x11 ∷ (cond_bytes c ++ with_count xs ++ with_count ys)

abbrev pub stmt_bytes : Stmt → List ℕ
stmt_bytes = fold-Stmt (List ℕ) stmt_bytes_step

abbrev pub body_bytes : List Stmt → List ℕ
body_bytes body = with_count (map stmt_bytes body)

-- The bytes of one node of a body.
abbrev pub node_bytes : Node → List ℕ
node_bytes (node.Lit n) = 0x20 ∷ int_bytes w64 n
node_bytes (node.Attr slot attr) = 0x21 ∷ slot ∷ attr ∷ []
node_bytes (node.Binary o) = operator_byte o ∷ []
node_bytes (node.Compare o) = comparison_byte o ∷ []
node_bytes (node.Join o) = connective_byte o ∷ []
node_bytes node.Not = 0x35 ∷ []
node_bytes (node.Set slot attr) = 0x10 ∷ slot ∷ attr ∷ []
node_bytes node.If = 0x11 ∷ []
node_bytes (node.Block count size) = count ∷ []

abbrev pub point_bytes : Point → List ℕ
point_bytes p = int_bytes w32 p.x ++ int_bytes w32 p.y

abbrev pub action_bytes : Action → List ℕ
action_bytes a = length a.reads ∷ flat_map object_bytes a.reads ++ big_bytes 2 a.mask ++ point_bytes a.origin ++ body_bytes a.body

abbrev pub item_bytes : Item → List ℕ
item_bytes i = big_bytes 4 i.pos ++ big_bytes 2 i.client.0 ++ big_bytes 4 i.seq ++ action_bytes i.action

-- A head, and the actions that are evaluated on it.
abbrev pub work_bytes : List ObjectValue → List Item → List ℕ
work_bytes head items = head_bytes head ++ length items ∷ flat_map item_bytes items

-- The payload of a request. Bad and End have none.
unfoldable pub request_bytes : Request → List ℕ
request_bytes (Join client life interest) = 0x01 ∷ big_bytes 2 client.0 ++ big_bytes 4 life ++ length interest ∷ flat_map object_bytes interest
request_bytes (Submit seq action) = 0x06 ∷ big_bytes 4 seq ++ action_bytes action
request_bytes (Done results) = 0x03 ∷ length results ∷ flat_map result_bytes results
request_bytes Poll = 0x04 ∷ []
request_bytes (Observe objects wait) = 0x07 ∷ length objects ∷ flat_map object_bytes objects ++ big_bytes 2 wait
request_bytes Leave = 0x05 ∷ []
request_bytes Bad = []
request_bytes End = []

unfoldable pub reply_bytes : Reply → List ℕ
reply_bytes (Welcome commit head) = 0x81 ∷ big_bytes 4 commit ++ head_bytes head
reply_bytes (Relay seq commit head items) = 0x89 ∷ big_bytes 4 seq ++ big_bytes 4 commit ++ work_bytes head items
reply_bytes (Dropped seq chain far) = 0x8a ∷ big_bytes 4 seq ++ big_bytes 4 chain ++ big_bytes 4 far
reply_bytes (Denied seq object) = 0x8c ∷ big_bytes 4 seq ++ object_bytes object
reply_bytes (Seen last commit head items) = 0x8b ∷ big_bytes 4 last ++ big_bytes 4 commit ++ work_bytes head items
reply_bytes (Settled seq pos) = 0x84 ∷ big_bytes 4 seq ++ big_bytes 4 pos
reply_bytes (Noted commit) = 0x85 ∷ big_bytes 4 commit
reply_bytes Idle = 0x86 ∷ []
reply_bytes (Refused code detail) = 0x87 ∷ code ∷ big_bytes 4 detail
reply_bytes Bye = 0x88 ∷ []
