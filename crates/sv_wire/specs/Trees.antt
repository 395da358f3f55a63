-- Reading the body of an action. The depth is the number of levels that are left, and nodes the number of nodes so far.
use Rattle.std.specs.Prelude.{ℕ, zero, suc, ◌+◌, List, ◌++◌, Result, Ok, Err}
use Rattle.std.specs.Int.{w64}
use Rattle.sv_world.specs.Limits.{most_depth}
use Rattle.sv_world.specs.declared.action.Expr.{Expr}
use Rattle.sv_world.specs.declared.action.Expr.TheVariants as expr
use Rattle.sv_world.specs.declared.action.Cond.{Cond}
use Rattle.sv_world.specs.declared.action.Cond.TheVariants as test
use Rattle.sv_world.specs.declared.action.Stmt.{Stmt}
use Rattle.sv_world.specs.declared.action.Stmt.TheVariants as stmt
use Rattle.sv_wire.specs.declared.fault.WireCause.TheVariants.{Deep}
use Rattle.sv_wire.specs.declared.fault.DecodeFault.{DecodeFault}
use Rattle.sv_wire.specs.declared.exprs.BodyReader.{BodyReader}
use Rattle.sv_world.specs.declared.node.Node.{Node}
use Rattle.sv_world.specs.declared.node.Operator.{Operator}
use Rattle.sv_world.specs.declared.node.Comparison.{Comparison}
use Rattle.sv_world.specs.declared.node.Connective.{Connective}
use Rattle.sv_wire.specs.declared.nodes.ExprKind.{ExprKind}
use Rattle.sv_wire.specs.declared.nodes.ExprKind.TheVariants as expr_kind
use Rattle.sv_wire.specs.declared.nodes.CondKind.{CondKind}
use Rattle.sv_wire.specs.declared.nodes.CondKind.TheVariants as cond_kind
use Rattle.sv_wire.specs.declared.nodes.StmtKind.{StmtKind}
use Rattle.sv_wire.specs.declared.nodes.StmtKind.TheVariants as stmt_kind
use Rattle.sv_world.specs.Parts.{binary_by as expr_by, compare_by, join_by}
use Rattle.sv_wire.specs.Steps.{Read, Turn, ◌>>=◌, stop, Gives, in_turn}
use Rattle.sv_wire.specs.Fields.{byte_from, int_from}
use Rattle.sv_wire.specs.Nodes.{node_from, expr_kind_of, cond_kind_of, stmt_kind_of}

-- Reads a tree: the number of nodes so far, and the bytes.
abbrev pub Reader : Type 0 → Type 0
Reader A = ℕ → List ℕ → Turn A

-- Below the last level nothing is read.
abbrev pub no_level : {A : Type 0} → Reader A
no_level nodes bytes = stop bytes Deep

unfoldable pub lit_from : Reader Expr
lit_from nodes bytes = do
  n ← int_from w64 bytes
  Ok (expr.Lit n.0, nodes, n.1)

unfoldable pub attr_from : Reader Expr
attr_from nodes bytes = do
  slot ← byte_from bytes
  attr ← byte_from slot.1
  Ok (expr.Attr slot.0 attr.0, nodes, attr.1)

-- two trees, and what they make together
abbrev pub two_from : {A B : Type 0} → Reader A → (A → A → B) → Reader B
two_from reader make nodes bytes = do
  a ← reader nodes bytes
  b ← reader a.1 a.2
  Ok (make a.0 b.0, b.1, b.2)

unfoldable pub pair_from : Reader Expr → Operator → Reader Expr
pair_from reader operator nodes bytes = two_from reader (expr_by operator) nodes bytes

-- the rest of an expression of a kind
abbrev pub expr_of : Reader Expr → ExprKind → Reader Expr
expr_of reader expr_kind.Lit nodes bytes = lit_from nodes bytes
expr_of reader expr_kind.Attr nodes bytes = attr_from nodes bytes
expr_of reader (expr_kind.Both operator) nodes bytes = pair_from reader operator nodes bytes

-- an expression whose operands are read by reader
unfoldable pub expr_level : Reader Expr → ℕ → Reader Expr
expr_level reader depth nodes bytes = do
  kind ← node_from expr_kind_of depth nodes bytes
  expr_of reader kind.0 (nodes + 1) kind.1

unfoldable pub expr_from : ℕ → Reader Expr
expr_from zero nodes bytes = expr_level no_level 0 nodes bytes
expr_from (suc depth) nodes bytes = expr_level (λ n rest. expr_from depth n rest) (suc depth) nodes bytes

unfoldable pub compare_from : Reader Expr → Comparison → Reader Cond
compare_from reader comparison nodes bytes = two_from reader (compare_by comparison) nodes bytes

unfoldable pub join_from : Reader Cond → Connective → Reader Cond
join_from reader connective nodes bytes = two_from reader (join_by connective) nodes bytes

unfoldable pub not_from : Reader Cond → Reader Cond
not_from reader nodes bytes = do
  a ← reader nodes bytes
  Ok (test.Not a.0, a.1, a.2)

abbrev pub cond_of : Reader Expr → Reader Cond → CondKind → Reader Cond
cond_of exprs conds (cond_kind.Compare comparison) nodes bytes = compare_from exprs comparison nodes bytes
cond_of exprs conds (cond_kind.Both connective) nodes bytes = join_from conds connective nodes bytes
cond_of exprs conds cond_kind.Not nodes bytes = not_from conds nodes bytes

unfoldable pub cond_level : Reader Expr → Reader Cond → ℕ → Reader Cond
cond_level exprs conds depth nodes bytes = do
  kind ← node_from cond_kind_of depth nodes bytes
  cond_of exprs conds kind.0 (nodes + 1) kind.1

unfoldable pub cond_from : ℕ → Reader Cond
cond_from zero nodes bytes = cond_level no_level no_level 0 nodes bytes
cond_from (suc depth) nodes bytes = cond_level (λ n rest. expr_from depth n rest) (λ n rest. cond_from depth n rest) (suc depth) nodes bytes

unfoldable pub set_from : Reader Expr → Reader Stmt
set_from exprs nodes bytes = do
  slot ← byte_from bytes
  attr ← byte_from slot.1
  value ← exprs nodes attr.1
  Ok (stmt.Set slot.0 attr.0 value.0, value.1, value.2)

-- a count, and that many statements
unfoldable pub list_by : Reader Stmt → Reader (List Stmt)
list_by stmts nodes bytes = do
  n ← byte_from bytes
  in_turn stmts n.0 nodes n.1

-- the last list of an If
unfoldable pub other_from : Reader Stmt → Cond → List Stmt → Reader Stmt
other_from stmts c body nodes bytes = do
  other ← list_by stmts nodes bytes
  Ok (stmt.If c body other.0, other.1, other.2)

-- both lists of an If
unfoldable pub lists_from : Reader Stmt → Cond → Reader Stmt
lists_from stmts c nodes bytes = do
  body ← list_by stmts nodes bytes
  other_from stmts c body.0 body.1 body.2

unfoldable pub if_from : Reader Cond → Reader Stmt → Reader Stmt
if_from conds stmts nodes bytes = do
  c ← conds nodes bytes
  lists_from stmts c.0 c.1 c.2

abbrev pub stmt_of : Reader Expr → Reader Cond → Reader Stmt → StmtKind → Reader Stmt
stmt_of exprs conds stmts stmt_kind.Set nodes bytes = set_from exprs nodes bytes
stmt_of exprs conds stmts stmt_kind.If nodes bytes = if_from conds stmts nodes bytes

unfoldable pub stmt_level : Reader Expr → Reader Cond → Reader Stmt → ℕ → Reader Stmt
stmt_level exprs conds stmts depth nodes bytes = do
  kind ← node_from stmt_kind_of depth nodes bytes
  stmt_of exprs conds stmts kind.0 (nodes + 1) kind.1

unfoldable pub stmt_from : ℕ → Reader Stmt
stmt_from zero nodes bytes = stmt_level no_level no_level no_level 0 nodes bytes
stmt_from (suc depth) nodes bytes = stmt_level (λ n rest. expr_from depth n rest) (λ n rest. cond_from depth n rest) (λ n rest. stmt_from depth n rest) (suc depth) nodes bytes

-- a body, whose statements have all levels
unfoldable pub body_from : List ℕ → Read (List Stmt)
body_from bytes = do
  body ← list_by (λ n rest. stmt_from most_depth n rest) 0 bytes
  Ok (body.0, body.2)

-- The same with a tree's nodes behind older ones in place of the tree.
abbrev pub appended : {A : Type 0} → (A → List Node) → List Node → Turn A → Turn (List Node)
appended spelled old (Ok x) = Ok (old ++ spelled x.0, x.1, x.2)
appended spelled old (Err e) = Err e

-- What a call answers that reads a tree and appends its nodes, by the body that is read before and after it.
abbrev pub Appends : {A X : Type 0} → (A → List Node) → Reader A → BodyReader → Result X DecodeFault → BodyReader → Type 0
Appends spelled read old answer new = Gives (λ _. (new.out.items, new.nodes, new.rest.now)) answer (appended spelled old.out.items (read old.nodes old.rest.now))
