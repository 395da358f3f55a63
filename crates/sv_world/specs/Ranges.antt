-- Which numbers objects and the nodes of a body have: each is one of its type. So it always is, but contracts know it only of a number that
-- is read.
use Rattle.std.specs.Prelude.{ℕ, zero, suc, ◌<◌, Bool, true, false, ◌&&◌, nat_lt, ℤ, pos, negsuc, int_le, List, map}
use Rattle.sv_world.specs.Trees.{all_true}
use Rattle.sv_world.specs.declared.action.Expr.{Expr}
use Rattle.sv_world.specs.declared.action.Expr.TheOpen.{Expr-F}
use Rattle.sv_world.specs.declared.action.Expr.TheFolds.{fold-Expr}
use Rattle.sv_world.specs.declared.action.Cond.{Cond}
use Rattle.sv_world.specs.declared.action.Cond.TheOpen.{Cond-F}
use Rattle.sv_world.specs.declared.action.Cond.TheFolds.{fold-Cond}
use Rattle.sv_world.specs.declared.action.Stmt.{Stmt}
use Rattle.sv_world.specs.declared.action.Stmt.TheOpen.{Stmt-F}
use Rattle.sv_world.specs.declared.action.Stmt.TheFolds.{fold-Stmt}
use Rattle.sv_world.specs.declared.world.ObjectId.{ObjectId}
use Rattle.sv_world.specs.declared.node.Node.{Node}
use Rattle.sv_world.specs.declared.node.Node.TheVariants as node

-- whether a number is one of 64 bits
abbrev pub is_i64 : ℤ → Bool
is_i64 z = int_le (negsuc 9223372036854775807) z && int_le z (pos 9223372036854775807)

abbrev pub is_byte : ℕ → Bool
is_byte n = nat_lt n 256

abbrev pub is_zero : ℤ → Bool
is_zero (pos zero) = true
is_zero (pos (suc n)) = false
is_zero (negsuc n) = false

abbrev pub ObjectFits : ObjectId → Type 0
ObjectFits o = o.0 < 65536

abbrev pub expr_fits_step : Expr-F Bool → Bool
expr_fits_step (Expr-F.Lit n) = is_i64 n
expr_fits_step (Expr-F.Attr slot attr) = is_byte slot && is_byte attr
expr_fits_step (Expr-F.Add x y) = x && y
expr_fits_step (Expr-F.Sub x y) = x && y
expr_fits_step (Expr-F.Mul x y) = x && y
expr_fits_step (Expr-F.Div x y) = x && y
expr_fits_step (Expr-F.Rem x y) = x && y
expr_fits_step (Expr-F.Min x y) = x && y
expr_fits_step (Expr-F.Max x y) = x && y

abbrev pub expr_fits : Expr → Bool
expr_fits = fold-Expr Bool expr_fits_step

abbrev pub cond_fits_step : Cond-F Bool → Bool
cond_fits_step (Cond-F.Eq x y) = expr_fits x && expr_fits y
cond_fits_step (Cond-F.Lt x y) = expr_fits x && expr_fits y
cond_fits_step (Cond-F.Le x y) = expr_fits x && expr_fits y
cond_fits_step (Cond-F.And x y) = x && y
cond_fits_step (Cond-F.Or x y) = x && y
cond_fits_step (Cond-F.Not x) = x

abbrev pub cond_fits : Cond → Bool
cond_fits = fold-Cond Bool cond_fits_step

abbrev pub stmt_fits_step : Stmt-F Bool → Bool
stmt_fits_step (Stmt-F.Set slot attr value) = is_byte slot && (is_byte attr && expr_fits value)
stmt_fits_step (Stmt-F.If c xs ys) = cond_fits c && (all_true xs && all_true ys)

abbrev pub stmt_fits : Stmt → Bool
stmt_fits = fold-Stmt Bool stmt_fits_step

abbrev pub body_fits : List Stmt → Bool
body_fits body = all_true (map stmt_fits body)

-- the same of one node alone
abbrev pub node_fits : Node → Bool
node_fits (node.Lit n) = is_i64 n
node_fits (node.Attr slot attr) = is_byte slot && is_byte attr
node_fits (node.Binary o) = true
node_fits (node.Compare o) = true
node_fits (node.Join o) = true
node_fits node.Not = true
node_fits (node.Set slot attr) = is_byte slot && is_byte attr
node_fits node.If = true
node_fits (node.Block count size) = true
