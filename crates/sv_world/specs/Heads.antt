-- What the first of some nodes says.
use Rattle.std.specs.Prelude.{ℕ, List}
use Rattle.sv_world.specs.declared.action.Expr.TheVariants as expr
use Rattle.sv_world.specs.declared.heads.ExprHead.{ExprHead}
use Rattle.sv_world.specs.declared.heads.ExprHead.TheVariants as expr_head
use Rattle.sv_world.specs.declared.heads.CondHead.{CondHead}
use Rattle.sv_world.specs.declared.heads.CondHead.TheVariants as cond_head
use Rattle.sv_world.specs.declared.heads.StmtHead.{StmtHead}
use Rattle.sv_world.specs.declared.heads.StmtHead.TheVariants as stmt_head
use Rattle.sv_world.specs.Parts.{Part, Expression, first, second, third, binary, comparison, connective, negated, assignment, choice}

-- The part that a head makes of the parts behind it, and how many it takes.
abbrev pub expr_over : ExprHead → List Part → Part
expr_over (expr_head.Lit n) ps = Expression (expr.Lit n)
expr_over (expr_head.Attr slot attr) ps = Expression (expr.Attr slot attr)
expr_over (expr_head.Binary o) ps = binary o (first ps) (second ps)

abbrev pub expr_arity : ExprHead → ℕ
expr_arity (expr_head.Lit n) = 0
expr_arity (expr_head.Attr slot attr) = 0
expr_arity (expr_head.Binary o) = 2

abbrev pub cond_over : CondHead → List Part → Part
cond_over (cond_head.Compare o) ps = comparison o (first ps) (second ps)
cond_over (cond_head.Join o) ps = connective o (first ps) (second ps)
cond_over cond_head.Not ps = negated (first ps)

abbrev pub cond_arity : CondHead → ℕ
cond_arity (cond_head.Compare o) = 2
cond_arity (cond_head.Join o) = 2
cond_arity cond_head.Not = 1

abbrev pub stmt_over : StmtHead → List Part → Part
stmt_over (stmt_head.Set slot attr) ps = assignment slot attr (first ps)
stmt_over stmt_head.If ps = choice (first ps) (second ps) (third ps)

abbrev pub stmt_arity : StmtHead → ℕ
stmt_arity (stmt_head.Set slot attr) = 1
stmt_arity stmt_head.If = 3
