-- Bodies that pass the test are equal, and equal ones pass it.
use Rattle.std.proofs.Common.{◌≡◌, List, true, subst}
use Rattle.sv_world.specs.Same.{is_same_body}
use Rattle.sv_world.specs.declared.action.Stmt.{Stmt}
use Rattle.sv_world.proofs.Same.{body_same, body_own}
use Rattle.sv_world.proofs.equal.same_bodies_are_equal.Goals as goal

pub returns : goal.returns
returns c = λ a b. (body_same a b, λ e. subst (λ (x : List Stmt). is_same_body a x ≡ true) e (body_own a))
