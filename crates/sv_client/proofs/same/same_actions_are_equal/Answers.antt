-- What is proved by hand of `same_actions_are_equal`.
use Rattle.std.proofs.Common.{◌≡◌, true, subst}
use Rattle.sv_world.specs.declared.action.Action.{Action}
use Rattle.sv_client.specs.Same.{is_same_action}
use Rattle.sv_client.proofs.Equal.{action_same, action_own}
use Rattle.sv_client.proofs.same.same_actions_are_equal.Goals as goal

pub returns : goal.returns
returns c = λ a b. (action_same a b, λ e. subst (λ (x : Action). is_same_action a x ≡ true) e (action_own a))
