-- The actions that players made are those of their scripts.
use Rattle.sv_replay.proofs.Scripts.{actions_made}
use Rattle.sv_replay.proofs.laws.made_actions_fit.Goals as goal

pub returns : goal.returns
returns c = actions_made
