-- What is proved by hand of `beginnings_follow`.
use Rattle.sv_script.proofs.Beginnings.{beginnings-follow, traces-follow}
use Rattle.sv_script.proofs.following.beginnings_follow.Goals as goal

pub returns-clause-events : goal.returns-clause-events
returns-clause-events c = beginnings-follow

pub returns-clause-traces : goal.returns-clause-traces
returns-clause-traces c = traces-follow
