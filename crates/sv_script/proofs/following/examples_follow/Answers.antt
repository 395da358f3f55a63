-- What is proved by hand of `examples_follow`.
use Rattle.sv_script.proofs.Examples.{shown-follows, unsynced-not, quit-follows, cut-follows}
use Rattle.sv_script.proofs.following.examples_follow.Goals as goal

pub returns : goal.returns
returns c = record { shown = shown-follows; unsynced = unsynced-not; quit = quit-follows; cut = cut-follows }
