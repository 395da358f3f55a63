-- What bytes mean as a world file is good.
use Rattle.sv_worldfile.proofs.Kept.{file_good}
use Rattle.sv_worldfile.proofs.laws.world_files_keep_the_limits.Goals as goal

pub returns : goal.returns
returns c = file_good
