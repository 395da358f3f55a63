-- What is proved by hand of `frames_are_apart`.
use Rattle.sv_frame.proofs.Splitting.{frames-apart}
use Rattle.sv_frame.proofs.laws.frames_are_apart.Goals as goal

pub returns : goal.returns
returns c = frames-apart
