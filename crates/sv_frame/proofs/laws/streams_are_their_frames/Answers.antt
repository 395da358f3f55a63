-- What is proved by hand of `streams_are_their_frames`.
use Rattle.sv_frame.proofs.Splitting.{split-exact}
use Rattle.sv_frame.proofs.laws.streams_are_their_frames.Goals as goal

pub returns : goal.returns
returns c = split-exact
