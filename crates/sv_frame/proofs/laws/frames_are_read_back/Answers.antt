-- What is proved by hand of `frames_are_read_back`.
use Rattle.sv_frame.proofs.Splitting.{split-frames_of, split-all_frames}
use Rattle.sv_frame.proofs.laws.frames_are_read_back.Goals as goal

pub returns : goal.returns
returns c = record { whole = split-all_frames; followed = split-frames_of }
