-- A stream that was cut has the frames of the first payloads.
use Rattle.law_traffic.proofs.Cuts.{cut_frames_are_front_frames}
use Rattle.law_traffic.proofs.cutting.cut_frames_are_front_frames.Goals as goal

pub returns : goal.returns
returns c = cut_frames_are_front_frames
