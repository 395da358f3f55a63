-- What is proved by hand of `streams_may_be_cut`.
use Rattle.sv_frame.proofs.Splitting.{split-append, incoming-append}
use Rattle.sv_frame.proofs.laws.streams_may_be_cut.Goals as goal

pub returns : goal.returns
returns c = record { payloads = split-append; items = incoming-append }
