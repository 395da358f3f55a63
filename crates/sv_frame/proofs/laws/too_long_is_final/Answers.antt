-- What is proved by hand of `too_long_is_final`.
use Rattle.sv_frame.proofs.Fronts.{too_long-over, too_long-append, no_frame_if_too_long}
use Rattle.sv_frame.proofs.Splitting.{incoming-final}
use Rattle.sv_frame.proofs.laws.too_long_is_final.Goals as goal

pub returns : goal.returns
returns c = record { over = too_long-over; stays = too_long-append; no_frame = no_frame_if_too_long; last = incoming-final }
