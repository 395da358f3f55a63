-- What the check leaves to prove of `Sequencer::new`.
use Rattle.sv_sequencer.proofs.Stepped.{as-opened}
use Rattle.sv_sequencer.proofs.sequencer.Sequencer.new.Goals as goal

pub invariant_of-result : goal.invariant_of-result
invariant_of-result c = as-opened c.in_ok-core.core c.in_ok-core.journal c.in_ok-core.ensures.empty c.in_ok-core.ensures.keeps c.in_ok-core.ensures.seats c.in_ok-core.ensures.room
