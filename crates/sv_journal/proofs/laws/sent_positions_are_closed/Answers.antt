-- What the check leaves to prove of `sent_positions_are_closed`.
use Rattle.sv_journal.proofs.Closed.{legal_sent_is_closed, served_sent_is_closed}
use Rattle.sv_journal.proofs.laws.sent_positions_are_closed.Goals as goal

pub returns : goal.returns
returns c = record {
  legal = legal_sent_is_closed c.missing_influences_ascend.ensures.within;
  served = served_sent_is_closed c.missing_influences_ascend.ensures.within;
}
