-- What the check leaves to prove of `full_replies_stay`.
use Rattle.sv_journal.proofs.Stays.{full_replies_stay}
use Rattle.sv_journal.proofs.laws.full_replies_stay.Goals as goal

pub returns : goal.returns
returns c = full_replies_stay
