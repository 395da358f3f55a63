-- What the check leaves to prove of `counts_have_an_end`.
use Rattle.sv_journal.proofs.Rightful.{legal_counts_end, served_counts_end}
use Rattle.sv_journal.proofs.laws.counts_have_an_end.Goals as goal

pub returns : goal.returns
returns c = record { legal = legal_counts_end; served = served_counts_end }
