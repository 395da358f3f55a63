-- What is proved by hand of `replies_go_by_faults`.
use Rattle.sv_entries.proofs.ByFaults.{by_faults}
use Rattle.sv_entries.proofs.laws.replies_go_by_faults.Goals as goal

pub returns : goal.returns
returns c = by_faults
