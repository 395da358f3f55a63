-- What is proved by hand of `payloads_come_one_by_one`.
use Rattle.sv_frame.proofs.Splitting.{split-none, split-some, rest-none, split-empty}
use Rattle.sv_frame.proofs.laws.payloads_come_one_by_one.Goals as goal

pub returns : goal.returns
returns c = record { empty = split-empty; first = split-some; none = split-none; rest = rest-none }
