-- A byte more of the line.
use Rattle.sv_host.proofs.Behind.{at_more}
use Rattle.sv_host.proofs.input.InputLines.go_on.Goals as goal

pub returns : goal.returns
returns c = λ line at. at_more c.args.self.now _ line c.args.byte c.behind-self.ensures at
