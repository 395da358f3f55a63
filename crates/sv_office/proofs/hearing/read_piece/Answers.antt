-- What came was heard of the connection alone.
use Rattle.sv_office.proofs.Hearing2.{reads_heard}
use Rattle.sv_office.proofs.hearing.read_piece.Goals as goal

pub returns-in-Got-clause-told : goal.returns-in-Got-clause-told
returns-in-Got-clause-told g c = reads_heard c.args.number (g.P.Ports.told c.args.ports.now) (g.P.Ports.told c.read.new.self) c.read.new.into c.read.result c.read.ensures
