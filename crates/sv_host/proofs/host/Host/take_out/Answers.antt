-- One is taken out, or there is none.
use Rattle.sv_host.proofs.Loop1.{took, took_or_none}
use Rattle.sv_host.proofs.Written.{written_took}
use Rattle.sv_host.proofs.host.Host.take_out.Goals as goal

pub returns-clause-some : goal.returns-clause-some
returns-clause-some g c = took c.args.number c.args.self.now.room.guests c.take.result _ c.take.ensures.item c.take.ensures.left c.requires.served

pub returns-clause-none : goal.returns-clause-none
returns-clause-none g c = took_or_none c.args.number c.args.self.now.room.guests c.take.result _ c.take.ensures.left c.requires.served

pub returns-clause-written : goal.returns-clause-written
returns-clause-written g c told = written_took c.args.number c.args.self.now.room.guests _ c.take.result c.take.ensures.item c.take.ensures.left
