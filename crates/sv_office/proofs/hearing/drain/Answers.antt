-- What came was heard of the connection alone.
use Rattle.sv_office.proofs.Hearing2.{heard_then, reads_heard}
use Rattle.sv_office.proofs.hearing.drain.Goals as goal

pub returns-in-NotYet-clause-told : goal.returns-in-NotYet-clause-told
returns-in-NotYet-clause-told g c =
    heard_then _ _ _ _ c.loop.invariant.told (reads_heard c.args.number (g.P.Ports.told c.loop.ports) (g.P.Ports.told c.read.new.self) c.read.new.into c.read.result c.read.ensures)

pub returns-in-Ended-clause-told : goal.returns-in-Ended-clause-told
returns-in-Ended-clause-told g c =
    heard_then _ _ _ _ c.loop.invariant.told (reads_heard c.args.number (g.P.Ports.told c.loop.ports) (g.P.Ports.told c.read.new.self) c.read.new.into c.read.result c.read.ensures)

pub returns-in-Failed-clause-told : goal.returns-in-Failed-clause-told
returns-in-Failed-clause-told g c =
    heard_then _ _ _ _ c.loop.invariant.told (reads_heard c.args.number (g.P.Ports.told c.loop.ports) (g.P.Ports.told c.read.new.self) c.read.new.into c.read.result c.read.ensures)

pub loop-preserved : goal.loop-preserved
loop-preserved g c = record {
  same = c.loop.invariant.same;
  told = heard_then _ _ _ _ c.loop.invariant.told (reads_heard c.args.number (g.P.Ports.told c.loop.ports) (g.P.Ports.told c.read.new.self) c.read.new.into c.read.result c.read.ensures);
}
