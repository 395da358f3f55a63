-- What the input had.
use Rattle.std.proofs.Common.{inl, take, ap}
use Rattle.sv_ports.specs.Traffic.{Traffic}
use Rattle.sv_host.proofs.Behind.{read_as, read_on}
use Rattle.sv_host.proofs.Written.{left_equal, written_read}
use Rattle.sv_host.proofs.host.Host.is_told_to_stop.Goals as goal

pub returns-in-Got-clause-written : goal.returns-in-Got-clause-written
returns-in-Got-clause-written g c = written_read c.args.self.now.room.guests _ _ c.read_input.new.into c.read_input.result c.read_input.ensures

pub returns-in-Got-clause-stops : goal.returns-in-Got-clause-stops
returns-in-Got-clause-stops g c read =
    read_on (g.P.Ports.told c.args.ports.now) (g.P.Ports.told c.read_input.new.self) (take c.in-Got.count c.read_input.new.into) c.args.input.now c.take.new.self
    c.take.result c.take.ensures.stops c.take.ensures.line (ap (λ (t : Traffic). t.input) c.in-Got.ensures.2) read

pub returns-in-NotYet-clause-written : goal.returns-in-NotYet-clause-written
returns-in-NotYet-clause-written g c = written_read c.args.self.now.room.guests _ _ c.read_input.new.into c.read_input.result c.read_input.ensures

pub returns-in-NotYet-clause-stops : goal.returns-in-NotYet-clause-stops
returns-in-NotYet-clause-stops g c read = read_as _ _ c.args.input.now (left_equal c.in-NotYet.ensures) read

pub returns-in-Ended-clause-written : goal.returns-in-Ended-clause-written
returns-in-Ended-clause-written g c = written_read c.args.self.now.room.guests _ _ c.read_input.new.into c.read_input.result c.read_input.ensures

pub returns-in-Ended-clause-stops : goal.returns-in-Ended-clause-stops
returns-in-Ended-clause-stops g c read = inl (ap (λ (t : Traffic). t.input_ended) c.in-Ended.ensures)

pub returns-in-Failed-clause-written : goal.returns-in-Failed-clause-written
returns-in-Failed-clause-written g c = written_read c.args.self.now.room.guests _ _ c.read_input.new.into c.read_input.result c.read_input.ensures
