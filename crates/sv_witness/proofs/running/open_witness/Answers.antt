-- A good scenario has a session.
use Rattle.std.proofs.Common.{arith}
use Rattle.sv_replay.proofs.Opened.{some_sessions}
use Rattle.sv_witness.proofs.running.open_witness.Goals as goal

pub new-requires-clause-some : goal.new-requires-clause-some
new-requires-clause-some c = omega (arith, some_sessions c.args.scenario.now.clients c.requires.some_clients, c.sessions_of.ensures)
