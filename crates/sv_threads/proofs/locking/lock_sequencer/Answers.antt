-- A scenario has sessions, and not too many.
use Rattle.std.proofs.Common.{arith}
use Rattle.sv_threads.proofs.Keepers.{some_sessions}
use Rattle.sv_threads.proofs.locking.lock_sequencer.Goals as goal

pub new-requires-clause-passes : goal.new-requires-clause-passes
new-requires-clause-passes c =
    let some = some_sessions c.args.scenario.now.clients c.requires.good.some_clients in
    let most = c.requires.good.sessions in
    let is = c.sessions_of.ensures in
    (omega (arith, some, is), omega (arith, most, is))
