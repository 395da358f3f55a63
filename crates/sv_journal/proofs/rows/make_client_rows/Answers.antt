-- What the check leaves to prove of `make_client_rows`.
use Rattle.std.proofs.Common.{None, arith}
use Rattle.sv_journal.proofs.Filling.{filled}
use Rattle.sv_journal.proofs.rows.make_client_rows.Goals as goal

pub returns-clause-same : goal.returns-clause-same
returns-clause-same c = λ s low.
    let old = c.args.clients.now in
    filled c.resize.result old.items c.resize.new.self.items _ 65536 s None c.resize.ensures.items
    (λ l. c.resize.ensures.by_index.0 s None low (omega (arith, l, old.ok.0)))
    (λ is high. c.resize.ensures.by_index.1 s None is (omega (arith, high, old.ok.0)) low)
