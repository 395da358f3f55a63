-- What the check leaves to prove of `make_count_rows`.
use Rattle.std.proofs.Common.{arith}
use Rattle.sv_journal.proofs.Filling.{filled}
use Rattle.sv_journal.proofs.rows.make_count_rows.Goals as goal

pub returns-clause-same : goal.returns-clause-same
returns-clause-same c = λ s low.
    let old = c.args.outcomes.now in
    filled c.resize.result old.items c.resize.new.self.items _ 65536 s 0 c.resize.ensures.items
    (λ l. c.resize.ensures.by_index.0 s 0 low (omega (arith, l, old.ok.0)))
    (λ is high. c.resize.ensures.by_index.1 s 0 is (omega (arith, high, old.ok.0)) low)
