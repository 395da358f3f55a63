-- What the check leaves to prove of `search`.
use Rattle.std.proofs.Common.{suc, ◌+◌, sym, ◌∙◌, arith}
use Rattle.sv_queue.specs.Queue.{last_position}
use Rattle.sv_core.specs.Orphans.{is_orphan_in}
use Rattle.sv_core.proofs.Abandoned.{none-below, first-below}
use Rattle.sv_core.proofs.orphans.search.Goals as goal

pub returns-then-is_orphan : goal.returns-then-is_orphan
returns-then-is_orphan g c =
    first-below (is_orphan_in c.args.queue.now c.args.sessions.now) (suc (last_position c.args.queue.now)) (c.loop-before.before + 1)
    (omega (arith, c.loop-before-test.true, c.last-before-end.ensures)) (sym c.is_orphan.ensures ∙ c.if-is_orphan.true)
    (λ q low. c.loop-before.invariant q (omega arith))

pub returns : goal.returns
returns g c =
    none-below (is_orphan_in c.args.queue.now c.args.sessions.now) (suc (last_position c.args.queue.now))
    (λ q low. c.loop-before.invariant q (omega (arith, c.loop-before-test.false, c.last-before-end.ensures)))
