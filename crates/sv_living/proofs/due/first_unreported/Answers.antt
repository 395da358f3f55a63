-- The first one found is the first of all.
use Rattle.std.proofs.Common.{suc, ◌+◌, length, sym, ◌∙◌, arith}
use Rattle.sv_journal.specs.History.{accepted}
use Rattle.sv_core.proofs.Abandoned.{none-below, first-below}
use Rattle.sv_living.specs.Deciding.{is_unreported}
use Rattle.sv_living.proofs.due.first_unreported.Goals as goal

pub returns-then-is_unreported : goal.returns-then-is_unreported
returns-then-is_unreported g c =
    first-below (is_unreported g.h c.args.seat.session) (suc (length (accepted g.h))) (c.loop-before.before + 1)
    (let last = c.last-before-end.ensures g.h c.requires.0 in omega (arith, c.loop-before-test.true, last)) (sym c.is_unreported.ensures ∙ c.if-is_unreported.true)
    (λ q low. c.loop-before.invariant q (omega arith))

pub returns : goal.returns
returns g c =
    none-below (is_unreported g.h c.args.seat.session) (suc (length (accepted g.h)))
    (λ q low. c.loop-before.invariant q (let last = c.last-before-end.ensures g.h c.requires.0 in omega (arith, c.loop-before-test.false, last)))
