-- What is proved by hand of `SeqLock::close`.
use Rattle.std.proofs.Common.{ap, ◌∙◌}
use Rattle.sv_lock.proofs.Calls.{all_in}
use Rattle.sv_lock.proofs.Histories.{all_seen}
use Rattle.sv_lock.proofs.lock.SeqLock.close.Goals as goal

pub close-requires-clause-all : goal.close-requires-clause-all
close-requires-clause-all g c =
    let is = c.keeper.view_is in
    let keeper = ap (λ p. p.session) is ∙ c.requires.keeper.1 in
    all_in _ _ _ _ _ keeper (ap (λ p. p.ended) is) ((c.keeper.invariant.keeper keeper).1 ∙ ap (λ p. p.made) is) c.requires.ended

pub returns-clause-seen : goal.returns-clause-seen
returns-clause-seen g c =
    let is = c.keeper.view_is in
    let keeper = ap (λ p. p.session) is ∙ c.requires.keeper.1 in
    let closes = c.close.ensures in
    all_seen g.O.Object.number_of _ _ _ _ closes.seen (c.keeper.invariant.just keeper) closes.just closes.below
    (all_in _ _ _ _ _ keeper (ap (λ p. p.ended) is) ((c.keeper.invariant.keeper keeper).1 ∙ ap (λ p. p.made) is) c.requires.ended)
    ∙ ap (λ p. p.seen) is
