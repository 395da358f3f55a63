-- What is proved by hand of `is_settled`.
use Rattle.std.proofs.Common.{List, reverse, sym, subst, ◌∙◌, true≢false}
use Rattle.std.proofs.lemmas.Bool.{eq-eqb}
use Rattle.std.proofs.lemmas.List.{take_all}
use Rattle.sv_journal.specs.declared.entry.Entry.{Entry}
use Rattle.sv_check.proofs.Settling.{IsSettling, ended_before, asks_other, settles}
use Rattle.sv_check.proofs.settled.is_settled.Goals as goal

pub returns-then-ended-clause-unsettled : goal.returns-then-ended-clause-unsettled
returns-then-ended-clause-unsettled c h =
    let l = c.loop-entry in
    ended_before c.args.entries.now l.entry-index c.args.session c.args.asked.now l.next l.ended c.entry-item.result c.loop-entry-test.true c.entry-item.is l.invariant
    (eq-eqb _ _ c.if-entry-session.true) c.if-ended.true

pub returns-else-is_next-clause-unsettled : goal.returns-else-is_next-clause-unsettled
returns-else-is_next-clause-unsettled c h =
    let l = c.loop-entry in
    asks_other c.args.entries.now l.entry-index c.args.session c.args.asked.now l.next l.ended c.entry-item.result c.loop-entry-test.true c.entry-item.is l.invariant
    (eq-eqb _ _ c.if-entry-session.true) (sym c.is_end.ensures ∙ c.if-is_end.false) (λ there. true≢false (sym (c.is_next.ensures.all there) ∙ c.if-is_next.false))

pub returns-clause-settled : goal.returns-clause-settled
returns-clause-settled c h =
    let l = c.loop-entry in
    settles (reverse c.args.entries.now) c.args.session c.args.asked.now l.next l.ended
    (subst (λ (es : List Entry). IsSettling (reverse es) c.args.session c.args.asked.now l.next l.ended) (take_all l.entry-index c.args.entries.now c.loop-entry-test.false) l.invariant)
