-- What is proved by hand of `finish`.
use Rattle.std.proofs.Common.{rules, List, ap, subst, ◌∙◌}
use Rattle.sv_journal.specs.declared.entry.Entry.{Entry}
use Rattle.sv_journal.specs.View.{JournalView}
use Rattle.sv_check.specs.Serving.{entries_of}
use Rattle.sv_check.specs.Acting.{LookedAt}
use Rattle.sv_check.proofs.Whole.{finished, unfit, trace_is}
use Rattle.sv_check.proofs.clients.finish.Goals as goal

pub returns-clause-whole : goal.returns-clause-whole
returns-clause-whole c =
    finished (entries_of c.args.served.now) c.args.actor c.settle.new.self c.args.part.now.number c.args.part.now.shape c.args.part.now.plan.now c.into_trace.result
    c.requires.acting c.requires.done
    (subst (λ (es : List Entry). LookedAt es c.args.actor c.settle.new.self) (c.entries.ensures ∙ ap (λ (j : JournalView). j.entries) c.journal.ensures.journal) c.settle.ensures)
    (search rules) c.requires.who c.requires.script c.into_trace.ensures.trace c.into_trace.ensures.proper

pub returns-then-not-actor-clause-unfit : goal.returns-then-not-actor-clause-unfit
returns-then-not-actor-clause-unfit c h =
    unfit (entries_of c.args.served.now) c.args.actor c.settle.new.self c.args.part.now.shape c.args.part.now.plan.now c.requires.acting
    (subst (λ (es : List Entry). LookedAt es c.args.actor c.settle.new.self) (c.entries.ensures ∙ ap (λ (j : JournalView). j.entries) c.journal.ensures.journal) c.settle.ensures)
    c.if-not-actor.true

pub returns-clause-same : goal.returns-clause-same
returns-clause-same c =
    trace_is (entries_of c.args.served.now) c.args.actor c.settle.new.self c.into_trace.result
    (subst (λ (es : List Entry). LookedAt es c.args.actor c.settle.new.self) (c.entries.ensures ∙ ap (λ (j : JournalView). j.entries) c.journal.ensures.journal) c.settle.ensures)
    c.into_trace.ensures.trace
