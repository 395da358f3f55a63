-- What is proved by hand of `Actor::take_join`.
use Rattle.std.proofs.Common.{rules, List, [], ◌∷◌, ◌++◌, ◌+◌, length, refl, ap, subst, ◌∙◌, arith}
use Rattle.std.specs.Prelude.{codes}
use Rattle.std.specs.Fmt.{decimal}
use Rattle.sv_journal.specs.declared.entry.Entry.{Entry}
use Rattle.sv_journal.specs.View.{JournalView}
use Rattle.sv_check.specs.Serving.{entries_of}
use Rattle.sv_check.specs.Acting.{LookedAt}
use Rattle.sv_check.proofs.Acting.{went_joined}
use Rattle.sv_check.proofs.Lines.{join_many, join_other, join_told}
use Rattle.sv_check.proofs.actor.Actor.take_join.Goals as goal

pub returns-clause-on : goal.returns-clause-on
returns-clause-on c =
    went_joined (entries_of c.args.served.now) c.args.self.now c.settle.new.self c.join.new.self c.requires.acting c.requires.needed (search rules)
    (subst (λ (es : List Entry). LookedAt es c.args.self.now c.settle.new.self) (c.entries.ensures ∙ ap (λ (j : JournalView). j.entries) c.journal.ensures.journal) c.settle.ensures)
    c.in_ok-join.ensures

pub returns-then-count-ge-MOST_SESSIONS-clause-wrong : goal.returns-then-count-ge-MOST_SESSIONS-clause-wrong
returns-then-count-ge-MOST_SESSIONS-clause-wrong c =
    join_many (entries_of c.args.served.now) c.args.self.now c.args.text.now (length c.args.text.now) refl c.requires.needed (omega (arith, c.if-count-ge-MOST_SESSIONS.true, c.sessions-count.ensures))

pub returns-in_default-clause-wrong : goal.returns-in_default-clause-wrong
returns-in_default-clause-wrong c =
    let a = c.args.self.now in
    join_other (entries_of c.args.served.now) a c.args.text.now c.as_bytes.result.now (length c.args.text.now) refl c.requires.needed
    (c.as_bytes.ensures.value ∙ c.in_ok-line.ensures ∙ ap (λ n. (codes "join s" ++ decimal (a.first + n)) ++ 10 ∷ []) c.sessions-count.ensures)
    c.in_default.ensures

pub returns-clause-told : goal.returns-clause-told
returns-clause-told c =
    let a = c.args.self.now in
    join_told (entries_of c.args.served.now) a c.settle.new.self c.join.new.self c.args.text.now c.as_bytes.result.now c.in-Some.rest.now
    (subst (λ (es : List Entry). LookedAt es a c.settle.new.self) (c.entries.ensures ∙ ap (λ (j : JournalView). j.entries) c.journal.ensures.journal) c.settle.ensures)
    c.in_ok-join.ensures
    (c.as_bytes.ensures.value ∙ c.in_ok-line.ensures ∙ ap (λ n. (codes "join s" ++ decimal (a.first + n)) ++ 10 ∷ []) c.sessions-count.ensures)
    c.in-Some.ensures
