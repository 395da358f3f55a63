-- What is proved by hand of `Actor::take_got`.
use Rattle.std.proofs.Common.{rules, List, length, refl, ap, subst, ◌∙◌, arith}
use Rattle.sv_journal.specs.declared.entry.Entry.{Entry}
use Rattle.sv_journal.specs.View.{JournalView}
use Rattle.sv_check.specs.Serving.{entries_of}
use Rattle.sv_check.specs.Acting.{IsNextPlace, NoNextPlace}
use Rattle.sv_check.proofs.Acting.{went_reply, reply_there}
use Rattle.sv_check.proofs.Lines.{place_within, got_nowhere, got_ended, got_other, got_refused, got_told}
use Rattle.sv_check.proofs.actor.Actor.take_got.Goals as goal

pub returns-then-branch-clause-on : goal.returns-then-branch-clause-on
returns-then-branch-clause-on c =
    went_reply (entries_of c.args.served.now) c.entries-entries.result.now c.args.served.now.replies.items c.args.self.now c.get.new.self c.in-Some.session c.in-Some-next_place.place c.index.result.now
    (c.entries-entries.ensures ∙ ap (λ (j : JournalView). j.entries) c.journal.ensures.journal)
    c.requires.acting c.requires.joined c.requires.here (search rules) c.in-Some-next_place.ensures.place c.requires.replies (search rules) (c.in_ok-get.ensures.took c.if-branch.true)

pub returns-in_default-clause-wrong : goal.returns-in_default-clause-wrong
returns-in_default-clause-wrong c =
    got_nowhere (entries_of c.args.served.now) c.args.self.now c.args.text.now (length c.args.text.now) c.requires.acting refl c.requires.begins (search rules)

pub returns-in_default-next_place-clause-wrong : goal.returns-in_default-next_place-clause-wrong
returns-in_default-next_place-clause-wrong c =
    let a = c.args.self.now in
    got_ended (entries_of c.args.served.now) a c.args.text.now (length c.args.text.now) c.requires.acting refl c.requires.begins c.in-Some.session c.requires.right (search rules)
    (subst (λ (es : List Entry). NoNextPlace es a.place c.in-Some.session) (c.entries-entries.ensures ∙ ap (λ (j : JournalView). j.entries) c.journal.ensures.journal) c.in_default-next_place.ensures.place)

pub returns-in_default-behind_line-clause-wrong : goal.returns-in_default-behind_line-clause-wrong
returns-in_default-behind_line-clause-wrong c =
    let a = c.args.self.now in
    let s = c.in-Some.session in
    let p = c.in-Some-next_place.place in
    got_other (entries_of c.args.served.now) a c.args.text.now (length c.args.text.now) c.requires.acting refl c.requires.begins s p (search rules)
    (subst (λ (es : List Entry). IsNextPlace es a.place s p) (c.entries-entries.ensures ∙ ap (λ (j : JournalView). j.entries) c.journal.ensures.journal) c.in-Some-next_place.ensures.place)
    c.as_bytes.result.now (c.as_bytes.ensures.value ∙ c.in_ok-line.ensures) c.in_default-behind_line.ensures

pub index-requires : goal.index-requires
index-requires c =
    let within = place_within (entries_of c.args.served.now) c.entries-entries.result.now c.args.served.now.replies.items c.in-Some-next_place.place
    (c.entries-entries.ensures ∙ ap (λ (j : JournalView). j.entries) c.journal.ensures.journal) c.requires.replies c.in-Some-next_place.ensures.within in
    omega (arith, within, c.args.served.now.replies.ok.0)

pub get-requires : goal.get-requires
get-requires c = c.in-Some-next_place.ensures.small

pub overflow_add-place : goal.overflow_add-place
overflow_add-place c = omega (arith, c.in-Some-next_place.ensures.small)

pub returns-then-branch-clause-told : goal.returns-then-branch-clause-told
returns-then-branch-clause-told c =
    let a = c.args.self.now in
    let s = c.in-Some.session in
    let p = c.in-Some-next_place.place in
    got_told (entries_of c.args.served.now) a c.args.text.now (length c.args.text.now) c.requires.acting refl c.requires.begins s p (search rules)
    (subst (λ (es : List Entry). IsNextPlace es a.place s p) (c.entries-entries.ensures ∙ ap (λ (j : JournalView). j.entries) c.journal.ensures.journal) c.in-Some-next_place.ensures.place)
    c.get.new.self c.index.result.now c.as_bytes.result.now c.in-Some-behind_line.rest.now (c.in_ok-get.ensures.took c.if-branch.true)
    (c.as_bytes.ensures.value ∙ c.in_ok-line.ensures) c.in-Some-behind_line.ensures

pub returns-clause-wrong : goal.returns-clause-wrong
returns-clause-wrong c =
    let a = c.args.self.now in
    let s = c.in-Some.session in
    let p = c.in-Some-next_place.place in
    let next = subst (λ (es : List Entry). IsNextPlace es a.place s p) (c.entries-entries.ensures ∙ ap (λ (j : JournalView). j.entries) c.journal.ensures.journal) c.in-Some-next_place.ensures.place in
    got_refused (entries_of c.args.served.now) a c.args.text.now (length c.args.text.now) c.requires.acting refl c.requires.begins s p (search rules) next c.index.result.now
    (reply_there (entries_of c.args.served.now) c.args.served.now.replies.items a.place s p c.index.result.now next c.requires.replies (search rules))
    (c.in_ok-get.ensures.refused c.if-branch.false)
