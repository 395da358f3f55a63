-- What the check leaves to prove of `Journal::submitted`.
use Rattle.std.proofs.Common.{◌-◌, ◌∙◌, sym, ap, length, reverse, get_or, arith}
use Rattle.sv_journal.specs.History.{Authored, accepted, authored_at}
use Rattle.sv_journal.specs.View.{JournalView}
use Rattle.sv_journal.proofs.Places.{places_count, place_within, told_at, submits_are}
use Rattle.sv_journal.proofs.journal.Journal.submitted.Goals as goal

pub index-requires : goal.index-requires
index-requires c =
    let a = c.self.inside in
    let seen = ap (λ (v : JournalView). length (accepted (reverse v.entries))) c.self.view_is in
    omega (arith, c.requires.first, c.requires.last, seen, a.accepted.ok.0, ap length c.self.invariant.0.places, places_count (reverse a.entries.items))

pub index-entry-requires : goal.index-entry-requires
index-entry-requires c =
    let a = c.self.inside in
    let seen = ap (λ (v : JournalView). length (accepted (reverse v.entries))) c.self.view_is in
    let row = c.index.result.now in
    let is = c.index.ensures ∙ ap (λ rows. get_or rows (c.args.pos - 1) row) c.self.invariant.0.places in
    omega (arith, a.entries.ok.0, place_within a.entries.items c.args.pos c.requires.first (omega (arith, c.requires.last, seen)) row is)

pub unreachable-requires : goal.unreachable-requires
unreachable-requires c =
    let a = c.self.inside in
    let seen = ap (λ (v : JournalView). length (accepted (reverse v.entries))) c.self.view_is in
    let row = c.index.result.now in
    let is = c.index.ensures ∙ ap (λ rows. get_or rows (c.args.pos - 1) row) c.self.invariant.0.places in
    let told = told_at a.entries.items c.args.pos c.requires.first (omega (arith, c.requires.last, seen)) row is c.index-entry.result.now c.index-entry.ensures in
    c.in_default.not-Submit told.seq told.action told.asked

pub returns-clause-seq : goal.returns-clause-seq
returns-clause-seq c =
    let a = c.self.inside in
    let seen = ap (λ (v : JournalView). length (accepted (reverse v.entries))) c.self.view_is in
    let row = c.index.result.now in
    let is = c.index.ensures ∙ ap (λ rows. get_or rows (c.args.pos - 1) row) c.self.invariant.0.places in
    let told = told_at a.entries.items c.args.pos c.requires.first (omega (arith, c.requires.last, seen)) row is c.index-entry.result.now c.index-entry.ensures in
    let same = submits_are c.in-Submit.seq told.seq c.in-Submit.action told.action (sym c.in-Submit.is ∙ told.asked) in
    same.0 ∙ sym (ap (λ (m : Authored). m.seq) told.told) ∙ ap (λ (v : JournalView). (authored_at (accepted (reverse v.entries)) c.args.pos).seq) c.self.view_is

pub returns-clause-action : goal.returns-clause-action
returns-clause-action c =
    let a = c.self.inside in
    let seen = ap (λ (v : JournalView). length (accepted (reverse v.entries))) c.self.view_is in
    let row = c.index.result.now in
    let is = c.index.ensures ∙ ap (λ rows. get_or rows (c.args.pos - 1) row) c.self.invariant.0.places in
    let told = told_at a.entries.items c.args.pos c.requires.first (omega (arith, c.requires.last, seen)) row is c.index-entry.result.now c.index-entry.ensures in
    let same = submits_are c.in-Submit.seq told.seq c.in-Submit.action told.action (sym c.in-Submit.is ∙ told.asked) in
    same.1 ∙ sym (ap (λ (m : Authored). m.action) told.told) ∙ ap (λ (v : JournalView). (authored_at (accepted (reverse v.entries)) c.args.pos).action) c.self.view_is
