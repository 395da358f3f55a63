-- What the check leaves to prove of `Journal::author`.
use Rattle.std.proofs.Common.{◌-◌, ◌∙◌, ap, length, reverse, get_or, arith}
use Rattle.sv_journal.specs.History.{accepted, authored_at}
use Rattle.sv_journal.specs.View.{JournalView}
use Rattle.sv_journal.proofs.Places.{places_count, author_at}
use Rattle.sv_journal.proofs.journal.Journal.author.Goals as goal

pub index-requires : goal.index-requires
index-requires c =
    let a = c.self.inside in
    let seen = ap (λ (v : JournalView). length (accepted (reverse v.entries))) c.self.view_is in
    omega (arith, c.requires.first, c.requires.last, seen, a.accepted.ok.0, ap length c.self.invariant.0.places, places_count (reverse a.entries.items))

pub returns : goal.returns
returns c =
    let a = c.self.inside in
    let seen = ap (λ (v : JournalView). length (accepted (reverse v.entries))) c.self.view_is in
    let row = c.index.result.now in
    let is = c.index.ensures ∙ ap (λ rows. get_or rows (c.args.pos - 1) row) c.self.invariant.0.places in
    author_at a.entries.items c.args.pos c.requires.first (omega (arith, c.requires.last, seen)) row is
    ∙ ap (λ (v : JournalView). (authored_at (accepted (reverse v.entries)) c.args.pos).client) c.self.view_is
