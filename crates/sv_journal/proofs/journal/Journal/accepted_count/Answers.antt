-- What the check leaves to prove of `Journal::accepted_count`.
use Rattle.std.proofs.Common.{arith, length, ap, sym, reverse}
use Rattle.sv_journal.specs.View.{JournalView}
use Rattle.sv_journal.specs.History.{accepted}
use Rattle.sv_journal.proofs.Places.{places_count}
use Rattle.sv_journal.proofs.journal.Journal.accepted_count.Goals as goal

pub returns : goal.returns
returns c =
    let a = c.self.inside in
    rw (sym (ap (λ (v : JournalView). length (accepted (reverse v.entries))) c.self.view_is)) (omega (arith, c.len.ensures, a.accepted.ok.0, ap length c.self.invariant.0.places, places_count (reverse a.entries.items)))
