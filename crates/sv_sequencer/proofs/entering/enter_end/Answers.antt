-- What the check leaves to prove of `enter_end`.
use Rattle.std.proofs.Common.{◌∷◌, ap, subst, arith}
use Rattle.sv_journal.specs.History.{end_entry}
use Rattle.sv_journal.specs.View.{JournalView}
use Rattle.sv_core.specs.declared.seats.Seat.{Seat}
use Rattle.sv_core.specs.Cores.{Keeps}
use Rattle.sv_sequencer.proofs.entering.enter_end.Goals as goal

pub push-requires : goal.push-requires
push-requires g c = omega (arith, c.end.ensures.owed, c.requires.1.1.1)

pub returns : goal.returns
returns g c = record {
  rules = c.end.ensures.rules;
  seats = c.end.ensures.seats;
  keeps = subst (λ (x : Seat). Keeps c.end.new.self (end_entry x.session ∷ g.h)) c.own-seat.ensures c.end.ensures.keeps;
  entries = ap (λ (j : JournalView). j.entries) c.push.ensures;
  room = omega (arith, c.end.ensures.owed, c.requires.1.1.1, ap (λ (j : JournalView). j.spare) c.push.ensures);
}
