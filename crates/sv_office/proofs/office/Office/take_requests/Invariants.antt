-- The connection is open and served, and its turn went on.
use Rattle.std.proofs.Common.{◌≡◌}
use Rattle.sv_office.specs.Guests.{HasYetToAsk}
use Rattle.sv_office.specs.Renewing.{KeepsKeys}
use Rattle.sv_office.specs.Telling.{IsServedGuest}
use Rattle.sv_office.specs.Turns.{TakesTurn}
use Rattle.sv_office.specs.declared.guest.Standing.TheVariants as standing
use Rattle.sv_office.proofs.office.Office.take_requests.Given as goal

abbrev pub invariant-loop : goal.invariant-loop
invariant-loop g l = record {
  open_still : l.guest.standing ≡ standing.Open;
  served : IsServedGuest l.self.keeper.world l.guest;
  turn : TakesTurn l.fn.self l.self l.fn.guest l.guest;
  kept : KeepsKeys (g.L.Files.contents l.fn.files) (g.L.Files.contents l.files) l.fn.self.keys l.self.keys;
  idle : HasYetToAsk l.fn.guest l.guest l.fn.self.keeper.world l.self.keeper.world;
  sent : l.guest.peer.sent ≡ l.fn.guest.peer.sent;
}
