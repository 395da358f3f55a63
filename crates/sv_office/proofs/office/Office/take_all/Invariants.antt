-- The connection is open and served, and its turn went on.
use Rattle.std.proofs.Common.{◌≡◌}
use Rattle.sv_office.specs.Guests.{HasYetToAsk, OnlyHeard}
use Rattle.sv_office.specs.Renewing.{KeepsKeys}
use Rattle.sv_office.specs.Telling.{IsServedGuest}
use Rattle.sv_office.specs.Turns.{AreLent, TakesTurn}
use Rattle.sv_office.specs.declared.guest.Standing.TheVariants as standing
use Rattle.sv_office.proofs.office.Office.take_all.Given as goal

abbrev pub invariant-loop : goal.invariant-loop
invariant-loop g l = record {
  open_still : l.guest.standing ≡ standing.Open;
  served : IsServedGuest l.self.keeper.world l.guest;
  turn : TakesTurn l.fn.self l.self l.fn.guest l.guest;
  kept : KeepsKeys (g.L.Files.contents l.fn.outside.files.now) (g.L.Files.contents l.outside.files.now) l.fn.self.keys l.self.keys;
  idle : HasYetToAsk l.fn.guest l.guest l.fn.self.keeper.world l.self.keeper.world;
  told : OnlyHeard l.fn.number (g.P.Ports.told l.fn.outside.ports.now) (g.P.Ports.told l.outside.ports.now);
  sent : l.guest.peer.sent ≡ l.fn.guest.peer.sent;
  lent : AreLent l.fn.outside l.outside;
}
