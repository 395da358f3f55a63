-- A connection that lies in a box is the one that is lent of it.
use Rattle.std.proofs.Common.{◌≡◌, ℕ, List, sym, subst}
use Rattle.sv_living.specs.World.{WorldView}
use Rattle.sv_ports.specs.Traffic.{Traffic}
use Rattle.sv_ports.specs.declared.numbered.NumberedPlace.{NumberedPlace}
use Rattle.sv_peer.specs.View.{PeerView}
use Rattle.sv_office.specs.declared.guest.Guest.{Guest}
use Rattle.sv_host.specs.Rooms.{IsWritten, Sends}

pub lent_written : (v : WorldView) (told : Traffic) (guests : List (NumberedPlace Guest)) (n : ℕ) (lent guest : Guest) → lent ≡ guest → IsWritten v told guests n guest → IsWritten v told guests n lent
lent_written v told guests n lent guest same is = subst (λ (g : Guest). IsWritten v told guests n g) (sym same) is

pub lent_sends : (n : ℕ) (lent guest : Guest) (new : PeerView) (before now : Traffic) → lent ≡ guest → Sends n lent.peer new before now → Sends n guest.peer new before now
lent_sends n lent guest new before now same is = subst (λ (g : Guest). Sends n g.peer new before now) same is
