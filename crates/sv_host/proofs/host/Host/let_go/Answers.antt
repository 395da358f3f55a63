-- It is gone, and so is its number.
use Rattle.std.proofs.Common.{subst}
use Rattle.sv_peer.specs.View.{IsInStep}
use Rattle.sv_office.specs.declared.guest.Guest.{Guest}
use Rattle.sv_host.proofs.Loop1.{left_as}
use Rattle.sv_host.proofs.Written.{written_gone}
use Rattle.sv_host.proofs.host.Host.let_go.Goals as goal

pub returns-clause-served : goal.returns-clause-served
returns-clause-served g c = left_as c.args.number _ _ _ c.remove.ensures c.requires.taken

pub returns-clause-written : goal.returns-clause-written
returns-clause-written g c told =
    written_gone c.args.number c.args.self.now.room.guests _ c.args.guest c.remove.ensures c.requires.over c.requires.taken.served (subst (λ (guest : Guest). IsInStep guest.peer) c.get.ensures c.output.ensures.in_step)
