-- It is put back.
use Rattle.std.proofs.Common.{subst}
use Rattle.sv_peer.specs.View.{IsInStep}
use Rattle.sv_office.specs.declared.guest.Guest.{Guest}
use Rattle.sv_host.proofs.Loop1.{put_as}
use Rattle.sv_host.proofs.Written.{written_in}
use Rattle.sv_host.proofs.host.Host.put_in.Goals as goal

pub returns-clause-served : goal.returns-clause-served
returns-clause-served g c = put_as c.args.number c.args.self.now.room.guests c.args.guest _ c.put.ensures c.requires.taken

pub returns-clause-written : goal.returns-clause-written
returns-clause-written g c told =
    written_in c.args.number c.args.self.now.room.guests _ c.args.guest c.put.ensures (subst (λ (guest : Guest). IsInStep guest.peer) c.get.ensures c.output.ensures.in_step)
