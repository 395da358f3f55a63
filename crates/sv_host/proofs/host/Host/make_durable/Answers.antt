-- Nothing was entered.
use Rattle.std.proofs.Common.{refl}
use Rattle.sv_office.proofs.Adding.{grows_nowhere}
use Rattle.sv_office.proofs.Entered.{sound_stays}
use Rattle.sv_office.proofs.Knowing.{still_durable, trusted_still}
use Rattle.sv_host.specs.Rooms.{AnyEntry}
use Rattle.sv_host.proofs.host.Host.make_durable.Goals as goal

pub invariant_of-office : goal.invariant_of-office
invariant_of-office g c = record {
  sound = sound_stays (grows_nowhere {may = AnyEntry} c.make_durable.ensures.world) refl c.args.self.now.office.sound;
  trusted = trusted_still c.args.self.now.office.keeper c.make_durable.new.self _ c.make_durable.ensures.world
      (still_durable c.args.self.now.office.keeper c.make_durable.new.self (λ b. (c.make_durable.ensures.broken b).0)) c.args.self.now.office.trusted;
}
