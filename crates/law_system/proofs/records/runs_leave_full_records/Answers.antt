-- Runs that come to their end leave full records.
use Rattle.std.proofs.lemmas.List.Elements.{recursion_from_All}
use Rattle.sv_client.specs.Proper.{Proper}
use Rattle.law_system.specs.Records.{rules_of}
use Rattle.law_system.proofs.Full.{outcomes-each, scripts-done}
use Rattle.law_system.proofs.records.runs_leave_full_records.Goals as goal

pub returns : goal.returns
returns c = λ scenario h Ls good traffic scripts.
    let r = rules_of scenario in
    let shape = scenario.world.shape in
    record {
      traffic = traffic;
      values = c.replicas_equal_serial_execution.ensures.values r h Ls good.world.objects traffic.legal traffic.fits;
      world = c.committed_world_is_serial.ensures.world r h Ls good.world.objects traffic.legal traffic.fits;
      relays = c.replicas_equal_serial_execution.ensures.relays r h Ls good.world.objects traffic.legal traffic.fits;
      seen = c.replicas_equal_serial_execution.ensures.seen r h Ls good.world.objects traffic.legal traffic.fits;
      scripts = scripts-done c.steps_are_done_in_order.ensures.whole shape scenario.clients Ls good.plans (recursion_from_All (Proper shape) Ls traffic.proper) scripts;
      outcomes = record {
        once = c.actions_have_outcomes.ensures.once h;
        judged = c.actions_have_outcomes.ensures.judged r h traffic.legal;
        each = outcomes-each shape h scenario.clients Ls (λ i L e done. c.actions_have_outcomes.ensures.each r h Ls i L traffic.legal traffic.fits e done) scripts;
      };
    }
