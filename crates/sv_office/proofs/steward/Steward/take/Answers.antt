-- What a reply asks.
use Rattle.std.proofs.Common.{ap}
use Rattle.sv_client.specs.Seen.{ClientView}
use Rattle.sv_office.proofs.Asked.{asked_done, asked_none, taken_fine}
use Rattle.sv_office.proofs.Knowing.{reports_serial, took}
use Rattle.sv_office.proofs.steward.Steward.take.Goals as goal

pub returns-in-Ok-clause-done : goal.returns-in-Ok-clause-done
returns-in-Ok-clause-done c = asked_done c.deref_mut.result.now.who c.deref_mut.result.now.events c.args.reply.now c.in-Ok.done c.in-Ok.ensures.done

pub returns-in-Ok-clause-none : goal.returns-in-Ok-clause-none
returns-in-Ok-clause-none c = asked_none c.deref_mut.result.now.who c.deref_mut.result.now.events c.args.reply.now c.in-Ok.done c.in-Ok.ensures.done

pub returns-in-Ok-clause-taken : goal.returns-in-Ok-clause-taken
returns-in-Ok-clause-taken c = taken_fine c.deref_mut.result.now.who c.deref_mut.result.now.events c.args.reply.now c.in-Ok.ensures.fine

pub returns-in-Ok-clause-told : goal.returns-in-Ok-clause-told
returns-in-Ok-clause-told c = λ v lacks.
    took v.history c.args.self.now.session c.args.self.now.client.value.events c.deref_mut.result.now.events c.take.new.self.events c.args.reply.now
    (ap (λ (x : ClientView). x.events) c.deref_mut.ensures.value) c.in-Ok.ensures.got lacks

pub returns-in-Ok-clause-serial : goal.returns-in-Ok-clause-serial
returns-in-Ok-clause-serial c =
    reports_serial c.told_clients_report_serial_results.ensures.reported c.living_worlds_are_served.ensures.keeping c.args.self.now.session
    c.deref_mut.result.now.who c.deref_mut.result.now.events c.take.new.self.events c.args.reply.now c.in-Ok.done c.in-Ok.ensures.got c.in-Ok.ensures.done
