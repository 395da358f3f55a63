-- The office is as sound as before: its world went on by Ends.
use Rattle.std.proofs.Common.{refl}
use Rattle.sv_office.proofs.Adding.{grew}
use Rattle.sv_office.proofs.Entered.{sound_stays}
use Rattle.sv_host.proofs.Ends.{all_told}
use Rattle.sv_host.proofs.Joined.{nobody_ends, nobody_then}
use Rattle.sv_host.proofs.Written.{continues, continues_then, on_ok, then_ok, were_later, were_since, were_written, written_later}
use Rattle.sv_host.proofs.host.Host.stop.Goals as goal

pub invariant_of-office : goal.invariant_of-office
invariant_of-office g c = record {
  sound = sound_stays (grew c.end_all.ensures.added) refl c.send_rest.new.self.office.sound;
  trusted = c.end_all.ensures.trusted _ c.send_rest.new.self.office.trusted;
}

pub returns-clause-told : goal.returns-clause-told
returns-clause-told g c = on_ok c.end_all.result (all_told c.end_all.ensures.added c.in_ok-send_rest.ensures.served)

pub returns-clause-written : goal.returns-clause-written
returns-clause-written g c =
    then_ok c.end_all.result
    (λ order are. written_later order c.end_all.ensures.added c.send_rest.new.self.room.guests (c.in_ok-send_rest.ensures.written are))
    c.end_all.ensures.order

pub returns-clause-goes : goal.returns-clause-goes
returns-clause-goes g c = continues_then c.send_rest.ensures.goes (continues c.end_all.ensures.added)

pub returns-clause-past : goal.returns-clause-past
returns-clause-past g c are = were_later (continues c.end_all.ensures.added) (c.send_rest.ensures.past are)

pub returns-clause-last : goal.returns-clause-last
returns-clause-last g c =
    on_ok c.end_all.result
    (λ are. were_later c.end_all.ensures.added
    (were_since c.send_rest.ensures.goes (were_written _ c.in_ok-send_rest.ensures.served (c.in_ok-send_rest.ensures.written are))))

pub end_all-requires : goal.end_all-requires
end_all-requires g c = record { limits = c.send_rest.new.self.office.sound.limits }

pub returns-clause-nobody : goal.returns-clause-nobody
returns-clause-nobody g c = nobody_then c.send_rest.ensures.nobody (nobody_ends refl c.end_all.ensures.added)
