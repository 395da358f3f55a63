-- What the check leaves to prove of `an_honest_steward_is_enough`.
use Rattle.sv_journal.specs.Living.{living}
use Rattle.law_journal.proofs.Serves.{Laws, serves}
use Rattle.law_journal.proofs.Stewarding.{stewards-serial}
use Rattle.law_journal.proofs.stewards.an_honest_steward_is_enough.Goals as goal

pub returns : goal.returns
returns c = λ w r h L count legal steward.
    let keeps = c.living_worlds_are_served.ensures.keeping w in
    let values = c.served_values_are_serial.ensures in
    let laws : Laws = record {
      world = values.world;
      heads = values.heads;
      held = values.held;
      relays = values.relays;
      seen = values.seen;
      faults = c.served_clients_are_never_refused.ensures.faults;
    } in
    serves laws (living w) r h keeps count legal (stewards-serial c.honest_reports_are_serial.ensures w keeps r h L count legal steward)
