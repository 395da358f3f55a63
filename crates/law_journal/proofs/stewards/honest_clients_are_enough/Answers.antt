-- What the check leaves to prove of `honest_clients_are_enough`.
use Rattle.law_journal.proofs.Serves.{Laws, serves}
use Rattle.law_journal.proofs.Stewarding.{honest-serial}
use Rattle.law_journal.proofs.stewards.honest_clients_are_enough.Goals as goal

pub returns : goal.returns
returns c = λ k r h Ls keeps count legal fits.
    let values = c.served_values_are_serial.ensures in
    let laws : Laws = record {
      world = values.world;
      heads = values.heads;
      held = values.held;
      relays = values.relays;
      seen = values.seen;
      faults = c.served_clients_are_never_refused.ensures.faults;
    } in
    serves laws k r h keeps count legal (honest-serial c.honest_reports_are_serial.ensures k keeps r h Ls count legal fits)
