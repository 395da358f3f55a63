-- Lawful deliveries make values serial.
use Rattle.law_system.proofs.Taken.{plain-at, all-well}
use Rattle.law_system.proofs.deliveries.lawful_deliveries_make_values_serial.Goals as goal

pub returns-clause-values : goal.returns-clause-values
returns-clause-values c shape opening A ds t count good lawful fronts =
    (all-well shape.objects opening count A (plain-at shape A good) ds lawful t fronts).serial

pub returns-clause-relays : goal.returns-clause-relays
returns-clause-relays c shape opening A ds t count good lawful fronts =
    (all-well shape.objects opening count A (plain-at shape A good) ds lawful t fronts).sufficient
