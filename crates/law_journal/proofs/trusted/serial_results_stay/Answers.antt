-- A living world whose results are serial goes on so.
use Rattle.sv_journal.specs.Living.{living}
use Rattle.law_journal.proofs.Counted.{results-stay, others-bring, worlds-begin}
use Rattle.law_journal.proofs.trusted.serial_results_stay.Goals as goal

pub returns-clause-stay : goal.returns-clause-stay
returns-clause-stay c = results-stay c.living_worlds_are_served.ensures.keeping

pub returns-clause-others : goal.returns-clause-others
returns-clause-others c = others-bring

pub returns-clause-begin : goal.returns-clause-begin
returns-clause-begin c = worlds-begin

pub returns-clause-world : goal.returns-clause-world
returns-clause-world c = λ w r h count legal serial.
    c.served_values_are_serial.ensures.world (living w) r h (c.living_worlds_are_served.ensures.keeping w) count legal serial
