-- A client that got what its session was told.
use Rattle.law_system.proofs.GotTold.{told-serial, told-sufficient, told-done}
use Rattle.law_system.proofs.told.told_clients_report_serial_results.Goals as goal

pub returns-clause-reported : goal.returns-clause-reported
returns-clause-reported c k r h session who t reply done keeps count legal serial told is =
    let law = c.served_journals_make_lawful_deliveries.ensures in
    told-done c.served_relays_name_accepted.ensures k keeps r h legal count (law.good k r h keeps legal) (law.lawful k r h keeps legal serial) session who t reply done told is

pub returns-clause-held : goal.returns-clause-held
returns-clause-held c k r h session t keeps count legal serial told =
    let law = c.served_journals_make_lawful_deliveries.ensures in
    told-serial c.served_relays_name_accepted.ensures k keeps r h legal count (law.good k r h keeps legal) (law.lawful k r h keeps legal serial) session t told

pub returns-clause-relays : goal.returns-clause-relays
returns-clause-relays c k r h session t keeps count legal serial told =
    let law = c.served_journals_make_lawful_deliveries.ensures in
    told-sufficient c.served_relays_name_accepted.ensures k keeps r h legal count (law.good k r h keeps legal) (law.lawful k r h keeps legal serial) session t told
