-- Values are serial, whatever results are kept, if these are.
use Rattle.law_system.proofs.Histories.{same}
use Rattle.law_system.proofs.Observed.{are-cuts}
use Rattle.law_system.proofs.Induction.{committed-serial, heads-serial, whole-well}
use Rattle.law_system.proofs.served.served_values_are_serial.Goals as goal

pub returns-clause-world : goal.returns-clause-world
returns-clause-world c k r h keeps count legal serial = committed-serial k keeps r h count legal serial h same

pub returns-clause-heads : goal.returns-clause-heads
returns-clause-heads c k r h keeps count legal serial = heads-serial k keeps r h count legal serial

pub returns-clause-held : goal.returns-clause-held
returns-clause-held c k r h L keeps count legal serial fits = (whole-well k keeps r h count legal serial L fits).serial

pub returns-clause-relays : goal.returns-clause-relays
returns-clause-relays c k r h L keeps count legal serial fits = (whole-well k keeps r h count legal serial L fits).sufficient

pub returns-clause-seen : goal.returns-clause-seen
returns-clause-seen c k r h L keeps count legal serial fits = are-cuts k r h L (record { keeps = keeps; legal = legal; fits = fits }) count serial
