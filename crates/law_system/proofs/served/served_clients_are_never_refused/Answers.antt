-- Clients are never refused, whatever results are kept, if these are serial.
use Rattle.law_system.proofs.Asking.{fits-but_values}
use Rattle.law_system.proofs.Owned.{one-of, owns-but, fits-none}
use Rattle.law_system.proofs.NextReply.{served-no_fault}
use Rattle.law_system.proofs.NonEmpty.{served-never_empty}
use Rattle.law_system.proofs.served.served_clients_are_never_refused.Goals as goal

pub returns-clause-faults : goal.returns-clause-faults
returns-clause-faults c k r h L s reply keeps count shaped bound most room legal serial fits owns current limits is =
    served-no_fault k r h L (record { keeps = keeps; legal = legal; fits = fits }) owns s reply count shaped bound most room serial current limits is

pub returns-clause-items : goal.returns-clause-items
returns-clause-items c k r h L s seq commit head items keeps legal fits owns current limits is none =
    served-never_empty k r h L (record { keeps = keeps; legal = legal; fits = fits }) owns s seq commit head items current limits is none

pub returns-clause-honest : goal.returns-clause-honest
returns-clause-honest c liar r h Ls i L fits member = fits-but_values r.world.shape h L (one-of r.world.shape h Ls fits.each i L member)

pub returns-clause-sessions : goal.returns-clause-sessions
returns-clause-sessions c liar r h Ls i L fits member = owns-but liar r.world.shape h Ls fits i L member

pub returns-clause-all : goal.returns-clause-all
returns-clause-all c r h Ls fits = fits-none r.world.shape h Ls fits
