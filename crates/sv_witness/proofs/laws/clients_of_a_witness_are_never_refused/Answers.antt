-- Clients of a witnessing server are never refused.
use Rattle.law_system.proofs.Asking.{fits-but_values}
use Rattle.law_system.proofs.Owned.{one-of, owns-but}
use Rattle.law_system.proofs.NextReply.{served-no_fault}
use Rattle.sv_witness.specs.Witnessed.{agreed}
use Rattle.sv_witness.proofs.Same.{agreed-keeping}
use Rattle.sv_witness.proofs.Tolerated.{results-tolerated}
use Rattle.sv_witness.proofs.Lying.{liar-fits}
use Rattle.sv_witness.proofs.laws.clients_of_a_witness_are_never_refused.Goals as goal

pub returns-clause-honest : goal.returns-clause-honest
returns-clause-honest c liar r h Ls i L s reply count shaped bound most room legal fits member current limits is =
    served-no_fault agreed r h L
    (record { keeps = agreed-keeping; legal = legal; fits = fits-but_values r.world.shape h L (one-of r.world.shape h Ls fits.each i L member) })
    (owns-but liar r.world.shape h Ls fits i L member) s reply count shaped bound most room (results-tolerated liar r h Ls count legal fits) current limits is

pub returns-clause-lying : goal.returns-clause-lying
returns-clause-lying c r h Ls L s reply count shaped bound most room legal fits liar current limits is =
    served-no_fault agreed r h L
    (record { keeps = agreed-keeping; legal = legal; fits = liar-fits r.world.shape h Ls L liar })
    liar.joined s reply count shaped bound most room (results-tolerated L.client.0 r h Ls count legal fits) current limits is

pub returns-clause-values : goal.returns-clause-values
returns-clause-values c r h Ls L s reply count shaped bound most room legal fits own owns current limits is =
    served-no_fault agreed r h L (record { keeps = agreed-keeping; legal = legal; fits = own }) owns s reply count shaped bound most room
    (results-tolerated L.client.0 r h Ls count legal fits) current limits is
