-- Actions have outcomes, each for its reason, whatever results are kept.
use Rattle.law_system.proofs.Judged.{are-judged_for}
use Rattle.law_system.proofs.AllTold.{has-outcomes}
use Rattle.law_system.proofs.served.served_actions_have_outcomes.Goals as goal

pub returns-clause-judged : goal.returns-clause-judged
returns-clause-judged c k r h keeps legal = are-judged_for k keeps r h legal

pub returns-clause-each : goal.returns-clause-each
returns-clause-each c k r h L keeps legal fits owns done =
    has-outcomes (record {
      keeping = k;
      rules = r;
      journal = h;
      trace = L;
      served = record { keeps = keeps; legal = legal; fits = fits };
      owns = owns;
    }) done
