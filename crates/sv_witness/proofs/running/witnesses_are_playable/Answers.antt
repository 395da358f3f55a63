-- A scenario can be run over a witnessing server, and the run is as it is said to be.
use Rattle.sv_witness.proofs.Sound.{runs-playable, runs-witnessed}
use Rattle.sv_witness.proofs.running.witnesses_are_playable.Goals as goal

pub returns-clause-playable : goal.returns-clause-playable
returns-clause-playable c =
    runs-playable c.made_actions_fit.ensures c.served_relays_name_accepted.ensures c.served_requests_fit.ensures c.served_replies_fit.ensures

pub returns-clause-runs : goal.returns-clause-runs
returns-clause-runs c = runs-witnessed c.served_relays_name_accepted.ensures c.served_runs_end.ensures.ended c.served_runs_end.ensures.scripts
