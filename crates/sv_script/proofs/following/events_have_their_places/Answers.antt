-- What is proved by hand of `events_have_their_places`.
use Rattle.sv_script.proofs.Places.{joins-where_needed, cuts-bring_join, joins-bring_reply, steps-wait, leaves-wait, syncs-wait, nothing-after_quit, nothing-after_bye}
use Rattle.sv_script.proofs.following.events_have_their_places.Goals as goal

pub returns-clause-joins : goal.returns-clause-joins
returns-clause-joins c = joins-where_needed

pub returns-clause-cuts : goal.returns-clause-cuts
returns-clause-cuts c = cuts-bring_join

pub returns-clause-first : goal.returns-clause-first
returns-clause-first c = joins-bring_reply

pub returns-clause-welcome : goal.returns-clause-welcome
returns-clause-welcome c = steps-wait

pub returns-clause-leave : goal.returns-clause-leave
returns-clause-leave c = leaves-wait

pub returns-clause-sync : goal.returns-clause-sync
returns-clause-sync c = syncs-wait

pub returns-clause-quit : goal.returns-clause-quit
returns-clause-quit c = nothing-after_quit

pub returns-clause-bye : goal.returns-clause-bye
returns-clause-bye c = nothing-after_bye
