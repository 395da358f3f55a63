-- What is proved by hand of `laws_of_runs`.
use Rattle.sv_check.proofs.runs.laws_of_runs.Goals as goal

pub returns-clause-stay : goal.returns-clause-stay
returns-clause-stay c = c.full_replies_stay.ensures

pub returns-clause-named : goal.returns-clause-named
returns-clause-named c = c.legal_relays_name_accepted.ensures

pub returns-clause-steps : goal.returns-clause-steps
returns-clause-steps c = c.steps_are_done_in_order.ensures.begun

pub returns-clause-few : goal.returns-clause-few
returns-clause-few c = c.accepted_are_few.ensures

pub returns-clause-messages : goal.returns-clause-messages
returns-clause-messages c = c.requests_are_messages.ensures
