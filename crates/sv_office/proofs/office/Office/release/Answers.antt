-- What is held is answered, once.
use Rattle.std.proofs.Common.{refl, sym, ◌∙◌}
use Rattle.sv_office.specs.Offices.{session_of}
use Rattle.sv_office.proofs.Adding.{goes_nowhere}
use Rattle.sv_office.proofs.Admitting.{observes_another}
use Rattle.sv_office.proofs.Answering.{no_end}
use Rattle.sv_office.proofs.Leaving.{served_still}
use Rattle.sv_office.proofs.Stepping1.{held_came_of, held_enters, released_none, released_some, yet_same}
use Rattle.sv_office.proofs.Turning.{one_nowhere}
use Rattle.sv_office.proofs.office.Office.release.Goals as goal

pub returns-in-None-clause-served : goal.returns-in-None-clause-served
returns-in-None-clause-served g c = served_still _ c.args.guest.now _ refl refl refl c.requires.served

pub returns-in-None-clause-once : goal.returns-in-None-clause-once
returns-in-None-clause-once g c = released_none _ _ _ _ (sym c.take.ensures.value ∙ c.in-None.is) refl refl

pub answer-requires-clause-served : goal.answer-requires-clause-served
answer-requires-clause-served g c = served_still _ c.args.guest.now _ refl refl refl c.requires.served

pub answer-requires-clause-asks : goal.answer-requires-clause-asks
answer-requires-clause-asks g c = no_end _ c.in-Some.held.observes

pub returns-in-Some-clause-once : goal.returns-in-Some-clause-once
returns-in-Some-clause-once g c =
    released_some c.answer.result (session_of c.args.self.now.steward) c.args.guest.now.session c.answer.new.guest.session c.args.self.now.policy.authority c.args.self.now.keeper.world
    c.answer.new.self.keeper.world c.args.guest.now.held c.in-Some.held (sym c.take.ensures.value ∙ c.in-Some.is) c.answer.ensures.answered

pub returns-in-Some-clause-added : goal.returns-in-Some-clause-added
returns-in-Some-clause-added g c = held_came_of _ _ c.in-Some.held (sym c.take.ensures.value ∙ c.in-Some.is) c.answer.ensures.added

pub returns-in-None-clause-added : goal.returns-in-None-clause-added
returns-in-None-clause-added g c = goes_nowhere refl

pub returns-in-None-clause-may : goal.returns-in-None-clause-may
returns-in-None-clause-may g c = λ may. goes_nowhere refl

pub returns-in-Some-clause-may : goal.returns-in-Some-clause-may
returns-in-Some-clause-may g c = λ may.
    held_enters _ _ c.args.guest.now.held c.args.self.now.keys c.args.guest.now.key may
    (held_came_of _ _ c.in-Some.held (sym c.take.ensures.value ∙ c.in-Some.is) c.answer.ensures.added)

pub returns-in-None-clause-asked : goal.returns-in-None-clause-asked
returns-in-None-clause-asked g c = one_nowhere refl refl

pub returns-in-None-clause-idle : goal.returns-in-None-clause-idle
returns-in-None-clause-idle g c = yet_same refl refl

pub answer-requires-clause-another : goal.answer-requires-clause-another
answer-requires-clause-another g c = observes_another _ c.in-Some.held.observes
