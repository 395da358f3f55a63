-- What shows nothing is told, and nothing is entered.
use Rattle.std.proofs.Common.{refl}
use Rattle.sv_office.proofs.Adding.{goes_nowhere, keeps_same}
use Rattle.sv_office.proofs.Answering.{quiet_message}
use Rattle.sv_office.proofs.Served.{owed_quiet}
use Rattle.sv_office.proofs.Stepping1.{answered_nothing, shows_one, yet_same}
use Rattle.sv_office.proofs.Turning.{one_nowhere}
use Rattle.sv_office.proofs.office.Office.answer.Goals as goal

pub tell-requires-clause-message : goal.tell-requires-clause-message
tell-requires-clause-message g c = quiet_message c.args.self.now.keeper.world c.args.guest.now _ _ c.answers_are_messages.ensures.quiet c.in-Some.ensures.some

pub returns-in-Some-clause-served : goal.returns-in-Some-clause-served
returns-in-Some-clause-served g c = c.tell.ensures.served _ (owed_quiet _ _ _ _ c.requires.open c.requires.served c.in-Some.ensures.some)

pub returns-in-Some-clause-answered : goal.returns-in-Some-clause-answered
returns-in-Some-clause-answered g c = answered_nothing c.tell.ensures.session refl

pub returns-in-Some-clause-added : goal.returns-in-Some-clause-added
returns-in-Some-clause-added g c = goes_nowhere refl

pub returns-in-Some-clause-session : goal.returns-in-Some-clause-session
returns-in-Some-clause-session g c = keeps_same _ c.tell.ensures.session

pub returns-clause-quiet : goal.returns-clause-quiet
returns-clause-quiet g c = λ sound reply would. absurd (shows_one c.args.self.now.keeper.world c.args.guest.now _ reply c.args.self.now.sound.limits.bound (c.in_default.ensures.none sound) would)

pub returns-in-Some-clause-asked : goal.returns-in-Some-clause-asked
returns-in-Some-clause-asked g c = one_nowhere refl c.tell.ensures.session

pub returns-in-Some-clause-idle : goal.returns-in-Some-clause-idle
returns-in-Some-clause-idle g c = yet_same c.tell.ensures.session refl
