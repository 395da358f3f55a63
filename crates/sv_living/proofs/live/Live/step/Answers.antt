-- By where the session stands.
use Rattle.std.proofs.Common.{◌≡◌, ℕ, true, refl, sym, ◌∙◌, subst, true≢false, ne_eqb, Result, IfOk, IfErr, IsOk, MatchResult}
use Rattle.sv_core.specs.declared.answer.Answer.{Answer}
use Rattle.sv_living.specs.declared.fault.StepFault.{StepFault}
use Rattle.sv_living.specs.Keeping.{Moved, StoodStill}
use Rattle.sv_living.specs.Sessions.{is_open, next_session, may_ask}
use Rattle.sv_living.specs.World.{IsStepFault}
use Rattle.sv_living.proofs.Standing.{seat-sits, seat-lacks, may-open}
use Rattle.sv_living.proofs.Told.{told-ok, told-err, told-cause, told-is, none-of}
use Rattle.sv_living.proofs.live.Live.step.Goals as goal

pub step_open-requires : goal.step_open-requires
step_open-requires g c =
    let at = seat-sits c.args.self.now g.h c.requires c.args.session c.in-Some.seat (sym c.seat_of.ensures ∙ c.in-Some.is) in
    (c.requires, (refl, (at.0, subst (λ (n : ℕ). is_open g.h n ≡ true) (sym at.1.0) at.1.1)))

pub returns-in-Some-clause-ok : goal.returns-in-Some-clause-ok
returns-in-Some-clause-ok g c =
    let l = c.args.self.now in
    let q = c.args.request.now in
    let new' = c.step_open.new.self in
    let at = seat-sits l g.h c.requires c.args.session c.in-Some.seat (sym c.seat_of.ensures ∙ c.in-Some.is) in
    subst (λ (o : Result Answer StepFault). IfOk o (Moved l new' g.h c.args.session q)) (sym c.told.ensures)
    (told-ok (Moved l new' g.h c.args.session q) c.step_open.result
    (subst (λ (n : ℕ). IfOk c.step_open.result (Moved l new' g.h n q)) at.1.0 c.step_open.ensures.ok))

pub returns-in-Some-clause-err : goal.returns-in-Some-clause-err
returns-in-Some-clause-err g c =
    let l = c.args.self.now in
    let new' = c.step_open.new.self in
    subst (λ (o : Result Answer StepFault). IfErr o (λ _. StoodStill l new' g.h)) (sym c.told.ensures) (told-err (StoodStill l new' g.h) c.step_open.result c.step_open.ensures.err)

pub returns-in-Some-clause-cause : goal.returns-in-Some-clause-cause
returns-in-Some-clause-cause g c =
    let s = c.args.session in
    let at = seat-sits c.args.self.now g.h c.requires s c.in-Some.seat (sym c.seat_of.ensures ∙ c.in-Some.is) in
    subst (λ (o : Result Answer StepFault). MatchResult o (λ _. may_ask g.h s ≡ true) (IsStepFault g.h s)) (sym c.told.ensures)
    (told-cause g.h s c.step_open.result (may-open g.h s at.1.1))

pub returns-in-Some-clause-end : goal.returns-in-Some-clause-end
returns-in-Some-clause-end g c is open' =
    subst (λ (o : Result Answer StepFault). IsOk o) (sym c.told.ensures) (told-is c.step_open.result (c.step_open.ensures.end is))

pub returns-then-session-self-clause-cause : goal.returns-then-session-self-clause-cause
returns-then-session-self-clause-cause g c = (
  seat-lacks c.args.self.now g.h c.requires c.args.session (sym c.seat_of.ensures ∙ none-of c.seat_of.result c.in_default.not-Some),
  ne_eqb c.args.session (next_session g.h) (λ is. c.if-session-self.true (is ∙ sym c.requires.next)),
)

pub returns-then-session-self-clause-end : goal.returns-then-session-self-clause-end
returns-then-session-self-clause-end g c is open' =
    absurd (true≢false (sym open' ∙ seat-lacks c.args.self.now g.h c.requires c.args.session (sym c.seat_of.ensures ∙ none-of c.seat_of.result c.in_default.not-Some)))
