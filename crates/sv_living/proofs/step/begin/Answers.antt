-- The session is seated and answered, or leaves its slot again.
use Rattle.std.proofs.Common.{◌≡◌, ℕ, true, Option, sym, ap, ◌∙◌, subst}
use Rattle.sv_journal.specs.Answer.{MayBeSession}
use Rattle.sv_journal.specs.Living.{heeded}
use Rattle.sv_core.specs.Rows.{has_entry}
use Rattle.sv_living.specs.Keeping.{CarriedOn}
use Rattle.sv_living.specs.Table.{ends_below}
use Rattle.sv_living.proofs.Standing.{entry-heeded, may-leave, reclosed, sits}
use Rattle.sv_living.proofs.step.begin.Goals as goal

pub open-requires : goal.open-requires
open-requires g c = (
  c.requires.0,
  (
    subst (λ (o : Option ℕ). MayBeSession o c.args.session) (sym c.requires.1.1.0) tt,
    (entry-heeded g.g.w g.g.h c.args.session ∙ c.requires.1.1.1.0, (c.requires.1.1.1.1.0, c.requires.1.1.1.1.1.0)),
  ),
)

pub answer_first-requires : goal.answer_first-requires
answer_first-requires g c =
    let was = c.in_ok-seat.ensures.ok in (
      was.keeps,
      (
        c.requires.1.0,
        (
          sits c.args.core.now c.open.new.self (heeded g.g.w g.g.h) c.in_ok-seat.seat was,
          (subst (λ (n : ℕ). ends_below n c.args.table.now ≡ true) (sym c.in_ok-seat.ensures.number) c.requires.1.1.1.1.1.1.0, c.requires.1.1.1.1.1.1.1),
        ),
      ),
    )

pub close-requires : goal.close-requires
close-requires g c =
    let was = c.in_ok-seat.ensures.ok in
    let still = c.in-Err.ensures.err in
    let seat = c.in_ok-seat.seat in (
      still.keeps,
      (
        still.seats seat.slot ∙ sits c.args.core.now c.open.new.self (heeded g.g.w g.g.h) seat was,
        may-leave g.g.w g.g.h c.args.session seat.session c.in_ok-seat.ensures.number c.requires.1.1.1.0,
      ),
    )

pub returns-in-Err-clause-err : goal.returns-in-Err-clause-err
returns-in-Err-clause-err g c =
    let seat = c.in_ok-seat.seat in
    reclosed c.args.core.now c.open.new.self c.answer_first.new.core c.close.new.self (heeded g.g.w g.g.h) seat
    (entry-heeded g.g.w g.g.h seat.session ∙ ap (λ (n : ℕ). has_entry g.g.h n) c.in_ok-seat.ensures.number ∙ c.requires.1.1.1.0)
    c.in_ok-seat.ensures.ok c.in-Err.ensures.err c.close.ensures

pub returns-in-Ok-clause-ok : goal.returns-in-Ok-clause-ok
returns-in-Ok-clause-ok g c =
    let mid = c.open.new.self in
    let seat = c.in_ok-seat.seat in
    record {
      seat = seat;
      number = c.in_ok-seat.ensures.number;
      table = c.in-Ok.ensures.entered;
      seated = (
        mid,
        (
          c.in_ok-seat.ensures.ok,
          subst (λ (n : ℕ). CarriedOn mid c.answer_first.new.core g.g.w g.g.h n c.args.request.now c.in-Ok.answer) c.in_ok-seat.ensures.number c.in-Ok.ensures.ok,
        ),
      );
    }
