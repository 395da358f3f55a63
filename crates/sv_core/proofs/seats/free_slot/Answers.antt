-- What the check leaves to prove of `free_slot`.
use Rattle.std.proofs.Common.{◌≡◌, ◌<◌, true, inl, inr, sym, ◌∙◌, ap, arith}
use Rattle.std.proofs.lemmas.Bool.{cases_eq}
use Rattle.sv_core.specs.Rows.{row_at, is_seated}
use Rattle.sv_core.proofs.Seating.{count-all, none-seated}
use Rattle.sv_core.proofs.seats.free_slot.Goals as goal

pub loop-slot-preserved : goal.loop-slot-preserved
loop-slot-preserved c = λ i low. elim (cases_eq i c.loop-slot.slot) [
  | inl same ↦ ap (λ j. is_seated (row_at c.args.rows.now j)) same ∙ sym c.is_seated.ensures ∙ c.if-not-is_seated.false
  | inr ne ↦ c.loop-slot.invariant i (omega arith)
]

pub returns-then-not-is_seated : goal.returns-then-not-is_seated
returns-then-not-is_seated c =
    (c.loop-slot-test.true, none-seated (row_at c.args.rows.now c.loop-slot.slot) (sym c.is_seated.ensures ∙ c.if-not-is_seated.true))

pub returns : goal.returns
returns c = count-all is_seated c.args.rows.now (λ i low. c.loop-slot.invariant i (omega (arith, low, c.loop-slot-test.false)))
