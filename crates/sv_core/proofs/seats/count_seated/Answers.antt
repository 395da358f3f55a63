-- What the check leaves to prove of `count_seated`.
use Rattle.std.proofs.Common.{◌≡◌, ℕ, ◌+◌, [], cond, drop, length, sym, ◌∙◌, ap, arith}
use Rattle.std.proofs.lemmas.List.{drop_all}
use Rattle.sv_core.specs.Rows.{row_at, is_seated, count_rows}
use Rattle.sv_core.proofs.Seating.{count-drop}
use Rattle.sv_core.proofs.seats.count_seated.Goals as goal
use Rattle.sv_core.proofs.seats.count_seated.Goals.{then-is_seated, else-is_seated}

pub loop-slot-preserved : goal.loop-slot-preserved
loop-slot-preserved c =
    let rows = c.args.rows.now in
    let k = c.loop-slot.slot in
    let step = count-drop is_seated rows k c.loop-slot-test.true in
    elim c.if-is_seated.branch [
      | then-is_seated w ↦ (let one : ◌≡◌ {A = ℕ} (cond (is_seated (row_at rows k)) 1 0) 1 = ap (λ b. cond b 1 0) (sym c.is_seated.ensures ∙ w.if-is_seated.true) in
          rw w.count-is (record { left = omega (arith, step, one, c.loop-slot.invariant.left); few = omega (arith, c.loop-slot.invariant.few) }))
      | else-is_seated w ↦ (let none : ◌≡◌ {A = ℕ} (cond (is_seated (row_at rows k)) 1 0) 0 = ap (λ b. cond b 1 0) (sym c.is_seated.ensures ∙ w.if-is_seated.false) in
          rw w.count-is (record { left = omega (arith, step, none, c.loop-slot.invariant.left); few = omega (arith, c.loop-slot.invariant.few) }))
    ]

pub overflow_add-count : goal.overflow_add-count
overflow_add-count c = omega (arith, c.loop-slot.invariant.few, c.loop-slot-test.true, c.requires)

pub returns : goal.returns
returns c =
    let rows = c.args.rows.now in
    let rest : count_rows is_seated (drop c.loop-slot.slot rows) ≡ 0 = ap (count_rows is_seated) (drop_all c.loop-slot.slot rows c.loop-slot-test.false) in
    omega (arith, rest, c.loop-slot.invariant.left)
