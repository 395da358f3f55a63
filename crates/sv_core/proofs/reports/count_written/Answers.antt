-- What the check leaves to prove of `count_written`.
use Rattle.std.proofs.Common.{◌≡◌, ℕ, ◌<◌, cond, length, sym, ◌∙◌, arith}
use Rattle.std.proofs.lemmas.Bool.{cond-true, cond-false}
use Rattle.std.proofs.lemmas.List.{length-map}
use Rattle.sv_world.specs.declared.world.ObjectId.{ObjectId}
use Rattle.sv_world.specs.Sets.{is_in_mask, read_set}
use Rattle.sv_core.proofs.Relayed.{mask-step}
use Rattle.sv_core.proofs.reports.count_written.Goals as goal
use Rattle.sv_core.proofs.reports.count_written.Goals.{then-is_in_mask, else-is_in_mask}

pub loop-slot-preserved : goal.loop-slot-preserved
loop-slot-preserved c =
    let a = c.args.action.now in
    let k = c.loop-slot.slot in
    let low : k < length (read_set a) = omega (arith, c.loop-slot-test.true, length-map a.reads (λ (o : ObjectId). o.0)) in
    let step = mask-step a.mask k (read_set a) low in
    elim c.if-is_in_mask.branch [
      | then-is_in_mask w ↦ (let one : ◌≡◌ {A = ℕ} (cond (is_in_mask a.mask k) 1 0) 1 = cond-true (is_in_mask a.mask k) 1 0 (sym c.is_in_mask.ensures ∙ w.if-is_in_mask.true) in
          rw w.count-is (record { left = omega (arith, step, one, c.loop-slot.invariant.left); few = omega (arith, c.loop-slot.invariant.few) }))
      | else-is_in_mask w ↦ (let none : ◌≡◌ {A = ℕ} (cond (is_in_mask a.mask k) 1 0) 0 = cond-false (is_in_mask a.mask k) 1 0 (sym c.is_in_mask.ensures ∙ w.if-is_in_mask.false) in
          rw w.count-is (record { left = omega (arith, step, none, c.loop-slot.invariant.left); few = omega (arith, c.loop-slot.invariant.few) }))
    ]
