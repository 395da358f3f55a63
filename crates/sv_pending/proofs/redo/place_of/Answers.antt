-- What is proved by hand of `place_of`.
use Rattle.std.proofs.Common.{sym, ◌∙◌, arith}
use Rattle.std.proofs.lemmas.Bool.{both_ways, eq-eqb}
use Rattle.sv_world.specs.declared.world.ObjectId.{ObjectId}
use Rattle.sv_pending.proofs.Places.{slot_more, slot_skip}
use Rattle.sv_pending.proofs.redo.place_of.Goals as goal
use Rattle.sv_pending.proofs.redo.place_of.Goals.{then-is_in_mask+else-eq, else-is_in_mask}

pub loop-slot-preserved : goal.loop-slot-preserved
loop-slot-preserved c =
    let d : ObjectId = record { 0 = 0 } in
    elim c.if-is_in_mask.branch [
      | then-is_in_mask+else-eq w ↦
          rw w.place-is (omega arith, slot_more c.args.action.now.mask c.loop-slot.slot c.loop-slot.place c.args.object.0 _ d _ c.loop-slot-test.true (sym c.is_in_mask.ensures ∙ w.if-is_in_mask.true) (λ f. both_ways _ (sym w.eq.ensures ∙ w.if-eq.false) (eq-eqb _ _ f)) c.loop-slot.invariant.1)
      | else-is_in_mask w ↦
          rw w.place-is (omega arith, slot_skip c.args.action.now.mask c.loop-slot.slot c.loop-slot.place c.args.object.0 _ d _ c.loop-slot-test.true (sym c.is_in_mask.ensures ∙ w.if-is_in_mask.false) c.loop-slot.invariant.1)
    ]
