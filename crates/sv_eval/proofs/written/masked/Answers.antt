-- One more slot, in the mask or not.
use Rattle.std.proofs.Common.{◌+◌, ◌++◌, drop, ap, sym, ◌∙◌}
use Rattle.sv_world.specs.Sets.{at_mask}
use Rattle.sv_world.specs.declared.world.ObjectId.{ObjectId}
use Rattle.sv_eval.proofs.Masks.{at_mask_in, at_mask_out}
use Rattle.sv_eval.proofs.written.masked.Goals as goal
use Rattle.sv_eval.proofs.written.masked.Goals.{then-is_in_mask+in_ok-push, else-is_in_mask}

pub loop-slot-preserved : goal.loop-slot-preserved
loop-slot-preserved c =
    let mask = c.args.mask in
    let slot = c.loop-slot.slot in
    let reads = c.args.reads.now in
    let d : ObjectId = record { 0 = 0 } in
    elim c.if-is_in_mask.branch [
      | then-is_in_mask+in_ok-push w ↦
          rw w.written-is (ap (λ xs. xs ++ at_mask mask (slot + 1) (drop (slot + 1) reads)) w.in_ok-push.ensures.ok
          ∙ at_mask_in mask slot reads c.loop-slot.written d c.loop-slot-test.true (sym c.is_in_mask.ensures ∙ w.if-is_in_mask.true) ∙ c.loop-slot.invariant)
      | else-is_in_mask w ↦
          rw w.written-is (at_mask_out mask slot reads c.loop-slot.written d c.loop-slot-test.true (sym c.is_in_mask.ensures ∙ w.if-is_in_mask.false) ∙ c.loop-slot.invariant)
    ]
