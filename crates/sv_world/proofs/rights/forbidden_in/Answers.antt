-- A slot out of the mask, or of an object that the client may write, has none.
use Rattle.std.proofs.Common.{ℕ, Bool, sym, ap, ◌∙◌}
use Rattle.std.specs.Prelude.{not}
use Rattle.sv_world.specs.declared.world.ObjectId.{ObjectId}
use Rattle.sv_world.specs.Rights.{may_write}
use Rattle.sv_world.proofs.Forbidden.{first_after_out, first_after_fail}
use Rattle.sv_world.proofs.rights.forbidden_in.Goals as goal
use Rattle.sv_world.proofs.rights.forbidden_in.Goals.{else-is_in_mask-via-then-is_in_mask+else-not-may_write, else-is_in_mask-via-else-is_in_mask}

pub loop-slot-preserved : goal.loop-slot-preserved
loop-slot-preserved c =
    let mask = c.args.mask in
    let slot = c.loop-slot.slot in
    let reads = c.args.reads.now in
    let test : ℕ → Bool = λ object. not (may_write c.args.rights.now c.args.client.0 object) in
    let d : ObjectId = record { 0 = 0 } in
    elim c.else-is_in_mask.branch [
      | else-is_in_mask-via-then-is_in_mask+else-not-may_write w ↦
          sym (first_after_fail test mask slot reads d c.loop-slot-test.true (ap not (sym w.may_write.ensures ∙ w.if-not-may_write.false))) ∙ c.loop-slot.invariant
      | else-is_in_mask-via-else-is_in_mask w ↦
          sym (first_after_out test mask slot reads d c.loop-slot-test.true (sym c.is_in_mask.ensures ∙ w.if-is_in_mask.false)) ∙ c.loop-slot.invariant
    ]
