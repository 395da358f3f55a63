-- What the check leaves to prove of `live_slots`.
use Rattle.std.proofs.Common.{◌≡◌, ◌+◌, ◌<◌, ◌≤◌, length, sym, ◌∙◌, ap, subst, arith}
use Rattle.sv_queue.specs.Slots.{SlotSet}
use Rattle.sv_core.proofs.Live.{HasLiveBelow, live-added, live-left}
use Rattle.sv_core.proofs.orphans.live_slots.Goals as goal
use Rattle.sv_core.proofs.orphans.live_slots.Goals.{then-is_live_at, else-is_live_at}

pub loop-slot-preserved : goal.loop-slot-preserved
loop-slot-preserved c =
    let rows = c.args.sessions.now in
    let k = c.loop-slot.slot in
    let past = c.loop-slot.invariant in
    let small : k < 1024 = omega (arith, c.loop-slot-test.true, c.requires) in
    elim c.if-is_live_at.branch [
      | then-is_live_at w ↦ rw w.live-is (record {
        room = omega (arith, past.room, ap (λ (r : SlotSet). r.room) w.add.ensures);
        has = subst (HasLiveBelow (k + 1) rows) (sym (ap (λ (r : SlotSet). r.slots) w.add.ensures)) (live-added rows k c.loop-slot.live.slots small (sym c.is_live_at.ensures ∙ w.if-is_live_at.true) past.has);
      })
      | else-is_live_at w ↦ rw w.live-is (record {
        room = past.room;
        has = live-left rows k c.loop-slot.live.slots (sym c.is_live_at.ensures ∙ w.if-is_live_at.false) past.has;
      })
    ]
