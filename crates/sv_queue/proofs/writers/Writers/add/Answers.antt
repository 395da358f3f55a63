-- What the check leaves to prove of `Writers::add`.
use Rattle.std.proofs.Common.{◌≡◌, [], ◌∷◌, ◌++◌, length, List, ℕ, set, refl, ap, arith}
use Rattle.sv_queue.proofs.WrittenObjects.{unchanged, changed_slot, kept_slot, undone, read_known, writes_before-zero, writes_before_all}
use Rattle.sv_queue.specs.Written.{writes_before}
use Rattle.sv_queue.proofs.writers.Writers.add.Goals as goal
use Rattle.sv_queue.proofs.writers.Writers.add.Goals.{in-Some+in_default-push, in_default}

pub loop-slot-init : goal.loop-slot-init
loop-slot-init c = rw (writes_before-zero c.args.action.now, c.self.view_is) (unchanged [] (λ (list : List ℕ). list ++ c.args.pos ∷ []) c.args.self.now)

pub loop-slot-preserved : goal.loop-slot-preserved
loop-slot-preserved c =
    let a = c.args.action.now in
    let n = c.loop-slot.slot in
    let old = c.args.self.now in
    let now = c.loop-slot.self-inside.lists.items in
    let f = λ (list : List ℕ). list ++ c.args.pos ∷ [] in
    elim c.match-written_at.branch [
      | in-Some+in_default-push w ↦ changed_slot [] f a n old now c.match-written_at.self-inside.lists.items w.in-Some.object.0 w.index_mut-list.result.now w.push.new.self
          c.requires (omega arith) w.in-Some.ensures.read w.in-Some.ensures.fresh w.in-Some.ensures.next c.loop-slot.invariant
          w.index_mut-list.ensures.value w.in_default-push.ensures.ok (ap (λ i. i.lists.items) w.self-inside-is)
      | in_default w ↦ kept_slot [] f a n old now c.match-written_at.self-inside.lists.items w.in_default.ensures.next c.loop-slot.invariant (ap (λ i. i.lists.items) w.self-inside-is)
    ]

pub returns-in-Err-clause-err : goal.returns-in-Err-clause-err
returns-in-Err-clause-err c =
    let a = c.args.action.now in
    let n = c.loop-slot.slot in
    let old = c.args.self.now in
    let now = c.loop-slot.self-inside.lists.items in
    let h = c.loop-slot.invariant in
    let known = read_known a n c.in-Some.object.0 (length old) c.requires (omega arith) c.in-Some.ensures.read in
    undone (writes_before a n) c.args.pos c.in-Some.object.0 old now (set now c.in-Some.object.0 c.push.new.self) c.remove_last_before.new.lists.items
    c.index_mut-list.result.now c.push.new.self h (omega (arith, known, h.count)) c.index_mut-list.ensures.value c.in-Err.ensures.err refl c.remove_last_before.ensures

pub returns-clause-ok : goal.returns-clause-ok
returns-clause-ok c =
    let done : c.loop-slot.slot ≡ length c.args.action.now.reads = omega arith in
    rw (← writes_before_all c.args.action.now, ← done) c.loop-slot.invariant
