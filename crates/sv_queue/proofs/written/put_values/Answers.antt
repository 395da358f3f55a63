-- What the check leaves to prove of `put_values`.
use Rattle.std.proofs.Common.{◌≡◌, [], ◌∷◌, append-nil, set, length, drop, refl, ap, sym, ◌∙◌, arith}
use Rattle.std.proofs.lemmas.List.{nil_from_length}
use Rattle.std.specs.Vec.Iter.{into_iter_items}
use Rattle.sv_queue.specs.Written.{writes_before}
use Rattle.sv_queue.proofs.WrittenObjects.{put_all-next, put_values_end, drop_push, writes_before-zero, writes_before_all}
use Rattle.sv_queue.proofs.written.put_values.Goals as goal
use Rattle.sv_queue.proofs.written.put_values.Goals.{in-Some+in-Some-next, in-Some+in_default-next, in_default}

pub loop-slot-init : goal.loop-slot-init
loop-slot-init c = rw (writes_before-zero c.args.action.now) (record { put = refl; left = c.into_iter-values.ensures.rest ∙ c.into_vec.ensures })

pub loop-slot-preserved : goal.loop-slot-preserved
loop-slot-preserved c =
    let a = c.args.action.now in
    let n = c.loop-slot.slot in
    let ws = writes_before a n in
    let put = c.loop-slot.invariant.put in
    let left = c.loop-slot.invariant.left in
    elim c.match-written_at.branch [
      | in-Some+in-Some-next w ↦
          let x = w.in-Some.object.0 in
          let rest = into_iter_items w.next.new.self in
          let here : drop (length ws) c.args.values ≡ w.in-Some-next.value ∷ rest = sym left ∙ w.in-Some-next.ensures.items in
          rw (w.in-Some.ensures.next, w.committed-is, w.values-is) (record {
            put = w.set.ensures ∙ ap (λ values. set values x w.in-Some-next.value) put ∙ sym (put_all-next c.args.committed.now ws x c.args.values w.in-Some-next.value rest here);
            left = sym (drop_push ws x c.args.values rest (ap (drop 1) here));
          })
      | in-Some+in_default-next w ↦
          let x = w.in-Some.object.0 in
          let same = w.in_default-next.ensures.items in
          let none : into_iter_items c.loop-slot.values ≡ [] = nil_from_length _ (omega (arith, c.loop-slot.values.rest.ok.0, w.in_default-next.ensures.cases.0)) in
          let here : drop (length ws) c.args.values ≡ [] = sym left ∙ none in
          rw (w.in-Some.ensures.next, w.committed-is, w.values-is) (record {
            put = put ∙ sym (put_values_end c.args.committed.now ws x c.args.values here);
            left = sym same ∙ none ∙ sym (drop_push ws x c.args.values [] (ap (drop 1) here));
          })
      | in_default w ↦ rw (w.in_default.ensures.next, append-nil ws, w.committed-is, w.values-is) (record { put = put; left = left })
    ]

pub returns : goal.returns
returns c =
    let done : c.loop-slot.slot ≡ length c.args.action.now.reads = omega arith in
    rw (← writes_before_all c.args.action.now, ← done) c.loop-slot.invariant.put
