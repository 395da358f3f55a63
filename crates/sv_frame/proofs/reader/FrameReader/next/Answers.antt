-- What is proved by hand of `FrameReader::next`.
use Rattle.std.proofs.Common.{◌≡◌, Some, None, List, ℕ, ◌+◌, ◌-◌, ◌≤◌, ◌++◌, take, drop, refl, sym, ap, ◌∙◌, arith, option_map, length-take}
use Rattle.sv_frame.specs.Frames.{frame, first_frame, too_long}
use Rattle.sv_frame.proofs.Fronts.{room_if_neither, no_frame_if_too_long, some_pair}
use Rattle.sv_frame.proofs.Room.{part, part-payload, part-after}
use Rattle.sv_frame.proofs.Splitting.{split-none, takes_off}
use Rattle.sv_frame.proofs.reader.FrameReader.next.Goals as goal

pub returns-in-Whole : goal.returns-in-Whole
returns-in-Whole c =
    let room = c.deref.result.now in
    let start = c.self.inside.start in
    let end = c.self.inside.end in
    let n = c.in-Whole.length in
    let total = end - start in
    let same : part start end room ≡ c.args.self.now = ap (part start end) c.deref.ensures.value ∙ c.self.view_is in
    let found = c.in-Whole.ensures in
    let size : 4 + n ≤ total = omega (arith, found.0, length-take total (drop start room)) in
    let k = start + 4 + n - (start + 4) in
    let again : c.deref-in-Whole.result.now ≡ room = c.deref-in-Whole.ensures.value ∙ sym c.deref.ensures.value in
    let payload : take n (drop 4 (part start end room)) ≡ take k (drop (start + 4) c.deref-in-Whole.result.now) =
    sym (ap (λ (l : List ℕ). take k (drop (start + 4) l)) again ∙ part-payload room start n (total - (4 + n)) total k (start + 4) (omega arith) (omega arith) refl) in
    let after : drop (4 + n) (part start end room) ≡ part (start + 4 + n) end c.self.inside.room.items =
    sym (ap (part (start + 4 + n) end) (sym c.deref.ensures.value) ∙ part-after room start n total (end - (start + 4 + n)) (start + 4 + n) (omega arith) (omega arith)) in
    let whole : first_frame c.args.self.now ≡ Some (take k (drop (start + 4) c.deref-in-Whole.result.now), part (start + 4 + n) end c.self.inside.room.items) =
    ap first_frame (sym same) ∙ (found.1 ∙ some_pair _ _ _ _ payload after) in
    let joined : c.args.self.now ≡ frame (take k (drop (start + 4) c.deref-in-Whole.result.now)) ++ part (start + 4 + n) end c.self.inside.room.items =
    sym same ∙ (found.2 ∙ (ap (λ (l : List ℕ). frame l ++ drop (4 + n) (part start end room)) payload ∙ ap (λ (l : List ℕ). frame (take k (drop (start + 4) c.deref-in-Whole.result.now)) ++ l) after)) in (
      (refl, λ _. tt, takes_off _ _ _ whole joined),
      record { answer = ap (option_map (λ (first : List ℕ × List ℕ). first.0)) whole; room = tt; rest = tt },
    )

pub returns-in-Partial : goal.returns-in-Partial
returns-in-Partial c =
    let same = ap (part c.self.inside.start c.self.inside.end) c.deref.ensures.value ∙ c.self.view_is in
    let none : (first_frame c.args.self.now ≡ None) × (too_long c.args.self.now ≡ None) =
    (ap first_frame (sym same) ∙ c.in-Partial.ensures.0, ap too_long (sym same) ∙ c.in-Partial.ensures.1) in (
      (refl, λ _. tt, (c.self.view_is, split-none c.args.self.now none.0)),
      record { answer = none; room = room_if_neither c.args.self.now none.0 none.1; rest = tt },
    )

pub returns-in-Oversize : goal.returns-in-Oversize
returns-in-Oversize c =
    let same = ap (part c.self.inside.start c.self.inside.end) c.deref.ensures.value ∙ c.self.view_is in
    let long : too_long c.args.self.now ≡ Some c.in-Oversize.length = ap too_long (sym same) ∙ c.in-Oversize.ensures in (
      (refl, λ _. tt, (c.self.view_is, split-none c.args.self.now (no_frame_if_too_long c.args.self.now c.in-Oversize.length long))),
      record { answer = long; room = tt; rest = tt },
    )
