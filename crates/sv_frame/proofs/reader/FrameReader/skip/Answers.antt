-- What is proved by hand of `FrameReader::skip`.
use Rattle.std.proofs.Common.{◌≡◌, Some, List, ℕ, ◌+◌, ◌-◌, ◌≤◌, ◌++◌, take, drop, refl, sym, ap, ◌∙◌, arith, length-take}
use Rattle.sv_frame.specs.Frames.{frame, first_frame}
use Rattle.sv_frame.proofs.Fronts.{no_frame_if_too_long, some_pair}
use Rattle.sv_frame.proofs.Room.{part, part-after}
use Rattle.sv_frame.proofs.Splitting.{takes_off, skips}
use Rattle.sv_frame.proofs.reader.FrameReader.skip.Goals as goal

pub returns : goal.returns
returns c =
    let room = c.deref.result.now in
    let start = c.self.inside.start in
    let end = c.self.inside.end in
    let n = c.in-Whole.length in
    let total = end - start in
    let same : part start end room ≡ c.args.self.now = ap (part start end) c.deref.ensures.value ∙ c.self.view_is in
    let found = c.in-Whole.ensures in
    let size : 4 + n ≤ total = omega (arith, found.0, length-take total (drop start room)) in
    let payload = take n (drop 4 (part start end room)) in
    let new = part (start + 4 + n) end c.self.inside.room.items in
    let after : drop (4 + n) (part start end room) ≡ new =
    sym (ap (part (start + 4 + n) end) (sym c.deref.ensures.value) ∙ part-after room start n total (end - (start + 4 + n)) (start + 4 + n) (omega arith) (omega arith)) in
    let whole : first_frame c.args.self.now ≡ Some (payload, new) = ap first_frame (sym same) ∙ (found.1 ∙ some_pair _ _ _ _ refl after) in
    let joined : c.args.self.now ≡ frame payload ++ new = sym same ∙ (found.2 ∙ ap (λ (l : List ℕ). frame payload ++ l) after) in
    skips payload c.args.self.now new (takes_off payload c.args.self.now new whole joined)

pub unreachable-requires : goal.unreachable-requires
unreachable-requires c =
    let same = ap (part c.self.inside.start c.self.inside.end) c.deref.ensures.value ∙ c.self.view_is in
    c.requires (ap first_frame (sym same) ∙ c.in-Partial.ensures.0)

pub unreachable-requires-in-Oversize : goal.unreachable-requires-in-Oversize
unreachable-requires-in-Oversize c =
    let same = ap (part c.self.inside.start c.self.inside.end) c.deref.ensures.value ∙ c.self.view_is in
    c.requires (ap first_frame (sym same) ∙ no_frame_if_too_long _ _ c.in-Oversize.ensures)
