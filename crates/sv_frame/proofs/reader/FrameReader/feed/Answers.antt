-- What is proved by hand of `FrameReader::feed`.
use Rattle.std.proofs.Common.{◌≡◌, List, ℕ, ◌+◌, ◌-◌, ◌≤◌, ◌++◌, take, drop, length, ap, ◌∙◌, arith}
use Rattle.std.specs.Vec.{vec_len, with_items}
use Rattle.std.proofs.Math.Seq.{take-length}
use Rattle.std.proofs.lemmas.List.{with_items_is}
use Rattle.sv_frame.proofs.Room.{part, part-filled, Written, rest-written, length-fed}
use Rattle.sv_frame.proofs.reader.FrameReader.feed.Goals as goal

pub returns : goal.returns
returns c =
    let piece = c.args.piece.now in
    let room = c.as_mut_slice.result.now in
    let made = c.make_space-self-inside in
    let start = made.result in
    let size = c.self.inside.end - c.self.inside.start in
    let end = start + size in
    let k = end + length piece - end in
    let copied = c.copy_from_slice.new.self in
    let is : copied ≡ piece = c.copy_from_slice.ensures.after in
    let value = c.as_mut_slice.ensures.value in
    let fill = c.fill in
    let filled_room = part-filled made.new.room.items fill.new.room.items start size (vec_len made.new.room) fill.ensures.kept made.new.room.ok.0 made.ensures.behind in
    let long : end + k ≤ length room = omega (arith, c.as_mut_slice.ensures.len, fill.ensures.filled) in
    let written : Written room start size copied k c.args.self.now =
    record {
      rest_is = ap (λ (l : List ℕ). take size (drop start l)) value ∙ (filled_room ∙ (made.ensures.rest ∙ c.self.view_is));
      place = long;
      size_is = ap length is ∙ omega arith;
    } in
    let filled = take end room ++ (copied ++ drop k (drop end room)) in
    let items : (with_items fill.new.room filled).items ≡ filled =
    with_items_is fill.new.room filled (length-fed room copied end k (omega (arith, written.place)) written.size_is ∙ c.as_mut_slice.ensures.len) in
    let all : take (length piece) copied ≡ piece = ap (take (length piece)) is ∙ take-length piece in
    ap (part start (end + length piece)) items
    ∙ (rest-written room c.args.self.now copied start size k (length piece) written (omega arith) ∙ ap (λ (l : List ℕ). c.args.self.now ++ l) all)
