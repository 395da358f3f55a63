-- What is proved by hand of `FrameReader::read_from`.
use Rattle.std.proofs.Common.{◌≡◌, List, ℕ, ◌+◌, ◌-◌, ◌++◌, take, drop, length, ap, ◌∙◌, arith, length-take-le}
use Rattle.std.specs.Vec.{vec_len, with_items}
use Rattle.std.proofs.lemmas.List.{with_items_is}
use Rattle.sv_frame.proofs.Room.{part, part-filled, Written, rest-written, rest-kept, length-fed, tail-size}
use Rattle.sv_frame.proofs.Reading.{nothing_came}
use Rattle.sv_frame.proofs.reader.FrameReader.read_from.Goals as goal

pub returns-in-Got-clause-came : goal.returns-in-Got-clause-came
returns-in-Got-clause-came g c =
    let room = c.as_mut_slice.result.now in
    let made = c.make_space-self-inside in
    let start = made.result in
    let size = c.self.inside.end - c.self.inside.start in
    let end = start + size in
    let k = length room - end in
    let into = c.read-answer.new.into in
    let count = c.in-Got.count in
    let fill = c.fill in
    let filled_room = part-filled c.self.inside.room.items fill.new.room.items c.self.inside.start size (vec_len c.self.inside.room) fill.ensures.kept c.self.inside.room.ok.0 (omega arith) in
    let long : length room ≡ 65540 = omega (arith, c.as_mut_slice.ensures.len, made.ensures.room, fill.ensures.filled, fill.ensures.room) in
    let told = c.in-Got.ensures.told in
    let written : Written room start size into k c.args.self.now =
    record {
      rest_is = ap (λ (l : List ℕ). take size (drop start l)) c.as_mut_slice.ensures.value ∙ (made.ensures.rest ∙ (filled_room ∙ c.self.view_is));
      place = omega (arith, long, made.ensures.space);
      size_is = c.read-answer.auto.into ∙ tail-size room end;
    } in
    let filled = take end room ++ (into ++ drop k (drop end room)) in
    let items : (with_items made.new.room filled).items ≡ filled =
    with_items_is made.new.room filled (length-fed room into end k (omega (arith, written.place)) written.size_is ∙ c.as_mut_slice.ensures.len) in
    record {
      bytes = take count into;
      size = length-take-le count into told.1;
      some = told.0;
      told = told.2;
      rest = ap (part start (end + count)) items ∙ rest-written room c.args.self.now into start size k count written (omega (arith, told.1, written.size_is));
    }

pub returns-in_default-clause-came : goal.returns-in_default-clause-came
returns-in_default-clause-came g c =
    let room = c.as_mut_slice.result.now in
    let made = c.make_space-self-inside in
    let start = made.result in
    let size = c.self.inside.end - c.self.inside.start in
    let end = start + size in
    let k = length room - end in
    let into = c.read-answer.new.into in
    let fill = c.fill in
    let filled_room = part-filled c.self.inside.room.items fill.new.room.items c.self.inside.start size (vec_len c.self.inside.room) fill.ensures.kept c.self.inside.room.ok.0 (omega arith) in
    let long : length room ≡ 65540 = omega (arith, c.as_mut_slice.ensures.len, made.ensures.room, fill.ensures.filled, fill.ensures.room) in
    let written : Written room start size into k c.args.self.now =
    record {
      rest_is = ap (λ (l : List ℕ). take size (drop start l)) c.as_mut_slice.ensures.value ∙ (made.ensures.rest ∙ (filled_room ∙ c.self.view_is));
      place = omega (arith, long, made.ensures.space);
      size_is = c.read-answer.auto.into ∙ tail-size room end;
    } in
    let filled = take end room ++ (into ++ drop k (drop end room)) in
    let items : (with_items made.new.room filled).items ≡ filled =
    with_items_is made.new.room filled (length-fed room into end k (omega (arith, written.place)) written.size_is ∙ c.as_mut_slice.ensures.len) in
    nothing_came c.read-answer.result _ _ into _ _ c.in_default.not-Got c.read-answer.ensures.told (ap (part start end) items ∙ rest-kept room c.args.self.now into start size k written)
