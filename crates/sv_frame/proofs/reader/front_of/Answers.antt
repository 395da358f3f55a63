-- What is proved by hand of `front_of`.
use Rattle.std.proofs.Common.{◌+◌, take, drop, arith}
use Rattle.sv_frame.proofs.Fronts.{stated, stream_is_frame, frame_from_parts, no_frame_if_short, too_long_from, not_long_if_short, not_long_within}
use Rattle.sv_frame.proofs.reader.front_of.Goals as goal

pub returns-then-rest-lt-PREFIX : goal.returns-then-rest-lt-PREFIX
returns-then-rest-lt-PREFIX c =
    let rest = c.args.rest.now in
    (no_frame_if_short rest (omega arith), not_long_if_short rest (omega arith))

pub returns-then-size-gt-GREATEST_PAYLOAD : goal.returns-then-size-gt-GREATEST_PAYLOAD
returns-then-size-gt-GREATEST_PAYLOAD c =
    let rest = c.args.rest.now in
    too_long_from rest c.read_u32-length.result (stated rest c.read_u32-length.result c.read_u32-length.ensures) (omega arith) (omega arith)

pub returns-then-rest-size : goal.returns-then-rest-size
returns-then-rest-size c =
    let rest = c.args.rest.now in
    let is = stated rest c.read_u32-length.result c.read_u32-length.ensures in
    (no_frame_if_short rest (omega (arith, is)), not_long_within rest (omega (arith, is)))

pub returns : goal.returns
returns c =
    let rest = c.args.rest.now in
    let n = c.read_u32-length.result in
    let e = frame_from_parts rest n (stated rest n c.read_u32-length.ensures) (omega arith) (omega arith) in
    (omega arith, e, (stream_is_frame rest (take n (drop 4 rest)) (drop (4 + n) rest) (λ i. omega (arith, c.type_inv.rest i)) e).0)
