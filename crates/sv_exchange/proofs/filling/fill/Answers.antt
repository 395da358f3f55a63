-- What is proved by hand of `fill`.
use Rattle.std.proofs.Common.{◌≤◌, length, take, drop, ◌∙◌, arith}
use Rattle.sv_link.specs.Sides.{other, side_of, unread}
use Rattle.sv_exchange.proofs.Onward.{read_on_more, unread_after, moved}
use Rattle.sv_exchange.proofs.filling.fill.Goals as goal

pub loop-reader-preserved : goal.loop-reader-preserved
loop-reader-preserved c =
    let old = c.loop-reader.link in
    let new = c.read-count.new.self in
    let left = unread (side_of old (other c.args.side)) in
    let piece = take c.min-room.result c.loop-reader.piece in
    let few : c.read-count.result ≤ length left = omega (arith, c.read-count.ensures.count) in
    let step = unread_after old new c.args.side c.read-count.result c.read-count.ensures.left in
    record {
      link = read_on_more c.args.link.now old new c.args.side c.read-count.result c.read-count.ensures.left few c.loop-reader.invariant.link;
      same = moved c.loop-reader.reader c.feed.new.self left (unread (side_of new (other c.args.side))) c.read-count.new.into piece (drop c.min-room.result c.loop-reader.piece) c.read-count.result c.read-count.ensures.bytes few c.feed.ensures step ∙ c.loop-reader.invariant.same;
    }
