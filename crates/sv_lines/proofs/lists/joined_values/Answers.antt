-- What is proved by hand of `joined_values`.
use Rattle.std.proofs.Common.{[]}
use Rattle.sv_lines.specs.Reading.{values_by}
use Rattle.sv_lines.proofs.Turns.{values_go}
use Rattle.sv_lines.proofs.lists.joined_values.Goals as goal

pub loop-preserved : goal.loop-preserved
loop-preserved c =
    values_go c.args.turns c.loop.counter c.loop.values c.loop.left.now (values_by c.args.turns [] c.args.text.now) c.loop-test.true c.loop.invariant c.in-Some.inner.now c.in-Some.ensures.read
    c.in_ok-value.value c.in_ok-value.after.now c.push.new.self c.in_ok-value.ensures c.in_ok-push.ensures.ok
