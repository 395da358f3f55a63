-- What is proved by hand of `take_lines`.
use Rattle.std.proofs.Common.{ℕ, take, drop, ap, ◌∙◌}
use Rattle.sv_lines.proofs.Counting.{took_more}
use Rattle.sv_lines.proofs.lines.take_lines.Goals as goal

pub loop-left-preserved : goal.loop-left-preserved
loop-left-preserved c =
    let left = c.loop-left.left.now in
    took_more c.args.text.now c.args.lines.now c.loop-left.rest.now left c.split_at.result.0.now c.loop-left.invariant
    (c.split_at.ensures.front ∙ ap (λ (n : ℕ). take n left) c.line_length.ensures.width)
    c.split_at.result.1.now c.in_ok-rest.rest.now
    (c.split_at.ensures.back ∙ ap (λ (n : ℕ). drop n left) c.line_length.ensures.width)
    c.in_ok-rest.ensures.taken
