-- What is proved by hand of `line_length`.
use Rattle.sv_lines.proofs.Counting.{width_within, width_whole}
use Rattle.sv_lines.proofs.lines.line_length.Goals as goal

pub returns-then-count-text-clause-width : goal.returns-then-count-text-clause-width
returns-then-count-text-clause-width c = width_within c.args.text.now c.inner_width-count.result c.inner_width-count.ensures c.if-count-text.true

pub returns-else-count-text-clause-width : goal.returns-else-count-text-clause-width
returns-else-count-text-clause-width c = width_whole c.args.text.now c.inner_width-count.result c.inner_width-count.ensures c.if-count-text.false
