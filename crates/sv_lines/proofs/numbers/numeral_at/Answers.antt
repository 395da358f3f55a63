-- What is proved by hand of `numeral_at`.
use Rattle.std.proofs.Common.{arith}
use Rattle.std.proofs.lemmas.List.Sums.{prefix_len-le-length}
use Rattle.sv_lines.specs.Reading.{is_numeric}
use Rattle.sv_lines.proofs.Numerals.{numeral_is_text}
use Rattle.sv_lines.proofs.numbers.numeral_at.Goals as goal

pub split_at-requires : goal.split_at-requires
split_at-requires c = omega (arith, c.width.ensures, prefix_len-le-length is_numeric c.args.text.now)

pub returns-in-Err-clause-numeral : goal.returns-in-Err-clause-numeral
returns-in-Err-clause-numeral c = absurd (c.in-Err.ensures.cases.0 (rw (c.split_at.ensures.front, c.width.ensures) (numeral_is_text c.args.text.now)))
