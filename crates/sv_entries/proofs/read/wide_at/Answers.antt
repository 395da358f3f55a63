-- What is proved by hand of `wide_at`.
use Rattle.sv_lines.proofs.Numerals.{number_ok, number_err}
use Rattle.sv_entries.proofs.read.wide_at.Goals as goal

pub returns-in-Ok : goal.returns-in-Ok
returns-in-Ok c = number_ok c.args.text.now c.numeral_at.result.0.now c.numeral_at.result.1.now c.numeral_at.ensures.numeral c.numeral_at.ensures.rest 64 c.parse.result c.parse.ensures.value.0 c.in-Ok.number c.in-Ok.is

pub returns-in-Err : goal.returns-in-Err
returns-in-Err c = number_err c.args.text.now c.numeral_at.result.0.now c.numeral_at.result.1.now c.numeral_at.ensures.numeral c.numeral_at.ensures.rest 64 c.parse.result c.parse.ensures.value.0 c.in-Err.field-0 c.in-Err.is
