-- What is proved by hand of `signed_at`.
use Rattle.std.specs.Int.{w64}
use Rattle.std.proofs.lemmas.Int.{to_z-of_z}
use Rattle.sv_lines.proofs.Numerals.{signed_ok, signed_err, signed_long}
use Rattle.sv_lines.proofs.numbers.signed_at.Goals as goal

pub returns-in-Ok : goal.returns-in-Ok
returns-in-Ok c =
    let long = signed_long c.args.text.now c.numeral_at.result.0.now c.numeral_at.result.1.now c.numeral_at.ensures.numeral c.numeral_at.ensures.rest c.parse.result c.parse.ensures.value.0 c.in-Ok.number c.in-Ok.is in
    rw (to_z-of_z w64 c.in-Ok.number long)
    (record {
      read = signed_ok c.args.text.now c.numeral_at.result.0.now c.numeral_at.result.1.now c.numeral_at.ensures.numeral c.numeral_at.ensures.rest c.parse.result c.parse.ensures.value.0 c.in-Ok.number c.in-Ok.is;
      long = long;
    })

pub returns-in-Err : goal.returns-in-Err
returns-in-Err c = record {
  read = signed_err c.args.text.now c.numeral_at.result.0.now c.numeral_at.result.1.now c.numeral_at.ensures.numeral c.numeral_at.ensures.rest c.parse.result c.parse.ensures.value.0 c.in-Err.field-0 c.in-Err.is;
  long = tt;
}
