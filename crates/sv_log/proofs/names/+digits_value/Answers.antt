-- What is proved by hand of `digits_value`.
use Rattle.std.proofs.Common.{◌≡◌, rules, length}
use Rattle.sv_log.specs.Names.{digits, HasDigits}
use Rattle.sv_log.proofs.Numbers.{match_more, no_digits, none_before, too_great, one_more}
use Rattle.sv_log.proofs.names.+digits_value.Goals as goal

pub returns-in_default : goal.returns-in_default
returns-in_default t c = no_digits c.args.bytes.now c.in_default.ensures.cases

pub returns-in_default-digits_value : goal.returns-in_default-digits_value
returns-in_default-digits_value t c = none_before c.args.bytes.now c.in-Some.front.now c.in-Some.last.now c.in-Some.ensures.cases.0 c.in_default-digits_value.ensures

pub returns : goal.returns
returns t c =
    match_more c.number_with.result _ _ _ _ c.number_with.ensures
    (too_great c.args.bytes.now c.in-Some.front.now c.in-Some.last.now c.in-Some.ensures.cases.0 c.in-Some-digits_value.value c.in-Some-digits_value.ensures)
    (one_more c.args.bytes.now c.in-Some.front.now c.in-Some.last.now c.in-Some.ensures.cases.0 c.in-Some-digits_value.value c.in-Some-digits_value.ensures)
