-- The digits of numbers below 10 and below 100.
use Rattle.std.proofs.Common.{◌∙◌, ap}
use Rattle.std.specs.Str.{bytes_eq}
use Rattle.sv_scenario.proofs.Decimals.{one_digit, two_digits_are}
use Rattle.sv_scenario.proofs.turns.is_decimal.Goals as goal

pub returns-then-number-lt10 : goal.returns-then-number-lt10
returns-then-number-lt10 c = rw (one_digit c.args.number c.if-number-lt10.true) (c.eq.ensures ∙ ap (λ ds. bytes_eq ds c.args.digits.now) c.as_slice.ensures)

pub returns-else-number-lt10 : goal.returns-else-number-lt10
returns-else-number-lt10 c = rw (two_digits_are c.args.number c.if-number-lt10.false c.requires) (c.eq-else-number-lt10.ensures ∙ ap (λ ds. bytes_eq ds c.args.digits.now) c.as_slice-else-number-lt10.ensures)
