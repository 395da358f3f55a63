-- What is proved by hand of `Seen::is_same`.
use Rattle.std.proofs.Common.{◌≡◌, ◌≢◌, ℤ, int_eq, List, Option, Some, sym, ap, subst, ◌∙◌}
use Rattle.std.specs.Bool.{MatchBool}
use lib.Pointwise.{pointwise}
use Rattle.sv_pilot.proofs.Heard.{value_test}
use Rattle.sv_pilot.proofs.audience.Seen.is_same.Goals as goal

pub returns-in-Some : goal.returns-in-Some
returns-in-Some c =
    subst (λ (o : Option (List ℤ)). MatchBool c.eq.result (o ≡ Some c.args.value.now) (o ≢ Some c.args.value.now)) (sym c.in-Some.is)
    (value_test c.in-Some.before c.args.value.now c.eq.result (c.eq.ensures ∙ ap (λ (v : List ℤ). pointwise int_eq v c.as_slice-in-Some.result.now) c.as_slice.ensures ∙ ap (λ (w : List ℤ). pointwise int_eq c.in-Some.before w) c.as_slice-in-Some.ensures))
