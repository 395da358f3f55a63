-- What is proved by hand of `last_values`.
use Rattle.std.proofs.Common.{Some, option_copied, sym, ap, ◌∙◌}
use Rattle.sv_client.proofs.Lasts.{last_values_is}
use Rattle.sv_client.proofs.applying.last_values.Goals as goal

pub returns-in-Some : goal.returns-in-Some
returns-in-Some c =
    ap (λ vs. Some vs) c.as_slice.ensures ∙ sym (last_values_is c.args.results.now c.in-Some.last.now (sym c.last.ensures.value ∙ ap option_copied c.in-Some.is))
