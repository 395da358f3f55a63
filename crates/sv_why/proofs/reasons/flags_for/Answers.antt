-- What is proved by hand of `flags_for`.
use Rattle.std.proofs.Common.{Bool, false, ◌||◌, List, nat_eq, get_or, ap, ◌∙◌}
use mathlib.Core.Bool.{or-false}
use Rattle.sv_why.proofs.Wanting.{no-flag}
use Rattle.sv_why.proofs.reasons.flags_for.Goals as goal

pub returns-clause-marked : goal.returns-clause-marked
returns-clause-marked c = λ x.
    let o = c.args.object.0 in
    c.want.ensures.marked x
    ∙ ap (λ (b : Bool). nat_eq x o || b) (ap (λ (fs : List Bool). get_or fs x false) c.from_vec-flags.ensures ∙ no-flag c.in_ok-vec.field-0.items c.in_ok-vec.ensures.items x)
    ∙ or-false (nat_eq x o)
