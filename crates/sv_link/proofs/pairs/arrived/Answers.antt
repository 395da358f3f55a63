-- What is proved by hand of `arrived`.
use Rattle.std.proofs.Common.{rules}
use Rattle.sv_link.proofs.Arrivals.{prefix_decided, whole_by_length}
use Rattle.sv_link.proofs.pairs.arrived.Goals as goal

pub returns-then-not-ended : goal.returns-then-not-ended
returns-then-not-ended c =
    let is = prefix_decided _ _ _ c.starts_with.ensures.value in
    ((λ _. record { part = is.0 c.if-starts_with.true; whole = λ e. search rules }), λ _. search rules)

pub returns-else-not-ended : goal.returns-else-not-ended
returns-else-not-ended c =
    let is = prefix_decided _ _ _ c.starts_with.ensures.value in
    ((λ same. record { part = is.0 c.if-starts_with.true; whole = λ _. whole_by_length _ _ (is.0 c.if-starts_with.true) (search rules) }), λ a. search rules)

pub returns-else-starts_with : goal.returns-else-starts_with
returns-else-starts_with c =
    let is = prefix_decided _ _ _ c.starts_with.ensures.value in
    ((λ r. search rules), λ a. is.1 a.part)
