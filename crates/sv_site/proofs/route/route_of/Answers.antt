-- What is proved by hand of `route_of`.
use Rattle.sv_site.proofs.route.route_of.Goals as goal

pub returns-then-not-may_upgrade : goal.returns-then-not-may_upgrade
returns-then-not-may_upgrade c = (
  c.in-Some.key.now,
  record { gets = cc (c.if-not-is_get.ensures, c.if-not-is_get.false, c.is_get.ensures); has_key = cc c.in-Some.ensures },
  cc (c.if-not-may_upgrade.ensures, c.if-not-may_upgrade.true, c.may_upgrade.ensures),
)
