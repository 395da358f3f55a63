-- What is proved by hand of `same_objects`.
use Rattle.std.proofs.Common.{◌≡◌, ◌↔◌, ℕ, true, eqb, sym, ap, ◌∙◌}
use Rattle.std.proofs.lemmas.Bool.{eqb-true, eq-eqb}
use lib.Pointwise.{pointwise_decides}
use Rattle.sv_world.specs.declared.world.ObjectId.{ObjectId}
use Rattle.sv_lines.proofs.same.same_objects.Goals as goal

one_object : (x y : ObjectId) → (eqb x.0 y.0 ≡ true) ↔ (x ≡ y)
one_object x y = (λ is. ap (λ (n : ℕ). record { 0 = n }) (eqb-true x.0 y.0 is), λ same. eq-eqb x.0 y.0 (ap (λ (o : ObjectId). o.0) same))

pub returns-clause-same : goal.returns-clause-same
returns-clause-same c = λ is. (pointwise_decides one_object c.args.objects.now c.args.others.now).0 (sym c.eq.ensures ∙ is)

pub returns-clause-all : goal.returns-clause-all
returns-clause-all c = λ same. c.eq.ensures ∙ (pointwise_decides one_object c.args.objects.now c.args.others.now).1 same
