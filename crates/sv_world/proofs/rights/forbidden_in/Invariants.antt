-- The first one of those that are left is the first one of all.
use Rattle.std.proofs.Common.{◌≡◌}
use Rattle.std.specs.Prelude.{not}
use Rattle.sv_world.specs.Rights.{may_write}
use Rattle.sv_world.proofs.Forbidden.{first_from}
use Rattle.sv_world.proofs.rights.forbidden_in.Given as goal

abbrev pub invariant-loop-slot : goal.invariant-loop-slot
invariant-loop-slot l =
    first_from (λ object. not (may_write l.rights l.client.0 object)) l.mask l.slot l.reads
    ≡ first_from (λ object. not (may_write l.rights l.client.0 object)) l.mask 0 l.reads
