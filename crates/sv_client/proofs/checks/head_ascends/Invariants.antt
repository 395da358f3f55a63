-- The loop invariant of `head_ascends`.
use Rattle.std.proofs.Common.{◌≡◌, ◌∷◌, map, drop}
use Rattle.sv_world.specs.Faults.{is_ascending}
use Rattle.sv_wire.specs.declared.message.ObjectValue.{ObjectValue}
use Rattle.sv_client.proofs.checks.head_ascends.Given as goal

abbrev pub invariant-loop-held : goal.invariant-loop-held
invariant-loop-held l =
    is_ascending (l.last ∷ map (λ (h : ObjectValue). h.object.0) (drop l.held-index l.rest))
    ≡ is_ascending (map (λ (h : ObjectValue). h.object.0) l.head)
