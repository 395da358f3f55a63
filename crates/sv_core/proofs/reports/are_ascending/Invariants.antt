-- The loop invariant of `are_ascending`.
use Rattle.std.proofs.Common.{◌≡◌, ◌∷◌, map, drop}
use Rattle.sv_world.specs.Faults.{is_ascending}
use Rattle.sv_wire.specs.declared.message.Done1.{Done1}
use Rattle.sv_core.proofs.reports.are_ascending.Given as goal

abbrev pub invariant-loop-found : goal.invariant-loop-found
invariant-loop-found l =
    is_ascending (l.last ∷ map (λ (d : Done1). d.pos) (drop l.found-index l.rest))
    ≡ is_ascending (map (λ (d : Done1). d.pos) l.results)
