-- The loop invariant and the ghost arguments of `copy_missing`.
use Rattle.std.proofs.Common.{◌≡◌, ◌++◌, filter, drop}
use Rattle.sv_wire.specs.declared.message.Done1.{Done1}
use Rattle.sv_core.specs.Relays.{is_missing}
use Rattle.sv_core.proofs.reports.copy_missing.Given as goal

abbrev pub invariant-loop-found : goal.invariant-loop-found
invariant-loop-found l =
    l.copies.items ++ filter (λ (d : Done1). is_missing l.queue d.pos) (drop l.found-index l.results)
    ≡ filter (λ (d : Done1). is_missing l.queue d.pos) l.results

abbrev pub ghosts-is_missing : goal.ghosts-is_missing
ghosts-is_missing a = record { name = a.blank.name; parts = a.blank.parts }
