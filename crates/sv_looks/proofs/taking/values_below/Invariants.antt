-- The values of the objects so far.
use Rattle.std.proofs.Common.{◌≡◌, ◌++◌, drop}
use Rattle.sv_client.specs.Traces.{held_of}
use Rattle.sv_looks.specs.Snapshots.{read_all_below}
use Rattle.sv_looks.proofs.taking.values_below.Given as goal

-- the values so far and those of the objects left are all
abbrev pub invariant-loop-object : goal.invariant-loop-object
invariant-loop-object l =
    l.values ++ read_all_below (held_of l.client.events) l.pos (drop l.object-index l.objects) ≡ read_all_below (held_of l.client.events) l.pos l.objects
