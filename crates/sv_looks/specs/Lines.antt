-- The line that tells a snapshot.
use Rattle.std.specs.Prelude.{ℕ, ◌-◌, List, ◌++◌, map, Option, Some, None, codes}
use Rattle.std.specs.Fmt.{decimal}
use Rattle.std.specs.List.{flat_map}
use Rattle.sv_world.specs.declared.world.Shape.{Shape}
use Rattle.sv_journal.specs.Pieces.{head_text}
use Rattle.sv_client.specs.declared.trace.Trace.{Trace}
use Rattle.sv_ending.specs.Lines.{ended_line}
use Rattle.sv_looks.specs.declared.snapshot.Snapshot.{Snapshot}
use Rattle.sv_looks.specs.Snapshots.{snapshots_of}

-- `look c0 2 at 2`: the client, its number for the look, and the position. `seen c1 at 3`: the client, and the position at which it saw what it
-- observed, behind which the snapshot stands.
abbrev pub moment_text : ℕ → Option ℕ → ℕ → List ℕ
moment_text client (Some seq) pos = codes "look c" ++ decimal client ++ codes " " ++ decimal seq ++ codes " at " ++ decimal pos
moment_text client None pos = codes "seen c" ++ decimal client ++ codes " at " ++ decimal (pos - 1)

-- `look c0 2 at 2 [0=(11) 1=(20)]`, or `seen c1 at 3 [0=(5) 2=(7)]`
abbrev pub look_line : Snapshot → List ℕ
look_line s = moment_text s.client.0 s.seq s.pos ++ codes " " ++ head_text s.values

-- The lines of the snapshots that traces tell, in order, each with its end.
abbrev pub looks_text : Shape → List Trace → List ℕ
looks_text shape Ls = flat_map ended_line (map look_line (snapshots_of shape Ls))
