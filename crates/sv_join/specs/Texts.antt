-- What is printed of a client's play.
use Rattle.std.specs.Prelude.{ℕ, List, ◌++◌, reverse, codes}
use Rattle.std.specs.Fmt.{decimal}
use Rattle.std.specs.List.{flat_map}
use Rattle.sv_client.specs.declared.trace.Trace.{Trace}
use Rattle.sv_client.specs.Traces.{makes}
use Rattle.sv_script.specs.Telling.{told_lines}
use Rattle.sv_ending.specs.Lines.{ended_line}

-- How many actions the client made.
abbrev pub made_by : Trace → ℕ
made_by trace = makes (reverse trace.events)

-- A line for each change of its views, in order, and then the number of the actions that it made.
abbrev pub join_text : Trace → List ℕ
join_text trace = flat_map ended_line (told_lines trace) ++ codes "made " ++ decimal (made_by trace) ++ codes "\n"
