-- The brief summary of a run: counts, and sums over the committed world.
use Rattle.std.specs.Prelude.{ℕ, zero, suc, ◌+◌, ℤ, pos, ◌+ℤ◌, List, [], ◌∷◌, ◌++◌, length, reverse, slice_index_or, codes}
use Rattle.std.specs.Fmt.{decimal, signed_decimal}
use Rattle.sv_journal.specs.declared.entry.Entry.{Entry}
use Rattle.sv_journal.specs.History.{accepted, commit_of, committed_of}
use Rattle.sv_client.specs.declared.trace.Trace.{Trace}
use Rattle.sv_client.specs.Traces.{makes}
use Rattle.sv_scenario.specs.declared.scenario.Scenario.{Scenario}
use Rattle.sv_scenario.specs.Sessions.{session_count}
use Rattle.sv_report.specs.Drops.{dropped_count}

-- ---- Counts

-- How many actions all clients made.
abbrev pub made_count : List Trace → ℕ
made_count [] = 0
made_count (L ∷ Ls) = makes (reverse L.events) + made_count Ls

-- ---- Sums

-- The sum of an attribute over values, where one that a value lacks counts as 0.
abbrev pub total_of : ℕ → List (List ℤ) → ℤ
total_of attr [] = pos 0
total_of attr (value ∷ values) = slice_index_or value attr (pos 0) +ℤ total_of attr values

abbrev pub total_line : ℕ → List (List ℤ) → List ℕ
total_line attr values = codes "total " ++ decimal attr ++ codes ": " ++ signed_decimal (total_of attr values) ++ 10 ∷ []

-- The lines of so many attributes from a number on.
abbrev pub total_lines : ℕ → ℕ → List (List ℤ) → List ℕ
total_lines attr zero values = []
total_lines attr (suc n) values = total_line attr values ++ total_lines (attr + 1) n values

-- ---- The text

abbrev pub size_lines : ℕ → ℕ → ℕ → List ℕ
size_lines clients sessions objects =
    codes "clients " ++ decimal clients ++ codes "\nsessions " ++ decimal sessions ++ codes "\nobjects " ++ decimal objects ++ codes "\n"

abbrev pub count_lines : ℕ → ℕ → ℕ → ℕ → List ℕ
count_lines made positions dropped commit = codes "made " ++ decimal made ++ codes "\naccepted " ++ decimal positions ++ codes "\ndropped " ++ decimal dropped
    ++ codes "\ncommit " ++ decimal commit ++ codes "\n"

-- The brief summary of entries and traces of a scenario's run.
abbrev pub summary_text : Scenario → List Entry → List Trace → List ℕ
summary_text scenario entries traces =
    size_lines (length scenario.clients) (session_count scenario) scenario.world.shape.objects
    ++ count_lines (made_count traces) (length (accepted (reverse entries))) (dropped_count (reverse entries)) (commit_of (reverse entries))
    ++ total_lines 0 scenario.world.shape.attrs (committed_of scenario.world.values (reverse entries))
