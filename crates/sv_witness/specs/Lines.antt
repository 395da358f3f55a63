-- The printed lines of a witnessed run.
use Rattle.std.specs.Prelude.{ℕ, ℤ, List, [], ◌∷◌, ◌++◌, length, codes}
use Rattle.std.specs.Fmt.{decimal}
use Rattle.std.specs.List.{flat_map}
use Rattle.sv_world.specs.declared.world.World.{World}
use Rattle.sv_journal.specs.declared.entry.Entry.{Entry}
use Rattle.sv_journal.specs.History.{accepted}
use Rattle.sv_journal.specs.Pieces.{value_text}
use Rattle.sv_report.specs.Report.{world_text}
use Rattle.sv_witness.specs.declared.report.Report.{Report}
use Rattle.sv_witness.specs.declared.report.Dispute.{Dispute}
use Rattle.sv_witness.specs.Reports.{agreed_commit, agreed_world}
use Rattle.sv_witness.specs.Disputes.{disputes_of}

-- `c0 (2)`, the client and the values that it reported, one for each written object
abbrev pub report_part : Report → List ℕ
report_part r = codes "c" ++ decimal r.client.0 ++ codes " " ++ flat_map value_text r.values

-- `dispute 1 c0 (2) c1 (1)`
abbrev pub dispute_line : Dispute → List ℕ
dispute_line d = codes "dispute " ++ decimal d.pos ++ codes " " ++ report_part d.first ++ codes " " ++ report_part d.second ++ 10 ∷ []

-- How many actions were accepted, the disputes, and the committed world.
abbrev pub run_lines : ℕ → List Dispute → ℕ → List (List ℤ) → List ℕ
run_lines count disputes commit values =
    codes "accepted " ++ decimal count ++ 10 ∷ [] ++ flat_map dispute_line disputes ++ world_text commit values

-- The lines of a run over an opening world.
abbrev pub witness_text : World → List Entry → List ℕ
witness_text world h = run_lines (length (accepted h)) (disputes_of h) (agreed_commit h) (agreed_world world.values h)
