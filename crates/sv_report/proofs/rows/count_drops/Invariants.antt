-- The rows are those of the entries before those left; the drops so far and those left are all.
use Rattle.std.proofs.Common.{◌≡◌, ◌+◌, ◌≤◌, List, [], drop}
use Rattle.sv_journal.specs.declared.entry.Entry.{Entry}
use Rattle.sv_journal.specs.Rows.{AreRows}
use Rattle.sv_report.specs.Drops.{drops_after}
use Rattle.sv_report.proofs.rows.count_drops.Given as goal

abbrev pub invariant-loop-entry : goal.invariant-loop-entry
invariant-loop-entry l = record {
  few : l.count ≤ l.entry-index;
  rows : (h : List Entry) × (AreRows h l.clients l.outcomes × (l.count + drops_after h (drop l.entry-index l.entries) ≡ drops_after [] l.entries));
}
