-- The next entry of the session is the next one of those left.
use Rattle.std.proofs.Common.{◌≡◌, ◌+◌, drop}
use Rattle.sv_report.specs.Report.{entry_number}
use Rattle.sv_report.specs.Again.{behind_next}
use Rattle.sv_report.proofs.next.next_entry.Given as goal

abbrev pub invariant-loop-at : goal.invariant-loop-at
invariant-loop-at l = record {
  number : entry_number (drop l.at l.entries) l.session 0 (l.at + 1) ≡ entry_number (drop l.place l.entries) l.session 0 (l.place + 1);
  behind : behind_next (drop l.at l.entries) l.session l.at ≡ behind_next (drop l.place l.entries) l.session l.place;
}
