-- The loop invariant of `append_entries`.
use Rattle.std.proofs.Common.{◌≡◌, ◌+◌, ◌++◌, reverse, string_bytes, drop}
use Rattle.sv_journal.specs.History.{accepted}
use Rattle.sv_journal.specs.Text.{entry_lines}
use Rattle.sv_journal.proofs.print.append_entries.Given as goal

-- the text so far and the lines of the entries left are the whole
abbrev pub invariant-loop-entry : goal.invariant-loop-entry
invariant-loop-entry l = record {
  number : l.number ≡ l.entry-index;
  text : string_bytes l.out ++ entry_lines l.shape (accepted (reverse l.journal.entries)) (l.number + 1) (drop l.entry-index l.entries)
      ≡ string_bytes l.fn.out ++ entry_lines l.shape (accepted (reverse l.journal.entries)) 1 l.entries;
}
