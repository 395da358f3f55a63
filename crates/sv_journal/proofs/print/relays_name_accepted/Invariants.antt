-- The loop invariant of `relays_name_accepted`.
use Rattle.std.proofs.Common.{ℕ, ◌<◌, slice_index_or}
use Rattle.sv_journal.specs.declared.entry.Entry.{Entry}
use Rattle.sv_journal.specs.Text.{NamesAccepted}
use Rattle.sv_journal.proofs.print.relays_name_accepted.Given as goal

-- the replies so far name accepted actions
abbrev pub invariant-loop-entry : goal.invariant-loop-entry
invariant-loop-entry l = (k : ℕ) (d : Entry) → k < l.entry-index → NamesAccepted l.count (slice_index_or l.entries k d).reply
