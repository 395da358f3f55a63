-- The loop invariant of `note_in_all`.
use Rattle.std.proofs.Common.{◌≡◌, ℕ, ◌<◌, ◌≤◌, length, nat_eq}
use Rattle.sv_core.specs.Rows.{row_at, session_after}
use Rattle.sv_journal.specs.History.{entry_of}
use Rattle.sv_core.proofs.sessions.note_in_all.Given as goal

abbrev pub invariant-loop-place : goal.invariant-loop-place
invariant-loop-place l = record {
  count : length l.rows.items ≡ length l.initial.rows.items;
  noted : (i : ℕ) → i < l.place → row_at l.rows.items i ≡ session_after (nat_eq l.slot i) (entry_of l.slot l.request l.reply) (row_at l.initial.rows.items i);
  others : (i : ℕ) → l.place ≤ i → row_at l.rows.items i ≡ row_at l.initial.rows.items i;
}
