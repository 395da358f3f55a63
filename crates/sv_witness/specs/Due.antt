-- What a session may be sent to report, by a queue and the reports that are kept.
use Rattle.std.specs.Prelude.{ℕ, suc, Bool, ◌&&◌, not, nat_lt, is_none, List, filter}
use Rattle.std.specs.List.{list_any}
use Rattle.sv_world.specs.Control.{is_in, below}
use Rattle.sv_queue.specs.Queue.{QueueView, last_position, entry_at, sent_positions}
use Rattle.sv_witness.specs.Reports.{is_by}
use Rattle.sv_witness.specs.Kept.{RowView, kept_at}

-- The position is not committed and has no result, was not sent to session s, and client k did not report it.
abbrev pub is_due_in : QueueView → List RowView → ℕ → ℕ → ℕ → Bool
is_due_in v rows k s p =
    nat_lt v.commit p && is_none (entry_at v p).result && not (is_in p (sent_positions v s)) && not (list_any (is_by k) (kept_at rows p))

abbrev pub due_in : QueueView → List RowView → ℕ → ℕ → List ℕ
due_in v rows k s = filter (is_due_in v rows k s) (below (suc (last_position v)))
