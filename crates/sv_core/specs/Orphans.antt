-- The abandoned positions of a queue.
use Rattle.std.specs.Prelude.{◌≡◌, ℕ, suc, Bool, ◌&&◌, ◌||◌, not, nat_lt, is_none, is_some, List, filter, length}
use Rattle.std.specs.List.{list_all}
use Rattle.sv_world.specs.Control.{is_in, below}
use Rattle.sv_queue.specs.Slots.{SlotSet}
use Rattle.sv_queue.specs.Queue.{QueueView, last_position, entry_at, sent_positions}
use Rattle.sv_core.specs.declared.sessions.SessionRow.{SessionRow}
use Rattle.sv_core.specs.Rows.{row_at}

-- A session sits there that is not over.
abbrev pub is_live_row : SessionRow → Bool
is_live_row row = is_some row.session && not row.over

-- A set of slots has those of the sessions that are not over.
abbrev pub HasLive : List SessionRow → SlotSet → Type 0
HasLive rows set = (slot : ℕ) → is_in slot set.slots ≡ is_live_row (row_at rows slot)

-- Each of the sessions that a position was sent to is over.
abbrev pub is_abandoned_in : QueueView → List SessionRow → ℕ → Bool
is_abandoned_in v rows p = list_all (λ slot. not (is_live_row (row_at rows slot)) || not (is_in p (sent_positions v slot))) (below (length rows))

abbrev pub is_orphan_in : QueueView → List SessionRow → ℕ → Bool
is_orphan_in v rows p = nat_lt v.commit p && is_none (entry_at v p).result && is_abandoned_in v rows p

abbrev pub orphans_in : QueueView → List SessionRow → List ℕ
orphans_in v rows = filter (is_orphan_in v rows) (below (suc (last_position v)))
