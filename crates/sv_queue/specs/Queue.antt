-- A queue of actions as its callers see it, and what each call makes of it.
-- Positions count from 1. Those up to the commit are committed; the queue has the actions above it.
use Rattle.std.specs.Prelude.{◌≡◌, ℕ, suc, ◌+◌, ◌-◌, ◌<◌, ◌≤◌, List, [], ◌∷◌, ◌++◌, map, filter, length, take, drop, slice_set, slice_index_or, replicate, ℤ, true, false, Option, Some, None, is_some, unwrap_or, if◌then◌else◌}
use Rattle.sv_world.specs.declared.action.Action.{Action}
use Rattle.sv_world.specs.declared.world.ClientId.{ClientId}
use Rattle.sv_world.specs.declared.world.Shape.{Shape}
use Rattle.sv_world.specs.declared.world.World.{World}
use Rattle.sv_world.specs.Control.{is_in, below, blank, action_at}
use Rattle.sv_world.specs.Sets.{write_set}
use Rattle.sv_eval.specs.Serial.{put_all}
use Rattle.sv_queue.specs.Pairs.{is_pair, pairs_where, with_pair, pairs_but}
use Rattle.sv_queue.specs.Slots.{with_slot, all_but}

-- An accepted action that is not committed yet: `marks` are the slots that it was sent to, ascending. A slot stands for the session that has
-- it.
pub record Queued : Type 0 where
  pub author : ClientId
  pub seq : ℕ
  pub action : Action
  pub result : Option (List (List ℤ))
  pub marks : List ℕ

-- `committed` has one value for each object, `entries` the actions above the commit in order, and `given` the pairs of an object and a slot
-- that was given the object's value since it was last written, ascending and each once. The slots are below `room`.
pub record QueueView : Type 0 where
  pub shape : Shape
  pub commit : ℕ
  pub room : ℕ
  pub committed : List (List ℤ)
  pub entries : List Queued
  pub given : List (ℕ × ℕ)

-- How many slots a queue has room for at first.
abbrev pub first_room : ℕ
first_room = 64

-- A queue of a world with no action.
abbrev pub opening_queue : World → QueueView
opening_queue world =
    record { shape = world.shape; commit = 0; room = first_room; committed = world.values; entries = []; given = [] }

-- The position of the last action, 0 where there was none yet.
abbrev pub last_position : QueueView → ℕ
last_position v = v.commit + length v.entries

abbrev pub IsUncommitted : QueueView → ℕ → Type 0
IsUncommitted v p = (v.commit < p) × (p ≤ last_position v)

abbrev pub entry_actions : List Queued → List Action
entry_actions es = map (λ (e : Queued). e.action) es

-- All actions from position 1 on as far as the queue knows them: the committed ones are blank.
abbrev pub queue_actions : QueueView → List Action
queue_actions v = replicate v.commit blank ++ entry_actions v.entries

-- No position's action writes the object.
abbrev pub IsUnwritten : List Action → ℕ → Type 0
IsUnwritten A x = (p : ℕ) → is_in x (write_set (action_at A p)) ≡ false

-- The action at the position writes the object, and none below it does.
pub record IsFirstWriter (A : List Action) (x p : ℕ) : Type 0 where
  pub writes : is_in x (write_set (action_at A p)) ≡ true
  pub least : (q : ℕ) → q < p → is_in x (write_set (action_at A q)) ≡ false

abbrev pub no_entry : Queued
no_entry = record { author = record { 0 = 0 }; seq = 0; action = blank; result = None; marks = [] }

-- The place of a position in the entries.
abbrev pub place_of : QueueView → ℕ → ℕ
place_of v p = p - v.commit - 1

-- The entry of an uncommitted position.
abbrev pub entry_at : QueueView → ℕ → Queued
entry_at v p = slice_index_or v.entries (place_of v p) no_entry

-- Of the entries, which stand at the positions above n, the positions of those marked for a slot; ascending.
abbrev pub marked_above : ℕ → List Queued → ℕ → List ℕ
marked_above n [] s = []
marked_above n (e ∷ es) s = if is_in s e.marks then suc n ∷ marked_above (suc n) es s else marked_above (suc n) es s

-- The uncommitted positions that were sent to a slot.
abbrev pub sent_positions : QueueView → ℕ → List ℕ
sent_positions v s = marked_above v.commit v.entries s

-- The objects that were given to a slot, ascending.
abbrev pub given_objects : QueueView → ℕ → List ℕ
given_objects v s = filter (λ x. is_pair x s v.given) (below v.shape.objects)

-- With one more action at the end, which has no result and no marks.
abbrev pub with_action : QueueView → ClientId → ℕ → Action → QueueView
with_action v author seq action =
    record v { entries = v.entries ++ record { author = author; seq = seq; action = action; result = None; marks = [] } ∷ [] }

-- Without the last action.
abbrev pub without_last : QueueView → QueueView
without_last v = record v { entries = take (length v.entries - 1) v.entries }

abbrev pub with_entry : QueueView → ℕ → Queued → QueueView
with_entry v p e = record v { entries = slice_set v.entries (place_of v p) e }

abbrev pub with_mark : QueueView → ℕ → ℕ → QueueView
with_mark v p s = with_entry v p (record (entry_at v p) { marks = with_slot s (entry_at v p).marks })

abbrev pub with_result : QueueView → ℕ → List (List ℤ) → QueueView
with_result v p values = with_entry v p (record (entry_at v p) { result = Some values })

abbrev pub with_given : QueueView → ℕ → ℕ → QueueView
with_given v x s = record v { given = with_pair v.shape.objects x s v.given }

abbrev pub unmarked : ℕ → Queued → Queued
unmarked s e = record e { marks = all_but s e.marks }

-- With a slot forgotten: nothing was sent or given to it.
abbrev pub without_slot : QueueView → ℕ → QueueView
without_slot v s = record v { entries = map (unmarked s) v.entries; given = pairs_but s v.given }

-- The entries before the first that has no result.
abbrev pub ready : List Queued → List Queued
ready [] = []
ready (e ∷ es) = if is_some e.result then e ∷ ready es else []

-- The committed values after the results of these entries, in order.
abbrev pub committed_after : List (List ℤ) → List Queued → List (List ℤ)
committed_after committed [] = committed
committed_after committed (e ∷ es) = committed_after (put_all committed (write_set e.action) (unwrap_or e.result [])) es

-- The pairs given after an entry is committed: an object that it writes was given to just the slots that the entry was sent to.
abbrev pub given_by : ℕ → List (ℕ × ℕ) → Queued → List (ℕ × ℕ)
given_by objects given e =
    pairs_where objects (λ x s. if is_in x (write_set e.action) then is_in s e.marks else is_pair x s given)

abbrev pub given_after : ℕ → List (ℕ × ℕ) → List Queued → List (ℕ × ℕ)
given_after objects given [] = given
given_after objects given (e ∷ es) = given_after objects (given_by objects given e) es

-- With these entries, the first of all, committed.
abbrev pub with_committed : QueueView → List Queued → QueueView
with_committed v done = record {
  shape = v.shape;
  commit = v.commit + length done;
  room = v.room;
  committed = committed_after v.committed done;
  entries = drop (length done) v.entries;
  given = given_after v.shape.objects v.given done;
}

-- With the entries before the first that has no result committed.
abbrev pub ready_installed : QueueView → QueueView
ready_installed v = with_committed v (ready v.entries)

abbrev pub first_installed : QueueView → QueueView
first_installed v = with_committed v (take 1 v.entries)
