-- What a queue's fields keep.
use Rattle.std.specs.Prelude.{◌≡◌, ℕ, suc, ◌+◌, ◌^◌, ◌<◌, ◌≤◌, true, nat_lt, List, [], ◌∷◌, ◌++◌, map, length, replicate, ℤ, All, IfSome, slice_index_or, if◌then◌else◌}
use Rattle.sv_world.specs.declared.action.Action.{Action}
use Rattle.sv_world.specs.declared.world.Shape.{Shape}
use Rattle.sv_world.specs.Control.{is_in, blank, last_writer}
use Rattle.sv_world.specs.Faults.{IsGoodAction}
use Rattle.sv_world.specs.Limits.{most_open}
use Rattle.sv_world.specs.Sets.{read_set, write_set}
use Rattle.sv_queue.specs.declared.queue.Queue.TheInside.{Inside}
use Rattle.sv_queue.specs.Blocks.{HaveBlocks}
use Rattle.sv_queue.specs.Marks.{all_queued, marks_of}
use Rattle.sv_queue.specs.Pairs.{pairs_of}
use Rattle.sv_queue.specs.Queue.{Queued, QueueView, entry_actions}
use Rattle.sv_queue.specs.Slots.{SlotSet}
use Rattle.sv_world.specs.Worlds.{IsGoodShape, HaveAttrs}

-- The slots of each set.
abbrev pub slots_in : List SlotSet → List (List ℕ)
slots_in sets = map (λ (r : SlotSet). r.slots) sets

abbrev pub model_of : Inside → QueueView
model_of a = record {
  shape = a.shape;
  commit = a.commit;
  room = a.room;
  committed = a.committed;
  entries = all_queued a.entries.items;
  given = pairs_of a.shape.objects (slots_in a.given.items);
}

-- Of the entries, which stand at the positions above n, the positions of those that write an object; ascending.
abbrev pub writers_above : ℕ → List Queued → ℕ → List ℕ
writers_above n [] x = []
writers_above n (e ∷ es) x =
    if is_in x (write_set e.action) then suc n ∷ writers_above (suc n) es x else writers_above (suc n) es x

-- An entry that the queue may have: a good action, and a result of the right form if there is one.
pub record IsGoodEntry (shape : Shape) (e : Queued) : Type 0 where
  pub action : IsGoodAction shape e.action
  pub values : IfSome e.result (λ values. length values ≡ length (write_set e.action))
  pub attrs : IfSome e.result (HaveAttrs shape)

-- `entries` are good, `writers` has for each object the uncommitted positions whose actions write it, and the other lists have an element
-- for each object.
pub record AgreeOn (shape : Shape) (commit : ℕ) (committed : List (List ℤ)) (entries : List Queued) (writers rows : List (List ℕ)) : Type 0 where
  pub limits : IsGoodShape shape
  pub objects : length committed ≡ shape.objects
  pub attrs : HaveAttrs shape committed
  pub good : All (IsGoodEntry shape) entries
  pub last : commit + length entries < 2 ^ 32
  pub lists : length writers ≡ shape.objects
  pub indexed : (x : ℕ) → x < shape.objects → slice_index_or writers x [] ≡ writers_above commit entries x
  pub given : length rows ≡ shape.objects

-- A position that is above the commit, else 0.
abbrev pub uncommitted : ℕ → ℕ → ℕ
uncommitted commit p = if nat_lt commit p then p else 0

-- For each of the actions above the commit, and each slot of its reads, `sources` has the object's last writer below the action. Where that
-- was committed since, it counts as 0.
pub record HaveSources (commit : ℕ) (actions : List Action) (sources : List (List ℕ)) : Type 0 where
  pub count : length sources ≡ length actions
  pub each : (i k : ℕ) → i < length actions → k < length (slice_index_or actions i blank).reads →
      uncommitted commit (slice_index_or (slice_index_or sources i []) k 0)
      ≡ last_writer (replicate commit blank ++ actions) (slice_index_or (read_set (slice_index_or actions i blank)) k 0) (suc (commit + i))

-- A set has room for so many slots, and its slots are among them.
pub record SetHasRoom (room : ℕ) (r : SlotSet) : Type 0 where
  pub enough : room ≤ r.room
  pub within : (s : ℕ) → is_in s r.slots ≡ true → s < room

-- The sets of a queue have its room.
pub record HaveRoom (room : ℕ) (sent rows : List SlotSet) : Type 0 where
  pub limit : room ≤ most_open
  pub marks : All (SetHasRoom room) sent
  pub given : All (SetHasRoom room) rows

pub record IsQueue (a : Inside) : Type 0 where
  pub agree : AgreeOn a.shape a.commit a.committed (all_queued a.entries.items) a.writers (slots_in a.given.items)
  pub sources : HaveSources a.commit (entry_actions (all_queued a.entries.items)) a.sources.items
  pub room : HaveRoom a.room (marks_of a.entries.items) a.given.items
  pub cover : HaveBlocks a.room a.given.items a.blocks.items
