-- Blocks of 64 objects, each with a set of the slots that its objects' rows may have.
use Rattle.std.specs.Prelude.{◌≡◌, ℕ, ◌*◌, ◌/◌, ◌<◌, ◌≤◌, true, List, All, length, slice_index_or}
use Rattle.sv_world.specs.Control.{is_in}
use Rattle.sv_world.specs.Limits.{most_open}
use Rattle.sv_queue.specs.Slots.{SlotSet, no_slots}

-- The set at a place has the slot.
abbrev pub HasAt : List SlotSet → ℕ → ℕ → Type 0
HasAt sets i slot = is_in slot (slice_index_or sets i no_slots).slots ≡ true

-- A slot that a row has, its block has.
abbrev pub AreCovered : List SlotSet → List SlotSet → Type 0
AreCovered rows blocks = (x s : ℕ) → HasAt rows x s → HasAt blocks (x / 64) s

-- The blocks have what they had, and those of the objects have the slots too. Their room is the same.
pub record AreMarked (objects slots : List ℕ) (old new : List SlotSet) : Type 0 where
  pub count : length new ≡ length old
  pub room : (i : ℕ) → i < length old → (slice_index_or new i no_slots).room ≡ (slice_index_or old i no_slots).room
  pub kept : (i s : ℕ) → s < most_open → HasAt old i s → HasAt new i s
  pub told : (x s : ℕ) → s < most_open → is_in x objects ≡ true → is_in s slots ≡ true → HasAt new (x / 64) s

-- There is a block for each row, with room for so many slots, and the rows are covered.
pub record HaveBlocks (room : ℕ) (rows blocks : List SlotSet) : Type 0 where
  pub count : length rows ≤ 64 * length blocks
  pub enough : All (λ (r : SlotSet). room ≤ r.room) blocks
  pub covered : AreCovered rows blocks
