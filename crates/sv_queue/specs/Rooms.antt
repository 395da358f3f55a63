-- Sets of slots that grow, and those that lose a slot.
use Rattle.std.specs.Prelude.{◌≡◌, ℕ, ◌<◌, ◌≤◌, Bool, List, length, slice_index_or, if◌then◌else◌}
use Rattle.sv_queue.specs.Slots.{SlotSet, no_slots, set_but}

-- One by one they have the same slots, and no less room.
pub record HaveGrown (old new : List SlotSet) : Type 0 where
  pub count : length new ≡ length old
  pub slots : (i : ℕ) → i < length old → (slice_index_or new i no_slots).slots ≡ (slice_index_or old i no_slots).slots
  pub room : (i : ℕ) → i < length old → (slice_index_or old i no_slots).room ≤ (slice_index_or new i no_slots).room

-- The sets at the places that pass a test are without the slot, and the others stay.
pub record AreWithout (slot : ℕ) (at : ℕ → Bool) (old new : List SlotSet) : Type 0 where
  pub count : length new ≡ length old
  pub sets : (i : ℕ) → i < length old →
      slice_index_or new i no_slots ≡ (if at i then set_but slot (slice_index_or old i no_slots) else slice_index_or old i no_slots)
