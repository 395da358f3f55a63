-- Objects, and those that an action reads and writes.
use Rattle.std.specs.Prelude.{ℕ, ◌+◌, ◌/◌, ◌%◌, ◌^◌, Bool, ◌==◌, List, [], ◌∷◌, map, if◌then◌else◌}
use Rattle.sv_world.specs.declared.action.Action.{Action}
use Rattle.sv_world.specs.declared.world.ObjectId.{ObjectId}

-- The object of a number.
abbrev pub object_numbered : ℕ → ObjectId
object_numbered n = record { 0 = n }

-- The numbers of objects.
abbrev pub numbers_of : List ObjectId → List ℕ
numbers_of objects = map (λ (o : ObjectId). o.0) objects

-- Slot k is in the mask: its bit, of weight 2^k, is set.
abbrev pub is_in_mask : ℕ → ℕ → Bool
is_in_mask mask k = (mask / 2 ^ k) % 2 == 1

-- Of a list with one element for each slot from k on, the elements at the slots in the mask.
abbrev pub at_mask : {A : Type 0} → ℕ → ℕ → List A → List A
at_mask mask k [] = []
at_mask mask k (x ∷ xs) = if is_in_mask mask k then x ∷ at_mask mask (k + 1) xs else at_mask mask (k + 1) xs

-- The objects that an action reads, slot by slot.
abbrev pub read_set : Action → List ℕ
read_set a = numbers_of a.reads

-- The objects that it writes: those that it reads at the slots in its mask.
abbrev pub write_set : Action → List ℕ
write_set a = at_mask a.mask 0 (read_set a)
