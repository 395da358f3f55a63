-- Serial execution: each action in order, on one whole world.
use Rattle.std.specs.Prelude.{ℕ, zero, suc, ℤ, List, [], ◌∷◌, map, slice_get, slice_index_or, slice_set, Option, Some, None}
use Rattle.sv_world.specs.Sets.{read_set, write_set}
use Rattle.sv_world.specs.declared.action.Action.{Action}
use Rattle.sv_eval.specs.Evaluation.{effect_of}

-- The values that some objects have in a world. An object beyond it has no numbers.
abbrev pub values_at : List (List ℤ) → List ℕ → List (List ℤ)
values_at world objects = map (λ x. slice_index_or world x []) objects

-- A world with the values of some objects replaced, in order.
abbrev pub put_all : List (List ℤ) → List ℕ → List (List ℤ) → List (List ℤ)
put_all world [] values = world
put_all world (x ∷ xs) [] = world
put_all world (x ∷ xs) (v ∷ vs) = put_all (slice_set world x v) xs vs

-- The world after an action: the values of what it writes are replaced by its result on the values of what it reads.
abbrev pub world_after : List (List ℤ) → Action → List (List ℤ)
world_after world a = put_all world (write_set a) (effect_of a (values_at world (read_set a))).writes

abbrev pub world_after_some : List (List ℤ) → Option Action → List (List ℤ)
world_after_some world None = world
world_after_some world (Some a) = world_after world a

-- The world after the first p of the actions, which have the positions from 1 on. At 0 it is the opening world.
abbrev pub serial_world : List (List ℤ) → List Action → ℕ → List (List ℤ)
serial_world opening actions zero = opening
serial_world opening actions (suc p) = world_after_some (serial_world opening actions p) (slice_get actions p)
