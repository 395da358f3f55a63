-- The uncommitted positions that objects come from.
use Rattle.std.specs.Prelude.{ℕ, ◌+◌, ◌*◌, nat_lt, List, map, filter}
use Rattle.sv_world.specs.declared.action.Action.{Action}
use Rattle.sv_world.specs.Control.{last_writer}
use Rattle.sv_world.specs.Limits.{most_reads, most_items}

-- How many of them may wait at once to be looked at.
abbrev pub most_waiting : ℕ
most_waiting = 32

-- How often the queue is looked at for one position at most: at its entry, and twice for each object that it reads.
abbrev pub most_look_ups : ℕ
most_look_ups = 1 + 2 * most_reads

-- How often it is looked at for one position of a cut at most: twice for each object, and for each item.
abbrev pub most_to_see : ℕ
most_to_see = 2 * most_reads + most_look_ups * most_items

-- The last writers below a position of some objects, where there are any.
abbrev pub writers_of : List Action → ℕ → List ℕ → List ℕ
writers_of A pos xs = filter (λ j. nat_lt 0 j) (map (λ x. last_writer A x pos) xs)
