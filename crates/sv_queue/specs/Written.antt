-- The objects that an action writes, slot by slot, and lists that are changed at them.
use Rattle.std.specs.Prelude.{◌≡◌, ℕ, ◌-◌, ◌<◌, ◌≤◌, true, List, length, take, All, slice_index_or, if◌then◌else◌}
use Rattle.sv_world.specs.declared.action.Action.{Action}
use Rattle.sv_world.specs.Control.{is_in}
use Rattle.sv_world.specs.Faults.{is_ascending}
use Rattle.sv_world.specs.Limits.{most_reads}
use Rattle.sv_world.specs.Sets.{at_mask, read_set}

-- Of a good action in a world of so many objects: its reads fit a mask, are different, and are objects of the world.
pub record CanWrite (count : ℕ) (a : Action) : Type 0 where
  pub few_reads : length a.reads ≤ most_reads
  pub ascending : is_ascending (read_set a) ≡ true
  pub objects : All (λ x. x < count) (read_set a)

-- The objects that an action writes at its slots below n.
unfoldable pub writes_before : Action → ℕ → List ℕ
writes_before a n = at_mask a.mask 0 (take n (read_set a))

-- The elements at some places are what f makes of the old ones, and the others stay.
pub record IsChangedAt {X : Type 0} (nothing : X) (f : X → X) (places : List ℕ) (old new : List X) : Type 0 where
  pub count : length new ≡ length old
  pub elements : (x : ℕ) → x < length old →
      slice_index_or new x nothing ≡ (if is_in x places then f (slice_index_or old x nothing) else slice_index_or old x nothing)

-- A list without its last element.
abbrev pub front_of : {X : Type 0} → List X → List X
front_of xs = take (length xs - 1) xs
