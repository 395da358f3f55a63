-- The walk down the positions that finds what a value comes from; for private clauses.
use Rattle.std.specs.Prelude.{ℕ, zero, suc, Bool, false, ◌||◌, List, [], ◌∷◌, ◌++◌, slice_index_or, if◌then◌else◌}
use Rattle.std.specs.List.{list_any}
use Rattle.sv_world.specs.declared.action.Action.{Action}
use Rattle.sv_world.specs.Control.{is_in, action_at}
use Rattle.sv_world.specs.Sets.{read_set, write_set}

-- An object is wanted: its flag is set.
abbrev pub is_wanted : List Bool → ℕ → Bool
is_wanted flags x = slice_index_or flags x false

-- From position n down: a position that writes a wanted object is taken, and what it reads is wanted too.
abbrev pub walk : List Action → ℕ → (ℕ → Bool) → List ℕ
walk A zero p = []
walk A (suc n) p = if list_any p (write_set (action_at A (suc n)))
    then walk A n (λ x. is_in x (read_set (action_at A (suc n))) || p x) ++ suc n ∷ []
    else walk A n p
