-- Who may write what.
use Rattle.std.specs.Prelude.{ℕ, Bool, true, ◌&&◌, not, nat_le, List, [], ◌∷◌, filter, Option, Some, None}
use Rattle.std.specs.List.{list_any}
use Rattle.sv_world.specs.declared.action.Action.{Action}
use Rattle.sv_world.specs.declared.rights.NumberRange.{NumberRange}
use Rattle.sv_world.specs.declared.rights.Right.{Right}
use Rattle.sv_world.specs.Sets.{write_set}

-- The number is one of the range's, from its first to its last one.
abbrev pub is_in_range : NumberRange → ℕ → Bool
is_in_range range n = nat_le range.first n && nat_le n range.last

-- A right is of clients over objects.
abbrev pub allows : ℕ → ℕ → Right → Bool
allows client object right = is_in_range right.clients client && is_in_range right.objects object

-- Without rights every client may write every object; with them a client may where one of them allows it.
abbrev pub may_write : Option (List Right) → ℕ → ℕ → Bool
may_write None client object = true
may_write (Some rights) client object = list_any (allows client object) rights

abbrev pub first_of : List ℕ → Option ℕ
first_of [] = None
first_of (x ∷ xs) = Some x

-- The lowest object that an action writes and its client may not write. What it reads, anybody may read.
abbrev pub first_forbidden : Option (List Right) → ℕ → Action → Option ℕ
first_forbidden rights client action = first_of (filter (λ object. not (may_write rights client object)) (write_set action))
