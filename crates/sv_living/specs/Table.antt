-- The sessions that are open, with their slots.
use Rattle.std.specs.Prelude.{◌≡◌, ℕ, ◌<◌, Bool, true, ◌==◌, nat_lt, List, [], ◌∷◌, map, length, slice_index_or, Option, Some, None, if◌then◌else◌}
use Rattle.std.specs.List.{list_all}
use Rattle.sv_world.specs.Faults.{is_ascending}
use Rattle.sv_core.specs.declared.seats.Seat.{Seat}

abbrev pub numbers_in : List Seat → List ℕ
numbers_in seats = map (λ (seat : Seat). seat.session) seats

-- They ascend by their numbers.
abbrev pub IsByNumber : List Seat → Type 0
IsByNumber seats = is_ascending (numbers_in seats) ≡ true

-- The seat of a session, where it has one.
abbrev pub seat_of : ℕ → List Seat → Option Seat
seat_of s [] = None
seat_of s (seat ∷ seats) = if s == seat.session then Some seat else seat_of s seats

-- All are below a number.
abbrev pub ends_below : ℕ → List Seat → Bool
ends_below s seats = list_all (λ (seat : Seat). nat_lt seat.session s) seats

-- A session sits there.
abbrev pub IsPlaceOf : ℕ → List Seat → ℕ → Type 0
IsPlaceOf s seats place = (place < length seats) × ((other : Seat) → (slice_index_or seats place other).session ≡ s)
