-- Why an object has its value at a position: the actions that the value comes from.
-- `A` is the list of accepted actions; the action at position p, counted from 1, is its p-th.
use Rattle.std.specs.Prelude.{◌≡◌, ℕ, suc, ◌<◌, ◌↔◌, true, ℤ, List, [], map, length, slice_index_or}
use Rattle.sv_world.specs.declared.action.Action.{Action}
use Rattle.sv_world.specs.Control.{is_in, action_at, last_writer, IsNeeded, needed_for}
use Rattle.sv_world.specs.Faults.{is_ascending}
use Rattle.sv_eval.specs.Serial.{serial_world}

-- The last writer of an object at or below a position, 0 where there is none.
abbrev pub writer_by : List Action → ℕ → ℕ → ℕ
writer_by A x pos = last_writer A x (suc pos)

-- The positions that the object's value at a position comes from, ascending: what a session that was sent nothing lacks of the last writer,
-- where nothing is committed. Where there is no writer these are none.
abbrev pub reasons_of : List Action → ℕ → ℕ → List ℕ
reasons_of A x pos = needed_for A 0 [] (writer_by A x pos)

-- The world that the actions at some positions alone give, executed in order from the opening world.
abbrev pub world_by : List (List ℤ) → List Action → List ℕ → List (List ℤ)
world_by opening A ks = serial_world opening (map (action_at A) ks) (length ks)

-- The world that all actions give, executed in order from the opening world.
abbrev pub end_world : List (List ℤ) → List Action → List (List ℤ)
end_world opening A = serial_world opening A (length A)

-- These positions and this value say why the object has its value at the position.
pub record Explains (opening : List (List ℤ)) (A : List Action) (x pos : ℕ) (positions : List ℕ) (value : List ℤ) : Type 0 where
  pub ascending : is_ascending positions ≡ true
  -- without a writer there are none
  pub unwritten : writer_by A x pos ≡ 0 → positions ≡ []
  -- They are just the least set that has the last writer and is closed under last writers of what its members read.
  pub exactly : (j : ℕ) → 0 < writer_by A x pos → (is_in j positions ≡ true) ↔ IsNeeded A 0 [] (writer_by A x pos) j
  -- The value is the one that these actions alone give the object.
  pub alone : value ≡ slice_index_or (world_by opening A positions) x []
  -- It is the one that the object has in the serial world at the position.
  pub serial : value ≡ slice_index_or (serial_world opening A pos) x []
