-- Reading numbers, counts, objects, values and lists of them.
use Rattle.std.specs.Prelude.{ℕ, ◌+◌, List, [], ◌∷◌, length, drop, Ok, ◌&&◌, nat_lt, nat_le, if◌then◌else◌, ℤ}
use Rattle.std.specs.Int.{Width, w64, byte_len, cast_signed}
use Rattle.byteorder.specs.Endian.{big_number}
use Rattle.sv_world.specs.Limits.{most_attrs, most_reads}
use Rattle.sv_world.specs.declared.world.ObjectId.{ObjectId}
use Rattle.sv_wire.specs.declared.fault.WireCause.TheVariants.{Short, Count, Order}
use Rattle.sv_wire.specs.declared.message.ObjectValue.{ObjectValue}
use Rattle.sv_wire.specs.declared.message.Done1.{Done1}
use Rattle.sv_wire.specs.Steps.{Read, Turn, ◌>>=◌, stop, several, in_turn}

unfoldable pub byte_from : List ℕ → Read ℕ
byte_from [] = stop [] Short
byte_from (b ∷ bytes) = Ok (b, bytes)

-- a number of n bytes, the highest first
unfoldable pub number_from : ℕ → List ℕ → Read ℕ
number_from n bytes = if nat_lt (length bytes) n then stop bytes Short else Ok (big_number n bytes, drop n bytes)

-- a signed number, in two's complement
unfoldable pub int_from : Width → List ℕ → Read ℤ
int_from w bytes = do
  n ← number_from (byte_len w) bytes
  Ok (cast_signed w n.0, n.1)

-- a count in one byte, of at least low and at most high
unfoldable pub count_from : ℕ → ℕ → List ℕ → Read ℕ
count_from low high bytes = do
  n ← byte_from bytes
  if nat_le low n.0 && nat_le n.0 high then Ok (n.0, n.1) else stop bytes Count

-- The objects of a head: as many as the actions of a relay read.
abbrev pub most_held : ℕ
most_held = 528

-- The objects of the head of what was seen: as many as its actions read, and those that were asked for.
abbrev pub most_seen : ℕ
most_seen = 544

unfoldable pub head_count_from : ℕ → List ℕ → Read ℕ
head_count_from most bytes = do
  n ← number_from 2 bytes
  if nat_lt most n.0 then stop bytes Count else Ok (n.0, n.1)

-- an object that is at least least, and the least that may follow it
unfoldable pub object_from : ℕ → List ℕ → Turn ObjectId
object_from least bytes = do
  n ← number_from 2 bytes
  if nat_lt n.0 least then stop bytes Order else Ok (record { 0 = n.0 }, n.0 + 1, n.1)

-- n fields in turn, from 0 on
abbrev pub ascending_from : {A : Type 0} → (ℕ → List ℕ → Turn A) → ℕ → List ℕ → Read (List A)
ascending_from reader n bytes = do
  all ← in_turn reader n 0 bytes
  Ok (all.0, all.2)

-- n objects, ascending
unfoldable pub objects_from : ℕ → List ℕ → Read (List ObjectId)
objects_from n bytes = ascending_from object_from n bytes

unfoldable pub value_from : List ℕ → Read (List ℤ)
value_from bytes = do
  n ← count_from 1 most_attrs bytes
  several (int_from w64) n.0 n.1

unfoldable pub held_from : ℕ → List ℕ → Turn ObjectValue
held_from least bytes = do
  object ← object_from least bytes
  value ← value_from object.2
  Ok (record { object = object.0; value = value.0 }, object.1, value.1)

-- n objects and their values, ascending
unfoldable pub helds_from : ℕ → List ℕ → Read (List ObjectValue)
helds_from n bytes = ascending_from held_from n bytes

-- a head of at most so many objects
unfoldable pub head_from : ℕ → List ℕ → Read (List ObjectValue)
head_from most bytes = do
  n ← head_count_from most bytes
  helds_from n.0 n.1

unfoldable pub result_from : List ℕ → Read Done1
result_from bytes = do
  pos ← number_from 4 bytes
  n ← count_from 0 most_reads pos.1
  values ← several value_from n.0 n.1
  Ok (record { pos = pos.0; values = values.0 }, values.1)
