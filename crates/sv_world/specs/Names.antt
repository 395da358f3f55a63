-- The tests of the slots and attributes that a body names.
use Rattle.std.specs.Prelude.{ℕ, Bool, true, nat_lt}
use Rattle.sv_world.specs.Sets.{is_in_mask}
use Rattle.sv_world.specs.declared.names.NameTest.{NameTest}
use Rattle.sv_world.specs.declared.names.NameTest.TheVariants.{Slot, Writable, Attr}

-- Whether a slot and an attribute may be set.
abbrev pub set_passes : NameTest → ℕ → ℕ → Bool
set_passes (Slot reads) slot attr = nat_lt slot reads
set_passes (Writable mask) slot attr = is_in_mask mask slot
set_passes (Attr attrs) slot attr = nat_lt attr attrs

-- Whether they may be got.
abbrev pub get_passes : NameTest → ℕ → ℕ → Bool
get_passes (Slot reads) slot attr = nat_lt slot reads
get_passes (Writable mask) slot attr = true
get_passes (Attr attrs) slot attr = nat_lt attr attrs
