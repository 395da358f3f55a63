-- Numbers and lists of a scenario file, and the values of its objects.
use Rattle.std.specs.Prelude.{ℕ, suc, ℤ, pos, negsuc, cond, ◌&&◌, nat_le, List, [], option_and_then, Ok}
use Rattle.serde_json.specs.Data.{Data, Items, no_items, item}
use Rattle.serde_json.specs.Find.{as_array, as_integer, as_number}
use Rattle.sv_world.specs.Ranges.{is_i64}
use Rattle.sv_scenario.specs.declared.fault.ScenarioCause.TheVariants as causes
use Rattle.sv_scenario.specs.Faults.{Read, ◌>>=◌, refuse, given, each}

-- A whole number is one that the file's value gives as a u64 or an i64.
unfoldable pub whole_number : Data → Read ℤ
whole_number d = given causes.Kind (option_and_then as_integer (as_number d))

abbrev pub in_range : ℕ → ℕ → ℤ → Read ℕ
in_range low high (pos n) = cond (nat_le low n && nat_le n high) (Ok n) (refuse causes.Range)
in_range low high (negsuc n) = refuse causes.Range

-- A whole number from low to high.
unfoldable pub number_within : ℕ → ℕ → Data → Read ℕ
number_within low high d = whole_number d >>= in_range low high

abbrev pub as_attribute : ℤ → Read ℤ
as_attribute z = cond (is_i64 z) (Ok z) (refuse causes.Range)

-- A whole number of 64 bits.
unfoldable pub attribute_of : Data → Read ℤ
attribute_of d = whole_number d >>= as_attribute

abbrev pub count_items : Items → ℕ
count_items no_items = 0
count_items (item d ds) = suc (count_items ds)

abbrev pub items_within : ℕ → ℕ → Items → Read Items
items_within low high ds = cond (nat_le low (count_items ds) && nat_le (count_items ds) high) (Ok ds) (refuse causes.Range)

-- A list of low to high items.
unfoldable pub list_within : ℕ → ℕ → Data → Read Items
list_within low high d = given causes.Kind (as_array d) >>= items_within low high

-- One object's value: a number for each attribute.
unfoldable pub value_of : ℕ → Data → Read (List ℤ)
value_of attrs d = list_within attrs attrs d >>= each attribute_of []

-- The values of all objects, at most so many.
unfoldable pub values_of : ℕ → ℕ → Data → Read (List (List ℤ))
values_of most attrs d = list_within 1 most d >>= each (value_of attrs) []
