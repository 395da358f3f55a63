-- The lie that the program can let a client tell: in each result that it reports, every value has 1 more in its first attribute.
use Rattle.std.specs.Prelude.{ℤ, pos, ◌+ℤ◌, int_lt, List, [], ◌∷◌, map, if◌then◌else◌}
use Rattle.sv_wire.specs.declared.message.Done1.{Done1}
use Rattle.sv_wire.specs.declared.message.Request.{Request}
use Rattle.sv_wire.specs.declared.message.Request.TheVariants as requests

-- The greatest number that an attribute can have. It can't be raised, and stays.
abbrev pub greatest_int : ℤ
greatest_int = pos 9223372036854775807

abbrev pub lied_value : List ℤ → List ℤ
lied_value [] = []
lied_value (n ∷ ns) = (if int_lt n greatest_int then n +ℤ pos 1 else n) ∷ ns

abbrev pub lied_result : Done1 → Done1
lied_result d = record d { values = map lied_value d.values }

abbrev pub lied : Request → Request
lied (requests.Done results) = requests.Done (map lied_result results)
lied request = request
