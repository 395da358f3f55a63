-- The line that tells a change of a view.
use Rattle.std.specs.Prelude.{ℕ, ℤ, ◌≡◌, ◌<◌, List, [], ◌∷◌, ◌++◌, length, Option, Some, None, codes}
use Rattle.std.specs.List.{flat_map}
use Rattle.std.specs.Fmt.{decimal, signed_decimal}
use Rattle.sv_world.specs.declared.world.Shape.{Shape}
use Rattle.sv_watch.specs.declared.change.Change.{Change}

-- numbers, joined by commas
abbrev pub numbers_text : List ℤ → List ℕ
numbers_text [] = []
numbers_text (n ∷ ns) = signed_decimal n ++ flat_map (λ m. codes "," ++ signed_decimal m) ns

-- a view, with a mark where it is unknown
abbrev pub view_text : Option (List ℤ) → List ℕ
view_text None = codes "?"
view_text (Some v) = codes "(" ++ numbers_text v ++ codes ")"

-- the client, the number of the event, the object, and its view before and after the event
abbrev pub change_line : Change → List ℕ
change_line c =
    codes "told c" ++ decimal c.client.0 ++ codes " " ++ decimal c.event ++ codes " " ++ decimal c.object.0 ++ codes " "
    ++ view_text c.old ++ codes " -> " ++ view_text c.new

abbrev pub HasLength : ℕ → Option (List ℤ) → Type 0
HasLength n None = Unit {0}
HasLength n (Some v) = length v ≡ n

-- a change in a world of this shape
pub record IsChangeIn (shape : Shape) (c : Change) : Type 0 where
  pub object : c.object.0 < shape.objects
  pub old : HasLength shape.attrs c.old
  pub new : HasLength shape.attrs c.new
