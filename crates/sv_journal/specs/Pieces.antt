-- The printed text of values, objects and results. Numbers are decimal.
use Rattle.std.specs.Prelude.{ℕ, ℤ, List, [], ◌∷◌, ◌++◌, codes}
use Rattle.std.specs.List.{flat_map}
use Rattle.std.specs.Fmt.{decimal, signed_decimal}
use Rattle.sv_world.specs.declared.world.ObjectId.{ObjectId}
use Rattle.sv_wire.specs.declared.message.Done1.{Done1}
use Rattle.sv_wire.specs.declared.message.ObjectValue.{ObjectValue}

-- Texts in a row, with a byte between each two.
abbrev pub joined : {A : Type 0} → ℕ → (A → List ℕ) → List A → List ℕ
joined byte text [] = []
joined byte text (x ∷ xs) = text x ++ flat_map (λ y. byte ∷ text y) xs

-- The texts of a list's elements in square brackets, with one space between them.
abbrev pub bracketed : {A : Type 0} → (A → List ℕ) → List A → List ℕ
bracketed text xs = codes "[" ++ joined 32 text xs ++ codes "]"

-- `(5,-1)`
abbrev pub value_text : List ℤ → List ℕ
value_text value = codes "(" ++ joined 44 signed_decimal value ++ codes ")"

-- `3=(5,-1)`
abbrev pub held_text : ℕ → List ℤ → List ℕ
held_text object value = decimal object ++ codes "=" ++ value_text value

abbrev pub head_text : List ObjectValue → List ℕ
head_text head = bracketed (λ (h : ObjectValue). held_text h.object.0 h.value) head

abbrev pub objects_text : List ObjectId → List ℕ
objects_text objects = bracketed (λ (o : ObjectId). decimal o.0) objects

-- `3:(1)(2)`
abbrev pub result_text : Done1 → List ℕ
result_text d = decimal d.pos ++ codes ":" ++ flat_map value_text d.values
