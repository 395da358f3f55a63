-- The last of some items.
use Rattle.std.proofs.Common.{◌≡◌, suc, ◌-◌, List, [], ◌∷◌, length, slice_get, Some, refl, ap, ◌∙◌, subst, arith}
use Rattle.std.specs.Prelude.{All}
use Rattle.sv_wire.specs.declared.message.Item.{Item}
use Rattle.sv_looks.specs.Snapshots.{last_item}

pub last_at : (items : List Item) → slice_get items (length items - 1) ≡ last_item items
last_at [] = refl
last_at (x ∷ []) = refl
last_at (x ∷ y ∷ items) =
    let n : length (x ∷ y ∷ items) - 1 ≡ suc (length (y ∷ items) - 1) = omega arith in
    ap (slice_get (x ∷ y ∷ items)) n ∙ last_at (y ∷ items)

-- What holds of all items holds of the last one.
pub last_has : (P : Item → Type 0) (items : List Item) (item : Item) → All P items → last_item items ≡ Some item → P item
last_has P [] item h e = cc
last_has P (x ∷ []) item h e = let same : x ≡ item = cc in subst P same (h 0 x (omega arith))
last_has P (x ∷ y ∷ items) item h e = last_has P (y ∷ items) item (λ i d l. h (suc i) d (omega arith)) e
