-- What holds of a relay's items that are evaluated on a store, where the store stands for all values held.
use Rattle.std.specs.Prelude.{◌≡◌, ℕ, suc, ◌<◌, ◌≤◌, ℤ, Bool, true, List, [], ◌∷◌, ◌++◌, map, Option, Some, None, unwrap_or, option_to_list, All, IfSome, Result, Ok, Err}
use Rattle.sv_world.specs.declared.world.ObjectId.{ObjectId}
use Rattle.sv_world.specs.Limits.{most_positions}
use Rattle.sv_world.specs.Sets.{read_set}
use Rattle.sv_versions.specs.Held.{Held, AnswersAbove, read_below}
use Rattle.sv_pending.specs.Pending.{PendingAction}
use Rattle.sv_pending.specs.Made.{ReadsWithin}
use Rattle.sv_wire.specs.declared.message.ObjectValue.{ObjectValue}
use Rattle.sv_wire.specs.declared.message.Item.{Item}
use Rattle.sv_wire.specs.declared.message.Done1.{Done1}
use Rattle.sv_wire.specs.declared.message.Request.{Request}
use Rattle.sv_wire.specs.declared.message.Reply.{Reply}
use Rattle.sv_wire.specs.declared.message.Reply.TheVariants as replies
use Rattle.sv_wire.specs.declared.message.Request.TheVariants as requests
use Rattle.sv_client.specs.declared.fault.TakeFault.{TakeFault}
use Rattle.sv_client.specs.declared.kinds.Awaited.{Awaited}
use Rattle.sv_client.specs.declared.kinds.Awaited.TheVariants as kinds
use Rattle.sv_client.specs.Traces.{item_result, item_held, with_items, with_reply, results_of, done_for, pending_with, are_same}
use Rattle.sv_client.specs.Taking.{first_unheld, first_missing_of, missing_at, missing_fault, missing_in, items_of, head_of}
use Rattle.sv_client.specs.Seen.{fault_named}

-- The objects are some of a world of so many.
abbrev pub AreWithin : ℕ → List ObjectId → Type 0
AreWithin n objects = All (λ (o : ObjectId). o.0 < n) objects

-- The objects that are observed by what is awaited.
abbrev pub objects_of : Awaited → List ObjectId
objects_of (kinds.Observe objects) = objects
objects_of _ = []

-- What is awaited observes objects of a world of so many.
abbrev pub AsksWithin : ℕ → Awaited → Type 0
AsksWithin n kind = AreWithin n (objects_of kind)

abbrev pub IsHeadWithin : ℕ → List ObjectValue → Type 0
IsHeadWithin n head = All (λ (h : ObjectValue). h.object.0 < n) head

abbrev pub ItemsReadWithin : ℕ → List Item → Type 0
ItemsReadWithin n items = All (λ (i : Item). ReadsWithin n i.action) items

abbrev pub ItemsAreAbove : ℕ → List Item → Type 0
ItemsAreAbove told items = All (λ (i : Item). told < i.pos) items

-- The values held of objects below a position; a value that is not held is read as no number.
abbrev pub values_below : List Held → ℕ → List ℕ → List (List ℤ)
values_below held pos xs = map (λ x. unwrap_or (read_below held x pos) []) xs

-- The fault that a refusal names is that the first missing value is missing.
abbrev pub IsMissing : Option (ℕ × ℕ) → TakeFault → Type 0
IsMissing missing fault = IfSome (fault_named fault) (λ f. missing_fault missing ≡ Some f)

-- After an item: no value was missing, the result is the defined one, and the store stands for all values with those of the item.
abbrev pub IsEvaluated : ℕ → List Held → Item → Result (List (List ℤ)) TakeFault → List Held → Type 0
IsEvaluated told all item (Ok values) kept =
    (first_unheld all item.pos (read_set item.action) ≡ None) × (values ≡ item_result all item) × AnswersAbove told kept (all ++ item_held all item)
IsEvaluated told all item (Err fault) kept = IsMissing (missing_at item.pos (first_unheld all item.pos (read_set item.action)) None) fault

-- After several items, where their results were appended to those before.
abbrev pub AreEvaluated : ℕ → List Held → List Item → List Done1 → List Done1 → Result Unit TakeFault → List Held → Type 0
AreEvaluated told all items before after (Ok _) kept =
    (first_missing_of all items ≡ None) × (after ≡ before ++ results_of all items) × AnswersAbove told kept (with_items all items)
AreEvaluated told all items before after (Err fault) kept = IsMissing (first_missing_of all items) fault

-- After a head and several items, where the values of the head are among all that was held before the items.
abbrev pub AreBrought : ℕ → List Held → List Item → Result (List Done1) TakeFault → List Held → Type 0
AreBrought told all items (Ok results) kept =
    (first_missing_of all items ≡ None) × (results ≡ results_of all items) × AnswersAbove told kept (with_items all items)
AreBrought told all items (Err fault) kept = IsMissing (first_missing_of all items) fault

-- Values of objects at or below a position are sought: each object has one, or the first that has none is missing.
abbrev pub IsSought : List Held → ℕ → List ℕ → Result Unit TakeFault → Type 0
IsSought held last xs (Ok _) = first_unheld held (suc last) xs ≡ None
IsSought held last xs (Err fault) = IsMissing (missing_at (suc last) (first_unheld held (suc last) xs) None) fault

-- The Done of results, where there are any.
abbrev pub done_with : List Done1 → List Request
done_with [] = []
done_with (d ∷ ds) = requests.Done (d ∷ ds) ∷ []

-- After a reply: no value was missing, the pending actions and the Done are the defined ones, and the store stands for all values held.
abbrev pub IsApplied : ℕ → List Held → Option Awaited → Reply → List PendingAction → Result (Option Request) TakeFault → List Held → List PendingAction → Type 0
IsApplied told all kind reply pending (Ok done) kept after =
    (missing_in all kind reply ≡ None) × (option_to_list done ≡ done_for all reply) × (after ≡ pending_with all (with_reply all reply) reply pending)
    × AnswersAbove told kept (with_reply all reply)
IsApplied told all kind reply pending (Err fault) kept after = IsMissing (missing_in all kind reply) fault

-- What was seen stands at or above what was told, and where an action may stand.
abbrev pub IsCutAbove : ℕ → Reply → Type 0
IsCutAbove told (replies.Seen last commit head items) = (told ≤ last) × (last ≤ most_positions)
IsCutAbove told _ = Unit {0}

-- A reply that names objects of a world of so many, items above what was told, and what was seen not below it.
pub record IsFitting (objects told : ℕ) (reply : Reply) : Type 0 where
  pub head : IsHeadWithin objects (head_of reply)
  pub reads : ItemsReadWithin objects (items_of reply)
  pub above : ItemsAreAbove told (items_of reply)
  pub cut : IsCutAbove told reply

-- The front action kept this result, or there is none.
abbrev pub keeps_front : List PendingAction → Option (List (List ℤ)) → Bool
keeps_front [] own = true
keeps_front (p ∷ ps) own = are_same own p.kept
