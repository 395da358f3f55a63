-- Items that are evaluated on a store that stands for all values held.
use Rattle.std.proofs.Common.{◌≡◌, ℕ, suc, ◌-◌, ◌<◌, List, [], ◌∷◌, ◌++◌, length, drop, take, get_or, Option, None, Result, Ok, Err, refl, sym, ap, subst, ◌∙◌, append_assoc, arith}
use Rattle.std.specs.Prelude.{ℤ}
use Rattle.std.proofs.lemmas.List.{take_all}
use Rattle.sv_world.specs.declared.world.ObjectId.{ObjectId}
use Rattle.sv_world.specs.Sets.{numbers_of, read_set, write_set}
use Rattle.sv_eval.specs.Evaluation.{effect_of}
use Rattle.sv_versions.specs.Held.{Held, AnswersAbove}
use Rattle.sv_wire.specs.declared.message.Item.{Item}
use Rattle.sv_wire.specs.declared.message.Done1.{Done1}
use Rattle.sv_client.specs.declared.fault.TakeFault.{TakeFault}
use Rattle.sv_client.specs.Traces.{held_at, item_result, item_held, results_of}
use Rattle.sv_client.specs.Taking.{first_unheld, first_missing_of, missing_at}
use Rattle.sv_client.specs.Evaluating.{values_below, IsMissing, IsEvaluated, AreEvaluated}
use Rattle.sv_client.proofs.Standing.{missing_same, values_same}

pub item_done : (told : ℕ) (kept all after : List Held) (item : Item) (os : List ObjectId) (values writes : List (List ℤ)) → AnswersAbove told kept all → told < item.pos
    → first_unheld kept item.pos (read_set item.action) ≡ None → values ≡ values_below kept item.pos (read_set item.action)
    → writes ≡ (effect_of item.action values).writes → numbers_of os ≡ write_set item.action
    → AnswersAbove told after (all ++ held_at item.pos (numbers_of os) writes)
    → IsEvaluated told all item (Ok writes) after
item_done told kept all after item os values writes a l m v w o s =
    let same : writes ≡ item_result all item = w ∙ ap (λ (vs : List (List ℤ)). (effect_of item.action vs).writes) (v ∙ values_same a item.pos l (read_set item.action)) in
    let held : held_at item.pos (numbers_of os) writes ≡ item_held all item = ap (λ (xs : List ℕ). held_at item.pos xs writes) o ∙ ap (held_at item.pos (write_set item.action)) same in
    (sym (missing_same a item.pos l (read_set item.action)) ∙ m, same, subst (λ (hs : List Held). AnswersAbove told after (all ++ hs)) held s)

pub items_more : (told : ℕ) (all between after : List Held) (item : Item) (items : List Item) (values : List (List ℤ)) (before middle results : List Done1) (r : Result Unit TakeFault)
    → IsEvaluated told all item (Ok values) between → middle ≡ before ++ record { pos = item.pos; values = values } ∷ []
    → AreEvaluated told (all ++ item_held all item) items middle results r after
    → AreEvaluated told all (item ∷ items) before results r after
items_more told all between after item items values before middle results (Ok u) e m h =
    let first : record { pos = item.pos; values = values } ∷ [] ≡ record { pos = item.pos; values = item_result all item } ∷ [] =
    ap (λ (vs : List (List ℤ)). record { pos = item.pos; values = vs } ∷ []) e.1 in (
      ap (λ (o : Option ℕ). missing_at item.pos o (first_missing_of (all ++ item_held all item) items)) e.0 ∙ h.0,
      h.1 ∙ ap (λ (ds : List Done1). ds ++ results_of (all ++ item_held all item) items) (m ∙ ap (λ (ds : List Done1). before ++ ds) first)
          ∙ append_assoc before (record { pos = item.pos; values = item_result all item } ∷ []) (results_of (all ++ item_held all item) items),
      h.2,
    )
items_more told all between after item items values before middle results (Err fault) e m h =
    subst (λ (o : Option ℕ). IsMissing (missing_at item.pos o (first_missing_of (all ++ item_held all item) items)) fault) (sym e.0) h

pub results_count : (held : List Held) (items : List Item) → length (results_of held items) ≡ length items
results_count held [] = refl
results_count held (item ∷ items) = ap suc (results_count (held ++ item_held held item) items)

pub front_is : (xs : List Item) (item : Item) → 0 < length xs → item ≡ get_or xs 0 item → xs ≡ item ∷ take (length xs - 1) (drop 1 xs)
front_is [] item l e = absurd (omega arith)
front_is (x ∷ xs) item l e =
    let same : x ≡ item = sym e in
    ap (λ (i : Item). i ∷ xs) same ∙ ap (λ (ys : List Item). item ∷ ys) (sym (take_all (length (x ∷ xs) - 1) xs (omega arith)))
