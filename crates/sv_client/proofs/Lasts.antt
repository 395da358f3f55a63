-- What stands at the end of a list.
use Rattle.std.proofs.Common.{◌≡◌, suc, ◌-◌, List, [], ◌∷◌, length, slice_get, Some, sym, ap, ◌∙◌, arith}
use Rattle.sv_wire.specs.declared.message.Done1.{Done1}
use Rattle.sv_world.specs.declared.world.ClientId.{ClientId}
use Rattle.sv_wire.specs.declared.message.Item.{Item}
use Rattle.sv_pending.specs.Pending.{PendingAction}
use Rattle.sv_client.specs.Taking.{ends_as_own, is_own}
use Rattle.sv_client.specs.Traces.{last_values}

pub last_values_is : (ds : List Done1) (d : Done1) → slice_get ds (length ds - 1) ≡ Some d → last_values ds ≡ Some d.values
last_values_is [] d h = cc
last_values_is (x ∷ []) d h = let same : x ≡ d = cc in ap (λ (y : Done1). Some y.values) same
last_values_is (x ∷ y ∷ ds) d h =
    let n : length (x ∷ y ∷ ds) - 1 ≡ suc (length (y ∷ ds) - 1) = omega arith in
    last_values_is (y ∷ ds) d (ap (slice_get (x ∷ y ∷ ds)) (sym n) ∙ h)

pub own_last : (id : ClientId) (p : PendingAction) (ps : List PendingAction) (items : List Item) (item : Item) → slice_get items (length items - 1) ≡ Some item
    → ends_as_own id (p ∷ ps) items ≡ is_own id p item
own_last id p ps [] item h = cc
own_last id p ps (x ∷ []) item h = let same : x ≡ item = cc in ap (is_own id p) same
own_last id p ps (x ∷ y ∷ items) item h =
    let n : length (x ∷ y ∷ items) - 1 ≡ suc (length (y ∷ items) - 1) = omega arith in
    own_last id p ps (y ∷ items) item (ap (slice_get (x ∷ y ∷ items)) (sym n) ∙ h)

pub own_is : (id : ClientId) (p : PendingAction) (ps : List PendingAction) (items : List Item) (item : Item) → slice_get ps 0 ≡ Some p → slice_get items (length items - 1) ≡ Some item
    → is_own id p item ≡ ends_as_own id ps items
own_is id p [] items item e h = cc
own_is id p (q ∷ ps) items item e h =
    let same : q ≡ p = cc in
    sym (ap (λ (r : PendingAction). is_own id r item) same) ∙ sym (own_last id q ps items item h)
