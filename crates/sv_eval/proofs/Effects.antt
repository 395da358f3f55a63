-- The result of an action has one value for each written object, each as long as the values that were read.
use Rattle.std.proofs.Common.{◌≡◌, ℕ, List, length, Option, Some, None, ◌∙◌, sym}
use Rattle.std.specs.Prelude.{All, IfSome}
use Rattle.std.proofs.lemmas.List.{length-map}
use Rattle.sv_world.specs.Sets.{at_mask, read_set, write_set}
use Rattle.sv_world.specs.declared.action.Action.{Action}
use Rattle.sv_world.specs.declared.world.ObjectId.{ObjectId}
use Rattle.sv_eval.specs.Evaluation.{Slots, body_after, effect_by, effect_of}
use Rattle.sv_eval.proofs.Lengths.{lengths, body_keeps, same_count, same_shape}
use Rattle.sv_eval.proofs.Masks.{at_mask_all, at_mask_lengths}

shaped_by : (attrs mask : ℕ) (values : Slots) (after : Option Slots) → IfSome after (λ slots. lengths slots ≡ lengths values)
    → All (λ value. length value ≡ attrs) values → All (λ value. length value ≡ attrs) (effect_by mask values after).writes
shaped_by attrs mask values None keeps h = at_mask_all (λ value. length value ≡ attrs) mask 0 values h
shaped_by attrs mask values (Some slots) keeps h =
    at_mask_all (λ value. length value ≡ attrs) mask 0 slots (same_shape attrs values slots keeps h)

counted_by : {A : Type 0} (mask : ℕ) (values : Slots) (after : Option Slots) (objects : List A) → IfSome after (λ slots. lengths slots ≡ lengths values)
    → length values ≡ length objects → length (effect_by mask values after).writes ≡ length (at_mask mask 0 objects)
counted_by mask values None objects keeps e = at_mask_lengths mask 0 values objects e
counted_by mask values (Some slots) objects keeps e =
    at_mask_lengths mask 0 slots objects (same_count values slots keeps ∙ e)

pub effect_shaped : (attrs : ℕ) (a : Action) (values : Slots) → All (λ value. length value ≡ attrs) values
    → All (λ value. length value ≡ attrs) (effect_of a values).writes
unfolding effect_of
effect_shaped attrs a values h =
    shaped_by attrs a.mask values (body_after a.body values) (body_keeps a.body values) h

pub effect_counted : (a : Action) (values : Slots) → length values ≡ length a.reads
    → length (effect_of a values).writes ≡ length (write_set a)
unfolding effect_of
effect_counted a values e =
    counted_by a.mask values (body_after a.body values) (read_set a) (body_keeps a.body values)
    (e ∙ sym (length-map a.reads (λ (o : ObjectId). o.0)))
