-- The values of serial worlds have as many numbers as the shape has attributes, each of 64 bits.
use Rattle.std.proofs.Common.{◌≡◌, ℕ, zero, suc, ◌<◌, true, List, [], ◌∷◌, length, map, set, ℤ, arith}
use Rattle.std.specs.Prelude.{All, slice_get, slice_index_or}
use Rattle.std.specs.List.{AllByRecursion}
use Rattle.sv_world.specs.Sets.{read_set, write_set}
use Rattle.sv_world.specs.Trees.{all_true}
use Rattle.sv_world.specs.declared.action.Action.{Action}
use Rattle.sv_eval.specs.Evaluation.{Slots, effect_of}
use Rattle.sv_eval.specs.Serial.{values_at, put_all, world_after_some, serial_world}
use Rattle.sv_eval.proofs.Serials.{serial_length, serial_shaped}
use Rattle.sv_world.specs.Ranges.{stmt_fits}
use Rattle.sv_wire.specs.Ranges.{ValueFits}
use Rattle.law_system.proofs.Every.{each-get}
use Rattle.law_asked.proofs.Evaluated.{AreNumbers, all_set, outcome_fits}

-- The numbers in an action's body are those of their types.
abbrev pub HasFit : Action → Type 0
HasFit a = all_true (map stmt_fits a.body) ≡ true

pub put_all_fits : (world : Slots) (objects : List ℕ) (values : Slots) → AreNumbers world → AreNumbers values → AreNumbers (put_all world objects values)
put_all_fits world [] values h q = h
put_all_fits world (x ∷ xs) [] h q = h
put_all_fits world (x ∷ xs) (v ∷ vs) h q = put_all_fits (set world x v) xs vs (all_set ValueFits world x v h q.0) q.1

values_at_fits : (world : Slots) (objects : List ℕ) → AreNumbers world → AreNumbers (values_at world objects)
values_at_fits world [] h = tt
values_at_fits world (x ∷ xs) h = (each-get ValueFits world x [] h tt, values_at_fits world xs h)

after_fits : (world : Slots) (acts : List Action) (p : ℕ) → AllByRecursion HasFit acts → AreNumbers world → AreNumbers (world_after_some world (slice_get acts p))
after_fits world [] p all h = h
after_fits world (a ∷ acts) zero all h =
    put_all_fits world (write_set a) (effect_of a (values_at world (read_set a))).writes h (outcome_fits a (values_at world (read_set a)) all.0 (values_at_fits world (read_set a) h))
after_fits world (a ∷ acts) (suc p) all h = after_fits world acts p all.1 h

pub serial_fits : (opening : Slots) (acts : List Action) (p : ℕ) → AllByRecursion HasFit acts → AreNumbers opening → AreNumbers (serial_world opening acts p)
serial_fits opening acts zero all h = h
serial_fits opening acts (suc p) all h = after_fits (serial_world opening acts p) acts p all (serial_fits opening acts p all h)

-- A value of so many numbers of 64 bits.
pub record IsGoodValue (attrs : ℕ) (v : List ℤ) : Type 0 where
  pub count : length v ≡ attrs
  pub fits : ValueFits v

pub serial_good : (attrs : ℕ) (opening : Slots) (acts : List Action) (p x : ℕ) → All (λ value. length value ≡ attrs) opening → All (λ a. All (λ y. y < length opening) (read_set a)) acts →
    AllByRecursion HasFit acts → AreNumbers opening → x < length opening → IsGoodValue attrs (slice_index_or (serial_world opening acts p) x [])
serial_good attrs opening acts p x shaped within fit numbers below =
    record {
      count = serial_shaped attrs opening acts p shaped within x [] (omega (arith, below, serial_length opening acts p));
      fits = each-get ValueFits (serial_world opening acts p) x [] (serial_fits opening acts p fit numbers) tt;
    }
