-- What is read of a value, or its first fault.
use Rattle.std.specs.Prelude.{◌≡◌, ℕ, List, [], ◌∷◌, ◌++◌, length, Option, Some, None, Result, Ok, Err, ◌⊎◌, decimal}
use Rattle.serde_json.specs.Data.{Data, Items, no_items, item}
use Rattle.sv_scenario.specs.declared.fault.ScenarioFault.{ScenarioFault}
use Rattle.sv_scenario.specs.declared.fault.ScenarioCause.{ScenarioCause}
use Rattle.sv_scenario.specs.declared.fault.ReadFault.{ReadFault}
use Rattle.sv_scenario.specs.declared.fault.ReadFault.TheVariants as faults

abbrev pub Read : Type 0 → Type 0
Read A = Result A ScenarioFault

infixl 10 ◌>>=◌
abbrev pub ◌>>=◌ : {A B : Type 0} → Read A → (A → Read B) → Read B
(Ok x) >>= f = f x
(Err fault) >>= f = Err fault

-- The value itself is at fault.
abbrev pub refuse : {A : Type 0} → ScenarioCause → Read A
refuse cause = Err (record { path = []; cause = cause })

-- What is there, else the value is at fault.
abbrev pub given : {A : Type 0} → ScenarioCause → Option A → Read A
given cause (Some x) = Ok x
given cause None = refuse cause

-- A fault of a value inside has `/` and the value's key or place before its own path.
abbrev pub inside : List ℕ → ScenarioFault → ScenarioFault
inside key fault = record { path = 47 ∷ key ++ fault.path; cause = fault.cause }

-- What was read of the value at a key.
abbrev pub at_key : {A : Type 0} → List ℕ → Read A → Read A
at_key key (Ok x) = Ok x
at_key key (Err fault) = Err (inside key fault)

-- What was read of the value at a place.
abbrev pub at_place : {A : Type 0} → ℕ → Read A → Read A
at_place place read = at_key (decimal place) read

-- What is read of each item in order, behind what was read before.
abbrev pub each : {A : Type 0} → (Data → Read A) → List A → Items → Read (List A)
each read before no_items = Ok before
each read before (item d ds) = at_place (length before) (read d) >>= λ x. each read (before ++ x ∷ []) ds

-- What a function returned, seen by view, is what is read, unless memory ran out.
abbrev pub Gives : {X Y : Type 0} → (X → Y) → Result X ReadFault → Read Y → Type 0
Gives view (Ok x) read = read ≡ Ok (view x)
Gives view (Err (faults.Scenario fault)) read = read ≡ Err fault
Gives view (Err faults.Memory) read = Unit {0}

-- A fault with a key before its path, unless memory ran out.
abbrev pub IsInside : List ℕ → ReadFault → ReadFault → Type 0
IsInside key (faults.Scenario fault) after = (after ≡ faults.Memory) ⊎ (after ≡ faults.Scenario (inside key fault))
IsInside key faults.Memory after = after ≡ faults.Memory

-- The same of what a function returned.
abbrev pub IsAtKey : {X : Type 0} → List ℕ → Result X ReadFault → Result X ReadFault → Type 0
IsAtKey key (Ok x) after = after ≡ Ok x
IsAtKey key (Err fault) after = (moved : ReadFault) × (after ≡ Err moved) × IsInside key fault moved
