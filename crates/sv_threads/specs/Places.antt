-- One thing for each client of a scenario.
use Rattle.std.specs.Prelude.{ℕ, suc, ◌+◌, List, [], ◌∷◌}
use Rattle.sv_scenario.specs.declared.scenario.Plan.{Plan}
use Rattle.sv_scenario.specs.Sessions.{sessions_of_plan}

-- There is one for each client, in order, and this holds of it: of clients numbered from k on, with sessions numbered from s on.
abbrev pub EachClient : {X : Type 0} → (ℕ → ℕ → Plan → X → Type 0) → ℕ → ℕ → List Plan → List X → Type 0
EachClient P k s [] [] = Unit {0}
EachClient P k s (plan ∷ plans) (x ∷ xs) = P k s plan x × EachClient P (suc k) (s + sessions_of_plan plan) plans xs
EachClient P k s _ _ = ⊥
