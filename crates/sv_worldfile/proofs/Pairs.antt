-- Lists that are no pairs.
use Rattle.std.proofs.Common.{◌≡◌, ◌≤◌, ◌<◌, List, [], ◌∷◌, length, refl, arith}
use Rattle.serde_json.specs.declared.value.Value.{Value}
use Rattle.serde_json.specs.View.{items_view}
use Rattle.sv_scenario.specs.declared.fault.ScenarioCause.TheVariants as causes
use Rattle.sv_scenario.specs.Faults.{refuse}
use Rattle.sv_worldfile.specs.Rights.{two_items}

pub too_few : (vs : List Value) → length vs < 2 → two_items (items_view vs) ≡ refuse causes.Range
too_few [] few = refl
too_few (a ∷ []) few = refl
too_few (a ∷ b ∷ vs) few = absurd (omega arith)

pub too_many : (vs : List Value) → 3 ≤ length vs → two_items (items_view vs) ≡ refuse causes.Range
too_many [] many = absurd (omega arith)
too_many (a ∷ []) many = absurd (omega arith)
too_many (a ∷ b ∷ []) many = absurd (omega arith)
too_many (a ∷ b ∷ c ∷ vs) many = refl
