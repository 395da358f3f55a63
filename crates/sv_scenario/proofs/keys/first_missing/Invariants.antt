-- The first missing key of those that are left is that of all.
use Rattle.std.proofs.Common.{◌≡◌, drop, map}
use Rattle.serde_json.specs.View.{view}
use Rattle.sv_scenario.specs.Keys.{first_missing}
use Rattle.sv_scenario.proofs.keys.first_missing.Given as goal

abbrev pub invariant-loop-name : goal.invariant-loop-name
invariant-loop-name l = first_missing (map (λ s. s.now) (drop l.name-index l.names)) (view l.value) ≡ first_missing (map (λ s. s.now) l.names) (view l.value)
