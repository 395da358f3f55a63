-- The key is among the names that are left just where it is among all.
use Rattle.std.proofs.Common.{◌≡◌, drop, map}
use Rattle.sv_scenario.specs.Keys.{is_among}
use Rattle.sv_scenario.proofs.keys.is_among.Given as goal

abbrev pub invariant-loop-name : goal.invariant-loop-name
invariant-loop-name l = is_among (map (λ s. s.now) (drop l.name-index l.names)) l.key ≡ is_among (map (λ s. s.now) l.names) l.key
