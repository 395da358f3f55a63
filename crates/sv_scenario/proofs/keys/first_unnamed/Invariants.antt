-- The first unnamed key of those that are left is that of all.
use Rattle.std.proofs.Common.{◌≡◌, ◌++◌, map}
use Rattle.serde_json.specs.View.{members_view}
use Rattle.sv_scenario.specs.Keys.{first_unnamed}
use Rattle.sv_scenario.proofs.keys.first_unnamed.Given as goal

abbrev pub invariant-loop-key : goal.invariant-loop-key
invariant-loop-key l = first_unnamed (map (λ s. s.now) l.needed ++ map (λ s. s.now) l.others) (members_view l.key-iterator)
    ≡ first_unnamed (map (λ s. s.now) l.needed ++ map (λ s. s.now) l.others) (members_view l.members.entries)
