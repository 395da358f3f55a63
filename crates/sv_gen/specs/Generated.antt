-- The generated scenario of a size: pairs of clients that move amounts between four objects at a time.
use Rattle.std.specs.Prelude.{ℕ, suc, ◌+◌, ◌-◌, ◌*◌, ◌/◌, ◌%◌, min, max, nat_lt, cond, ℤ, pos, List, [], ◌∷◌, ◌++◌, map, None}
use Rattle.std.specs.List.{flat_map}
use Rattle.sv_world.specs.declared.action.Action.{Action}
use Rattle.sv_world.specs.declared.action.Expr.TheVariants as expr
use Rattle.sv_world.specs.declared.action.Stmt.{Stmt}
use Rattle.sv_world.specs.declared.action.Stmt.TheVariants as stmt
use Rattle.sv_world.specs.declared.world.ObjectId.{ObjectId}
use Rattle.sv_world.specs.declared.world.World.{World}
use Rattle.sv_world.specs.Control.{below}
use Rattle.sv_world.specs.Limits.{most_bound}
use Rattle.sv_world.specs.Sets.{object_numbered}
use Rattle.sv_scenario.specs.declared.scenario.Plan.{Plan}
use Rattle.sv_scenario.specs.declared.scenario.Scenario.{Scenario}
use Rattle.sv_scenario.specs.declared.scenario.Step.{Step}
use Rattle.sv_scenario.specs.declared.scenario.Step.TheVariants as steps

-- ---- acts

-- The slot of an object beside another one.
abbrev pub slot_of : ℕ → ℕ → ℕ
slot_of x y = cond (nat_lt x y) 0 1

-- The attribute 0 of the object in a slot is less by t.
abbrev pub taken : ℕ → ℕ → Stmt
taken slot t = stmt.Set slot 0 (expr.Sub (expr.Attr slot 0) (expr.Lit (pos t)))

-- An attribute of it is more by t.
abbrev pub added : ℕ → ℕ → ℕ → Stmt
added slot attr t = stmt.Set slot attr (expr.Add (expr.Attr slot attr) (expr.Lit (pos t)))

-- It moves t of attribute 0 from object u to object v, and counts that on attribute 1 of u.
abbrev pub transfer : ℕ → ℕ → ℕ → Action
transfer u v t = record {
  reads = object_numbered (min u v) ∷ object_numbered (max u v) ∷ [];
  mask = 3;
  origin = record { x = pos 0; y = pos 0 };
  body = taken (slot_of u v) t ∷ added (slot_of v u) 0 t ∷ added (slot_of u v) 1 1 ∷ [];
}

-- Act j among the four objects from b on, of a pair's client h, which is 0 or 1.
abbrev pub act : ℕ → ℕ → ℕ → Action
act h b j = transfer (b + j % 4) (b + (j + 1 + h) % 4) (1 + j % 3)

-- ---- scripts

-- A round: sixteen acts among four objects, and a sync.
abbrev pub round_steps : ℕ → ℕ → List Step
round_steps h b = map (λ j. steps.Act (act h b j)) (below 16) ++ steps.Sync ∷ []

-- A round for each group of four objects, of which the first is group g.
abbrev pub script : ℕ → ℕ → ℕ → List Step
script rounds h g = flat_map (λ r. round_steps h (4 * (g + r))) (below rounds)

abbrev pub interest : ℕ → List ObjectId
interest g = object_numbered (4 * g) ∷ object_numbered (4 * g + 1) ∷ object_numbered (4 * g + 2) ∷ object_numbered (4 * g + 3) ∷ []

-- Client 2m + h is client h of pair m, whose groups are those from m * rounds on.
abbrev pub plan : ℕ → ℕ → Plan
plan rounds k = record { interest = interest (k / 2 * rounds); steps = script rounds (k % 2) (k / 2 * rounds) }

-- ---- the whole

-- Object o opens as (100 + o, 0).
abbrev pub opening : ℕ → List ℤ
opening o = pos (100 + o) ∷ pos 0 ∷ []

abbrev pub world : ℕ → World
world objects = record { shape = record { objects = objects; attrs = 2 }; values = map opening (below objects) }

abbrev pub scenario : ℕ → ℕ → Scenario
scenario pairs rounds = record {
  world = world (4 * (pairs * rounds));
  bound = most_bound;
  reach = None;
  clients = map (plan rounds) (below (2 * pairs));
  schedule = [];
}

abbrev pub pairs_of : ℕ → ℕ
pairs_of n = 1 + (n - 1) % 16

abbrev pub rounds_of : ℕ → ℕ
rounds_of n = 1 + (n - 1) / 16

-- The greatest size.
abbrev pub most_load : ℕ
most_load = 192

-- The scenario of size n, from 1 to the greatest size.
unfoldable pub generated : ℕ → Scenario
generated n = scenario (pairs_of n) (rounds_of n)
