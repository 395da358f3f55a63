-- A generated scenario keeps the limits and rules.
use Rattle.std.proofs.Common.{◌≡◌, ◌≢◌, ℕ, zero, suc, ◌+◌, ◌-◌, ◌*◌, ◌/◌, ◌%◌, ◌<◌, ◌≤◌, Bool, true, false, nat_lt, ℤ, List, [], ◌∷◌, ◌++◌, length, map, refl, sym, ap, ◌∙◌, subst, arith, length-append, Result, Ok, Err, IfOk}
use Rattle.std.proofs.lemmas.Bool.{lt-ltb}
use Rattle.std.proofs.lemmas.List.{length-map}
use Rattle.std.proofs.lemmas.List.Elements.{All-from_recursion}
use Rattle.std.proofs.Math.Nat.{mul-le-mul_right, suc-mul}
use Rattle.std.specs.List.{AllByRecursion, flat_map}
use Rattle.sv_world.specs.declared.world.ObjectId.{ObjectId}
use Rattle.sv_world.specs.declared.world.Shape.{Shape}
use Rattle.sv_world.specs.Control.{below}
use Rattle.sv_world.specs.Worlds.{IsGoodWorld}
use Rattle.sv_world.specs.Faults.{is_ascending}
use Rattle.sv_scenario.specs.declared.scenario.Plan.{Plan}
use Rattle.sv_scenario.specs.declared.scenario.Scenario.{Scenario}
use Rattle.sv_scenario.specs.declared.scenario.Step.{Step}
use Rattle.sv_scenario.specs.declared.scenario.Step.TheVariants as steps
use Rattle.sv_scenario.specs.Limits.{IsGoodStep, quits_last, IsGoodPlan, IsGoodScenario}
use Rattle.sv_scenario.specs.Sessions.{cuts_by, cuts_in, sessions_of_plan, sessions_in}
use Rattle.sv_gen.specs.Generated.{act, round_steps, script, interest, plan, opening, world, scenario, pairs_of, rounds_of}
use Rattle.sv_gen.proofs.Parts.{all_append, all_below, all_flat, all_lead, length-below, length-flat}
use Rattle.sv_gen.proofs.Sizes.{objects_fit, groups_fit}
use Rattle.sv_gen.proofs.Transfers.{good_act}

-- ---- scripts

-- A step that neither cuts nor quits.
abbrev stays : Step → Bool
stays (steps.Act action) = true
stays steps.Poll = true
stays (steps.Observe objects) = true
stays steps.Sync = true
stays (steps.Show objects) = true
stays steps.Cut = false
stays steps.Quit = false

abbrev IsFine : Shape → Step → Type 0
IsFine shape step = IsGoodStep shape step × (stays step ≡ true)

round_fine : (shape : Shape) (h b : ℕ) → shape.attrs ≡ 2 → h ≤ 1 → b + 4 ≤ shape.objects → AllByRecursion (IsFine shape) (round_steps h b)
round_fine shape h b two half fits =
    all_append (IsFine shape) (map (λ j. steps.Act (act h b j)) (below 16)) (steps.Sync ∷ [])
    (all_below (IsFine shape) (λ j. steps.Act (act h b j)) 16 (λ j l. (good_act shape h b j two half fits, refl)))
    ((tt, refl), tt)

round_length : (h b : ℕ) → length (round_steps h b) ≡ 17
round_length h b = refl

script_fine : (shape : Shape) (rounds h g : ℕ) → shape.attrs ≡ 2 → h ≤ 1 → 4 * (g + rounds) ≤ shape.objects → AllByRecursion (IsFine shape) (script rounds h g)
script_fine shape rounds h g two half fits =
    all_flat (IsFine shape) (λ r. round_steps h (4 * (g + r))) rounds (λ r l. round_fine shape h (4 * (g + r)) two half (omega (arith, l, fits)))

script_length : (rounds h g : ℕ) → length (script rounds h g) ≡ 17 * rounds
script_length rounds h g = length-flat (λ r. round_steps h (4 * (g + r))) rounds (λ r. round_length h (4 * (g + r)))

stays_last : (ss : List Step) → AllByRecursion (λ step. stays step ≡ true) ss → quits_last ss ≡ true
stays_last [] all = refl
stays_last (step ∷ []) all = refl
stays_last (steps.Act action ∷ next ∷ ss) all = stays_last (next ∷ ss) all.1
stays_last (steps.Poll ∷ next ∷ ss) all = stays_last (next ∷ ss) all.1
stays_last (steps.Observe objects ∷ next ∷ ss) all = stays_last (next ∷ ss) all.1
stays_last (steps.Sync ∷ next ∷ ss) all = stays_last (next ∷ ss) all.1
stays_last (steps.Show objects ∷ next ∷ ss) all = stays_last (next ∷ ss) all.1
stays_last (steps.Cut ∷ next ∷ ss) all = stays_last (next ∷ ss) all.1
stays_last (steps.Quit ∷ next ∷ ss) all = cc all.0

cuts_none : (ss : List Step) → AllByRecursion (λ step. stays step ≡ true) ss → cuts_in ss ≡ 0
cuts_none [] all = refl
cuts_none (step ∷ ss) all = omega (arith, one step all.0, cuts_none ss all.1) where
  one : (step : Step) → stays step ≡ true → cuts_by step ≡ 0
  one (steps.Act action) is = refl
  one steps.Poll is = refl
  one (steps.Observe objects) is = refl
  one steps.Sync is = refl
  one (steps.Show objects) is = refl
  one steps.Cut is = cc
  one steps.Quit is = cc

-- ---- clients

ascends : (x : ℕ) → is_ascending (x ∷ (x + 1) ∷ (x + 2) ∷ (x + 3) ∷ []) ≡ true
ascends x = rw (lt-ltb x (x + 1) (omega arith), lt-ltb (x + 1) (x + 2) (omega arith), lt-ltb (x + 2) (x + 3) (omega arith)) refl

record IsFinePlan (shape : Shape) (p : Plan) : Type 0 where
  good : IsGoodPlan shape p
  one : sessions_of_plan p ≡ 1

good_plan : (shape : Shape) (rounds h g : ℕ) → shape.attrs ≡ 2 → h ≤ 1 → 1 ≤ rounds → rounds ≤ 12 → 4 * (g + rounds) ≤ shape.objects
    → IsFinePlan shape (record { interest = interest g; steps = script rounds h g })
good_plan shape rounds h g two half some few fits =
    let fine = script_fine shape rounds h g two half fits in
    let goods = all_lead (IsFine shape) (IsGoodStep shape) (λ step f. f.0) (script rounds h g) fine in
    let stay = all_lead (IsFine shape) (λ step. stays step ≡ true) (λ step f. f.1) (script rounds h g) fine in
    record {
      good = record {
        few_objects = omega arith;
        ascending = ascends (4 * g);
        known = (omega (arith, some, fits), (omega (arith, some, fits), (omega (arith, some, fits), (omega (arith, some, fits), tt))));
        few_steps = omega (arith, script_length rounds h g, few);
        steps = goods;
        quit = stays_last (script rounds h g) stay;
      };
      one = omega (arith, cuts_none (script rounds h g) stay);
    }

groups_within : (m pairs rounds : ℕ) → m < pairs → m * rounds + rounds ≤ pairs * rounds
groups_within m pairs rounds l = omega (arith, mul-le-mul_right rounds l, suc-mul m rounds)

sessions_one : (ps : List Plan) → AllByRecursion (λ p. sessions_of_plan p ≡ 1) ps → sessions_in ps ≡ length ps
sessions_one [] all = refl
sessions_one (p ∷ ps) all = omega (arith, all.0, sessions_one ps all.1)

plans_fine : (pairs rounds : ℕ) → 1 ≤ rounds → rounds ≤ 12 → AllByRecursion (IsFinePlan (record { objects = 4 * (pairs * rounds); attrs = 2 })) (map (plan rounds) (below (2 * pairs)))
plans_fine pairs rounds some few =
    all_below (IsFinePlan (record { objects = 4 * (pairs * rounds); attrs = 2 })) (plan rounds) (2 * pairs) (λ k l.
    good_plan (record { objects = 4 * (pairs * rounds); attrs = 2 }) rounds (k % 2) (k / 2 * rounds) refl (omega arith) some few
    (let w : k / 2 * rounds + rounds ≤ pairs * rounds = groups_within (k / 2) pairs rounds (omega (arith, l)) in omega (arith, w)))

-- ---- the whole

good_world : (objects : ℕ) → 1 ≤ objects → objects ≤ 4096 → IsGoodWorld (world objects)
good_world objects some few = record {
  shape = record { some_objects = some; few_objects = omega (arith, few); some_attrs = omega arith; few_attrs = omega arith };
  objects = length-map (below objects) opening ∙ length-below objects;
  attrs = All-from_recursion (λ (v : List ℤ). length v ≡ 2) (map opening (below objects)) (all_below (λ (v : List ℤ). length v ≡ 2) opening objects (λ k l. refl));
}

some_product : (a b : ℕ) → 1 ≤ a → 1 ≤ b → 1 ≤ a * b
some_product a b l m = omega (arith, m, mul-le-mul_right b l)

good_scenario : (pairs rounds : ℕ) → 1 ≤ pairs → pairs ≤ 16 → 1 ≤ rounds → rounds ≤ 12 → IsGoodScenario (scenario pairs rounds)
good_scenario pairs rounds some_pairs few_pairs some_rounds few_rounds =
    let fine = plans_fine pairs rounds some_rounds few_rounds in
    let shape : Shape = record { objects = 4 * (pairs * rounds); attrs = 2 } in
    let plans : List Plan = map (plan rounds) (below (2 * pairs)) in
    let count : length plans ≡ 2 * pairs = length-map (below (2 * pairs)) (plan rounds) ∙ length-below (2 * pairs) in
    let low = some_product pairs rounds some_pairs some_rounds in
    let high = objects_fit pairs rounds few_pairs few_rounds in
    record {
      world = good_world (4 * (pairs * rounds)) (omega (arith, low)) (omega (arith, high));
      few_objects = omega (arith, high);
      bound = omega arith;
      reach = tt;
      some_clients = omega (arith, count, some_pairs);
      few_clients = omega (arith, count, few_pairs);
      plans = all_lead (IsFinePlan shape) (IsGoodPlan shape) (λ p f. f.good) plans fine;
      sessions = omega (arith, sessions_one plans (all_lead (IsFinePlan shape) (λ p. sessions_of_plan p ≡ 1) (λ p f. f.one) plans fine), count, few_pairs);
      few_turns = omega arith;
      turns = tt;
    }

pub result_is_good : {E : Type 0} (n : ℕ) (r : Result Scenario E) → 1 ≤ n → n ≤ 192 → IfOk r (λ s. s ≡ scenario (pairs_of n) (rounds_of n)) → IfOk r IsGoodScenario
result_is_good n (Ok s) some most given = subst IsGoodScenario (sym given) (good_scenario (pairs_of n) (rounds_of n) (omega arith) (omega arith) (omega arith) (omega (arith, most)))
result_is_good n (Err e) some most given = tt
