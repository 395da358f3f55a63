-- A scenario that was read keeps the limits and rules.
use Rattle.std.proofs.Common.{◌≡◌, ℕ, zero, suc, ◌≤◌, ◌<◌, Bool, true, false, ◌==◌, cond, nat_le, nat_lt, ℤ, List, [], ◌∷◌, ◌++◌, length, Option, Some, None, Result, Ok, Err, IfOk, IfSome, codes, refl, sym, ap, ◌∙◌, subst, arith, append_assoc, decimal}
use Rattle.std.proofs.lemmas.Bool.{leb-true, le-leb, ltb-true, lt-ltb}
use Rattle.std.proofs.lemmas.List.{append-nil}
use Rattle.std.proofs.lemmas.List.Elements.{All-from_recursion}
use Rattle.std.specs.List.{AllByRecursion, list_all}
use Rattle.std.specs.Str.{bytes_eq, is_utf8}
use Rattle.serde_json.specs.Data.{Data, Items, no_items, item}
use Rattle.serde_json.specs.Find.{as_str, get}
use Rattle.sv_world.specs.Sets.{numbers_of}
use Rattle.sv_world.specs.Worlds.{IsGoodWorld}
use Rattle.sv_world.specs.declared.action.Action.{Action}
use Rattle.sv_world.specs.declared.check.BadAction.{BadAction}
use Rattle.sv_world.specs.declared.world.ObjectId.{ObjectId}
use Rattle.sv_world.specs.declared.world.Shape.{Shape}
use Rattle.sv_world.specs.declared.world.World.{World}
use Rattle.sv_world.specs.Faults.{first_fault_of_action, is_ascending, may_be_observed, IsGoodAction}
use Rattle.sv_world.proofs.Good.{good_of_none}
use Rattle.sv_text.specs.Reading.{reading}
use Rattle.sv_text.specs.Tokens.{tokens_of}
use Rattle.sv_scenario.specs.declared.fault.ReadFault.{ReadFault}
use Rattle.sv_scenario.specs.declared.fault.ScenarioCause.TheVariants as causes
use Rattle.sv_scenario.specs.declared.scenario.Plan.{Plan}
use Rattle.sv_scenario.specs.declared.scenario.Scenario.{Scenario}
use Rattle.sv_scenario.specs.declared.scenario.Step.{Step}
use Rattle.sv_scenario.specs.declared.scenario.Step.TheVariants as steps
use Rattle.sv_scenario.specs.declared.scenario.Turn.{Turn}
use Rattle.sv_scenario.specs.declared.scenario.Turn.TheVariants as turns
use Rattle.sv_scenario.specs.Faults.{Read, ◌>>=◌, refuse, given, at_key, at_place, each, Gives}
use Rattle.sv_scenario.specs.Keys.{keys_of, value_at, value_if}
use Rattle.sv_scenario.specs.Limits.{AreObjects, IsGoodShow, IsGoodStep, quits_last, IsGoodPlan, IsGoodTurn, IsGoodScenario}
use Rattle.sv_scenario.specs.Numbers.{number_within, list_within, count_items, attribute_of, value_of, values_of}
use Rattle.sv_scenario.specs.Objects.{known, object_of, shown_of, not_below, next_object, ascending_from, interest_of, observed_of}
use Rattle.sv_scenario.specs.Scenarios.{world_with, world_of, reach_of, few_sessions, clients_of, scenario_in, scenario_of, value_in}
use Rattle.sv_scenario.specs.Scripts.{read_text, unless_bad, act_of, word_step, only, step_by, step_of, has_no_items, steps_from, steps_of, plan_of, plans_of}
use Rattle.sv_scenario.specs.Sessions.{sessions_in}
use Rattle.sv_scenario.specs.Turns.{number_below, numbered, turn_in, turn_of, turns_of}
use Rattle.sv_scenario.proofs.Parts.{bound, keyed_ok, given_ok, chosen, at_key_of, at_key_if, number_ok, list_ok, all_ok}

-- ---- the world

pub value_ok : (attrs : ℕ) (d : Data) (v : List ℤ) → value_of attrs d ≡ Ok v → length v ≡ attrs
unfolding value_of
value_ok attrs d v is =
    let p = bound (list_within attrs attrs d) (each attribute_of []) v is in
    let r = all_ok attribute_of (λ z. Unit {0}) (λ d z e. tt) p.0 v p.2 in
    let size = list_ok attrs attrs d p.0 p.1 in
    let count : length v ≡ count_items p.0 = r.1 in
    let low : attrs ≤ count_items p.0 = size.0 in
    let high : count_items p.0 ≤ attrs = size.1 in
    omega arith

values_ok : (most attrs : ℕ) (d : Data) (vs : List (List ℤ)) → values_of most attrs d ≡ Ok vs → AllByRecursion (λ v. length v ≡ attrs) vs × (1 ≤ length vs) × (length vs ≤ most)
unfolding values_of
values_ok most attrs d vs is =
    let p = bound (list_within 1 most d) (each (value_of attrs) []) vs is in
    let r = all_ok (value_of attrs) (λ v. length v ≡ attrs) (value_ok attrs) p.0 vs p.2 in
    let size = list_ok 1 most d p.0 p.1 in
    let count : length vs ≡ count_items p.0 = r.1 in
    let low : 1 ≤ count_items p.0 = size.0 in
    let high : count_items p.0 ≤ most = size.1 in
    (r.0, omega arith, omega arith)

good_world : (attrs : ℕ) (values : List (List ℤ)) → 1 ≤ attrs → attrs ≤ 4 → AllByRecursion (λ v. length v ≡ attrs) values → 1 ≤ length values → length values ≤ 65535
    → IsGoodWorld (world_with attrs values)
good_world attrs values some few all some_values few_values =
    record {
      shape = record { some_objects = some_values; few_objects = few_values; some_attrs = some; few_attrs = few };
      objects = refl;
      attrs = All-from_recursion (λ (v : List ℤ). length v ≡ attrs) values all;
    }

pub world_ok : (most : ℕ) → most ≤ 65535 → (d : Data) (w : World) → world_of most d ≡ Ok w → IsGoodWorld w × (w.shape.objects ≤ most)
unfolding world_of
world_ok most few d w is =
    let p = bound (value_at (codes "attrs") (number_within 1 4) d) (λ attrs. value_at (codes "objects") (values_of most attrs) d >>= λ values. Ok (world_with attrs values)) w is in
    let q = bound (value_at (codes "objects") (values_of most p.0) d) (λ values. Ok (world_with p.0 values)) w p.2 in
    let a = at_key_of (codes "attrs") (number_within 1 4) d p.0 p.1 in
    let v = at_key_of (codes "objects") (values_of most p.0) d q.0 q.1 in
    let n = number_ok 1 4 a.0 p.0 a.1 in
    let m = values_ok most p.0 v.0 q.0 v.1 in
    let e : world_with p.0 q.0 ≡ w = cc in
    subst (λ (x : World). IsGoodWorld x × (x.shape.objects ≤ most)) e (good_world p.0 q.0 n.0 n.1 m.0 m.1 (omega (arith, few, m.2)), m.2)

-- ---- objects

known_ok : (objects n : ℕ) (o : ObjectId) → known objects n ≡ Ok o → (o.0 ≡ n) × (o.0 < objects)
known_ok objects n o is =
    let p = chosen (nat_lt n objects) causes.Object (record { 0 = n }) o is in
    let e : o.0 ≡ n = ap (λ (x : ObjectId). x.0) (sym p.1) in
    let below : n < objects = ltb-true n objects p.0 in
    (e, omega arith)

object_ok : (objects : ℕ) (d : Data) (o : ObjectId) → object_of objects d ≡ Ok o → o.0 < objects
unfolding object_of
object_ok objects d o is = let p = bound (number_within 0 65535 d) (known objects) o is in (known_ok objects p.0 o p.2).1

shown_ok : (shape : Shape) (d : Data) (os : List ObjectId) → shown_of shape.objects d ≡ Ok os → IsGoodShow shape os
unfolding shown_of
shown_ok shape d os is =
    let p = bound (list_within 1 16 d) (each (object_of shape.objects) []) os is in
    let r = all_ok (object_of shape.objects) (λ o. o.0 < shape.objects) (object_ok shape.objects) p.0 os p.2 in
    let size = list_ok 1 16 d p.0 p.1 in
    let count : length os ≡ count_items p.0 = r.1 in
    let low : 1 ≤ count_items p.0 = size.0 in
    let high : count_items p.0 ≤ 16 = size.1 in
    record { some = omega arith; few = omega arith; known = r.0 }

pub next_ok : (objects least : ℕ) (d : Data) (o : ObjectId) → next_object objects least d ≡ Ok o → (least ≤ o.0) × (o.0 < objects)
unfolding next_object
next_ok objects least d o is =
    let p = bound (number_within 0 65535 d) (λ n. not_below least n >>= λ m. known objects m) o is in
    let q = bound (not_below least p.0) (λ m. known objects m) o p.2 in
    let k = known_ok objects q.0 o q.2 in
    let c = chosen (nat_le least p.0) causes.Order p.0 q.0 q.1 in
    let low : least ≤ p.0 = leb-true least p.0 c.0 in
    let e : p.0 ≡ q.0 = c.1 in
    let f : o.0 ≡ q.0 = k.0 in
    (omega arith, k.1)

-- the first is at least so great
abbrev IsFrom : ℕ → List ObjectId → Type 0
IsFrom least [] = Unit {0}
IsFrom least (o ∷ os) = least ≤ o.0

ascends : (o : ObjectId) (os : List ObjectId) → IsFrom (suc o.0) os → is_ascending (numbers_of os) ≡ true → is_ascending (numbers_of (o ∷ os)) ≡ true
ascends o [] from is = refl
ascends o (p ∷ os) from is = rw (lt-ltb o.0 p.0 (omega (arith, from)), is) refl

-- behind what was read before stand so many objects, ascending
record IsAscending (objects least : ℕ) (before xs : List ObjectId) (n : ℕ) : Type 0 where
  new : List ObjectId
  is : xs ≡ before ++ new
  all : AllByRecursion (λ (o : ObjectId). o.0 < objects) new
  count : length new ≡ n
  from : IsFrom least new
  ascending : is_ascending (numbers_of new) ≡ true

ascending_ok : (objects least : ℕ) (before : List ObjectId) (ds : Items) (xs : List ObjectId) → ascending_from objects least before ds ≡ Ok xs → IsAscending objects least before xs (count_items ds)
ascending_ok objects least before no_items xs is =
    let e : before ≡ xs = cc in record { new = []; is = sym e ∙ sym (append-nil before); all = tt; count = refl; from = tt; ascending = refl }
ascending_ok objects least before (item d ds) xs is =
    let p = bound (at_place (length before) (next_object objects least d)) (λ o. ascending_from objects (suc o.0) (before ++ o ∷ []) ds) xs is in
    let r = ascending_ok objects (suc p.0.0) (before ++ p.0 ∷ []) ds xs p.2 in
    let n = next_ok objects least d p.0 (keyed_ok (decimal (length before)) (next_object objects least d) p.0 p.1) in
    record {
      new = p.0 ∷ r.new;
      is = r.is ∙ append_assoc before (p.0 ∷ []) r.new;
      all = (n.1, r.all);
      count = ap suc r.count;
      from = n.0;
      ascending = ascends p.0 r.new r.from r.ascending;
    }

interest_ok : (shape : Shape) (d : Data) (os : List ObjectId) → interest_of shape.objects d ≡ Ok os
    → (length os ≤ 64) × (is_ascending (numbers_of os) ≡ true) × AreObjects shape os
unfolding interest_of
interest_ok shape d os is =
    let p = bound (list_within 0 64 d) (ascending_from shape.objects 0 []) os is in
    let r = ascending_ok shape.objects 0 [] p.0 os p.2 in
    let size = list_ok 0 64 d p.0 p.1 in
    let count : length r.new ≡ count_items p.0 = r.count in
    let high : count_items p.0 ≤ 64 = size.1 in
    subst (λ xs. (length xs ≤ 64) × (is_ascending (numbers_of xs) ≡ true) × AreObjects shape xs) (sym r.is) (omega arith, r.ascending, r.all)

are_all : (objects : ℕ) (os : List ObjectId) → AllByRecursion (λ (o : ObjectId). o.0 < objects) os → list_all (λ x. nat_lt x objects) (numbers_of os) ≡ true
are_all objects [] all = refl
are_all objects (o ∷ os) all = rw (lt-ltb o.0 objects all.0, are_all objects os all.1) refl

count_of : (os : List ObjectId) → length (numbers_of os) ≡ length os
count_of [] = refl
count_of (o ∷ os) = ap suc (count_of os)

may_be : (objects : ℕ) (os : List ObjectId) → 1 ≤ length os → length os ≤ 16 → is_ascending (numbers_of os) ≡ true → AllByRecursion (λ (o : ObjectId). o.0 < objects) os
    → may_be_observed objects (numbers_of os) ≡ true
may_be objects os some few ascending all =
    rw (count_of os, lt-ltb 0 (length os) (omega (arith, some)), le-leb (length os) 16 few, ascending, are_all objects os all) refl

observed_ok : (shape : Shape) (d : Data) (os : List ObjectId) → observed_of shape.objects d ≡ Ok os → may_be_observed shape.objects (numbers_of os) ≡ true
unfolding observed_of
observed_ok shape d os is =
    let p = bound (list_within 1 16 d) (ascending_from shape.objects 0 []) os is in
    let r = ascending_ok shape.objects 0 [] p.0 os p.2 in
    let size = list_ok 1 16 d p.0 p.1 in
    let count : length r.new ≡ count_items p.0 = r.count in
    let low : 1 ≤ count_items p.0 = size.0 in
    let high : count_items p.0 ≤ 16 = size.1 in
    subst (λ xs. may_be_observed shape.objects (numbers_of xs) ≡ true) (sym r.is) (may_be shape.objects r.new (omega arith) (omega arith) r.ascending r.all)

-- ---- steps

unless_bad_ok : (a b : Action) (o : Option BadAction) → unless_bad a o ≡ Ok b → (o ≡ None) × (a ≡ b)
unless_bad_ok a b None is = (refl, cc)
unless_bad_ok a b (Some cause) is = cc

act_ok : (shape : Shape) (d : Data) (a : Action) → act_of shape d ≡ Ok a → IsGoodAction shape a
unfolding act_of
act_ok shape d a is =
    let p = bound (given causes.Kind (as_str d)) (λ text. read_text (reading (tokens_of text)) >>= λ action. unless_bad action (first_fault_of_action shape action)) a is in
    let q = bound (read_text (reading (tokens_of p.0))) (λ action. unless_bad action (first_fault_of_action shape action)) a p.2 in
    let u = unless_bad_ok q.0 a (first_fault_of_action shape q.0) q.2 in
    subst (IsGoodAction shape) u.1 (good_of_none shape q.0 u.0)

-- whether a step may stand before others
abbrev goes_on : Step → Bool
goes_on (steps.Act action) = true
goes_on steps.Poll = true
goes_on (steps.Observe objects) = true
goes_on steps.Sync = true
goes_on (steps.Show objects) = true
goes_on steps.Cut = true
goes_on steps.Quit = false

-- a good step, which goes on unless it is the last one
abbrev IsStep : Shape → Bool → Step → Type 0
IsStep shape is_last step = IsGoodStep shape step × (is_last ≡ false → goes_on step ≡ true)

module _ {A : Type 0} (P : A → Type 0) (y : A) where
  pub just : (x : A) → P x → ◌≡◌ {A = Read A} (Ok x) (Ok y) → P y
  just x p is = let e : x ≡ y = cc in subst P e p

  pub either : (b : Bool) (left right : Read A) → (left ≡ Ok y → P y) → (right ≡ Ok y → P y) → cond b left right ≡ Ok y → P y
  either true left right f g is = f is
  either false left right f g is = g is

quit_ok : (shape : Shape) (is_last : Bool) (step : Step) → cond is_last (Ok steps.Quit) (refuse causes.Last) ≡ Ok step → IsStep shape is_last step
quit_ok shape true step is = just (IsStep shape true) step steps.Quit (tt, λ (e : true ≡ false). cc) is
quit_ok shape false step is = cc

word_ok : (shape : Shape) (is_last : Bool) (word : List ℕ) (step : Step) → word_step is_last word ≡ Ok step → IsStep shape is_last step
unfolding word_step
word_ok shape is_last word step is =
    let P : Step → Type 0 = IsStep shape is_last in
    either P step (bytes_eq word (codes "poll")) _ _ (just P step steps.Poll (tt, λ _. refl)) (
    either P step (bytes_eq word (codes "sync")) _ _ (just P step steps.Sync (tt, λ _. refl)) (
    either P step (bytes_eq word (codes "cut")) _ _ (just P step steps.Cut (tt, λ _. refl)) (
    either P step (bytes_eq word (codes "quit")) _ _ (quit_ok shape is_last step) (λ (e : ◌≡◌ {A = Read Step} (refuse causes.Kind) (Ok step)). cc)))) is

step_by_ok : (shape : Shape) (is_last : Bool) (word : Option (List ℕ)) (act show observe : Option Data) (step : Step) → step_by shape is_last word act show observe ≡ Ok step
    → IsStep shape is_last step
step_by_ok shape is_last (Some word) act show observe step is = word_ok shape is_last word step is
step_by_ok shape is_last None (Some act) show observe step is =
    let p = bound (at_key (codes "act") (act_of shape act)) (λ action. Ok (steps.Act action)) step is in
    just (IsStep shape is_last) step (steps.Act p.0) (act_ok shape act p.0 (keyed_ok (codes "act") (act_of shape act) p.0 p.1), λ _. refl) p.2
step_by_ok shape is_last None None (Some show) observe step is =
    let p = bound (at_key (codes "show") (shown_of shape.objects show)) (λ objects. Ok (steps.Show objects)) step is in
    just (IsStep shape is_last) step (steps.Show p.0) (shown_ok shape show p.0 (keyed_ok (codes "show") (shown_of shape.objects show) p.0 p.1), λ _. refl) p.2
step_by_ok shape is_last None None None (Some observe) step is =
    let p = bound (at_key (codes "observe") (observed_of shape.objects observe)) (λ objects. Ok (steps.Observe objects)) step is in
    just (IsStep shape is_last) step (steps.Observe p.0) (observed_ok shape observe p.0 (keyed_ok (codes "observe") (observed_of shape.objects observe) p.0 p.1), λ _. refl) p.2
step_by_ok shape is_last None None None None step is = cc

step_ok : (shape : Shape) (is_last : Bool) (d : Data) (step : Step) → step_of shape is_last d ≡ Ok step → IsStep shape is_last step
unfolding step_of
step_ok shape is_last d step is = step_by_ok shape is_last (as_str d) (only (codes "act") d) (only (codes "show") d) (only (codes "observe") d) step is

quits_cons : (step : Step) (ss : List Step) → (0 < length ss → goes_on step ≡ true) → quits_last ss ≡ true → quits_last (step ∷ ss) ≡ true
quits_cons step [] on last = refl
quits_cons (steps.Act action) (next ∷ ss) on last = last
quits_cons steps.Poll (next ∷ ss) on last = last
quits_cons (steps.Observe objects) (next ∷ ss) on last = last
quits_cons steps.Sync (next ∷ ss) on last = last
quits_cons (steps.Show objects) (next ∷ ss) on last = last
quits_cons steps.Cut (next ∷ ss) on last = last
quits_cons steps.Quit (next ∷ ss) on last = on (omega arith)

not_end : (ds : Items) → 0 < count_items ds → has_no_items ds ≡ false
not_end no_items some = absurd (omega (arith, some))
not_end (item d ds) some = refl

-- behind what was read before stand so many good steps, none but the last of them a quit
record IsScript (shape : Shape) (before xs : List Step) (n : ℕ) : Type 0 where
  new : List Step
  is : xs ≡ before ++ new
  all : AllByRecursion (IsGoodStep shape) new
  count : length new ≡ n
  quit : quits_last new ≡ true

script_ok : (shape : Shape) (before : List Step) (ds : Items) (xs : List Step) → steps_from shape before ds ≡ Ok xs → IsScript shape before xs (count_items ds)
script_ok shape before no_items xs is = let e : before ≡ xs = cc in record { new = []; is = sym e ∙ sym (append-nil before); all = tt; count = refl; quit = refl }
script_ok shape before (item d ds) xs is =
    let p = bound (at_place (length before) (step_of shape (has_no_items ds) d)) (λ step. steps_from shape (before ++ step ∷ []) ds) xs is in
    let r = script_ok shape (before ++ p.0 ∷ []) ds xs p.2 in
    let s = step_ok shape (has_no_items ds) d p.0 (keyed_ok (decimal (length before)) (step_of shape (has_no_items ds) d) p.0 p.1) in
    let count : length r.new ≡ count_items ds = r.count in
    record {
      new = p.0 ∷ r.new;
      is = r.is ∙ append_assoc before (p.0 ∷ []) r.new;
      all = (s.0, r.all);
      count = ap suc r.count;
      quit = quits_cons p.0 r.new (λ (some : 0 < length r.new). s.1 (not_end ds (omega (arith, some)))) r.quit;
    }

steps_ok : (shape : Shape) (d : Data) (ss : List Step) → steps_of shape d ≡ Ok ss → (length ss ≤ 256) × AllByRecursion (IsGoodStep shape) ss × (quits_last ss ≡ true)
unfolding steps_of
steps_ok shape d ss is =
    let p = bound (list_within 0 256 d) (steps_from shape []) ss is in
    let r = script_ok shape [] p.0 ss p.2 in
    let size = list_ok 0 256 d p.0 p.1 in
    let count : length r.new ≡ count_items p.0 = r.count in
    let high : count_items p.0 ≤ 256 = size.1 in
    subst (λ xs. (length xs ≤ 256) × AllByRecursion (IsGoodStep shape) xs × (quits_last xs ≡ true)) (sym r.is) (omega arith, r.all, r.quit)

-- ---- clients

plan_ok : (shape : Shape) (d : Data) (plan : Plan) → plan_of shape d ≡ Ok plan → IsGoodPlan shape plan
unfolding plan_of
plan_ok shape d plan is =
    let p = bound (keys_of (codes "interest" ∷ codes "steps" ∷ []) [] d) _ plan is in
    let q = bound (value_at (codes "interest") (interest_of shape.objects) d) _ plan p.2 in
    let r = bound (value_at (codes "steps") (steps_of shape) d) _ plan q.2 in
    let i = at_key_of (codes "interest") (interest_of shape.objects) d q.0 q.1 in
    let s = at_key_of (codes "steps") (steps_of shape) d r.0 r.1 in
    let a = interest_ok shape i.0 q.0 i.1 in
    let b = steps_ok shape s.0 r.0 s.1 in
    just (IsGoodPlan shape) plan (record { interest = q.0; steps = r.0 })
    (record { few_objects = a.0; ascending = a.1; known = a.2; few_steps = b.0; steps = b.1; quit = b.2 }) r.2

plans_ok : (shape : Shape) (d : Data) (plans : List Plan) → plans_of shape d ≡ Ok plans → AllByRecursion (IsGoodPlan shape) plans × (1 ≤ length plans) × (length plans ≤ 32)
unfolding plans_of
plans_ok shape d plans is =
    let p = bound (list_within 1 32 d) (each (plan_of shape) []) plans is in
    let r = all_ok (plan_of shape) (IsGoodPlan shape) (plan_ok shape) p.0 plans p.2 in
    let size = list_ok 1 32 d p.0 p.1 in
    let count : length plans ≡ count_items p.0 = r.1 in
    let low : 1 ≤ count_items p.0 = size.0 in
    let high : count_items p.0 ≤ 32 = size.1 in
    (r.0, omega arith, omega arith)

record AreGoodPlans (shape : Shape) (plans : List Plan) : Type 0 where
  all : AllByRecursion (IsGoodPlan shape) plans
  some : 1 ≤ length plans
  few : length plans ≤ 32
  sessions : sessions_in plans ≤ 64

clients_ok : (shape : Shape) (d : Data) (plans : List Plan) → clients_of shape d ≡ Ok plans → AreGoodPlans shape plans
unfolding clients_of
clients_ok shape d plans is =
    let p = bound (plans_of shape d) few_sessions plans is in
    let c = chosen (nat_le (sessions_in p.0) 64) causes.Range p.0 plans p.2 in
    let a = plans_ok shape d p.0 p.1 in
    subst (AreGoodPlans shape) c.1 (record { all = a.0; some = a.1; few = a.2; sessions = leb-true (sessions_in p.0) 64 c.0 })

-- ---- turns

below_ok : (limit : ℕ) (digits : List ℕ) (n : ℕ) → number_below limit digits ≡ Some n → n < limit
below_ok zero digits n is = cc
below_ok (suc m) digits n is = go (bytes_eq (decimal m) digits) (below_ok m digits n) is where
  go : (b : Bool) → (number_below m digits ≡ Some n → n < m) → cond b (Some m) (number_below m digits) ≡ Some n → n < suc m
  go true earlier e = let same : m ≡ n = cc in omega arith
  go false earlier e = let below : n < m = earlier e in omega arith

numbered_ok : (P : Turn → Type 0) (turn : ℕ → Turn) (limit : ℕ) (digits : List ℕ) (t : Turn) → ((n : ℕ) → n < limit → P (turn n)) → numbered turn limit digits ≡ Ok t → P t
numbered_ok P turn limit digits t each is =
    let p = bound (given causes.Kind (number_below limit digits)) (λ n. Ok (turn n)) t is in
    just P t (turn p.0) (each p.0 (below_ok limit digits p.0 (given_ok causes.Kind (number_below limit digits) p.0 p.1))) p.2

turn_in_ok : (clients sessions : ℕ) (word : List ℕ) (t : Turn) → turn_in clients sessions word ≡ Ok t → IsGoodTurn clients sessions t
unfolding turn_in
turn_in_ok clients sessions [] t is = cc
turn_in_ok clients sessions (letter ∷ digits) t is =
    let P : Turn → Type 0 = IsGoodTurn clients sessions in
    either P t (letter == 99) _ _ (numbered_ok P turns.Client clients digits t (λ n h. h)) (
    either P t (letter == 115) _ _ (numbered_ok P turns.Session sessions digits t (λ n h. h)) (
    either P t (letter == 116) _ _ (numbered_ok P turns.Take clients digits t (λ n h. h)) (λ (e : ◌≡◌ {A = Read Turn} (refuse causes.Kind) (Ok t)). cc))) is

turn_ok : (clients sessions : ℕ) (d : Data) (t : Turn) → turn_of clients sessions d ≡ Ok t → IsGoodTurn clients sessions t
unfolding turn_of
turn_ok clients sessions d t is = let p = bound (given causes.Kind (as_str d)) (turn_in clients sessions) t is in turn_in_ok clients sessions p.0 t p.2

abbrev AreTurns : ℕ → ℕ → List Turn → Type 0
AreTurns clients sessions ts = AllByRecursion (IsGoodTurn clients sessions) ts × (length ts ≤ 16384)

turns_ok : (clients sessions : ℕ) (d : Data) (ts : List Turn) → turns_of clients sessions d ≡ Ok ts → AreTurns clients sessions ts
unfolding turns_of
turns_ok clients sessions d ts is =
    let p = bound (list_within 0 16384 d) (each (turn_of clients sessions) []) ts is in
    let r = all_ok (turn_of clients sessions) (IsGoodTurn clients sessions) (turn_ok clients sessions) p.0 ts p.2 in
    let size = list_ok 0 16384 d p.0 p.1 in
    let count : length ts ≡ count_items p.0 = r.1 in
    let high : count_items p.0 ≤ 16384 = size.1 in
    (r.0, omega arith)

-- ---- the whole

abbrev pub IsReach : Option ℕ → Type 0
IsReach reach = IfSome reach (λ n. n ≤ 2000000)

pub reach_ok : (d : Data) (reach : Option ℕ) → reach_of d ≡ Ok reach → IsReach reach
unfolding reach_of
reach_ok d reach is =
    let p = bound (number_within 0 2000000 d) (λ n. Ok (Some n)) reach is in
    just IsReach reach (Some p.0) (number_ok 0 2000000 d p.0 p.1).1 p.2

scenario_ok : (d : Data) (s : Scenario) → scenario_in d ≡ Ok s → IsGoodScenario s
unfolding scenario_in
scenario_ok d s is =
    let k = bound (keys_of (codes "attrs" ∷ codes "objects" ∷ codes "bound" ∷ codes "clients" ∷ []) (codes "reach" ∷ codes "schedule" ∷ []) d) _ s is in
    let w = bound (world_of 4096 d) _ s k.2 in
    let b = bound (value_at (codes "bound") (number_within 0 32) d) _ s w.2 in
    let r = bound (value_if (codes "reach") None reach_of d) _ s b.2 in
    let c = bound (value_at (codes "clients") (clients_of w.0.shape) d) _ s r.2 in
    let t = bound (value_if (codes "schedule") [] (turns_of (length c.0) (sessions_in c.0)) d) _ s c.2 in
    let bv = at_key_of (codes "bound") (number_within 0 32) d b.0 b.1 in
    let cv = at_key_of (codes "clients") (clients_of w.0.shape) d c.0 c.1 in
    let good_clients = clients_ok w.0.shape cv.0 c.0 cv.1 in
    let good_turns : AreTurns (length c.0) (sessions_in c.0) t.0 =
    at_key_if (codes "schedule") [] (turns_of (length c.0) (sessions_in c.0)) (get (codes "schedule") d) t.0 (AreTurns (length c.0) (sessions_in c.0)) (tt, omega arith) (λ e h. turns_ok (length c.0) (sessions_in c.0) e t.0 h) t.1 in
    just IsGoodScenario s (record { world = w.0; bound = b.0; reach = r.0; clients = c.0; schedule = t.0 })
    (record {
      world = (world_ok 4096 (omega arith) d w.0 w.1).0;
      few_objects = (world_ok 4096 (omega arith) d w.0 w.1).1;
      bound = (number_ok 0 32 bv.0 b.0 bv.1).1;
      reach = at_key_if (codes "reach") None reach_of (get (codes "reach") d) r.0 IsReach tt (λ e h. reach_ok e r.0 h) r.1;
      some_clients = good_clients.some;
      few_clients = good_clients.few;
      plans = good_clients.all;
      sessions = good_clients.sessions;
      few_turns = good_turns.1;
      turns = good_turns.0;
    }) t.2

pub scenario_good : (bytes : List ℕ) (s : Scenario) → scenario_of bytes ≡ Ok s → IsGoodScenario s
unfolding scenario_of
scenario_good bytes s is =
    either IsGoodScenario s (nat_lt 4194304 (length bytes)) _ _ (λ (e : ◌≡◌ {A = Read Scenario} (refuse causes.Size) (Ok s)). cc) (
    either IsGoodScenario s (is_utf8 bytes) _ _ (λ (e : (value_in bytes >>= scenario_in) ≡ Ok s). let p = bound (value_in bytes) scenario_in s e in scenario_ok p.0 s p.2)
    (λ (e : ◌≡◌ {A = Read Scenario} (refuse causes.Json) (Ok s)). cc)) is

pub read_is_good : (bytes : List ℕ) (r : Result Scenario ReadFault) → Gives (λ s. s) r (scenario_of bytes) → IfOk r IsGoodScenario
read_is_good bytes (Ok s) given = scenario_good bytes s given
read_is_good bytes (Err fault) given = tt
