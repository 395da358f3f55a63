-- The clients of a scenario file and their scripts.
use Rattle.std.specs.Prelude.{ℕ, suc, Bool, true, false, cond, ◌==◌, List, [], ◌∷◌, ◌++◌, length, Option, Some, None, Result, Ok, Err, codes}
use Rattle.std.specs.Str.{bytes_eq}
use Rattle.serde_json.specs.Data.{Data, Items, no_items, item, Members, no_members, member}
use Rattle.serde_json.specs.Find.{as_object, as_str, get}
use Rattle.sv_world.specs.declared.action.Action.{Action}
use Rattle.sv_world.specs.declared.check.BadAction.{BadAction}
use Rattle.sv_world.specs.declared.world.Shape.{Shape}
use Rattle.sv_world.specs.Faults.{first_fault_of_action}
use Rattle.sv_world.specs.Limits.{most_clients, most_steps}
use Rattle.sv_text.specs.declared.fault.TextFault.{TextFault}
use Rattle.sv_text.specs.Reading.{reading}
use Rattle.sv_text.specs.Tokens.{tokens_of}
use Rattle.sv_scenario.specs.declared.fault.ScenarioCause.TheVariants as causes
use Rattle.sv_scenario.specs.declared.scenario.Plan.{Plan}
use Rattle.sv_scenario.specs.declared.scenario.Step.{Step}
use Rattle.sv_scenario.specs.declared.scenario.Step.TheVariants as steps
use Rattle.sv_scenario.specs.Faults.{Read, ◌>>=◌, refuse, given, at_key, at_place, each}
use Rattle.sv_scenario.specs.Keys.{keys_of, value_at}
use Rattle.sv_scenario.specs.Numbers.{list_within}
use Rattle.sv_scenario.specs.Objects.{interest_of, observed_of, shown_of}

-- ---- steps

abbrev pub read_text : Result Action TextFault → Read Action
read_text (Ok action) = Ok action
read_text (Err fault) = refuse (causes.Text fault)

abbrev pub unless_bad : Action → Option BadAction → Read Action
unless_bad action None = Ok action
unless_bad action (Some cause) = refuse (causes.Action cause)

-- The action of a text, if it is one of the shape.
unfoldable pub act_of : Shape → Data → Read Action
act_of shape d = do
  text ← given causes.Kind (as_str d)
  action ← read_text (reading (tokens_of text))
  unless_bad action (first_fault_of_action shape action)

abbrev pub act_step : Shape → Data → Read Step
act_step shape d = at_key (codes "act") (act_of shape d) >>= λ action. Ok (steps.Act action)

abbrev pub show_step : Shape → Data → Read Step
show_step shape d = at_key (codes "show") (shown_of shape.objects d) >>= λ objects. Ok (steps.Show objects)

abbrev pub observe_step : Shape → Data → Read Step
observe_step shape d = at_key (codes "observe") (observed_of shape.objects d) >>= λ objects. Ok (steps.Observe objects)

-- A step that is a word. `quit` is the last one.
unfoldable pub word_step : Bool → List ℕ → Read Step
word_step is_last word =
    cond (bytes_eq word (codes "poll")) (Ok steps.Poll)
    (cond (bytes_eq word (codes "sync")) (Ok steps.Sync)
    (cond (bytes_eq word (codes "cut")) (Ok steps.Cut)
    (cond (bytes_eq word (codes "quit")) (cond is_last (Ok steps.Quit) (refuse causes.Last))
    (refuse causes.Kind))))

abbrev pub count_members : Members → ℕ
count_members no_members = 0
count_members (member k d ms) = suc (count_members ms)

abbrev pub has_one : Option Members → Bool
has_one None = false
has_one (Some ms) = count_members ms == 1

-- The value of a key of an object that has no other.
unfoldable pub only : List ℕ → Data → Option Data
only key d = cond (has_one (as_object d)) (get key d) None

-- By the value's text, and the values of its one key `act`, `show` or `observe`.
abbrev pub step_by : Shape → Bool → Option (List ℕ) → Option Data → Option Data → Option Data → Read Step
step_by shape is_last (Some word) act show observe = word_step is_last word
step_by shape is_last None (Some act) show observe = act_step shape act
step_by shape is_last None None (Some show) observe = show_step shape show
step_by shape is_last None None None (Some observe) = observe_step shape observe
step_by shape is_last None None None None = refuse causes.Kind

unfoldable pub step_of : Shape → Bool → Data → Read Step
step_of shape is_last d = step_by shape is_last (as_str d) (only (codes "act") d) (only (codes "show") d) (only (codes "observe") d)

abbrev pub has_no_items : Items → Bool
has_no_items no_items = true
has_no_items (item d ds) = false

abbrev pub steps_from : Shape → List Step → Items → Read (List Step)
steps_from shape before no_items = Ok before
steps_from shape before (item d ds) = at_place (length before) (step_of shape (has_no_items ds) d) >>= λ step. steps_from shape (before ++ step ∷ []) ds

-- The script of one client.
unfoldable pub steps_of : Shape → Data → Read (List Step)
steps_of shape d = list_within 0 most_steps d >>= steps_from shape []

-- ---- clients

unfoldable pub plan_of : Shape → Data → Read Plan
plan_of shape d = do
  _ ← keys_of (codes "interest" ∷ codes "steps" ∷ []) [] d
  interest ← value_at (codes "interest") (interest_of shape.objects) d
  steps ← value_at (codes "steps") (steps_of shape) d
  Ok (record { interest = interest; steps = steps })

unfoldable pub plans_of : Shape → Data → Read (List Plan)
plans_of shape d = list_within 1 most_clients d >>= each (plan_of shape) []
