-- What a core decides on a request, and the reply that this stands for.
use Rattle.std.specs.Prelude.{◌≡◌, ℕ, suc, ◌<◌, ◌≤◌, Bool, true, false, ◌&&◌, List, [], ◌∷◌, ◌++◌, map, length, All, Some, None, if◌then◌else◌}
use Rattle.std.specs.List.{list_any}
use Rattle.sv_world.specs.declared.action.Action.{Action}
use Rattle.sv_world.specs.declared.world.ObjectId.{ObjectId}
use Rattle.sv_world.specs.Control.{blank, greatest_cut}
use Rattle.sv_world.specs.Faults.{first_fault_of_action, may_be_observed}
use Rattle.sv_world.specs.Limits.{most_positions}
use Rattle.sv_world.specs.Sets.{numbers_of}
use Rattle.sv_wire.specs.declared.message.Done1.{Done1}
use Rattle.sv_wire.specs.declared.message.ObjectValue.{ObjectValue}
use Rattle.sv_wire.specs.declared.message.Request.{Request}
use Rattle.sv_wire.specs.declared.message.Request.TheVariants as requests
use Rattle.sv_journal.specs.declared.entry.Entry.{Entry}
use Rattle.sv_journal.specs.declared.entry.Logged.{Logged}
use Rattle.sv_journal.specs.declared.entry.Logged.TheVariants as logged
use Rattle.sv_journal.specs.History.{joining, is_welcome, is_relay, is_noted, client_of, is_client, is_submit_of, new_action, outcomes_of, accepted, actions_of, next_seq, commit_of}
use Rattle.sv_journal.specs.Sessions.{names, positions_in, named_in, life_in, life_of, sent_to}
use Rattle.sv_journal.specs.Answer.{Rules, refused_as, committed_held, relay_of, seen_at, commit_with, is_bad_result}
use Rattle.sv_core.specs.declared.decision.Decision.{Decision}
use Rattle.sv_core.specs.declared.decision.Decision.TheVariants as decisions

abbrev pub interest_in : Request → List ℕ
interest_in (requests.Join client life interest) = map (λ (o : ObjectId). o.0) interest
interest_in _ = []

abbrev pub action_in : Request → Action
action_in (requests.Submit seq action) = action
action_in _ = blank

abbrev pub results_in : Request → List Done1
results_in (requests.Done results) = results
results_in _ = []

abbrev pub observed_in : Request → List ℕ
observed_in (requests.Observe objects wait) = numbers_of objects
observed_in _ = []

-- The reply that a decision stands for.
abbrev pub reply_by : Rules → List Entry → ℕ → Request → Decision → Logged
reply_by r h s request (decisions.Refuse refusal detail) = refused_as refusal detail
reply_by r h s request (decisions.Welcome client life) = logged.Welcome (commit_of h) (committed_held r h (interest_in request))
reply_by r h s request (decisions.Drop client seq chain far) = logged.Dropped seq chain far
reply_by r h s request (decisions.Repeat seq chain far) = logged.Dropped seq chain far
reply_by r h s request (decisions.Deny client seq object) = logged.Denied seq object
reply_by r h s request (decisions.RepeatDenied seq object) = logged.Denied seq object
reply_by r h s request (decisions.Settle seq pos) = logged.Settled seq pos
reply_by r h s request (decisions.Relay seq pos) = relay_of r h (actions_of h) s seq pos
reply_by r h s request (decisions.Accept client seq) = relay_of r h (actions_of h ++ action_in request ∷ []) s seq (suc (length (actions_of h)))
reply_by r h s request decisions.See =
    seen_at r h s (observed_in request) (greatest_cut (actions_of h) (commit_of h) (sent_to h s) (observed_in request))
reply_by r h s request decisions.Note = logged.Noted (commit_with h s (results_in request))
reply_by r h s request decisions.Idle = logged.Idle
reply_by r h s request decisions.Leave = logged.Bye

-- What is decided changes nothing but its own session: no action is taken in, none is sent, and no result is noted.
abbrev pub changes_nothing : Decision → Bool
changes_nothing (decisions.Refuse refusal detail) = true
changes_nothing (decisions.Repeat seq chain far) = true
changes_nothing (decisions.RepeatDenied seq object) = true
changes_nothing (decisions.Settle seq pos) = true
changes_nothing decisions.Idle = true
changes_nothing decisions.Leave = true
changes_nothing _ = false

-- The request gives no client a new outcome.
pub record IsOld (h : List Entry) (s : ℕ) (request : Request) : Type 0 where
  pub accepts : new_action (client_of h s) (next_seq h) request ≡ []
  pub outcomes : (k : ℕ) → (is_client (client_of h s) k && is_submit_of request (next_seq h k)) ≡ false

-- The request is a client's next Submit.
pub record IsNextSubmit (h : List Entry) (s : ℕ) (request : Request) (k seq : ℕ) : Type 0 where
  pub client : client_of h s ≡ Some k
  pub submit : request ≡ requests.Submit seq (action_in request)
  pub next : seq ≡ next_seq h k
  pub few : seq ≤ most_positions

-- The request is a Join with a life above the client's earlier ones, and an interest of objects of the world.
pub record IsJoin (r : Rules) (h : List Entry) (request : Request) (k life : ℕ) : Type 0 where
  pub client : joining request ≡ Some k
  pub number : life_in request ≡ life
  pub above : life_of h k < life
  pub interest : All (λ x. x < r.world.shape.objects) (interest_in request)

-- What holds where something was decided. Results may be noted where none of them is bad, also where there are none.
abbrev pub DecisionHolds : Rules → List Entry → ℕ → Request → Decision → Type 0
DecisionHolds r h s request (decisions.Refuse refusal detail) = Unit {0}
DecisionHolds r h s request (decisions.Welcome client life) = IsJoin r h request client life
DecisionHolds r h s request (decisions.Drop client seq chain far) = IsNextSubmit h s request client seq
DecisionHolds r h s request (decisions.Repeat seq chain far) = IsOld h s request
DecisionHolds r h s request (decisions.Deny client seq object) = IsNextSubmit h s request client seq
DecisionHolds r h s request (decisions.RepeatDenied seq object) = IsOld h s request
DecisionHolds r h s request (decisions.Settle seq pos) = Unit {0}
DecisionHolds r h s request (decisions.Relay seq pos) = IsOld h s request × ((commit_of h < pos) × (pos ≤ length (accepted h)))
DecisionHolds r h s request (decisions.Accept client seq) = IsNextSubmit h s request client seq
    × ((first_fault_of_action r.world.shape (action_in request) ≡ None) × (length (accepted h) < r.positions))
DecisionHolds r h s request decisions.See = IsOld h s request × (may_be_observed r.world.shape.objects (observed_in request) ≡ true)
DecisionHolds r h s request decisions.Note = (request ≡ requests.Done (results_in request)) × (list_any (is_bad_result r h s) (results_in request) ≡ false)
DecisionHolds r h s request decisions.Idle = Unit {0}
DecisionHolds r h s request decisions.Leave = Unit {0}

-- The reply accepts, sends, names and reports nothing, and the request gives no client a new outcome by it.
pub record IsQuietEntry (h : List Entry) (s : ℕ) (request : Request) (reply : Logged) : Type 0 where
  pub relay : is_relay reply ≡ false
  pub noted : is_noted reply ≡ false
  pub welcome : is_welcome reply ≡ false
  pub positions : positions_in reply ≡ []
  pub named : (x : ℕ) → named_in reply x ≡ []
  pub outcomes : (k : ℕ) → outcomes_of (record { session = s; request = request; reply = reply } ∷ h) k ≡ outcomes_of h k

-- The reply sends these positions and names these objects at a commit, and it welcomes nobody and notes nothing.
pub record IsSending (reply : Logged) (commit : ℕ) (head : List ObjectValue) (positions : List ℕ) : Type 0 where
  pub noted : is_noted reply ≡ false
  pub welcome : is_welcome reply ≡ false
  pub sends : positions_in reply ≡ positions
  pub names_head : (x : ℕ) → named_in reply x ≡ (if names head x then commit ∷ [] else [])
