-- Worked examples of traces that follow a script. Events stand with the latest first.
use Rattle.std.specs.Prelude.{◌≡◌, true, List, [], ◌∷◌}
use Rattle.sv_world.specs.declared.action.Action.{Action}
use Rattle.sv_world.specs.declared.world.ObjectId.{ObjectId}
use Rattle.sv_wire.specs.declared.message.Reply.TheVariants as replies
use Rattle.sv_client.specs.declared.trace.Event.{Event}
use Rattle.sv_client.specs.declared.trace.Event.TheVariants as events
use Rattle.sv_client.specs.Taking.{Identity}
use Rattle.sv_scenario.specs.declared.scenario.Step.{Step}
use Rattle.sv_scenario.specs.declared.scenario.Step.TheVariants as steps
use Rattle.sv_script.specs.Following.{FollowsTo, is_finished}

-- The client joins, and gets the Welcome.
abbrev pub welcomed : List Event
welcomed = events.Got 0 (replies.Welcome 0 []) ∷ events.Join 0 ∷ []

-- An action that is dropped, a sync, and a show. The script ends with the Leave and its Bye.
abbrev pub shown : Action → List ObjectId → List Event
shown action objects =
    events.Got 0 replies.Bye ∷ events.Leave ∷ events.Show objects ∷ events.Got 0 (replies.Dropped 1 3 1) ∷ events.Make action ∷ welcomed

abbrev pub SyncedShow : Type 0
SyncedShow = (who : Identity) (action : Action) (objects : List ObjectId) →
    FollowsTo who (steps.Act action ∷ steps.Sync ∷ steps.Show objects ∷ []) (shown action objects) []

-- The show comes before the action has its reply: the script does not allow it, whatever steps are left.
abbrev pub UnsyncedShow : Type 0
UnsyncedShow = (who : Identity) (action : Action) (objects : List ObjectId) (left : List Step) →
    FollowsTo who (steps.Act action ∷ steps.Sync ∷ steps.Show objects ∷ []) (events.Show objects ∷ events.Make action ∷ welcomed) left → ⊥

-- A cut, a poll in the next session, and a quit while the poll has no reply yet.
abbrev pub quit : List Event
quit = events.Quit ∷ events.Poll ∷ events.Got 1 (replies.Welcome 0 []) ∷ events.Join 1 ∷ events.Cut ∷ welcomed

abbrev pub CutAndQuit : Type 0
CutAndQuit = (who : Identity) → FollowsTo who (steps.Cut ∷ steps.Poll ∷ steps.Quit ∷ []) quit []

-- A script that ends with a cut joins once more, and leaves.
abbrev pub LastCut : Type 0
LastCut = (who : Identity) →
    FollowsTo who (steps.Cut ∷ []) (events.Leave ∷ events.Got 1 (replies.Welcome 0 []) ∷ events.Join 1 ∷ events.Cut ∷ welcomed) []

pub record ExamplesFollow : Type 0 where
  pub shown : SyncedShow
  pub unsynced : UnsyncedShow
  pub quit : CutAndQuit
  pub cut : LastCut
