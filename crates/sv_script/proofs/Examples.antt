-- The worked examples.
use Rattle.std.proofs.Common.{◌≡◌, Bool, true, false, List, [], ◌∷◌, Some, None, refl, sym, ap, subst, ◌∙◌, true≢false}
use Rattle.sv_world.specs.declared.action.Action.{Action}
use Rattle.sv_world.specs.declared.world.ObjectId.{ObjectId}
use Rattle.sv_wire.specs.declared.message.Reply.{Reply}
use Rattle.sv_wire.specs.declared.message.Reply.TheVariants as replies
use Rattle.sv_wire.specs.declared.message.Request.{Request}
use Rattle.sv_client.specs.declared.trace.Event.{Event}
use Rattle.sv_client.specs.declared.trace.Event.TheVariants as events
use Rattle.sv_client.specs.Taking.{Identity, outstanding}
use Rattle.sv_scenario.specs.declared.scenario.Step.{Step}
use Rattle.sv_scenario.specs.declared.scenario.Step.TheVariants as steps
use Rattle.sv_script.specs.Following.{DoesStep, FollowsTo, must_join, is_welcomed, is_finished, unsynced, event_of}
use Rattle.sv_script.proofs.Places.{syncs-wait}
use Rattle.sv_script.specs.Examples.{welcomed, shown, quit, SyncedShow, UnsyncedShow, CutAndQuit, LastCut}

does : (who : Identity) (t : List Event) (before : List Step) (e : Event) (left : List Step) (step : Step) → must_join t ≡ false → is_welcomed t ≡ true → is_finished t ≡ false
    → unsynced who t before ≡ step ∷ left → event_of step ≡ Some e → DoesStep who t before e left
does who t before e left step j w h n v = record { joined = j; welcomed = w; here = h; step = step; next = n; event = v }

welcomed-follows : (who : Identity) (script : List Step) → FollowsTo who script welcomed script
welcomed-follows who script = (script, ((script, (refl, record { needed = refl; same = refl })), record { joined = refl; here = refl; same = refl }))

pub shown-follows : SyncedShow
shown-follows who action objects =
    let rest = steps.Sync ∷ steps.Show objects ∷ [] in
    let made = events.Make action ∷ welcomed in
    let dropped = events.Got 0 (replies.Dropped 1 3 1) ∷ made in
    let looked = events.Show objects ∷ dropped in
    let all = steps.Act action ∷ rest in
    let f : FollowsTo who all made rest = (steps.Act action ∷ rest, (welcomed-follows who (steps.Act action ∷ rest), does who welcomed (steps.Act action ∷ rest) (events.Make action) rest (steps.Act action) refl refl refl refl refl)) in
    let g : FollowsTo who all dropped rest = (rest, (f, record { joined = refl; here = refl; same = refl })) in
    let h : FollowsTo who all looked [] = (rest, (g, does who dropped rest (events.Show objects) [] (steps.Show objects) refl refl refl refl refl)) in
    let i : FollowsTo who all (events.Leave ∷ looked) [] = ([], (h, record { joined = refl; welcomed = refl; here = refl; settled = refl; done = refl; same = refl })) in
    ([], (i, record { joined = refl; here = refl; same = refl }))

abbrev after_first : List Step → List Step
after_first [] = []
after_first (step ∷ ss) = ss

-- Before the Show the steps left are those after the act, with the sync first, while the Submit is outstanding.
unsynced-left : (who : Identity) (action : Action) (objects : List ObjectId) (b : List Step) →
    FollowsTo who (steps.Act action ∷ steps.Sync ∷ steps.Show objects ∷ []) (events.Make action ∷ welcomed) b → b ≡ steps.Sync ∷ steps.Show objects ∷ []
unsynced-left who action objects b f =
    let d = f.1.1 in
    let start = f.1.0.1.1.same ∙ f.1.0.1.0.1.1.same ∙ f.1.0.1.0.1.0 in
    sym (ap after_first (sym (ap (unsynced who welcomed) start) ∙ d.next))

abbrev is_empty : List Request → Bool
is_empty [] = true
is_empty (request ∷ requests) = false

pub unsynced-not : UnsyncedShow
unsynced-not who action objects left f =
    let made = events.Make action ∷ welcomed in
    let b = unsynced-left who action objects f.0 f.1.0 in
    let none : outstanding who made ≡ [] = syncs-wait who made (steps.Show objects ∷ []) (events.Show objects) left refl
    (subst (λ (ss : List Step). DoesStep who made ss (events.Show objects) left) b f.1.1) in
    true≢false (sym (ap is_empty none))

pub quit-follows : CutAndQuit
quit-follows who =
    let rest = steps.Poll ∷ steps.Quit ∷ [] in
    let cut = events.Cut ∷ welcomed in
    let joined = events.Join 1 ∷ cut in
    let got = events.Got 1 (replies.Welcome 0 []) ∷ joined in
    let polled = events.Poll ∷ got in
    let all = steps.Cut ∷ rest in
    let f : FollowsTo who all cut rest = (steps.Cut ∷ rest, (welcomed-follows who (steps.Cut ∷ rest), does who welcomed (steps.Cut ∷ rest) events.Cut rest steps.Cut refl refl refl refl refl)) in
    let g : FollowsTo who all joined rest = (rest, (f, record { needed = refl; same = refl })) in
    let h : FollowsTo who all got rest = (rest, (g, record { joined = refl; here = refl; same = refl })) in
    let i : FollowsTo who all polled (steps.Quit ∷ []) = (rest, (h, does who got rest events.Poll (steps.Quit ∷ []) steps.Poll refl refl refl refl refl)) in
    (steps.Quit ∷ [], (i, does who polled (steps.Quit ∷ []) events.Quit [] steps.Quit refl refl refl refl refl))

pub cut-follows : LastCut
cut-follows who =
    let cut = events.Cut ∷ welcomed in
    let all = steps.Cut ∷ [] in
    let joined = events.Join 1 ∷ cut in
    let got = events.Got 1 (replies.Welcome 0 []) ∷ joined in
    let f : FollowsTo who all cut [] = (steps.Cut ∷ [], (welcomed-follows who (steps.Cut ∷ []), does who welcomed (steps.Cut ∷ []) events.Cut [] steps.Cut refl refl refl refl refl)) in
    let g : FollowsTo who all joined [] = ([], (f, record { needed = refl; same = refl })) in
    let h : FollowsTo who all got [] = ([], (g, record { joined = refl; here = refl; same = refl })) in
    ([], (h, record { joined = refl; welcomed = refl; here = refl; settled = refl; done = refl; same = refl }))
