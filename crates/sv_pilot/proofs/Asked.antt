-- What becomes of a call that asks one thing.
use Rattle.std.proofs.Common.{◌≡◌, ◌≤◌, ◌⊎◌, inl, inr, List, [], ◌∷◌, Result, Ok, Err, refl, sym, subst, ◌∙◌, arith}
use Rattle.std.specs.Prelude.{All, OnOk, IfErr}
use Rattle.std.proofs.lemmas.List.Elements.{All-head}
use Rattle.sv_world.specs.declared.action.Action.{Action}
use Rattle.sv_world.specs.Worlds.{IsGoodShape}
use Rattle.sv_wire.specs.declared.message.Request.{Request}
use Rattle.sv_wire.specs.Grammar.{IsWireRequest}
use Rattle.sv_client.specs.declared.fault.MakeFault.{MakeFault}
use Rattle.sv_client.specs.declared.fault.MakeFault.TheVariants as make_faults
use Rattle.sv_client.specs.declared.fault.ObserveFault.{ObserveFault}
use Rattle.sv_client.specs.declared.fault.ObserveFault.TheVariants as observe_faults
use Rattle.sv_client.specs.declared.fault.PollFault.{PollFault}
use Rattle.sv_client.specs.declared.fault.PollFault.TheVariants as poll_faults
use Rattle.sv_client.specs.declared.trace.Event.{Event}
use Rattle.sv_client.specs.declared.trace.Event.TheVariants as events
use Rattle.sv_client.specs.Taking.{Identity, outstanding}
use Rattle.sv_client.specs.Traces.{makes}
use Rattle.sv_client.specs.Proper.{MayCome, IsReadyToMake, most_numbers}
use Rattle.sv_client.specs.Answers.{IsServed, IsMakeFault}
use Rattle.sv_client.specs.Seen.{ClientView, newly_asked}
use Rattle.sv_pilot.specs.declared.trouble.Trouble.{Trouble}
use Rattle.sv_pilot.specs.declared.trouble.Trouble.TheVariants as troubles
use Rattle.sv_pilot.specs.Troubles.{trouble_of_make, trouble_of_poll, trouble_of_observe}
use Rattle.sv_pilot.specs.Lines.{Line, IsCalm}
use Rattle.sv_pilot.specs.Sending.{IsSendFault, IsSent}
use Rattle.sv_pilot.specs.Doings.{PilotView, Did, NoReplyIsDue, IsSettled, StopsBy, BrokeOff, Stopped, StoppedMake}
use Rattle.sv_pilot.proofs.Taking.{calm_same, calm_more, stops_later, sending_stops_it}

-- The one request that an event asks is a message.
pub asked_is_message : (who : Identity) (t : List Event) (e : Event) (request : Request) → ((d : Event) → MayCome who 0 t d → IsServed who d → All IsWireRequest (newly_asked who t d))
    → MayCome who 0 t e → IsServed who e → request ∷ [] ≡ newly_asked who t e → IsWireRequest request
asked_is_message who t e request law may served is = All-head IsWireRequest request [] (subst (All IsWireRequest) (sym is) (law e may served))

-- ---- Where it was refused

pub make_or_memory : (fault : MakeFault) → (trouble_of_make fault ≡ troubles.Game) ⊎ (trouble_of_make fault ≡ troubles.Memory)
make_or_memory (make_faults.BadAction cause) = inl refl
make_or_memory make_faults.Full = inl refl
make_or_memory make_faults.Busy = inl refl
make_or_memory make_faults.Memory = inr refl

pub poll_or_memory : (fault : PollFault) → (trouble_of_poll fault ≡ troubles.Game) ⊎ (trouble_of_poll fault ≡ troubles.Memory)
poll_or_memory poll_faults.Busy = inl refl
poll_or_memory poll_faults.Memory = inr refl

pub observe_or_memory : (fault : ObserveFault) → (trouble_of_observe fault ≡ troubles.Game) ⊎ (trouble_of_observe fault ≡ troubles.Memory)
observe_or_memory observe_faults.BadObjects = inl refl
observe_or_memory observe_faults.Busy = inl refl
observe_or_memory observe_faults.Memory = inr refl

pub nothing_done : (e : Event) (old new : PilotView) (trouble : Trouble) → new ≡ old → (trouble ≡ troubles.Game) ⊎ (trouble ≡ troubles.Memory) → (trouble ≡ troubles.Game) ⊎ Stopped e old new trouble
nothing_done e old new trouble same (inl game) = inl game
nothing_done e old new trouble same (inr memory) = inr (inl (same, memory))

-- Nothing that stops a sending is the game's.
pub not_of_game : (old new : PilotView) (trouble : Trouble) → IsSendFault old.line new.line trouble → trouble ≡ troubles.Game → ⊥
not_of_game old new troubles.Link why e = cc
not_of_game old new troubles.Reply why e = cc
not_of_game old new troubles.Memory why e = cc
not_of_game old new troubles.Game why e = why

-- ---- Behind a part that went well

pub settled_later : (old mid new : PilotView) (r : Result Unit Trouble) → IsCalm old.line mid.line → OnOk r (IsSettled new × IsCalm mid.line new.line) → OnOk r (IsSettled new × IsCalm old.line new.line)
settled_later old mid new (Ok x) calm s = (s.0, calm_more old.line mid.line new.line calm s.1)
settled_later old mid new (Err t) calm s = tt

pub stopped_later : (old mid new : PilotView) (r : Result Unit Trouble) → IsCalm old.line mid.line → IfErr r (StopsBy mid new) → IfErr r (StopsBy old new)
stopped_later old mid new (Ok x) calm why = tt
stopped_later old mid new (Err t) calm why = stops_later old mid new t calm why

-- What stopped it is told from a state with the same connection.
pub stopped_same : (old mid new : PilotView) (r : Result Unit Trouble) → mid.line ≡ old.line → IfErr r (StopsBy mid new) → IfErr r (StopsBy old new)
stopped_same old mid new r same why = stopped_later old mid new r (calm_same old.line mid.line same) why

pub calm_later : {X : Type 0} (a b c : Line) (r : Result X Trouble) → IsCalm a b → OnOk r (IsCalm b c) → OnOk r (IsCalm a c)
calm_later a b c (Ok x) calm s = calm_more a b c calm s
calm_later a b c (Err t) calm s = tt

pub sent_calm : (old new : Line) (r : Result Unit Trouble) → IsSent old new r → OnOk r (IsCalm old new)
sent_calm old new (Ok x) s = s
sent_calm old new (Err t) s = tt

pub sent_why : (old new : PilotView) (r : Result Unit Trouble) → IsSent old.line new.line r → IfErr r (StopsBy old new)
sent_why old new (Ok x) s = tt
sent_why old new (Err t) s = sending_stops_it old new t s

-- No reply is due, and then all that waits is sent.
pub settled_by : (old mid new : PilotView) (r : Result Unit Trouble) → NoReplyIsDue mid → new.client ≡ mid.client → IsCalm old.line mid.line → IsSent mid.line new.line r → OnOk r (new.line.waits ≡ [])
    → OnOk r (IsSettled new × IsCalm old.line new.line)
settled_by old mid new (Ok x) due same calm sent none =
    (record { due = subst (λ (v : ClientView). outstanding v.who v.events ≡ []) (sym same) due; waits = none }, calm_more old.line mid.line new.line calm sent)
settled_by old mid new (Err t) due same calm sent none = tt

-- A world of another shape has no results that could be told.
pub stops_for_shape : (p : PilotView) → (IsGoodShape p.client.who.shape → ⊥) → StopsBy p p troubles.Reply
stops_for_shape p bad = (calm_same p.line p.line refl, inr (inr bad))

-- ---- Making

not_ready : (who : Identity) (t : List Event) (action : Action) (fault : MakeFault) → trouble_of_make fault ≡ troubles.Game → IsMakeFault who t action fault → IsReadyToMake who t action → ⊥
not_ready who t action (make_faults.BadAction cause) game is may = let e = sym is ∙ may.good in cc
not_ready who t action make_faults.Full game is may = omega (arith, is.1, may.room)
not_ready who t action make_faults.Busy game is may = omega (arith, is.2, may.calm)
not_ready who t action make_faults.Memory game is may = cc

pub make_refused : (old new : PilotView) (action : Action) (fault : MakeFault) → new ≡ old → IsMakeFault old.client.who old.client.events action fault → trouble_of_make fault ≡ troubles.Game
    → (new ≡ old) × ((IsReadyToMake old.client.who old.client.events action → ⊥) ⊎ (most_numbers ≤ makes old.client.events))
make_refused old new action fault same is game = (same, inl (not_ready old.client.who old.client.events action fault game is))

pub make_nothing : (old new : PilotView) (action : Action) (fault : MakeFault) → new ≡ old → (trouble_of_make fault ≡ troubles.Game) ⊎ StoppedMake action old new (trouble_of_make fault)
make_nothing old new action (make_faults.BadAction cause) same = inl refl
make_nothing old new action make_faults.Full same = inl refl
make_nothing old new action make_faults.Busy same = inl refl
make_nothing old new action make_faults.Memory same = inr (inl (same, refl))

pub made_fine : (old new : PilotView) (action : Action) (r : Result Unit Trouble) → IsReadyToMake old.client.who old.client.events action
    → OnOk r (Did (events.Make action) old new [] × IsSettled new × IsCalm old.line new.line)
    → OnOk r (IsReadyToMake old.client.who old.client.events action × Did (events.Make action) old new [] × IsSettled new × IsCalm old.line new.line)
made_fine old new action (Ok x) may s = (may, s.0, s.1, s.2)
made_fine old new action (Err t) may s = tt

pub made_stops : (old new : PilotView) (action : Action) (r : Result Unit Trouble) → IsReadyToMake old.client.who old.client.events action
    → IfErr r (BrokeOff (events.Make action) old new) → IfErr r (λ (trouble : Trouble). (trouble ≡ troubles.Game) ⊎ StoppedMake action old new trouble)
made_stops old new action (Ok x) may why = tt
made_stops old new action (Err t) may why = inr (inr (may, why))
