-- What a client's calls answer.
use Rattle.std.specs.Prelude.{◌≡◌, ℕ, ◌<◌, true, false, ℤ, List, ◌∷◌, length, Option, Some, None, IfSome, option_to_list}
use Rattle.sv_world.specs.Limits.{most_outstanding, most_pending}
use Rattle.sv_world.specs.declared.action.Action.{Action}
use Rattle.sv_world.specs.declared.world.ObjectId.{ObjectId}
use Rattle.sv_world.specs.Sets.{numbers_of}
use Rattle.sv_world.specs.Faults.{first_fault_of_action, may_be_observed}
use Rattle.sv_world.specs.Worlds.{IsGoodShape}
use Rattle.sv_wire.specs.Grammar.{IsWireReply}
use Rattle.sv_versions.specs.Held.{Store}
use Rattle.sv_pending.specs.Made.{PendingList}
use Rattle.sv_wire.specs.declared.message.Reply.{Reply}
use Rattle.sv_wire.specs.declared.message.Request.{Request}
use Rattle.sv_client.specs.declared.fault.MakeFault.{MakeFault}
use Rattle.sv_client.specs.declared.fault.MakeFault.TheVariants as make_faults
use Rattle.sv_client.specs.declared.fault.ObserveFault.{ObserveFault}
use Rattle.sv_client.specs.declared.fault.ObserveFault.TheVariants as observe_faults
use Rattle.sv_client.specs.declared.fault.PollFault.{PollFault}
use Rattle.sv_client.specs.declared.fault.PollFault.TheVariants as poll_faults
use Rattle.sv_client.specs.declared.fault.TakeFault.{TakeFault}
use Rattle.sv_client.specs.declared.kinds.Awaited.{Awaited}
use Rattle.sv_client.specs.declared.trace.Event.{Event}
use Rattle.sv_client.specs.declared.trace.Event.TheVariants as events
use Rattle.sv_client.specs.declared.view.View.{View}
use Rattle.sv_client.specs.declared.view.View.TheVariants as views
use Rattle.sv_client.specs.Traces.{pending_of}
use Rattle.sv_client.specs.Taking.{Identity, outstanding, told, first_fault_of_reply, allows, is_out_of_order, has_bad_item}
use Rattle.sv_client.specs.Invariant.{StandsFor, AreAwaited}
use Rattle.sv_client.specs.Seen.{latest_session, newly_asked, fault_named}

abbrev pub view_seen : View → Option (List ℤ)
view_seen (views.Known value) = Some value.now
view_seen views.Unknown = None

-- Why an action was not made: the first of these that applies, or memory ran out.
abbrev pub IsMakeFault : Identity → List Event → Action → MakeFault → Type 0
IsMakeFault who t action (make_faults.BadAction cause) = first_fault_of_action who.shape action ≡ Some cause
IsMakeFault who t action make_faults.Full = (first_fault_of_action who.shape action ≡ None) × (length (pending_of t) ≡ most_pending)
IsMakeFault who t action make_faults.Busy =
    (first_fault_of_action who.shape action ≡ None) × (length (pending_of t) < most_pending) × (length (outstanding who t) ≡ most_outstanding)
IsMakeFault who t action make_faults.Memory = Unit {0}

abbrev pub IsPollFault : Identity → List Event → PollFault → Type 0
IsPollFault who t poll_faults.Busy = length (outstanding who t) ≡ most_outstanding
IsPollFault who t poll_faults.Memory = Unit {0}

-- Why objects were not observed: the first of these that applies, or memory ran out.
abbrev pub IsObserveFault : Identity → List Event → List ObjectId → ObserveFault → Type 0
IsObserveFault who t objects observe_faults.BadObjects = may_be_observed who.shape.objects (numbers_of objects) ≡ false
IsObserveFault who t objects observe_faults.Busy =
    (may_be_observed who.shape.objects (numbers_of objects) ≡ true) × (length (outstanding who t) ≡ most_outstanding)
IsObserveFault who t objects observe_faults.Memory = Unit {0}

-- A reply was not taken: for the first of its faults, or because memory ran out.
abbrev pub IsTakeFault : Identity → List Event → Reply → TakeFault → Type 0
IsTakeFault who t reply fault = IfSome (fault_named fault) (λ f. first_fault_of_reply who t reply ≡ Some f)

-- The event of a reply that is got now.
abbrev pub got_now : List Event → Reply → Event
got_now t reply = events.Got (latest_session t) reply

-- A reply is a message, and comes to a client whose world has a shape that a world may have. Any other event is no server's.
abbrev pub IsServed : Identity → Event → Type 0
IsServed who (events.Got s reply) = IsGoodShape who.shape × IsWireReply reply
IsServed who _ = Unit {0}

-- What a reply makes of a client: it has no fault, and the answer, the store and the parts are those of the trace with the reply.
pub record IsTaken (who : Identity) (t : List Event) (reply : Reply) (done : Option Request) (store : Store) (pending : PendingList) (kinds : List Awaited) (commit : ℕ) : Type 0 where
  pub fine : first_fault_of_reply who t reply ≡ None
  pub held : StandsFor who (got_now t reply ∷ t) store
  pub actions : pending ≡ record { shape = who.shape; items = pending_of (got_now t reply ∷ t) }
  pub awaited : AreAwaited who (got_now t reply ∷ t) kinds
  pub commit_is : commit ≡ told (got_now t reply ∷ t)
  pub asked : option_to_list done ≡ newly_asked who t (got_now t reply)

-- A reply that is asked, allowed and in order, with no bad item. A value that its items read may still be missing.
pub record IsFine (who : Identity) (t : List Event) (reply : Reply) : Type 0 where
  pub request : Request
  pub rest : List Request
  pub asked : outstanding who t ≡ request ∷ rest
  pub allowed : allows request reply ≡ true
  pub ordered : is_out_of_order t reply ≡ false
  pub good : has_bad_item who (pending_of t) request reply ≡ false
