-- What a client of a proper trace asks is within the grammar of messages, whatever it was replied.
use Rattle.std.proofs.Common.{◌≡◌, ℕ, List, [], ◌∷◌, None}
use Rattle.std.specs.Prelude.{All}
use Rattle.sv_world.specs.declared.action.Action.{Action}
use Rattle.sv_world.specs.declared.world.ObjectId.{ObjectId}
use Rattle.sv_world.specs.Worlds.{IsGoodShape}
use Rattle.sv_wire.specs.declared.message.Request.{Request}
use Rattle.sv_wire.specs.declared.message.Reply.{Reply}
use Rattle.sv_wire.specs.Grammar.{IsWireRequest, IsWireReply}
use Rattle.sv_client.specs.declared.trace.Event.{Event}
use Rattle.sv_client.specs.declared.trace.Event.TheVariants as events
use Rattle.sv_client.specs.Traces.{joins, pending_of}
use Rattle.sv_client.specs.Taking.{Identity, first_fault_of_reply}
use Rattle.sv_client.specs.Proper.{AreProper, IsGoodIdentity, MayMake, MayObserve}
use Rattle.sv_client.specs.Seen.{newly_asked}
use Rattle.sv_client.specs.Answers.{got_now}
use Rattle.sv_client.proofs.Sessions.{in_turn}
use Rattle.sv_client.proofs.Wires.{AreWirePending, pending_in_turn, join_asks_messages, make_asks_message, poll_asks_message, observe_asks_message, leave_asks_message, reply_asks_messages}

pub pending_are : (who : Identity) (first : ℕ) (t : List Event) → AreProper who first t → AreWirePending (pending_of t)
pending_are who first t p = pending_in_turn who first t (in_turn who first t p)

pub join_asks : (who : Identity) (t : List Event) → IsGoodIdentity who → AreProper who 0 t → All IsWireRequest (newly_asked who t (events.Join (joins t)))
join_asks who t good p = join_asks_messages who t (record { few = good.few; ascending = good.ascending; objects = good.objects }) (in_turn who 0 t p)

pub make_asks : (who : Identity) (t : List Event) (a : Action) (request : Request) → MayMake who t a → request ∷ [] ≡ newly_asked who t (events.Make a) → IsWireRequest request
make_asks who t a request may e = make_asks_message who t a request (record { joined = may.joined; good = may.good; room = may.room; calm = may.calm }) e

pub poll_asks : (who : Identity) (t : List Event) (request : Request) → request ∷ [] ≡ newly_asked who t events.Poll → IsWireRequest request
poll_asks who t request e = poll_asks_message who t request e

pub observe_asks : (who : Identity) (t : List Event) (os : List ObjectId) (wait : ℕ) (request : Request) → MayObserve who t os → request ∷ [] ≡ newly_asked who t (events.Observe os wait) → IsWireRequest request
observe_asks who t os wait request may e = observe_asks_message who t os wait request may e

pub leave_asks : (who : Identity) (t : List Event) (request : Request) → request ∷ [] ≡ newly_asked who t events.Leave → IsWireRequest request
leave_asks who t request e = leave_asks_message who t request e

-- A reply that is within the grammar, and that a client takes, makes it ask what is within the grammar.
pub reply_asks : (who : Identity) (t : List Event) (reply : Reply) → IsGoodShape who.shape → AreProper who 0 t → IsWireReply reply → first_fault_of_reply who t reply ≡ None →
    All IsWireRequest (newly_asked who t (got_now t reply))
reply_asks who t reply shape p wire fine = reply_asks_messages who t reply shape (in_turn who 0 t p) wire fine
