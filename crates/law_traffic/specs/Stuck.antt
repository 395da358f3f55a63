-- What a client meets in the session that it has open.
use Rattle.std.specs.Prelude.{◌≡◌, ◌⊎◌, ℕ, List, reverse, slice_get, Some, None, Ok}
use Rattle.sv_world.specs.declared.world.Shape.{Shape}
use Rattle.sv_frame.specs.Frames.{first_frame, too_long}
use Rattle.sv_link.specs.Ends.{Told}
use Rattle.sv_wire.specs.declared.message.Reply.{Reply}
use Rattle.sv_wire.specs.Messages.{reply_at}
use Rattle.sv_client.specs.declared.trace.Trace.{Trace}
use Rattle.sv_client.specs.Taking.{first_fault_of_reply}
use Rattle.sv_client.specs.Proper.{identity_of}
use Rattle.sv_player.specs.Stops.{IsShut, IsBad}
use Rattle.sv_player.specs.Played.{IsOpenSession}
use Rattle.sv_player.specs.declared.outcome.ReplyFault.{ReplyFault}
use Rattle.law_traffic.specs.Sessions.{Over}

-- What was received in session s after the replies that were got begins with no reply that the client takes.
pub record HasBad (shape : Shape) (L : Trace) (s : ℕ) (end : Told) : Type 0 where
  pub payload : List ℕ
  pub fault : ReplyFault
  pub bad : IsBad (identity_of shape L) (reverse L.events) s end payload fault

-- The trace ends in a session that is open, and its end is shut or gives no reply that the client takes.
pub record IsStopped (shape : Shape) (L : Trace) (sessions : List Over) : Type 0 where
  pub session : ℕ
  pub over : Over
  pub there : slice_get sessions session ≡ Some over
  pub open_is : IsOpenSession L session
  pub how : IsShut (identity_of shape L) (reverse L.events) session over.client ⊎ HasBad shape L session over.client

-- The rest begins with no length over the limit, and if it begins with a whole payload, this is a reply that the client takes.
pub record IsTakeable (shape : Shape) (L : Trace) (rest : List ℕ) : Type 0 where
  pub short : too_long rest ≡ None
  pub next : (payload after : List ℕ) → first_frame rest ≡ Some (payload, after) →
      (reply : Reply) × ((reply_at payload ≡ Ok reply) × (first_fault_of_reply (identity_of shape L) (reverse L.events) reply ≡ None))
