-- Why a player stops, by what came over the end of its session. Events stand with the latest first.
use Rattle.std.specs.Prelude.{◌≡◌, ◌≢◌, ℕ, ◌<◌, Bool, true, false, ◌||◌, List, [], ◌∷◌, length, Option, Some, None, option_map, Ok, Err}
use Rattle.sv_frame.specs.Frames.{first_frame, too_long}
use Rattle.sv_link.specs.Ends.{Told}
use Rattle.sv_wire.specs.declared.message.Reply.{Reply}
use Rattle.sv_wire.specs.Messages.{reply_at}
use Rattle.sv_client.specs.declared.fault.TakeFault.{TakeFault}
use Rattle.sv_client.specs.declared.fault.TakeFault.TheVariants as take_faults
use Rattle.sv_client.specs.declared.trace.Event.{Event}
use Rattle.sv_client.specs.declared.trace.Event.TheVariants as events
use Rattle.sv_client.specs.Traces.{current_session, is_session, asked, got}
use Rattle.sv_client.specs.Taking.{Identity}
use Rattle.sv_client.specs.Answers.{IsTakeFault}
use Rattle.sv_player.specs.declared.outcome.ReplyFault.{ReplyFault}
use Rattle.sv_player.specs.declared.outcome.ReplyFault.TheVariants as faults
use Rattle.sv_player.specs.Carried.{BeginsWithReplies}

-- the trace cut session s, or quit in it
abbrev pub is_cut : List Event → ℕ → Bool
is_cut [] s = false
is_cut (events.Cut ∷ t) s = is_session (current_session t) s || is_cut t s
is_cut (events.Quit ∷ t) s = is_session (current_session t) s || is_cut t s
is_cut (_ ∷ t) s = is_cut t s

-- no frame has come, and no length over the limit
abbrev pub NoneCame : List ℕ → Type 0
NoneCame rest = (first_frame rest ≡ None) × (too_long rest ≡ None)

-- the payload of the first frame
abbrev pub first_payload : List ℕ → Option (List ℕ)
first_payload rest = option_map (λ (f : List ℕ × List ℕ). f.0) (first_frame rest)

-- The payload is read as a reply that the client does not take, for this fault.
pub record IsNotTaken (who : Identity) (t : List Event) (payload : List ℕ) (fault : TakeFault) : Type 0 where
  pub reply : Reply
  pub read : reply_at payload ≡ Ok reply
  pub fault_is : IsTakeFault who t reply fault
  pub some : fault ≢ take_faults.Memory

-- why the first frame of the rest that was received is no reply that can be taken
abbrev pub IsBadRest : Identity → List Event → List ℕ → List ℕ → ReplyFault → Type 0
IsBadRest who t rest payload (faults.Take fault) = (first_payload rest ≡ Some payload) × IsNotTaken who t payload fault
IsBadRest who t rest payload (faults.Wire fault) = (first_payload rest ≡ Some payload) × (reply_at payload ≡ Err fault)
IsBadRest who t rest payload (faults.TooLong n) = (payload ≡ []) × (too_long rest ≡ Some n)

-- A reply is awaited in session s; the end answered that no more will come, and no whole frame or too great length is left.
pub record IsShut (who : Identity) (t : List Event) (s : ℕ) (end : Told) : Type 0 where
  pub awaited : length (got t s) < length (asked who.client who.interest t s)
  pub ended : end.ended ≡ true
  pub rest : List ℕ
  pub received : BeginsWithReplies end.received (got t s) rest
  pub none : NoneCame rest

-- The rest that was received in session s begins with no reply that can be taken.
pub record IsBad (who : Identity) (t : List Event) (s : ℕ) (end : Told) (payload : List ℕ) (fault : ReplyFault) : Type 0 where
  pub rest : List ℕ
  pub received : BeginsWithReplies end.received (got t s) rest
  pub bad : IsBadRest who t rest payload fault
