-- What the answer to a reply that was taken makes of a session.
use Rattle.std.proofs.Common.{◌≡◌, ◌≢◌, ◌⊎◌, inl, inr, ℕ, Bool, true, false, List, [], Option, None, refl, sym, ap, subst, ◌∙◌}
use Rattle.std.specs.Prelude.{All, Err, option_to_list}
use Rattle.sv_frame.specs.Answers.{Skips}
use Rattle.sv_link.specs.Ends.{Told}
use Rattle.sv_wire.specs.declared.message.Request.{Request}
use Rattle.sv_wire.specs.declared.message.Reply.{Reply}
use Rattle.sv_wire.specs.Laws.{IsRequest}
use Rattle.sv_client.specs.declared.trace.Event.TheVariants as events
use Rattle.sv_client.specs.Taking.{first_fault_of_reply}
use Rattle.sv_client.specs.Seen.{newly_asked}
use Rattle.sv_player.specs.declared.buffers.Buffers.{Buffers}
use Rattle.sv_player.specs.declared.outcome.PlayerCause.{PlayerCause}
use Rattle.sv_player.specs.declared.outcome.PlayerCause.TheVariants as causes
use Rattle.sv_player.specs.declared.playing.Player.{Player}
use Rattle.sv_player.specs.Carried.{request_frames, Posted, PostedPart}
use Rattle.sv_script.specs.Following.{is_bye}
use Rattle.sv_script.specs.Next.{can_go_on}
use Rattle.sv_player.specs.Going.{Did, IsHere}
use Rattle.sv_player.specs.Sessions.{IsAt, IsFirst, IsAnswered, Got, Stopped}
use Rattle.sv_player.proofs.Taking.{got_goes, got_stops}
use Rattle.sv_player.proofs.Receiving.{bye_asks_none}

if_never : (b : Bool) → (b ≡ true → ⊥) → b ≡ false
if_never true never = absurd (never refl)
if_never false never = refl

-- The reply was taken, its frame was taken off, and the client asked this for it.
module _ (s : ℕ) (reply : Reply) (p q : Player) (b : Buffers) (end : Told) (at : IsAt s p b end) (here : IsHere p.client.who p.client.events p.left.now)
    (waits : can_go_on p.client.who p.client.events p.left.now ≡ false) (first : IsFirst b.inbox reply)
    (none : is_bye reply ≡ true → b.outbox ≡ []) (fine : first_fault_of_reply p.client.who p.client.events reply ≡ None) (did : Did (events.Got s reply) p.left.now p q) (done : Option Request)
    (asks : option_to_list done ≡ newly_asked p.client.who p.client.events (events.Got s reply)) (mid c : Buffers) (new : Told) (skips : Skips b.inbox mid.inbox) (same : mid.outbox ≡ b.outbox) where
  quiet_bye : is_bye reply ≡ true → option_to_list done ≡ []
  quiet_bye bye = asks ∙ bye_asks_none p.client.who p.client.events s reply bye

  pub answer_goes : (bye : Bool) → bye ≡ is_bye reply → c.inbox ≡ mid.inbox → Posted end mid.outbox (request_frames (option_to_list done)) new c.outbox → All IsRequest (option_to_list done) →
      (option_to_list done ≡ [] → c ≡ mid) → Got s bye p q c new
  answer_goes bye is reader posted messages quiet =
      subst (λ (x : Bool). Got s x p q c new) (sym is)
      (got_goes s reply p q b end at here waits first fine new c did (subst (Skips b.inbox) (sym reader) skips)
      (subst (λ (w : List ℕ). Posted end w (request_frames (newly_asked p.client.who p.client.events (events.Got s reply))) new c.outbox) same
      (subst (λ (rs : List Request). Posted end mid.outbox (request_frames rs) new c.outbox) asks posted)) (subst (All IsRequest) asks messages)
      (λ (e : is_bye reply ≡ true). ap (λ (x : Buffers). x.outbox) (quiet (quiet_bye e)) ∙ same ∙ none e))

  stops_posting : (cause : PlayerCause) → (cause ≡ causes.LinkFault) ⊎ (cause ≡ causes.Memory) → PostedPart end mid.outbox (request_frames (option_to_list done)) new → option_to_list done ≢ [] → Stopped s p q new cause
  stops_posting cause why posted some =
      got_stops s reply p q b end at here waits first fine new mid.inbox cause why did skips
      (subst (λ (w : List ℕ). PostedPart end w (request_frames (newly_asked p.client.who p.client.events (events.Got s reply))) new) same
      (subst (λ (rs : List Request). PostedPart end mid.outbox (request_frames rs) new) asks posted)) (if_never (is_bye reply) (λ (e : is_bye reply ≡ true). some (quiet_bye e)))

  pub answer_stops : (cause : PlayerCause) → IsAnswered (Err cause) end mid.outbox (request_frames (option_to_list done)) new c.outbox → option_to_list done ≢ [] → Stopped s p q new cause
  answer_stops causes.Finished posted some = absurd posted
  answer_stops causes.Quit posted some = absurd posted
  answer_stops causes.LinkFault posted some = stops_posting causes.LinkFault (inl refl) posted some
  answer_stops causes.Closed posted some = absurd posted
  answer_stops (causes.BadReply session payload fault) posted some = absurd posted
  answer_stops causes.Memory posted some = stops_posting causes.Memory (inr refl) posted some
