-- Awaiting a reply, and what stops a player there.
use Rattle.std.proofs.Common.{◌≡◌, ◌≢◌, ◌⊎◌, inl, inr, ℕ, ◌+◌, ◌<◌, Bool, true, false, eqb, List, [], ◌∷◌, ◌++◌, length, drop, Option, Some, None, refl, sym, ap, subst, ◌∙◌, arith, append-nil}
use Rattle.std.specs.Prelude.{Result, Ok, Err, IfOk, IsSome, is_none, if◌then◌else◌}
use Rattle.std.proofs.lemmas.List.{length-drop}
use Rattle.std.specs.Global.{Vec}
use Rattle.std.proofs.Common.{Bor}
use Rattle.std.specs.Prelude.{option_map}
use Rattle.sv_frame.specs.Frames.{first_frame, too_long}
use Rattle.sv_frame.specs.Answers.{Came}
use Rattle.sv_link.specs.Ends.{Told, sending}
use Rattle.sv_link.specs.declared.ends.Sent.{Sent}
use Rattle.sv_link.specs.declared.ends.Sent.TheVariants as answers
use Rattle.sv_wire.specs.declared.message.Request.{Request}
use Rattle.sv_wire.specs.declared.message.Reply.{Reply}
use Rattle.sv_wire.specs.declared.message.Reply.TheVariants as replies
use Rattle.sv_wire.specs.Messages.{reply_at}
use Rattle.sv_exchange.specs.Incoming.{ReadsFirst}
use Rattle.sv_exchange.specs.declared.inbox.Incoming.{Incoming}
use Rattle.sv_exchange.specs.declared.inbox.Incoming.TheVariants.{Whole, NotYet, Malformed, TooLong, Memory}
use Rattle.sv_client.specs.declared.trace.Event.{Event}
use Rattle.sv_client.specs.declared.trace.Event.TheVariants as events
use Rattle.sv_client.specs.Traces.{asked, got}
use Rattle.sv_client.specs.Taking.{Identity, outstanding}
use Rattle.sv_client.specs.Seen.{latest_session, newly_asked}
use Rattle.sv_client.proofs.Outstanding.{outstanding_in}
use Rattle.sv_player.specs.Stops.{IsShut, NoneCame, first_payload}
use Rattle.sv_player.specs.declared.buffers.Buffers.{Buffers}
use Rattle.sv_player.specs.declared.outcome.PlayerCause.{PlayerCause}
use Rattle.sv_player.specs.declared.outcome.PlayerCause.TheVariants as causes
use Rattle.sv_player.specs.declared.playing.Player.{Player}
use Rattle.sv_player.specs.Carried.{request_frames, BeginsWithReplies, PostedPart}
use Rattle.sv_script.specs.Following.{is_bye}
use Rattle.sv_player.specs.Going.{IsHere}
use Rattle.sv_player.specs.declared.outcome.ReplyFault.TheVariants as faults
use Rattle.sv_player.specs.Sessions.{IsAt, Stopped, IsStill, IsReason, IsFrameFault, IsSent}
use Rattle.sv_player.proofs.Posting.{IsFlushed}
use Rattle.sv_player.proofs.Linking.{frames_none, begins_more, linked_part}
use Rattle.sv_player.proofs.Turns.{onward_self, begun_idle}

-- ---- What waits is sent, and bytes come

pub flushed_at : (s : ℕ) (p : Player) (b c : Buffers) (old new : Told) → IsAt s p b old → new ≡ sending old b.outbox → c.outbox ≡ [] → c.inbox ≡ b.inbox → IsAt s p c new
flushed_at s p b c old new at sent none same =
    record {
      going = at.going;
      current = at.current;
      open_is = at.open_is;
      linked =
          record {
            open_is = ap (λ (t : Told). t.closed) sent ∙ at.linked.open_is;
            sent = rw (sent, none) (append-nil (old.sent ++ b.outbox) ∙ at.linked.sent);
            messages = at.linked.messages;
            received = rw (sent, same) at.linked.received;
          };
    }

pub grew_at : (s : ℕ) (p : Player) (b c : Buffers) (old new : Told) (n : ℕ) → IsAt s p b old → Came old b.inbox n new c.inbox → c.outbox ≡ b.outbox → IsAt s p c new
grew_at s p b c old new n at grew same =
    record {
      going = at.going;
      current = at.current;
      open_is = at.open_is;
      linked =
          record {
            open_is = ap (λ (t : Told). t.closed) grew.told ∙ at.linked.open_is;
            sent = rw (grew.told, same) at.linked.sent;
            messages = at.linked.messages;
            received = rw (grew.told, grew.rest) (begins_more old.received b.inbox grew.bytes (got p.client.events s) at.linked.received);
          };
    }

pub ended_at : (s : ℕ) (p : Player) (b : Buffers) (old new : Told) → IsAt s p b old → new ≡ record old { ended = true } → IsAt s p b new
ended_at s p b old new at e =
    record {
      going = at.going;
      current = at.current;
      open_is = at.open_is;
      linked = rw e (record { open_is = at.linked.open_is; sent = at.linked.sent; messages = at.linked.messages; received = at.linked.received });
    }

-- ---- Stops

-- With all sent, something stops the player where it stands.
pub stops_at : (s : ℕ) (p : Player) (b : Buffers) (end : Told) (cause : PlayerCause) → IsAt s p b end → IsHere p.client.who p.client.events p.left.now → b.outbox ≡ [] → IsReason p.client.who p.client.events p.first s end cause → Stopped s p p end cause
stops_at s p b end cause at here none reason =
    let sent : end.sent ≡ request_frames (asked p.client.who.client p.client.who.interest p.client.events s) = sym (append-nil end.sent) ∙ ap (λ (w : List ℕ). end.sent ++ w) (sym none) ∙ at.linked.sent in
    record {
      onward = onward_self s p;
      proper = at.going.proper;
      left = p.left.now;
      follows = at.going.follows;
      awaited = at.going.awaited;
      current = λ n. at.current;
      open_is = at.open_is;
      part = record { sent = ([], append-nil end.sent ∙ sent); rest = b.inbox; received = at.linked.received };
      whole = λ x y. sent;
      messages = λ x y. at.linked.messages;
      told = λ n. at.going.told;
      going_on = λ n. here.here;
      idle = begun_idle p.client.who p.client.events s end.received at.going.proper at.current;
      reason = reason;
    }

-- Sending what waits ended early.
pub stops_sending : (s : ℕ) (p : Player) (b : Buffers) (end new : Told) (cause : PlayerCause) → IsAt s p b end → IsHere p.client.who p.client.events p.left.now → (cause ≡ causes.LinkFault) ⊎ (cause ≡ causes.Memory) →
    PostedPart end b.outbox [] new → Stopped s p p new cause
stops_sending s p b end new cause at here why posted =
    let t = p.client.events in
    record {
      onward = onward_self s p;
      proper = at.going.proper;
      left = p.left.now;
      follows = at.going.follows;
      awaited = at.going.awaited;
      current = λ n. at.current;
      open_is = at.open_is;
      part =
          linked_part p.client.who t t s [] (sym (append-nil (asked p.client.who.client p.client.who.interest t s))) end new b.inbox b.outbox refl at.linked
          (subst (λ (bytes : List ℕ). PostedPart end b.outbox bytes new) (sym frames_none) posted);
      whole = λ x y. absurd (elim why [ inl l ↦ x l | inr m ↦ y m ]);
      messages = λ x y. absurd (elim why [ inl l ↦ x l | inr m ↦ y m ]);
      told = λ n. at.going.told;
      going_on = λ n. here.here;
      idle = begun_idle p.client.who t s new.received at.going.proper at.current;
      reason = elim why [
        | inl l ↦ subst (IsReason p.client.who t p.first s new) (sym l) tt
        | inr m ↦ subst (IsReason p.client.who t p.first s new) (sym m) tt
      ];
    }

pub frame_reason : (who : Identity) (t : List Event) (first s : ℕ) (end : Told) (rest : List ℕ) (cause : PlayerCause) → BeginsWithReplies end.received (got t s) rest → IsFrameFault who t (s + first) rest cause → IsReason who t first s end cause
frame_reason who t first s end rest causes.Finished b f = absurd f
frame_reason who t first s end rest causes.Quit b f = absurd f
frame_reason who t first s end rest causes.LinkFault b f = absurd f
frame_reason who t first s end rest causes.Closed b f = absurd f
frame_reason who t first s end rest (causes.BadReply session payload fault) b f = (f.0, record { rest = rest; received = b; bad = f.1 })
frame_reason who t first s end rest causes.Memory b f = tt

-- A reply is awaited in the session.
pub awaited_in : (s : ℕ) (p : Player) (b : Buffers) (end : Told) → IsAt s p b end → 0 < length (outstanding p.client.who p.client.events) →
    length (got p.client.events s) < length (asked p.client.who.client p.client.who.interest p.client.events s)
awaited_in s p b end at some =
    let n = length (got p.client.events s) in
    let all = asked p.client.who.client p.client.who.interest p.client.events s in
    let more : 0 < length (drop n all) = subst (λ (rs : List Request). 0 < length rs) (outstanding_in p.client.who p.client.events s at.current) some in
    omega (arith, more, length-drop n all)

pub shut_reason : (s : ℕ) (p : Player) (b : Buffers) (end : Told) → IsAt s p b end → 0 < length (outstanding p.client.who p.client.events) → end.ended ≡ true → NoneCame b.inbox → IsShut p.client.who p.client.events s end
shut_reason s p b end at some ended none =
    record { awaited = awaited_in s p b end at some; ended = ended; rest = b.inbox; received = at.linked.received; none = none }

-- ---- All is sent

module _ (s : ℕ) (p : Player) (b c : Buffers) (old new : Told) (at : IsAt s p b old) (here : IsHere p.client.who p.client.events p.left.now) where
  -- What a try to send what waits answers.
  pub flush_still : (sent : Sent) (result : Result Unit PlayerCause) → IsFlushed sent old b.outbox new c.outbox → IsSent sent result → c.inbox ≡ b.inbox → IsStill result s p c new
  flush_still answers.Whole result flushed is same = subst (λ (r : Result Unit PlayerCause). IsStill r s p c new) (sym is) (flushed_at s p b c old new at flushed.0 flushed.1 same)
  flush_still answers.Failed result flushed is same = subst (λ (r : Result Unit PlayerCause). IsStill r s p c new) (sym is) (stops_sending s p b old new causes.LinkFault at here (inl refl) flushed)
  flush_still answers.Memory result flushed is same = subst (λ (r : Result Unit PlayerCause). IsStill r s p c new) (sym is) (stops_sending s p b old new causes.Memory at here (inr refl) flushed)

pub flush_empties : (sent : Sent) (result : Result Unit PlayerCause) (old new : Told) (waiting left : List ℕ) → IsFlushed sent old waiting new left → IsSent sent result → IfOk result (λ _. left ≡ [])
flush_empties answers.Whole result old new waiting left flushed is = subst (λ (r : Result Unit PlayerCause). IfOk r (λ _. left ≡ [])) (sym is) flushed.1
flush_empties answers.Failed result old new waiting left flushed is = subst (λ (r : Result Unit PlayerCause). IfOk r (λ _. left ≡ [])) (sym is) tt
flush_empties answers.Memory result old new waiting left flushed is = subst (λ (r : Result Unit PlayerCause). IfOk r (λ _. left ≡ [])) (sym is) tt

-- ---- The first frame

pub frame_came : (rest payload : List ℕ) → first_payload rest ≡ Some payload → first_frame rest ≢ None
frame_came rest payload e n =
    (let none : ◌≡◌ {A = Option (List ℕ)} None (Some payload) = ap (λ (o : Option (List ℕ × List ℕ)). option_map (λ (f : List ℕ × List ℕ). f.0) o) (sym n) ∙ e in cc)

frame_none : (o : Option (List ℕ × List ℕ)) → ◌≡◌ {A = Option (List ℕ)} None (option_map (λ (f : List ℕ × List ℕ). f.0) o) → o ≡ None
frame_none None e = refl
frame_none (Some f) e = cc

-- No payload is told just where no frame came.
pub untold : (o : Option (Bor (List ℕ))) (rest : List ℕ) → option_map (λ (p : Bor (List ℕ)). p.now) o ≡ first_payload rest → o ≡ None → first_frame rest ≡ None
untold o rest is none = frame_none (first_frame rest) (ap (option_map (λ (p : Bor (List ℕ)). p.now)) (sym none) ∙ is)

pub is_untold : (o : Option (Bor (List ℕ))) (rest : List ℕ) → option_map (λ (p : Bor (List ℕ)). p.now) o ≡ first_payload rest → is_none o ≡ true → first_frame rest ≡ None
is_untold None rest is none = untold None rest is refl
is_untold (Some p) rest is none = cc

pub is_told : (o : Option (Bor (List ℕ))) (rest : List ℕ) → option_map (λ (p : Bor (List ℕ)). p.now) o ≡ first_payload rest → is_none o ≡ false → first_frame rest ≢ None
is_told None rest is none = cc
is_told (Some p) rest is none = frame_came rest p.now (sym is)

payload_none : (rest payload : List ℕ) → first_frame rest ≡ None → first_payload rest ≡ Some payload → ⊥
payload_none rest payload none first = frame_came rest payload first none

-- Where no frame came, none is read.
pub none_read : (i : Incoming Reply) (rest : List ℕ) → ReadsFirst reply_at i rest → first_frame rest ≡ None → (i ≡ NotYet → ⊥) → ((n : ℕ) → i ≡ TooLong n → ⊥) → ⊥
none_read (Whole reply) rest reads none a b = payload_none rest reads.payload none reads.first
none_read NotYet rest reads none a b = a refl
none_read (Malformed fault) rest reads none a b = payload_none rest reads.payload none reads.first
none_read (TooLong n) rest reads none a b = b n refl
none_read Memory rest reads none a b =
    (let never : ◌≡◌ {A = Bool} false true = subst (λ (o : Option (List ℕ × List ℕ)). IsSome (option_map (λ (f : List ℕ × List ℕ). f.0) o)) none reads in cc)

-- ---- What ends a wait

module _ (s : ℕ) (p : Player) (b : Buffers) (end : Told) (at : IsAt s p b end) (here : IsHere p.client.who p.client.events p.left.now) (none : b.outbox ≡ []) where
  -- The end failed, or memory ended.
  pub wait_stops : (new : Told) (cause : PlayerCause) → new ≡ end → IsReason p.client.who p.client.events p.first s end cause → Stopped s p p new cause
  wait_stops new cause same reason = subst (λ (t : Told). Stopped s p p t cause) (sym same) (stops_at s p b end cause at here none reason)

  -- The next frame is too long.
  pub long_stops : (session n : ℕ) (payload : Vec ℕ) → session ≡ s + p.first → payload.items ≡ [] → too_long b.inbox ≡ Some n → Stopped s p p end (causes.BadReply session payload (faults.TooLong n))
  long_stops session n payload number empty long =
      stops_at s p b end (causes.BadReply session payload (faults.TooLong n)) at here none (number, record { rest = b.inbox; received = at.linked.received; bad = (empty, long) })

  -- No more will come.
  pub shut_stops : (new : Told) → 0 < length (outstanding p.client.who p.client.events) → NoneCame b.inbox → new ≡ record end { ended = true } → Stopped s p p new causes.Closed
  shut_stops new some came ended =
      let there = ended_at s p b end new at ended in
      stops_at s p b new causes.Closed there here none (shut_reason s p b new there some (ap (λ (t : Told). t.ended) ended) came)

-- The first frame holds no reply that is taken.
pub frame_stops : (s : ℕ) (p : Player) (b : Buffers) (end : Told) (cause : PlayerCause) → IsAt s p b end → IsHere p.client.who p.client.events p.left.now → b.outbox ≡ [] →
    IsFrameFault p.client.who p.client.events (s + p.first) b.inbox cause → Stopped s p p end cause
frame_stops s p b end cause at here none fault = stops_at s p b end cause at here none (frame_reason p.client.who p.client.events p.first s end b.inbox cause at.linked.received fault)

-- ---- A Bye asks nothing

either_none : (b : Bool) → ◌≡◌ {A = List Request} (if b then [] else []) []
either_none true = refl
either_none false = refl

pub bye_asks_none : (who : Identity) (t : List Event) (s : ℕ) (reply : Reply) → is_bye reply ≡ true → newly_asked who t (events.Got s reply) ≡ []
bye_asks_none who t s replies.Bye e = either_none (eqb s (latest_session (events.Got s replies.Bye ∷ t)))
bye_asks_none who t s (replies.Welcome commit head) e = cc
bye_asks_none who t s (replies.Relay seq commit head items) e = cc
bye_asks_none who t s (replies.Seen last commit head items) e = cc
bye_asks_none who t s (replies.Dropped seq chain far) e = cc
bye_asks_none who t s (replies.Denied seq object) e = cc
bye_asks_none who t s (replies.Settled seq pos) e = cc
bye_asks_none who t s (replies.Noted commit) e = cc
bye_asks_none who t s replies.Idle e = cc
bye_asks_none who t s (replies.Refused code detail) e = cc
