-- Replies that a pilot takes, one after the other.
use Rattle.std.proofs.Common.{◌≡◌, ℕ, ◌<◌, ◌⊎◌, inl, inr, List, [], ◌∷◌, ◌++◌, map, length, Some, Result, Ok, Err, refl, sym, ap, subst, ◌∙◌, arith, append_assoc}
use Rattle.std.specs.Prelude.{OnOk, IfErr}
use Rattle.std.proofs.lemmas.List.{map-append, append-nil}
use Rattle.sv_frame.specs.Frames.{frame, frames_of}
use Rattle.sv_frame.specs.Streams.{TakesOff}
use Rattle.sv_wire.specs.declared.message.Reply.{Reply}
use Rattle.sv_wire.specs.declared.message.Request.{Request}
use Rattle.sv_wire.specs.Messages.{reply_at}
use Rattle.sv_wire.specs.Spelling.{request_bytes}
use Rattle.sv_exchange.specs.Incoming.{FirstReads}
use Rattle.sv_client.specs.declared.fault.TakeFault.{TakeFault}
use Rattle.sv_client.specs.declared.fault.TakeFault.TheVariants as take_faults
use Rattle.sv_client.specs.Taking.{Identity, Fault, Unasked, WrongKind, BadOrder, BadItem, Missing, first_fault_of_reply}
use Rattle.sv_client.specs.declared.trace.Event.{Event}
use Rattle.sv_client.specs.Answers.{got_now, IsTakeFault}
use Rattle.sv_client.specs.Seen.{ClientView, with_event, newly_asked}
use Rattle.sv_pilot.specs.Hearing.{Heard}
use Rattle.sv_pilot.specs.Lines.{Line, IsCalm, GoesOn, request_frames, asking}
use Rattle.sv_pilot.specs.Sending.{HasSent, HasRead, Sends, Reads, IsSendFault, IsReceiveFault}
use Rattle.sv_pilot.specs.Troubles.{trouble_of_take}
use Rattle.sv_pilot.specs.Doings.{PilotView, HasTaken, Takes, Did, doing, posting, IsSettled, StopsBy, BrokeOff, Stopped, got_all, asked_by_all}
use Rattle.sv_pilot.specs.declared.trouble.Trouble.{Trouble}
use Rattle.sv_pilot.specs.declared.trouble.Trouble.TheVariants as troubles

-- ---- The connection

pub goes_nowhere : (l : Line) → GoesOn l l [] []
goes_nowhere l = record { sends = sym (append-nil l.told.sent); receives = sym (append-nil l.told.received); pair = refl; side = refl }

pub goes_further : (a b c : Line) (ss ts xs ys : List ℕ) → GoesOn a b ss xs → GoesOn b c ts ys → GoesOn a c (ss ++ ts) (xs ++ ys)
goes_further a b c ss ts xs ys g h = record {
  sends = h.sends ∙ ap (λ (s : List ℕ). s ++ ts) g.sends ∙ append_assoc a.told.sent ss ts;
  receives = h.receives ∙ ap (λ (s : List ℕ). s ++ ys) g.receives ∙ append_assoc a.told.received xs ys;
  pair = h.pair ∙ g.pair;
  side = h.side ∙ g.side;
}

-- What waited is sent in two parts.
sent_in_order : (ss ts unsent between before : List ℕ) → ss ++ between ≡ before → ts ++ unsent ≡ between → (ss ++ ts) ++ unsent ≡ before
sent_in_order ss ts unsent between before first then = append_assoc ss ts unsent ∙ ap (λ (s : List ℕ). ss ++ s) then ∙ first

pub sent_read : (a b : Line) (unsent : List ℕ) → HasSent a b unsent → HasRead a b unsent
sent_read a b unsent h = record { sent = h.sent; received = []; line = h.line; in_order = h.in_order; came = h.came ∙ sym (append-nil a.came) }

pub read_more : (a b c : Line) (unsent : List ℕ) → HasRead a b b.waits → HasRead b c unsent → HasRead a c unsent
read_more a b c unsent h k = record {
  sent = h.sent ++ k.sent;
  received = h.received ++ k.received;
  line = goes_further a b c h.sent k.sent h.received k.received h.line k.line;
  in_order = sent_in_order h.sent k.sent unsent b.waits a.waits h.in_order k.in_order;
  came = k.came ∙ ap (λ (s : List ℕ). s ++ k.received) h.came ∙ append_assoc a.came h.received k.received;
}

-- Nothing is unsent but what still waits, where a call went well.
pub all_sent : (a b : Line) (x : Unit) → Sends {X = Unit} a b (Ok x) → HasSent a b b.waits
all_sent a b x s = subst (HasSent a b) s.2 s.1

pub all_read : (a b : Line) (reply : Reply) → Reads {X = Reply} a b (Ok reply) → HasRead a b b.waits
all_read a b reply s = subst (HasRead a b) s.2 s.1

pub nothing_read : (l : Line) → HasRead l l l.waits
nothing_read l = record { sent = []; received = []; line = goes_nowhere l; in_order = refl; came = sym (append-nil l.came) }

pub calm_asking : (l : Line) (requests : List Request) → IsCalm l (asking l requests)
calm_asking l requests = record { faults = refl; ended = refl }

pub calm_more : (a b c : Line) → IsCalm a b → IsCalm b c → IsCalm a c
calm_more a b c h k = record { faults = k.faults ∙ h.faults; ended = k.ended ∙ h.ended }

pub calm_same : (a b : Line) → b ≡ a → IsCalm a b
calm_same a b e = record { faults = ap (λ (l : Line). l.faults) e; ended = ap (λ (l : Line). l.told.ended) e }

-- ---- Replies

frames_append : (xs ys : List (List ℕ)) → frames_of (xs ++ ys) ≡ frames_of xs ++ frames_of ys
frames_append [] ys = refl
frames_append (x ∷ xs) ys = ap (λ (s : List ℕ). frame x ++ s) (frames_append xs ys) ∙ sym (append_assoc (frame x) (frames_of xs) (frames_of ys))

got_all_append : (t : List Event) (rs ss : List Reply) → got_all t (rs ++ ss) ≡ got_all (got_all t rs) ss
got_all_append t [] ss = refl
got_all_append t (r ∷ rs) ss = got_all_append (got_now t r ∷ t) rs ss

pub request_frames_append : (rs ss : List Request) → request_frames (rs ++ ss) ≡ request_frames rs ++ request_frames ss
request_frames_append rs ss = ap frames_of (map-append request_bytes rs ss) ∙ frames_append (map request_bytes rs) (map request_bytes ss)

asked_append : (who : Identity) (t : List Event) (rs ss : List Reply) → asked_by_all who t (rs ++ ss) ≡ asked_by_all who t rs ++ asked_by_all who (got_all t rs) ss
asked_append who t [] ss = refl
asked_append who t (r ∷ rs) ss =
    ap (λ (qs : List Request). newly_asked who t (got_now t r) ++ qs) (asked_append who (got_now t r ∷ t) rs ss)
    ∙ sym (append_assoc (newly_asked who t (got_now t r)) (asked_by_all who (got_now t r ∷ t) rs) (asked_by_all who (got_all (got_now t r ∷ t) rs) ss))

pub same_taken : (p : PilotView) → HasTaken p p p.line.waits
same_taken p = record {
  who = refl;
  replies = [];
  events = refl;
  sent = [];
  received = [];
  line = goes_nowhere p.line;
  in_order = sym (append-nil p.line.waits);
  payloads = [];
  stream = append-nil p.line.came;
  read = refl;
}

still : {X : Type 0} (p : PilotView) (r : Result X Trouble) → OnOk r (p.line.waits ≡ p.line.waits)
still p (Ok x) = refl
still p (Err t) = tt

pub none_taken : {X : Type 0} (old new : PilotView) (r : Result X Trouble) → new ≡ old → Takes old new r
none_taken old new r e = (new.line.waits, subst (λ (p : PilotView). HasTaken p new new.line.waits) e (same_taken new), still new r)

-- The connection went on, and no reply was taken.
pub line_taken : (old new : PilotView) (unsent : List ℕ) → new.client ≡ old.client → HasRead old.line new.line unsent → HasTaken old new unsent
line_taken old new unsent c h = record {
  who = ap (λ (v : ClientView). v.who) c;
  replies = [];
  events = ap (λ (v : ClientView). v.events) c;
  sent = h.sent;
  received = h.received;
  line = h.line;
  in_order = h.in_order ∙ sym (append-nil old.line.waits);
  payloads = [];
  stream = sym h.came;
  read = refl;
}

-- Requests were to be sent, and were not.
pub none_posted : (p : PilotView) (requests : List Request) (trouble : Trouble) → Takes {X = Unit} (posting p requests) p (Err trouble)
none_posted p requests trouble =
    let put = asking p.line requests in (
      put.waits,
      line_taken (posting p requests) p put.waits refl
          (record { sent = []; received = []; line = record { sends = sym (append-nil p.line.told.sent); receives = sym (append-nil p.line.told.received); pair = refl; side = refl }; in_order = refl; came = sym (append-nil p.line.came) }),
      tt,
    )

-- The same, where the listener was told something before that.
pub none_posted_told : (p : PilotView) (told : List Heard) (requests : List Request) (trouble : Trouble) → Takes {X = Unit} (posting p requests) (record p { told = told }) (Err trouble)
none_posted_told p told requests trouble =
    let put = asking p.line requests in (
      put.waits,
      line_taken (posting p requests) (record p { told = told }) put.waits refl
          (record { sent = []; received = []; line = record { sends = sym (append-nil p.line.told.sent); receives = sym (append-nil p.line.told.received); pair = refl; side = refl }; in_order = refl; came = sym (append-nil p.line.came) }),
      tt,
    )

-- What a listener is told changes nothing of what was taken.
pub taken_told : (old new : PilotView) (told : List Heard) (unsent : List ℕ) → HasTaken old new unsent → HasTaken old (record new { told = told }) unsent
taken_told old new told unsent h = record {
  who = h.who;
  replies = h.replies;
  events = h.events;
  sent = h.sent;
  received = h.received;
  line = h.line;
  in_order = h.in_order;
  payloads = h.payloads;
  stream = h.stream;
  read = h.read;
}

-- No request was to be sent.
pub nothing_to_post : (p : PilotView) → Takes {X = Unit} (posting p []) p (Ok tt)
nothing_to_post p = (
  p.line.waits,
  line_taken (posting p []) p p.line.waits refl
      (record { sent = []; received = []; line = record { sends = sym (append-nil p.line.told.sent); receives = sym (append-nil p.line.told.received); pair = refl; side = refl }; in_order = sym (append-nil p.line.waits); came = sym (append-nil p.line.came) }),
  refl,
)

-- The reply at the front was taken, and what it asks for waits to be sent.
pub one_taken : (old new : PilotView) (payload : List ℕ) (reply : Reply) → new.client.who ≡ old.client.who → new.client.events ≡ got_now old.client.events reply ∷ old.client.events
    → new.line.told ≡ old.line.told → new.line.waits ≡ old.line.waits ++ request_frames (newly_asked old.client.who old.client.events (got_now old.client.events reply))
    → TakesOff payload old.line.came new.line.came → reply_at payload ≡ Ok reply → HasTaken old new new.line.waits
one_taken old new payload reply who events told waits off read =
    let asked = newly_asked old.client.who old.client.events (got_now old.client.events reply) in
    record {
      who = who;
      replies = reply ∷ [];
      events = events;
      sent = [];
      received = [];
      line = record {
        sends = ap (λ t. t.sent) told ∙ sym (append-nil old.line.told.sent);
        receives = ap (λ t. t.received) told ∙ sym (append-nil old.line.told.received);
        pair = ap (λ t. t.pair) told;
        side = ap (λ t. t.side) told;
      };
      in_order = waits ∙ ap (λ (rs : List Request). old.line.waits ++ request_frames rs) (sym (append-nil asked));
      payloads = payload ∷ [];
      stream = append-nil old.line.came ∙ off.whole ∙ ap (λ (s : List ℕ). s ++ new.line.came) (sym (append-nil (frame payload)));
      read = ap (λ r. r ∷ []) read;
    }

pub taken_more : (old mid new : PilotView) (unsent : List ℕ) → HasTaken old mid mid.line.waits → HasTaken mid new unsent → HasTaken old new unsent
taken_more old mid new unsent h k =
    let first = asked_by_all old.client.who old.client.events h.replies in
    let then = asked_by_all mid.client.who mid.client.events k.replies in
    let same : then ≡ asked_by_all old.client.who (got_all old.client.events h.replies) k.replies =
    ap (λ (w : Identity). asked_by_all w mid.client.events k.replies) h.who ∙ ap (λ (t : List Event). asked_by_all old.client.who t k.replies) h.events in
    let both : request_frames first ++ request_frames then ≡ request_frames (asked_by_all old.client.who old.client.events (h.replies ++ k.replies)) =
    sym (request_frames_append first then) ∙ ap (λ (rs : List Request). request_frames (first ++ rs)) same ∙ ap request_frames (sym (asked_append old.client.who old.client.events h.replies k.replies)) in
    let order : h.sent ++ (mid.line.waits ++ request_frames then) ≡ old.line.waits ++ request_frames (asked_by_all old.client.who old.client.events (h.replies ++ k.replies)) =
    sym (append_assoc h.sent mid.line.waits (request_frames then)) ∙ ap (λ (s : List ℕ). s ++ request_frames then) h.in_order
    ∙ append_assoc old.line.waits (request_frames first) (request_frames then) ∙ ap (λ (s : List ℕ). old.line.waits ++ s) both in
    record {
      who = k.who ∙ h.who;
      replies = h.replies ++ k.replies;
      events = k.events ∙ ap (λ (t : List Event). got_all t k.replies) h.events ∙ sym (got_all_append old.client.events h.replies k.replies);
      sent = h.sent ++ k.sent;
      received = h.received ++ k.received;
      line = goes_further old.line mid.line new.line h.sent k.sent h.received k.received h.line k.line;
      in_order = sent_in_order h.sent k.sent unsent (mid.line.waits ++ request_frames then) _ order k.in_order;
      payloads = h.payloads ++ k.payloads;
      stream = sym (append_assoc old.line.came h.received k.received) ∙ ap (λ (s : List ℕ). s ++ k.received) h.stream ∙ append_assoc (frames_of h.payloads) mid.line.came k.received
          ∙ ap (λ (s : List ℕ). frames_of h.payloads ++ s) k.stream ∙ sym (append_assoc (frames_of h.payloads) (frames_of k.payloads) new.line.came)
          ∙ ap (λ (s : List ℕ). s ++ new.line.came) (sym (frames_append h.payloads k.payloads));
      read = map-append reply_at h.payloads k.payloads ∙ rw (h.read, k.read) (sym (map-append (λ (r : Reply). Ok r) h.replies k.replies));
    }

-- ---- Behind a part that went well

pub then_taken : {X : Type 0} (old mid new : PilotView) (r : Result X Trouble) → HasTaken old mid mid.line.waits → Takes mid new r → Takes old new r
then_taken old mid new r h k = (k.0, taken_more old mid new k.0 h k.1, k.2)

-- Nothing is unsent but what still waits, where a call went well.
pub all_taken : (old new : PilotView) (x : Unit) → Takes {X = Unit} old new (Ok x) → HasTaken old new new.line.waits
all_taken old new x s = subst (HasTaken old new) s.2 s.1

pub whole_taken : {X : Type 0} (old new : PilotView) (r : Result X Trouble) → HasTaken old new new.line.waits → Takes old new r
whole_taken old new r h = (new.line.waits, h, still new r)

pub line_takes : {X : Type 0} (old new : PilotView) (r : Result X Trouble) → new.client ≡ old.client → Sends old.line new.line r → Takes old new r
line_takes old new r c s = (s.0, line_taken old new s.0 c (sent_read old.line new.line s.0 s.1), s.2)

pub line_reads : {X : Type 0} (old new : PilotView) (r : Result X Trouble) → new.client ≡ old.client → Reads old.line new.line r → Takes old new r
line_reads old new r c s = (s.0, line_taken old new s.0 c s.1, s.2)

-- The answer of a failing call is passed on as one of another type.
pub read_fails : (X Y : Type 0) (old new : PilotView) (t u : Trouble) → Takes {X = X} old new (Err t) → Takes {X = Y} old new (Err u)
read_fails X Y old new t u k = (k.0, k.1, tt)

-- ---- Why it stopped

-- What stops a call stops it also from before a part that went well.
pub stops_later : (old mid new : PilotView) (trouble : Trouble) → IsCalm old.line mid.line → StopsBy mid new trouble → StopsBy old new trouble
stops_later old mid new troubles.Link calm (inl rose) = inl (subst (λ (n : ℕ). n < new.line.faults) calm.faults rose)
stops_later old mid new troubles.Link calm (inr ended) = inr ended
stops_later old mid new troubles.Reply calm why = (calm_more old.line mid.line new.line calm why.0, why.1)
stops_later old mid new troubles.Memory calm why = calm_more old.line mid.line new.line calm why
stops_later old mid new troubles.Game calm why = absurd why

-- What stops a sending, or a receiving, stops a call.
pub sending_stops_it : (old new : PilotView) (trouble : Trouble) → IsSendFault old.line new.line trouble → StopsBy old new trouble
sending_stops_it old new troubles.Link why = inl why
sending_stops_it old new troubles.Reply why = absurd why
sending_stops_it old new troubles.Memory why = why
sending_stops_it old new troubles.Game why = absurd why

pub receiving_stops_it : (old new : PilotView) (trouble : Trouble) → IsReceiveFault old.line new.line trouble → StopsBy old new trouble
receiving_stops_it old new troubles.Link why = why
receiving_stops_it old new troubles.Reply why = (why.0, inl why.1)
receiving_stops_it old new troubles.Memory why = why
receiving_stops_it old new troubles.Game why = absurd why

refused_for : (p : PilotView) (reply : Reply) (fault : Fault) → FirstReads reply_at p.line.came (Ok reply) → first_fault_of_reply p.client.who p.client.events reply ≡ Some fault → StopsBy p p troubles.Reply
refused_for p reply fault front e = (calm_same p.line p.line refl, inr (inl (record { reply = reply; fault = fault; front = front; refused = e })))

-- A reply that is refused stops a call.
pub refused_by : (p : PilotView) (reply : Reply) (fault : TakeFault) → FirstReads reply_at p.line.came (Ok reply) → IsTakeFault p.client.who p.client.events reply fault → StopsBy p p (trouble_of_take fault)
refused_by p reply take_faults.Unasked front e = refused_for p reply Unasked front e
refused_by p reply take_faults.WrongKind front e = refused_for p reply WrongKind front e
refused_by p reply take_faults.BadOrder front e = refused_for p reply BadOrder front e
refused_by p reply take_faults.BadItem front e = refused_for p reply BadItem front e
refused_by p reply (take_faults.Missing pos object) front e = refused_for p reply (Missing pos object.0) front e
refused_by p reply take_faults.Memory front e = calm_same p.line p.line refl

-- ---- One thing done

-- The client did it, and what it asks was put behind what waited.
pub doing_is : (old : PilotView) (v : ClientView) (e : Event) (asked : List Request) → v ≡ with_event old.client e → asked ≡ newly_asked old.client.who old.client.events e
    → posting (record { client = v; line = old.line; told = old.told }) asked ≡ doing old e
doing_is old v e asked same is = ap (λ (w : ClientView). record { client = w; line = asking old.line asked; told = old.told }) same ∙ ap (λ (rs : List Request). record { client = with_event old.client e; line = asking old.line rs; told = old.told }) is

-- It was done, and what it asks was put.
pub did_sent : (e : Event) (old mid : PilotView) (asked : List Request) (r : Result Unit Trouble) → mid.client ≡ with_event old.client e → asked ≡ newly_asked old.client.who old.client.events e
    → Sends (asking old.line asked) mid.line r → Takes (doing old e) mid r
did_sent e old mid asked r c is s = line_takes (doing old e) mid r c (subst (λ (rs : List Request). Sends (asking old.line rs) mid.line r) is s)

-- It was done, and then replies were taken, to the end.
pub asked_fine : (e : Event) (old start new : PilotView) (r : Result Unit Trouble) → start ≡ doing old e → Takes start new r → OnOk r (IsSettled new × IsCalm old.line new.line)
    → OnOk r (Did e old new [] × IsSettled new × IsCalm old.line new.line)
asked_fine e old start new (Ok x) is k s =
    (subst (λ (p : PilotView). HasTaken p new []) is (subst (HasTaken start new) s.0.waits (all_taken start new x k)), s.0, s.1)
asked_fine e old start new (Err t) is k s = tt

-- It was done, and then replies were taken, until it stopped.
pub asked_stops : (e : Event) (old start new : PilotView) (r : Result Unit Trouble) → start ≡ doing old e → Takes start new r → IfErr r (StopsBy old new) → IfErr r (BrokeOff e old new)
asked_stops e old start new (Ok x) is k why = tt
asked_stops e old start new (Err t) is k why = (k.0, subst (λ (p : PilotView). HasTaken p new k.0) is k.1, why)

pub may_stop : (e : Event) (old new : PilotView) (r : Result Unit Trouble) → IfErr r (BrokeOff e old new) → IfErr r (λ (trouble : Trouble). (trouble ≡ troubles.Game) ⊎ Stopped e old new trouble)
may_stop e old new (Ok x) why = tt
may_stop e old new (Err t) why = inr (inr why)

-- What stops a call is not the game.
pub not_the_game : (old new : PilotView) (trouble : Trouble) → StopsBy old new trouble → trouble ≡ troubles.Game → ⊥
not_the_game old new troubles.Link why e = cc
not_the_game old new troubles.Reply why e = cc
not_the_game old new troubles.Memory why e = cc
not_the_game old new troubles.Game why e = why

pub not_refused : (old new : PilotView) (r : Result Unit Trouble) (X : Type 0) → IfErr r (StopsBy old new) → IfErr r (λ (trouble : Trouble). trouble ≡ troubles.Game → X)
not_refused old new (Ok x) X why = tt
not_refused old new (Err t) X why = λ e. absurd (not_the_game old new t why e)

pub none_left : {X : Type 0} (xs : List X) → length xs ≡ 0 → xs ≡ []
none_left [] e = refl
none_left (x ∷ xs) e = absurd (omega (arith, e))
