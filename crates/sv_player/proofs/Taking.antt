-- What a reply that was taken makes of a session.
use Rattle.std.proofs.Common.{◌≡◌, ◌⊎◌, inl, inr, ℕ, Bool, true, false, eqb, List, [], ◌∷◌, ◌++◌, Option, Some, None, refl, sym, ap, subst, ◌∙◌, eq-eqb, append_assoc}
use Rattle.std.specs.Prelude.{IfSome, option_map, All, if◌then◌else◌}
use Rattle.std.proofs.lemmas.Option.{same_Some}
use Rattle.sv_frame.specs.Frames.{first_frame, FitsFrame}
use Rattle.sv_frame.specs.Streams.{TakesOff}
use Rattle.sv_frame.specs.Answers.{Skips}
use Rattle.sv_link.specs.Ends.{Told}
use Rattle.sv_wire.specs.declared.message.Request.{Request}
use Rattle.sv_wire.specs.declared.message.Reply.{Reply}
use Rattle.sv_wire.specs.Laws.{IsRequest}
use Rattle.sv_client.specs.declared.trace.Event.{Event}
use Rattle.sv_client.specs.declared.trace.Event.TheVariants as events
use Rattle.sv_client.specs.Traces.{asked, got}
use Rattle.sv_client.specs.Taking.{first_fault_of_reply}
use Rattle.sv_client.specs.Seen.{newly_asked}
use Rattle.sv_player.specs.Stops.{first_payload}
use Rattle.sv_player.specs.declared.buffers.Buffers.{Buffers}
use Rattle.sv_player.specs.declared.outcome.PlayerCause.{PlayerCause}
use Rattle.sv_player.specs.declared.outcome.PlayerCause.TheVariants as causes
use Rattle.sv_player.specs.declared.playing.Player.{Player}
use Rattle.sv_player.specs.Carried.{request_frames, BeginsWithReplies, Posted, PostedPart}
use Rattle.sv_script.specs.Following.{is_bye}
use Rattle.sv_script.proofs.Shifted.{bye_finishes}
use Rattle.sv_player.specs.Going.{IsGoing, Did, DidInPart, IsHere}
use Rattle.sv_script.specs.Next.{can_go_on}
use Rattle.sv_player.specs.Sessions.{IsAt, IsFirst, Got, Stopped, IsReason}
use Rattle.sv_player.proofs.Linking.{frames_append, begins_next, fits, sent_posted, sent_part, messages_more}
use Rattle.sv_player.proofs.Onward.{asks_here}
use Rattle.sv_player.proofs.Going.{follows_as, awaited_as, awaited_on, going_on, got_here}
use Rattle.sv_player.proofs.Turns.{onward_by, onward_same, begun_idle}

if_true : {X : Type 0} (b : Bool) (x y : X) → b ≡ true → (if b then x else y) ≡ x
if_true true x y e = refl
if_true false x y e = cc

pub got_one : (s : ℕ) (reply : Reply) (t : List Event) → got (events.Got s reply ∷ t) s ≡ got t s ++ reply ∷ []
got_one s reply t = if_true (eqb s s) (got t s ++ reply ∷ []) (got t s) (eq-eqb s s refl)

-- The first frame was taken off, and its payload is that which was read.
pub skipped : (before after payload : List ℕ) → first_payload before ≡ Some payload → Skips before after → TakesOff payload before after × FitsFrame payload
skipped before after payload first skips = go (first_frame before) refl first skips
  where
    go : (o : Option (List ℕ × List ℕ)) → first_frame before ≡ o → option_map (λ (f : List ℕ × List ℕ). f.0) o ≡ Some payload → IfSome o (λ (f : List ℕ × List ℕ). TakesOff f.0 before after) → TakesOff payload before after × FitsFrame payload
    go None e f k = cc
    go (Some (p, r)) e f k =
        let same : p ≡ payload = same_Some p payload f in
        subst (λ (w : List ℕ). TakesOff w before after × FitsFrame w) same (k, fits before p r e)

module _ (s : ℕ) (reply : Reply) (p q : Player) (b : Buffers) (end : Told) (at : IsAt s p b end) (here : IsHere p.client.who p.client.events p.left.now)
    (waits : can_go_on p.client.who p.client.events p.left.now ≡ false) (first : IsFirst b.inbox reply) where
  abbrev t : List Event
  t = p.client.events

  abbrev e : Event
  e = events.Got s reply

  abbrev asks : List Request
  asks = newly_asked p.client.who t e

  abbrev IsFineHere : Type 0
  IsFineHere = first_fault_of_reply p.client.who p.client.events reply ≡ None

  going : IsFineHere → Did e p.left.now p q → IsGoing q
  going fine did = going_on p q e p.left.now at.going (record { current = at.current; taken = fine }) (record { joined = here.joined; here = here.here; same = refl }) waits did

  asks_are : asked p.client.who.client p.client.who.interest (e ∷ t) s ≡ asked p.client.who.client p.client.who.interest t s ++ asks
  asks_are = asks_here p.client.who s t e at.current

  received : (reader : List ℕ) → Skips b.inbox reader → BeginsWithReplies end.received (got (e ∷ t) s) reader
  received reader skips =
      let off = skipped b.inbox reader first.payload first.first skips in
      subst (λ (gots : List Reply). BeginsWithReplies end.received gots reader) (sym (got_one s reply t))
      (begins_next end.received b.inbox reader first.payload (got t s) reply at.linked.received off.0 off.1 first.read)

  -- Its Done, if it makes one, was posted.
  pub got_goes : IsFineHere → (new : Told) (c : Buffers) → Did e p.left.now p q → Skips b.inbox c.inbox → Posted end b.outbox (request_frames asks) new c.outbox → All IsRequest asks → (is_bye reply ≡ true → c.outbox ≡ []) →
      Got s (is_bye reply) p q c new
  got_goes fine new c did skips posted messages quiet =
      record {
        reply = reply;
        turn =
            record {
              at =
                  record {
                    going = going fine did;
                    current = rw did.events at.current;
                    open_is = rw did.events at.open_is;
                    linked =
                        rw (did.who, did.events)
                        (record {
                          open_is = ap (λ (x : Told). x.closed) posted.told ∙ at.linked.open_is;
                          sent = sent_posted p.client.who t (e ∷ t) s asks asks_are end new b.inbox b.outbox c.outbox at.linked posted;
                          messages = messages_more p.client.who t (e ∷ t) s asks asks_are at.linked.messages messages;
                          received = subst (λ (bytes : List ℕ). BeginsWithReplies bytes (got (e ∷ t) s) c.inbox) (sym (ap (λ (x : Told). x.received) posted.told)) (received c.inbox skips);
                        });
                  };
              onward = onward_by s e p q refl did.who did.script did.first did.watched did.events;
              events = did.events;
            };
        left = did.left_is;
        bye_is = rw did.events (sym (bye_finishes s reply t));
        whole = quiet;
        here = λ n. rw (did.who, did.events, did.left_is) (got_here p.client.who t p.left.now s reply here fine n);
      }

  -- Sending its Done ended early.
  pub got_stops : IsFineHere → (new : Told) (reader : List ℕ) (cause : PlayerCause) → (cause ≡ causes.LinkFault) ⊎ (cause ≡ causes.Memory) → Did e p.left.now p q → Skips b.inbox reader → PostedPart end b.outbox (request_frames asks) new → is_bye reply ≡ false → Stopped s p q new cause
  got_stops fine new reader cause why did skips posted other =
      record {
        onward = onward_by s e p q refl did.who did.script did.first did.watched did.events;
        proper = (going fine did).proper;
        left = q.left.now;
        follows = (going fine did).follows;
        awaited = (going fine did).awaited;
        current = λ n. rw did.events at.current;
        open_is = rw did.events at.open_is;
        part =
            rw (did.who, did.events)
            (record {
              sent = sent_part p.client.who t (e ∷ t) s asks asks_are end new b.inbox b.outbox at.linked posted;
              rest = reader;
              received = subst (λ (bytes : List ℕ). BeginsWithReplies bytes (got (e ∷ t) s) reader) (sym (ap (λ (x : Told). x.received) posted.told)) (received reader skips);
            });
        whole = λ x y. absurd (elim why [ inl l ↦ x l | inr m ↦ y m ]);
        messages = λ x y. absurd (elim why [ inl l ↦ x l | inr m ↦ y m ]);
        told = λ n. (going fine did).told;
        going_on = λ n. rw did.events (bye_finishes s reply t ∙ other);
        idle = begun_idle q.client.who q.client.events s new.received (going fine did).proper (rw did.events at.current);
        reason = elim why [
          | inl l ↦ subst (IsReason q.client.who q.client.events q.first s new) (sym l) tt
          | inr m ↦ subst (IsReason q.client.who q.client.events q.first s new) (sym m) tt
        ];
      }

  -- Memory ended, before the reply was in the trace or after it.
  pub got_early : (reader : List ℕ) → (q.client.events ≡ e ∷ t → IsFineHere) → DidInPart e p q → Skips b.inbox reader → Stopped s p q end causes.Memory
  got_early reader fine part skips = go part.events
    where
      go : (q.client.events ≡ t) ⊎ (q.client.events ≡ e ∷ t) → Stopped s p q end causes.Memory
      go (inl same) =
          record {
            onward = onward_same s p q part.who part.script part.first part.watched same;
            proper = rw (part.who, same) at.going.proper;
            left = p.left.now;
            follows = follows_as p.client.who q.client.who p.script.now q.script.now t q.client.events p.left.now p.left.now part.who part.script same refl at.going.follows;
            awaited = awaited_as p.client.who q.client.who p.script.now q.script.now t q.client.events part.who part.script same at.going.awaited;
            current = λ n. absurd (n refl);
            open_is = rw same at.open_is;
            part = rw (part.who, same) (record { sent = (b.outbox, at.linked.sent); rest = b.inbox; received = at.linked.received });
            whole = λ x y. absurd (y refl);
            messages = λ x y. absurd (y refl);
            told = λ n. absurd (n refl);
            going_on = λ n. absurd (n refl);
            idle = rw same (begun_idle p.client.who t s end.received at.going.proper at.current);
            reason = tt;
          }
      go (inr more) =
          record {
            onward = onward_by s e p q refl part.who part.script part.first part.watched more;
            proper = rw (part.who, more) (record { current = at.current; taken = fine more }, at.going.proper);
            left = p.left.now;
            follows = follows_as p.client.who q.client.who p.script.now q.script.now (e ∷ t) q.client.events p.left.now p.left.now part.who part.script more refl (p.left.now, (at.going.follows, record { joined = here.joined; here = here.here; same = refl }));
            awaited = awaited_as p.client.who q.client.who p.script.now q.script.now (e ∷ t) q.client.events part.who part.script more (awaited_on p e at.going waits);
            current = λ n. absurd (n refl);
            open_is = rw more at.open_is;
            part =
                rw (part.who, more)
                (record {
                  sent = (b.outbox ++ request_frames asks, sym (append_assoc end.sent b.outbox (request_frames asks)) ∙ ap (λ (w : List ℕ). w ++ request_frames asks) at.linked.sent ∙ sym (ap request_frames asks_are ∙ frames_append (asked p.client.who.client p.client.who.interest t s) asks));
                  rest = reader;
                  received = received reader skips;
                });
            whole = λ x y. absurd (y refl);
            messages = λ x y. absurd (y refl);
            told = λ n. absurd (n refl);
            going_on = λ n. absurd (n refl);
            idle = rw more (begun_idle p.client.who (e ∷ t) s end.received (record { current = at.current; taken = fine more }, at.going.proper) at.current);
            reason = tt;
          }
