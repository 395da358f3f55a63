-- How the ends of a connection stand to what is asked and got, as bytes come and go.
use Rattle.std.proofs.Common.{◌≡◌, ℕ, List, [], ◌∷◌, ◌++◌, map, length, drop, Some, Ok, refl, sym, ap, ap₂, subst, ◌∙◌, arith, append_assoc, append-nil, length-take-le, length-drop}
use Rattle.std.specs.Prelude.{All}
use Rattle.std.specs.List.{AllByRecursion}
use Rattle.std.proofs.lemmas.List.{map-append}
use Rattle.std.proofs.lemmas.List.Elements.{All-append}
use Rattle.std.proofs.lemmas.Grind.{flat_map-append}
use mathlib.Core.List.{IsPrefix}
use Rattle.sv_frame.specs.Frames.{frame, frames_of, FitsFrame, first_frame, stated_length}
use Rattle.sv_frame.specs.Streams.{TakesOff}
use Rattle.sv_frame.proofs.Fronts.{parts_of_frame}
use Rattle.sv_link.specs.Ends.{Told, sending}
use Rattle.sv_wire.specs.declared.message.Request.{Request}
use Rattle.sv_wire.specs.declared.message.Reply.{Reply}
use Rattle.sv_wire.specs.Messages.{reply_at}
use Rattle.sv_wire.specs.Laws.{IsRequest}
use Rattle.sv_wire.specs.Spelling.{request_bytes}
use Rattle.sv_client.specs.declared.trace.Event.{Event}
use Rattle.sv_client.specs.Traces.{asked, got}
use Rattle.sv_client.specs.Taking.{Identity}
use Rattle.sv_player.specs.Carried.{request_frames, was_read, BeginsWithReplies, Posted, PostedPart, IsLinked, IsLinkedInPart}

-- ---- Frames

pub frames_append : (xs ys : List Request) → request_frames (xs ++ ys) ≡ request_frames xs ++ request_frames ys
unfolding request_frames
frames_append xs ys = ap frames_of (map-append request_bytes xs ys) ∙ flat_map-append frame (map request_bytes xs) (map request_bytes ys)

pub frames_none : request_frames [] ≡ []
unfolding request_frames
frames_none = refl

pub frames_one : (request : Request) → request_frames (request ∷ []) ≡ frame (request_bytes request)
unfolding request_frames
frames_one request = append-nil (frame (request_bytes request))

-- ---- Prefixes

pub prefix_of : {A : Type 0} (xs ys zs : List A) → xs ++ ys ≡ zs → IsPrefix xs zs
prefix_of xs ys zs e = (ys, e)

pub prefix_more : {A : Type 0} (xs ys zs : List A) → IsPrefix xs ys → IsPrefix xs (ys ++ zs)
prefix_more xs ys zs p = (p.0 ++ zs, sym (append_assoc xs p.0 zs) ∙ ap (λ w. w ++ zs) p.1)

pub prefix_behind : {A : Type 0} (xs ys zs : List A) → IsPrefix ys zs → IsPrefix (xs ++ ys) (xs ++ zs)
prefix_behind xs ys zs p = (p.0, append_assoc xs ys p.0 ∙ ap (λ w. xs ++ w) p.1)

-- ---- Posting

pub posted_more : (old mid new : Told) (waiting first second left last : List ℕ) → Posted old waiting first mid left → Posted mid left second new last → Posted old waiting (first ++ second) new last
posted_more old mid new waiting first second left last p q =
    record {
      sent = p.sent ++ q.sent;
      told = q.told ∙ ap (λ (t : Told). sending t q.sent) p.told ∙ ap (λ (bytes : List ℕ). record old { sent = bytes }) (append_assoc old.sent p.sent q.sent);
      all = append_assoc p.sent q.sent last ∙ ap (λ w. p.sent ++ w) q.all ∙ sym (append_assoc p.sent left second) ∙ ap (λ w. w ++ second) p.all ∙ append_assoc waiting first second;
    }

pub posted_part : (old mid new : Told) (waiting first second left : List ℕ) → Posted old waiting first mid left → PostedPart mid left second new → PostedPart old waiting (first ++ second) new
posted_part old mid new waiting first second left p q =
    record {
      sent = p.sent ++ q.sent;
      told = q.told ∙ ap (λ (t : Told). sending t q.sent) p.told ∙ ap (λ (bytes : List ℕ). record old { sent = bytes }) (append_assoc old.sent p.sent q.sent);
      part = subst (IsPrefix (p.sent ++ q.sent)) (sym (append_assoc p.sent left second) ∙ ap (λ w. w ++ second) p.all ∙ append_assoc waiting first second) (prefix_behind p.sent q.sent (left ++ second) q.part);
    }

pub part_more : (old new : Told) (waiting first second : List ℕ) → PostedPart old waiting first new → PostedPart old waiting (first ++ second) new
part_more old new waiting first second p =
    record {
      sent = p.sent;
      told = p.told;
      part = subst (IsPrefix p.sent) (append_assoc waiting first second) (prefix_more p.sent (waiting ++ first) second p.part);
    }

pub posted_none : (told : Told) (waiting : List ℕ) → Posted told waiting [] told waiting
posted_none told waiting =
    record {
      sent = [];
      told = ap (λ (bytes : List ℕ). record told { sent = bytes }) (sym (append-nil told.sent));
      all = sym (append-nil waiting);
    }

-- ---- Received replies

pub begins_none : BeginsWithReplies [] [] []
begins_none = record { payloads = []; whole = refl; fit = tt; read = refl }

pub begins_more : (stream rest bytes : List ℕ) (replies : List Reply) → BeginsWithReplies stream replies rest → BeginsWithReplies (stream ++ bytes) replies (rest ++ bytes)
begins_more stream rest bytes replies b =
    record {
      payloads = b.payloads;
      whole = ap (λ w. w ++ bytes) b.whole ∙ append_assoc (frames_of b.payloads) rest bytes;
      fit = b.fit;
      read = b.read;
    }

fit_more : (xs : List (List ℕ)) (x : List ℕ) → AllByRecursion FitsFrame xs → FitsFrame x → AllByRecursion FitsFrame (xs ++ x ∷ [])
fit_more [] x all h = (h, tt)
fit_more (y ∷ ys) x all h = (all.0, fit_more ys x all.1 h)

frames_more : (xs : List (List ℕ)) (x rest : List ℕ) → frames_of xs ++ (frame x ++ rest) ≡ frames_of (xs ++ x ∷ []) ++ rest
frames_more xs x rest =
    sym (append_assoc (frames_of xs) (frame x) rest)
    ∙ ap (λ w. w ++ rest) (ap (λ w. frames_of xs ++ w) (sym (append-nil (frame x))) ∙ sym (flat_map-append frame xs (x ∷ [])))

pub fits : (stream payload after : List ℕ) → first_frame stream ≡ Some (payload, after) → FitsFrame payload
fits stream payload after e =
    let p = parts_of_frame stream payload after e in
    let n = stated_length stream in
    let len : length payload ≡ n = ap length p.payload_is ∙ length-take-le n (drop 4 stream) (omega (arith, length-drop 4 stream, p.enough)) in
    omega (arith, p.within, len)

pub begins_next : (stream rest after payload : List ℕ) (replies : List Reply) (reply : Reply) → BeginsWithReplies stream replies rest → TakesOff payload rest after → FitsFrame payload → reply_at payload ≡ Ok reply →
    BeginsWithReplies stream (replies ++ reply ∷ []) after
begins_next stream rest after payload replies reply b t f e =
    record {
      payloads = b.payloads ++ payload ∷ [];
      whole = b.whole ∙ ap (λ w. frames_of b.payloads ++ w) t.whole ∙ frames_more b.payloads payload after;
      fit = fit_more b.payloads payload b.fit f;
      read = map-append reply_at b.payloads (payload ∷ []) ∙ ap₂ (λ x y. x ++ y ∷ []) b.read e ∙ sym (map-append was_read replies (reply ∷ []));
    }

-- ---- An end, against its client

module _ (who : Identity) (t u : List Event) (s : ℕ) (requests : List Request) (asks : asked who.client who.interest u s ≡ asked who.client who.interest t s ++ requests) where
  frames_are : request_frames (asked who.client who.interest u s) ≡ request_frames (asked who.client who.interest t s) ++ request_frames requests
  frames_are = ap request_frames asks ∙ frames_append (asked who.client who.interest t s) requests

  pub sent_posted : (old new : Told) (reader waiting left : List ℕ) → IsLinked who t s old reader waiting → Posted old waiting (request_frames requests) new left →
      new.sent ++ left ≡ request_frames (asked who.client who.interest u s)
  sent_posted old new reader waiting left l p =
      ap (λ (e : Told). e.sent ++ left) p.told
      ∙ append_assoc old.sent p.sent left
      ∙ ap (λ w. old.sent ++ w) p.all
      ∙ sym (append_assoc old.sent waiting (request_frames requests))
      ∙ ap (λ w. w ++ request_frames requests) l.sent
      ∙ sym frames_are

  pub sent_part : (old new : Told) (reader waiting : List ℕ) → IsLinked who t s old reader waiting → PostedPart old waiting (request_frames requests) new →
      IsPrefix new.sent (request_frames (asked who.client who.interest u s))
  sent_part old new reader waiting l p =
      let all : old.sent ++ (waiting ++ request_frames requests) ≡ request_frames (asked who.client who.interest u s) =
      sym (append_assoc old.sent waiting (request_frames requests)) ∙ ap (λ w. w ++ request_frames requests) l.sent ∙ sym frames_are in
      subst (λ (bytes : List ℕ). IsPrefix bytes (request_frames (asked who.client who.interest u s))) (sym (ap (λ (e : Told). e.sent) p.told))
      (subst (IsPrefix (old.sent ++ p.sent)) all (prefix_behind old.sent p.sent (waiting ++ request_frames requests) p.part))

  -- each of them is a message
  pub messages_more : All IsRequest (asked who.client who.interest t s) → All IsRequest requests → All IsRequest (asked who.client who.interest u s)
  messages_more before more = subst (All IsRequest) (sym asks) (All-append IsRequest (asked who.client who.interest t s) requests before more)

  -- what was asked was posted
  pub linked_posted : (old new : Told) (reader waiting left : List ℕ) → got u s ≡ got t s → IsLinked who t s old reader waiting → Posted old waiting (request_frames requests) new left →
      All IsRequest requests → IsLinked who u s new reader left
  linked_posted old new reader waiting left gets l p fine =
      record {
        open_is = ap (λ (e : Told). e.closed) p.told ∙ l.open_is;
        sent = sent_posted old new reader waiting left l p;
        messages = messages_more l.messages fine;
        received = subst (λ (gots : List Reply). BeginsWithReplies new.received gots reader) (sym gets) (subst (λ (bytes : List ℕ). BeginsWithReplies bytes (got t s) reader) (sym (ap (λ (e : Told). e.received) p.told)) l.received);
      }

  -- it was posted in part
  pub linked_part : (old new : Told) (reader waiting : List ℕ) → got u s ≡ got t s → IsLinked who t s old reader waiting → PostedPart old waiting (request_frames requests) new → IsLinkedInPart who u s new
  linked_part old new reader waiting gets l p =
      record {
        sent = sent_part old new reader waiting l p;
        rest = reader;
        received = subst (λ (gots : List Reply). BeginsWithReplies new.received gots reader) (sym gets) (subst (λ (bytes : List ℕ). BeginsWithReplies bytes (got t s) reader) (sym (ap (λ (e : Told). e.received) p.told)) l.received);
      }

  -- nothing of it was posted
  pub linked_still : (end : Told) (reader waiting : List ℕ) → got u s ≡ got t s → IsLinked who t s end reader waiting → IsLinkedInPart who u s end
  linked_still end reader waiting gets l =
      record {
        sent = (waiting ++ request_frames requests, sym (append_assoc end.sent waiting (request_frames requests)) ∙ ap (λ w. w ++ request_frames requests) l.sent ∙ sym frames_are);
        rest = reader;
        received = subst (λ (gots : List Reply). BeginsWithReplies end.received gots reader) (sym gets) l.received;
      }
