-- What a connection's calls change of it.
use Rattle.std.proofs.Common.{◌≡◌, ◌≢◌, ℕ, ◌+◌, ◌<◌, inl, inr, false, List, [], ◌∷◌, ◌++◌, length, take, drop, get_or, Some, Result, Ok, Err, refl, sym, ap, subst, ◌∙◌, arith, append-nil, append_assoc}
use Rattle.std.specs.Prelude.{IsErrAnd, OnOk}
use Rattle.std.proofs.lemmas.List.{length-append, take-append-drop, take_more, drop_all}
use Rattle.sv_frame.specs.Frames.{frame}
use Rattle.sv_frame.specs.Answers.{ReadsInto}
use Rattle.sv_link.specs.Ends.{Told, Sends as TellsSent, sending, receiving, EndReadCause, SentCause}
use Rattle.sv_link.specs.declared.ends.EndRead.{EndRead}
use Rattle.sv_link.specs.declared.ends.EndRead.TheVariants as reads
use Rattle.sv_link.specs.declared.ends.Sent.{Sent}
use Rattle.sv_link.specs.declared.ends.Sent.TheVariants as answers
use Rattle.sv_wire.specs.declared.message.Reply.{Reply}
use Rattle.sv_wire.specs.declared.message.Request.{Request}
use Rattle.sv_wire.specs.Spelling.{request_bytes}
use Rattle.sv_exchange.specs.Incoming.{first_payload_of}
use Rattle.sv_exchange.specs.Outgoing.{Posts, LeavesUnsent}
use Rattle.sv_pilot.specs.declared.trouble.Trouble.{Trouble}
use Rattle.sv_pilot.specs.declared.trouble.Trouble.TheVariants as troubles
use Rattle.sv_pilot.specs.Lines.{Line, IsCalm, IsPartial, request_frames, asking}
use Rattle.sv_pilot.specs.Sending.{trouble_of_sent, trouble_of_read, HasSent, HasRead, Sends, IsSendFault, IsSent, IsReceiveFault, IsReadOn, IsReplyOf, IsFrontRead, IsReceived}
use Rattle.sv_pilot.proofs.Taking.{calm_more, request_frames_append}

-- ---- Sending

sent_on : (old new : Line) (bytes unsent : List ℕ) → new.told ≡ sending old.told bytes → new.came ≡ old.came → bytes ++ unsent ≡ old.waits → HasSent old new unsent
sent_on old new bytes unsent e same order = record {
  sent = bytes;
  line = record {
    sends = ap (λ (t : Told). t.sent) e;
    receives = ap (λ (t : Told). t.received) e ∙ sym (append-nil old.told.received);
    pair = ap (λ (t : Told). t.pair) e;
    side = ap (λ (t : Told). t.side) e;
  };
  in_order = order;
  came = same;
}

-- The end was given a message, behind what waited.
pub posted : (old new : Line) (request : Request) (answer : Sent) (r : Result Unit Trouble) → r ≡ trouble_of_sent answer
    → Posts old.told old.waits (frame (request_bytes request)) answer new.told new.waits → new.came ≡ old.came → Sends (asking old (request ∷ [])) new r
posted old new request answer r is p same = subst (Sends (asking old (request ∷ [])) new) (sym is) (by answer p)
  where
    one : request_frames (request ∷ []) ≡ frame (request_bytes request)
    one = append-nil (frame (request_bytes request))

    before : (rest : List ℕ) → (sent : List ℕ) → sent ++ rest ≡ old.waits → sent ++ (rest ++ request_frames (request ∷ [])) ≡ old.waits ++ request_frames (request ∷ [])
    before rest sent e = sym (append_assoc sent rest (request_frames (request ∷ []))) ∙ ap (λ (s : List ℕ). s ++ request_frames (request ∷ [])) e

    broken : (a : Sent) → (q : Posts old.told old.waits (frame (request_bytes request)) a new.told new.waits) → a ≢ answers.Whole → (unsent : List ℕ) × HasSent (asking old (request ∷ [])) new unsent
    broken a q not =
        let front = q.part not in
        (front.0 ++ request_frames (request ∷ []), sent_on (asking old (request ∷ [])) new q.sent (front.0 ++ request_frames (request ∷ [])) q.told same (before front.0 q.sent front.1))

    by : (a : Sent) → Posts old.told old.waits (frame (request_bytes request)) a new.told new.waits → Sends (asking old (request ∷ [])) new (trouble_of_sent a)
    by answers.Whole q = (new.waits, sent_on (asking old (request ∷ [])) new q.sent new.waits q.told same (q.whole refl ∙ ap (λ (s : List ℕ). old.waits ++ s) (sym one)), refl)
    by answers.Failed q = let b = broken answers.Failed q (λ e. cc) in (b.0, b.1, tt)
    by answers.Memory q = let b = broken answers.Memory q (λ e. cc) in (b.0, b.1, tt)

-- All that waited was sent, or a front part.
pub flushed : (old new : Line) (answer : Sent) (r : Result Unit Trouble) → r ≡ trouble_of_sent answer → TellsSent old.told old.waits answer new.told → LeavesUnsent answer old.waits new.waits
    → new.came ≡ old.came → Sends old new r
flushed old new answer r is s left same = subst (Sends old new) (sym is) (by answer s left)
  where
    some_sent : (a : Sent) (q : TellsSent old.told old.waits a new.told) → HasSent old new (drop q.size old.waits)
    some_sent a q = sent_on old new (take q.size old.waits) (drop q.size old.waits) q.grew same (take-append-drop q.size old.waits)

    by : (a : Sent) → TellsSent old.told old.waits a new.told → LeavesUnsent a old.waits new.waits → Sends old new (trouble_of_sent a)
    by answers.Whole q none = (drop q.size old.waits, some_sent answers.Whole q, let full = q.whole refl in drop_all q.size old.waits (omega (arith, full)) ∙ sym none)
    by answers.Failed q none = (drop q.size old.waits, some_sent answers.Failed q, tt)
    by answers.Memory q none = (drop q.size old.waits, some_sent answers.Memory q, tt)

pub none_waits : (old new : Line) (answer : Sent) (r : Result Unit Trouble) → r ≡ trouble_of_sent answer → LeavesUnsent answer old.waits new.waits → OnOk r (new.waits ≡ [])
none_waits old new answer r is left = subst (λ (q : Result Unit Trouble). OnOk q (new.waits ≡ [])) (sym is) (by answer left)
  where
    by : (a : Sent) → LeavesUnsent a old.waits new.waits → OnOk (trouble_of_sent a) (new.waits ≡ [])
    by answers.Whole e = e
    by answers.Failed e = tt
    by answers.Memory e = tt

sent_so : (old new : Line) (bytes : List ℕ) (answer : Sent) → new.told ≡ sending old.told bytes → SentCause old.faults new.faults answer → IsSent old new (trouble_of_sent answer)
sent_so old new bytes answers.Whole e cause = record { faults = cause; ended = ap (λ (t : Told). t.ended) e }
sent_so old new bytes answers.Failed e cause = cause
sent_so old new bytes answers.Memory e cause = record { faults = cause; ended = ap (λ (t : Told). t.ended) e }

pub sent_by : (old new : Line) (bytes : List ℕ) (answer : Sent) (r : Result Unit Trouble) → r ≡ trouble_of_sent answer → new.told ≡ sending old.told bytes → SentCause old.faults new.faults answer → IsSent old new r
sent_by old new bytes answer r is e cause = subst (IsSent old new) (sym is) (sent_so old new bytes answer e cause)

-- ---- Several requests

-- No request was sent yet.
pub none_sent : (l : Line) → HasSent (asking l []) l l.waits
none_sent l = record {
  sent = [];
  line = record { sends = sym (append-nil l.told.sent); receives = sym (append-nil l.told.received); pair = refl; side = refl };
  in_order = sym (append-nil l.waits);
  came = refl;
}

-- Behind some requests that were put, more were sent.
pub sent_next : (a b c : Line) (rs ss : List Request) (unsent : List ℕ) → HasSent (asking a rs) b b.waits → HasSent (asking b ss) c unsent → HasSent (asking a (rs ++ ss)) c unsent
sent_next a b c rs ss unsent h k =
    let order : h.sent ++ (b.waits ++ request_frames ss) ≡ a.waits ++ request_frames (rs ++ ss) =
    sym (append_assoc h.sent b.waits (request_frames ss)) ∙ ap (λ (s : List ℕ). s ++ request_frames ss) h.in_order ∙ append_assoc a.waits (request_frames rs) (request_frames ss)
    ∙ ap (λ (s : List ℕ). a.waits ++ s) (sym (request_frames_append rs ss)) in
    record {
      sent = h.sent ++ k.sent;
      line = record {
        sends = k.line.sends ∙ ap (λ (s : List ℕ). s ++ k.sent) h.line.sends ∙ append_assoc a.told.sent h.sent k.sent;
        receives = k.line.receives ∙ ap (λ (s : List ℕ). s ++ []) h.line.receives ∙ append-nil (a.told.received ++ []);
        pair = k.line.pair ∙ h.line.pair;
        side = k.line.side ∙ h.line.side;
      };
      in_order = append_assoc h.sent k.sent unsent ∙ ap (λ (s : List ℕ). h.sent ++ s) k.in_order ∙ order;
      came = k.came ∙ h.came;
    }

-- A request of several was not put, and so none behind it.
pub sent_before : (a b : Line) (rs ss : List Request) (unsent : List ℕ) → HasSent (asking a rs) b unsent → HasSent (asking a (rs ++ ss)) b (unsent ++ request_frames ss)
sent_before a b rs ss unsent h = record {
  sent = h.sent;
  line = record { sends = h.line.sends; receives = h.line.receives; pair = h.line.pair; side = h.line.side };
  in_order = sym (append_assoc h.sent unsent (request_frames ss)) ∙ ap (λ (s : List ℕ). s ++ request_frames ss) h.in_order ∙ append_assoc a.waits (request_frames rs) (request_frames ss)
      ∙ ap (λ (s : List ℕ). a.waits ++ s) (sym (request_frames_append rs ss));
  came = h.came;
}

pub fault_later : (old mid new : Line) (trouble : Trouble) → IsCalm old mid → IsSendFault mid new trouble → IsSendFault old new trouble
fault_later old mid new troubles.Link calm why = subst (λ (n : ℕ). n < new.faults) calm.faults why
fault_later old mid new troubles.Reply calm why = absurd why
fault_later old mid new troubles.Game calm why = absurd why
fault_later old mid new troubles.Memory calm why = calm_more old mid new calm why

module _ (a b c : Line) (requests : List Request) (i : ℕ) (request : Request) (unsent : List ℕ) (within : i < length requests) (is : request ≡ get_or requests i request) where
  next : take (i + 1) requests ≡ take i requests ++ request ∷ []
  next = take_more requests i request within ∙ ap (λ (r : Request). take i requests ++ r ∷ []) (sym is)

  -- The next of several requests was put.
  pub sent_step : HasSent (asking a (take i requests)) b b.waits → HasSent (asking b (request ∷ [])) c unsent → HasSent (asking a (take (i + 1) requests)) c unsent
  sent_step h k = subst (λ (rs : List Request). HasSent (asking a rs) c unsent) (sym next) (sent_next a b c (take i requests) (request ∷ []) unsent h k)

  -- The next of several requests was not put, and so none behind it.
  pub sent_until : HasSent (asking a (take i requests)) b b.waits → HasSent (asking b (request ∷ [])) c unsent → HasSent (asking a requests) c (unsent ++ request_frames (drop (i + 1) requests))
  sent_until h k = subst (λ (rs : List Request). HasSent (asking a rs) c (unsent ++ request_frames (drop (i + 1) requests))) (take-append-drop (i + 1) requests)
      (sent_before a c (take (i + 1) requests) (drop (i + 1) requests) unsent (sent_step h k))

-- ---- Reading

grown : (old new : Line) (bytes : List ℕ) → new.told ≡ receiving old.told bytes → new.came ≡ old.came ++ bytes → new.waits ≡ old.waits → HasRead old new new.waits
grown old new bytes e came waits = record {
  sent = [];
  received = bytes;
  line = record {
    sends = ap (λ (t : Told). t.sent) e ∙ sym (append-nil old.told.sent);
    receives = ap (λ (t : Told). t.received) e;
    pair = ap (λ (t : Told). t.pair) e;
    side = ap (λ (t : Told). t.side) e;
  };
  in_order = waits;
  came = came;
}

stood : (old new : Line) → new.told.sent ≡ old.told.sent → new.told.received ≡ old.told.received → new.told.pair ≡ old.told.pair → new.told.side ≡ old.told.side → new.came ≡ old.came → new.waits ≡ old.waits
    → HasRead old new new.waits
stood old new s r p d came waits = record {
  sent = [];
  received = [];
  line = record { sends = s ∙ sym (append-nil old.told.sent); receives = r ∙ sym (append-nil old.told.received); pair = p; side = d };
  in_order = waits;
  came = came ∙ sym (append-nil old.came);
}

pub read_by : (old new : Line) (answer : EndRead) → ReadsInto old.told old.came answer new.told new.came → new.waits ≡ old.waits → HasRead old new new.waits
read_by old new (reads.Got n) r waits = grown old new r.bytes r.told r.rest waits
read_by old new reads.Ended r waits =
    stood old new (ap (λ (t : Told). t.sent) r.0) (ap (λ (t : Told). t.received) r.0) (ap (λ (t : Told). t.pair) r.0) (ap (λ (t : Told). t.side) r.0) r.1 waits
read_by old new reads.Failed r waits =
    stood old new (ap (λ (t : Told). t.sent) r.0) (ap (λ (t : Told). t.received) r.0) (ap (λ (t : Told). t.pair) r.0) (ap (λ (t : Told). t.side) r.0) r.1 waits
read_by old new reads.Memory r waits =
    stood old new (ap (λ (t : Told). t.sent) r.0) (ap (λ (t : Told). t.received) r.0) (ap (λ (t : Told). t.pair) r.0) (ap (λ (t : Told). t.side) r.0) r.1 waits

read_so : (old new : Line) (answer : EndRead) → IsPartial old.came → ReadsInto old.told old.came answer new.told new.came → EndReadCause old.faults new.faults answer → IsReadOn old new (trouble_of_read answer)
read_so old new (reads.Got n) partial r cause =
    let long : length new.came ≡ length old.came + length r.bytes = ap (λ (xs : List ℕ). length xs) r.rest ∙ length-append old.came r.bytes in
    (record { faults = cause; ended = ap (λ (t : Told). t.ended) r.told }, omega (arith, long, r.size, r.some))
read_so old new reads.Ended partial r cause = inr (record { ended = ap (λ (t : Told). t.ended) r.0; partial = subst IsPartial (sym r.1) partial })
read_so old new reads.Failed partial r cause = inl cause
read_so old new reads.Memory partial r cause = record { faults = cause; ended = ap (λ (t : Told). t.ended) r.0 }

pub read_on_by : (old new : Line) (answer : EndRead) (r : Result Unit Trouble) → r ≡ trouble_of_read answer → IsPartial old.came → ReadsInto old.told old.came answer new.told new.came → EndReadCause old.faults new.faults answer
    → IsReadOn old new r
read_on_by old new answer r is partial came cause = subst (IsReadOn old new) (sym is) (read_so old new answer partial came cause)

-- An end stays open while it is read.
pub stays_open : (old new : Told) (before after : List ℕ) (answer : EndRead) → ReadsInto old before answer new after → old.closed ≡ false → new.closed ≡ false
stays_open old new before after (reads.Got n) r o = ap (λ (t : Told). t.closed) r.told ∙ o
stays_open old new before after reads.Ended r o = ap (λ (t : Told). t.closed) r.0 ∙ o
stays_open old new before after reads.Failed r o = ap (λ (t : Told). t.closed) r.0 ∙ o
stays_open old new before after reads.Memory r o = ap (λ (t : Told). t.closed) r.0 ∙ o

-- ---- Waiting

pub front_by : (came payload : List ℕ) (r : Result Reply Trouble) → first_payload_of came ≡ Some payload → IsReplyOf payload r → IsFrontRead came r
front_by came payload (Ok reply) e i = (record { payload = payload; first = e; is = i.0 }, i.1)
front_by came payload (Err troubles.Link) e i = absurd i
front_by came payload (Err troubles.Reply) e i = inl (i.0, record { payload = payload; first = e; is = i.1 })
front_by came payload (Err troubles.Game) e i = absurd i
front_by came payload (Err troubles.Memory) e i = tt

pub received_by : (old new : Line) (r : Result Reply Trouble) → IsCalm old new → IsFrontRead new.came r → IsReceived old new r
received_by old new (Ok reply) calm i = (calm, i.0, i.1)
received_by old new (Err troubles.Link) calm i = absurd i
received_by old new (Err troubles.Reply) calm i = (calm, i)
received_by old new (Err troubles.Game) calm i = absurd i
received_by old new (Err troubles.Memory) calm i = calm

pub receive_later : (old mid new : Line) (trouble : Trouble) → IsCalm old mid → IsReceiveFault mid new trouble → IsReceiveFault old new trouble
receive_later old mid new troubles.Link calm (inl rose) = inl (subst (λ (n : ℕ). n < new.faults) calm.faults rose)
receive_later old mid new troubles.Link calm (inr ended) = inr ended
receive_later old mid new troubles.Reply calm why = (calm_more old mid new calm why.0, why.1)
receive_later old mid new troubles.Memory calm why = calm_more old mid new calm why
receive_later old mid new troubles.Game calm why = absurd why

pub received_later : (old mid new : Line) (r : Result Reply Trouble) → IsCalm old mid → IsReceived mid new r → IsReceived old new r
received_later old mid new (Ok reply) calm i = (calm_more old mid new calm i.0, i.1, i.2)
received_later old mid new (Err trouble) calm i = receive_later old mid new trouble calm i

-- What stops a sending stops a receiving.
pub sending_stops : (old new : Line) (trouble : Trouble) → IsSendFault old new trouble → IsReceiveFault old new trouble
sending_stops old new troubles.Link why = inl why
sending_stops old new troubles.Reply why = absurd why
sending_stops old new troubles.Game why = absurd why
sending_stops old new troubles.Memory why = why

-- ---- Passing on

pub failed_by : {A : Type 0} (r : Result A Trouble) (e : Trouble) → IsErrAnd r (λ (x : Trouble). x ≡ e) → (P : Result A Trouble → Type 0) → P (Err e) → P r
failed_by (Ok a) e i P p = absurd i
failed_by (Err x) e i P p = subst (λ (y : Trouble). P (Err y)) (sym i) p
