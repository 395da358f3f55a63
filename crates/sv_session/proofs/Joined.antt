-- Rounds one after the other.
use Rattle.std.proofs.Common.{◌≡◌, ℕ, List, [], ◌∷◌, ◌++◌, length, None, refl, sym, ap, subst, ◌∙◌, append_assoc, append-nil}
use Rattle.std.specs.Prelude.{All, reverse, Bool, false, ◌<◌, unwrap_or, IsSome}
use Rattle.std.proofs.lemmas.List.{map-append, append_cancel_left}
use Rattle.std.proofs.lemmas.List.Elements.{All-append, All-nil}
use mathlib.Core.List.{IsPrefix}
use Rattle.sv_frame.specs.Frames.{too_long}
use Rattle.sv_frame.specs.Streams.{split_frames}
use Rattle.sv_journal.specs.declared.entry.Entry.{Entry}
use Rattle.sv_journal.specs.Sessions.{is_end}
use Rattle.sv_journal.specs.History.{accepted}
use Rattle.sv_journal.specs.Text.{NamesAccepted}
use Rattle.sv_journal.specs.Answer.{Rules, MayBeSession}
use Rattle.sv_journal.specs.Laws.{AreWithinLimits, FullRepliesStay}
use Rattle.sv_lock.specs.Passes.{LockView, session_number}
use Rattle.sv_lock.proofs.Histories.{prefix_self, prefix_trans}
use Rattle.sv_link.specs.Ends.{Told}
use Rattle.sv_session.specs.Requests.{requests_read, entry_requests, due_frames, stop_after, StopsFor}
use Rattle.sv_session.specs.Serving.{SessionPass, IsSamePass, MayServe, LoopBreaksOff, TookAll, ExplainsOut, ended_by}
use Rattle.sv_session.specs.Rounds.{Stand, BeginsWithRequests, StepsOn, LoopGoesOn, Halts}
use Rattle.sv_session.specs.declared.outcome.SessionOut.{SessionOut}
use Rattle.sv_session.specs.declared.outcome.SessionOut.TheVariants as outs
use Rattle.sv_session.proofs.Streams.{begins_with_none, begins_and_more, begins_twice, begins_so, leaves_so}
use Rattle.sv_session.proofs.Stops.{on_after}
use Rattle.sv_session.proofs.Replies.{frames_of_both, frames_of_none, named_on, frames_on}

-- ---- Passes

pub same_twice : (a b c : SessionPass) → IsSamePass a b → IsSamePass b c → IsSamePass a c
same_twice a b c p q =
    record { lock = q.lock ∙ p.lock; session = q.session ∙ p.session; base = q.base ∙ p.base; made = q.made ∙ p.made; ended = q.ended ∙ p.ended }

pub same_self : (a : SessionPass) → IsSamePass a a
same_self a = record { lock = refl; session = refl; base = refl; made = refl; ended = refl }

pub steps_twice : (a : SessionPass) (x : List Entry) (b : SessionPass) (y : List Entry) (c : SessionPass) → StepsOn a x b → StepsOn b y c → StepsOn a (x ++ y) c
steps_twice a x b y c p q =
    record {
      same = same_twice a b c p.same q.same;
      goes_on = prefix_trans a.seen b.seen c.seen p.goes_on q.goes_on;
      mine = q.mine ∙ (ap (λ (l : List Entry). l ++ y) p.mine ∙ append_assoc a.mine x y);
      named = All-append (λ (e : Entry). NamesAccepted (length (accepted (reverse c.seen))) e.reply) x y (named_on b.seen c.seen x q.goes_on p.named) q.named;
    }

pub steps_none : (a : SessionPass) → StepsOn a [] a
steps_none a = record { same = same_self a; goes_on = prefix_self a.seen; mine = sym (append-nil a.mine); named = All-nil (λ (e : Entry). NamesAccepted (length (accepted (reverse a.seen))) e.reply) }

-- a session that may be served may be served on
pub may_go_on : (lock : LockView) (a b : SessionPass) (x : List Entry) → MayServe lock a → StepsOn a x b → All (λ (e : Entry). is_end e.request ≡ false) x → MayServe lock b
may_go_on lock a b x may steps no_end =
    let same = steps.same in
    record {
      own = same.lock ∙ may.own;
      session = subst (λ o. IsSome o) (sym same.session) may.session;
      number = subst (λ o. MayBeSession b.base.sessions (unwrap_or o 0)) (sym same.session) (subst (λ (r : Rules). MayBeSession r.sessions (session_number a)) (sym same.base) may.number);
      limits = subst AreWithinLimits (sym same.base) may.limits;
      unended = subst (λ (l : List Entry). All (λ (e : Entry). is_end e.request ≡ false) l) (sym steps.mine) (All-append (λ (e : Entry). is_end e.request ≡ false) a.mine x may.unended no_end);
    }

-- ---- Lists

prefix_under : {X : Type 0} (s a b : List X) → IsPrefix a b → IsPrefix (s ++ a) (s ++ b)
prefix_under s a b p = (p.0, append_assoc s a p.0 ∙ ap (λ l. s ++ l) p.1)

-- ---- Told

joined_told : (told : Told) (s t : List ℕ) (r q : List ℕ) → record told { sent = (told.sent ++ s) ++ t; received = (told.received ++ r) ++ q } ≡ record told { sent = told.sent ++ (s ++ t); received = told.received ++ (r ++ q) }
joined_told told s t r q =
    ap (λ (l : List ℕ). record told { sent = l; received = (told.received ++ r) ++ q }) (append_assoc told.sent s t)
    ∙ ap (λ (l : List ℕ). record told { sent = told.sent ++ (s ++ t); received = l }) (append_assoc told.received r q)

joined_last : (told : Told) (s t : List ℕ) (r q : List ℕ) (ended : Bool) →
    record told { sent = (told.sent ++ s) ++ t; received = (told.received ++ r) ++ q; ended = ended } ≡ record told { sent = told.sent ++ (s ++ t); received = told.received ++ (r ++ q); ended = ended }
joined_last told s t r q ended = ap (λ (u : Told). record u { ended = ended }) (joined_told told s t r q)

-- ---- What an outcome says, after more rounds

explains_later : (out : SessionOut) (stream rest : List ℕ) (x y : List Entry) (s t due left : List ℕ) → stop_after x ≡ None → requests_read stream ≡ entry_requests x ++ requests_read rest →
    too_long (split_frames stream).1 ≡ too_long (split_frames rest).1 → due ≡ s ++ left → ExplainsOut out rest y t left → ExplainsOut out stream (x ++ y) (s ++ t) due
explains_later out stream rest x y s t due left on asked same is = by_out out
  where
    stops_later : (reason : SessionOut) → StopsFor reason y × (t ≡ left) → StopsFor reason (x ++ y) × (s ++ t ≡ due)
    stops_later reason f = (
      record {
        before = x ++ f.0.before;
        last = f.0.last;
        are = ap (λ l. x ++ l) f.0.are ∙ sym (append_assoc x f.0.before (f.0.last ∷ []));
        on = on_after x f.0.before on ∙ f.0.on;
        stop = f.0.stop;
        leave = f.0.leave;
      },
      ap (λ l. s ++ l) f.1 ∙ sym is,
    )

    breaks_later : LoopBreaksOff y → LoopBreaksOff (x ++ y)
    breaks_later f = record {
      before = x ++ f.before;
      last = f.last;
      are = ap (λ l. x ++ l) f.are ∙ sym (append_assoc x f.before f.last);
      few = f.few;
      on = on_after x f.before on ∙ f.on;
    }

    all_later : TookAll rest y × (t ≡ left) → TookAll stream (x ++ y) × (s ++ t ≡ due)
    all_later f = (
      record {
        on = on_after x y on ∙ f.0.on;
        all = map-append (λ (e : Entry). e.request) x y ∙ (ap (λ l. entry_requests x ++ l) f.0.all ∙ sym asked);
        rest = same ∙ f.0.rest;
      },
      ap (λ l. s ++ l) f.1 ∙ sym is,
    )

    by_out : (out : SessionOut) → ExplainsOut out rest y t left → ExplainsOut out stream (x ++ y) (s ++ t) due
    by_out outs.Left f = stops_later outs.Left f
    by_out outs.Closed f = all_later f
    by_out outs.Ended f = stops_later outs.Ended f
    by_out outs.Malformed f = stops_later outs.Malformed f
    by_out outs.Spent f = stops_later outs.Spent f
    by_out outs.LinkFault f = breaks_later f
    by_out outs.Memory f = breaks_later f

-- ---- Rounds

module _ (law : FullRepliesStay) (a b : Stand) (p : LoopGoesOn a b) where
  -- what is due after more rounds, and what was sent of it
  due_later : (after : SessionPass) (y : List Entry) → IsPrefix b.pass.seen after.seen → a.outbox ++ due_frames after.seen (p.answered ++ y) ≡ p.sent ++ (b.outbox ++ due_frames after.seen y)
  due_later after y goes_on =
      ap (λ l. a.outbox ++ l) (frames_of_both after.seen p.answered y)
      ∙ (ap (λ l. a.outbox ++ (l ++ due_frames after.seen y)) (frames_on law b.pass.seen after.seen p.answered goes_on p.steps.named)
      ∙ (sym (append_assoc a.outbox (due_frames b.pass.seen p.answered) (due_frames after.seen y))
      ∙ (ap (λ l. l ++ due_frames after.seen y) (sym p.replies) ∙ append_assoc p.sent b.outbox (due_frames after.seen y))))

  -- what came goes on from what was not taken
  begins_later : (more : List ℕ) → BeginsWithRequests (a.inbox ++ (p.received ++ more)) (entry_requests p.answered) (b.inbox ++ more)
  begins_later more =
      subst (λ s. BeginsWithRequests s (entry_requests p.answered) (b.inbox ++ more)) (append_assoc a.inbox p.received more)
      (begins_and_more (a.inbox ++ p.received) more (entry_requests p.answered) b.inbox p.requests)

  pub onward_twice : (c : Stand) → LoopGoesOn b c → LoopGoesOn a c
  onward_twice c q =
      record {
        received = p.received ++ q.received;
        sent = p.sent ++ q.sent;
        answered = p.answered ++ q.answered;
        told = q.told ∙ (ap (λ (t : Told). record t { sent = t.sent ++ q.sent; received = t.received ++ q.received }) p.told ∙ joined_told a.told p.sent q.sent p.received q.received);
        steps = steps_twice a.pass p.answered b.pass q.answered c.pass p.steps q.steps;
        no_end = All-append (λ (e : Entry). is_end e.request ≡ false) p.answered q.answered p.no_end q.no_end;
        requests = subst (λ l. BeginsWithRequests (a.inbox ++ (p.received ++ q.received)) l c.inbox) (sym (map-append (λ (e : Entry). e.request) p.answered q.answered))
            (begins_twice (a.inbox ++ (p.received ++ q.received)) (entry_requests p.answered) (b.inbox ++ q.received) (entry_requests q.answered) c.inbox (begins_later q.received) q.requests);
        replies = append_assoc p.sent q.sent c.outbox ∙ (ap (λ l. p.sent ++ l) q.replies ∙ sym (due_later c.pass q.answered q.steps.goes_on));
        on = on_after p.answered q.answered p.on ∙ q.on;
      }

  pub halts_later : (out : SessionOut) (new : Told) (after : SessionPass) → Halts b out new after → Halts a out new after
  halts_later out new after q =
      let due = due_later after q.answered q.steps.goes_on in
      let begins = begins_later q.received in
      let asked = begins_so _ _ _ begins in
      record {
        received = p.received ++ q.received;
        sent = p.sent ++ q.sent;
        answered = p.answered ++ q.answered;
        told = q.told ∙ (ap (λ (t : Told). record t { sent = t.sent ++ q.sent; received = t.received ++ q.received; ended = ended_by out t.ended }) p.told
            ∙ joined_last a.told p.sent q.sent p.received q.received (ended_by out a.told.ended));
        steps = steps_twice a.pass p.answered b.pass q.answered after p.steps q.steps;
        no_end = All-append (λ (e : Entry). is_end e.request ≡ false) p.answered q.answered p.no_end q.no_end;
        requests = subst (λ l. IsPrefix l (requests_read (a.inbox ++ (p.received ++ q.received)))) (sym (map-append (λ (e : Entry). e.request) p.answered q.answered))
            (subst (λ l. IsPrefix (entry_requests p.answered ++ entry_requests q.answered) l) (sym asked) (prefix_under (entry_requests p.answered) (entry_requests q.answered) _ q.requests));
        replies = subst (λ l. IsPrefix (p.sent ++ q.sent) l) (sym due) (prefix_under p.sent q.sent _ q.replies);
        cause = explains_later out (a.inbox ++ (p.received ++ q.received)) (b.inbox ++ q.received) p.answered q.answered p.sent q.sent _ _ p.on asked (leaves_so _ _ _ begins) due q.cause;
        exactly = λ reason stop all. q.exactly reason (sym (on_after p.answered q.answered p.on) ∙ stop) (append_cancel_left p.sent q.sent _ (all ∙ due));
      }

pub onward_self : (a : Stand) → LoopGoesOn a a
onward_self a =
    record {
      received = [];
      sent = [];
      answered = [];
      told = sym (ap (λ (l : List ℕ). record a.told { sent = l; received = a.told.received ++ [] }) (append-nil a.told.sent) ∙ ap (λ (l : List ℕ). record a.told { received = l }) (append-nil a.told.received));
      steps = steps_none a.pass;
      no_end = All-nil (λ (e : Entry). is_end e.request ≡ false);
      requests = subst (λ s. BeginsWithRequests s [] a.inbox) (sym (append-nil a.inbox)) (begins_with_none a.inbox);
      replies = sym (ap (λ l. a.outbox ++ l) (frames_of_none a.pass.seen) ∙ append-nil a.outbox);
      on = refl;
    }
