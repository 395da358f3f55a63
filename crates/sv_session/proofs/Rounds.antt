-- What one round makes of a session: a request is answered, or the end is read.
use Rattle.std.proofs.Common.{◌≡◌, ◌≢◌, ℕ, List, [], ◌∷◌, ◌++◌, length, Option, Some, None, Result, Ok, Err, ◌⊎◌, inl, inr, refl, sym, ap, subst, ◌∙◌, append_assoc, append-nil, arith}
use Rattle.std.specs.Prelude.{All, Bool, false, IsSome, IfOk, reverse}
use Rattle.std.specs.List.{AllByRecursion}
use Rattle.std.proofs.lemmas.List.{reverse-append, reverse-reverse}
use Rattle.std.proofs.lemmas.List.Elements.{All-nil, All-from_recursion, recursion_from_All}
use mathlib.Core.List.{IsPrefix}
use Rattle.sv_frame.specs.Frames.{frame, first_frame, too_long}
use Rattle.sv_frame.specs.Streams.{split_frames}
use Rattle.sv_wire.specs.declared.message.Reply.{Reply}
use Rattle.sv_wire.specs.declared.message.Request.{Request}
use Rattle.sv_wire.specs.declared.message.Request.TheVariants as requests
use Rattle.sv_wire.specs.Grammar.{IsWireReply}
use Rattle.sv_wire.specs.Spelling.{reply_bytes}
use Rattle.sv_journal.specs.declared.entry.Entry.{Entry}
use Rattle.sv_journal.specs.History.{accepted, full_reply, logged_of}
use Rattle.sv_journal.specs.Sessions.{is_end}
use Rattle.sv_journal.specs.Answer.{Rules, Legal, reply_to}
use Rattle.sv_journal.specs.Laws.{AreWithinLimits, LegalRelaysNameAccepted, LegalRepliesAreMessages}
use Rattle.sv_journal.specs.Text.{NamesAccepted, RelaysNameAccepted}
use Rattle.sv_sequencer.specs.Shared.{IsFullReply, IsFullInOrder}
use Rattle.sv_journal.specs.History.{entry_of}
use Rattle.sv_lock.specs.Histories.{GoesOnTo}
use Rattle.sv_lock.specs.Passes.{session_number}
use Rattle.sv_link.specs.Ends.{Told}
use Rattle.sv_session.specs.Requests.{requests_read, due_frames, stop_of, stop_after, StopsFor}
use Rattle.sv_session.specs.Serving.{SessionPass, IsSamePass, LoopBreaksOff, ExplainsOut, ended_by}
use Rattle.sv_session.specs.Answers.{IsReplyPosted, ReadsOnOrEnds, IsRound}
use Rattle.sv_session.specs.Rounds.{Stand, stand, BeginsWithRequests, TakesOffRequest, StepsOn, Steps, IsBroken, PostsOn, PostsLast, ReadsOn, ReadsLast, LoopGoesOn, Halts}
use Rattle.sv_session.specs.declared.outcome.SessionOut.{SessionOut}
use Rattle.sv_session.specs.declared.outcome.SessionOut.TheVariants as outs
use Rattle.sv_session.proofs.Streams.{begins_with_none, none_yet, none_left}
use Rattle.sv_session.proofs.Stops.{left_by_leave, bad_stops, stop_alone, each_reason}
use Rattle.sv_session.proofs.Replies.{frames_of_one, frames_of_none}
use Rattle.sv_session.proofs.Joined.{steps_none}

-- ---- A step

one : {X : Type 0} (P : X → Type 0) (x : X) → P x → All P (x ∷ [])
one P x p = All-from_recursion P (x ∷ []) (p, tt)

lasts : {X : Type 0} (P : X → Type 0) (xs : List X) (x : X) → AllByRecursion P (xs ++ x ∷ []) → P x
lasts P [] x f = f.0
lasts P (y ∷ ys) x f = lasts P ys x f.1

last_of : {X : Type 0} (P : X → Type 0) (xs : List X) (x : X) → All P (xs ++ x ∷ []) → P x
last_of P xs x all = lasts P xs x (recursion_from_All P (xs ++ x ∷ []) all)

-- the latest entry of a history that went on
pub latest : (seen : List Entry) (e : Entry) (after : List Entry) → GoesOnTo seen e after → (h : List Entry) × (reverse after ≡ e ∷ h)
latest seen e after on = (reverse (seen ++ on.0), ap reverse on.1 ∙ reverse-append (seen ++ on.0) (e ∷ []))

pub goes_on_prefix : (seen : List Entry) (e : Entry) (after : List Entry) → GoesOnTo seen e after → IsPrefix seen after
goes_on_prefix seen e after on = (on.0 ++ e ∷ [], sym (append_assoc seen on.0 (e ∷ [])) ∙ sym on.1)

whole_of : (reply : Reply) (h : List Entry) (e : Entry) (rest : List Entry) → h ≡ e ∷ rest → IsFullReply reply h → reply ≡ full_reply (accepted h) e.reply
whole_of reply h e rest is whole = subst (λ (l : List Entry). IsFullReply reply l) is whole ∙ ap (λ (l : List Entry). full_reply (accepted l) e.reply) (sym is)

pub legal_latest : (r : Rules) (h : List Entry) (e : Entry) (rest : List Entry) → h ≡ e ∷ rest → Legal r h → e.reply ≡ reply_to r rest e.session e.request
legal_latest r h e rest is legal = (subst (Legal r) is legal).0

all_latest : {X : Type 0} (P : X → Type 0) (h : List X) (e : X) (rest : List X) → h ≡ e ∷ rest → All P h → P e
all_latest P h e rest is all = (recursion_from_All P (e ∷ rest) (subst (All P) is all)).0

-- a call of the lock steps a request of the session
pub steps : (before after : SessionPass) (request : Request) (reply : Reply) → LegalRelaysNameAccepted → LegalRepliesAreMessages → AreWithinLimits before.base → is_end request ≡ false →
    IsSamePass before after → GoesOnTo before.seen (entry_of (session_number before) request (logged_of reply)) after.seen →
    after.mine ≡ before.mine ++ entry_of (session_number before) request (logged_of reply) ∷ [] → IsFullInOrder reply after.seen → Legal after.base (reverse after.seen) → Steps before request reply after
steps before after request reply names messages limits no_end same on mine whole legal =
    let e = entry_of (session_number before) request (logged_of reply) in
    let at = latest before.seen e after.seen on in
    let full = whole_of reply (reverse after.seen) e at.0 at.1 whole in
    let replied = legal_latest after.base (reverse after.seen) e at.0 at.1 legal in
    let named : RelaysNameAccepted after.seen = subst RelaysNameAccepted (reverse-reverse after.seen) (names after.base (reverse after.seen) legal) in
    let within = messages after.base (reverse after.seen) (subst AreWithinLimits (sym same.base) limits) legal in
    record {
      entry = e;
      on = record {
        same = same;
        goes_on = goes_on_prefix before.seen e after.seen on;
        mine = mine;
        named = one (λ (x : Entry). NamesAccepted (length (accepted (reverse after.seen))) x.reply) e (last_of (λ (x : Entry). NamesAccepted (length (accepted (reverse after.seen))) x.reply) (before.seen ++ on.0) e (subst (λ (l : List Entry). All (λ (x : Entry). NamesAccepted (length (accepted (reverse after.seen))) x.reply) l) on.1 named));
      };
      asks = refl;
      told = refl;
      whole = ap reply_bytes full;
      message = subst IsWireReply (sym full) (all_latest (λ (x : Entry). IsWireReply (full_reply (accepted (reverse after.seen)) x.reply)) (reverse after.seen) e at.0 at.1 within);
      leave = λ left. left_by_leave after.base at.0 (session_number before) request (logged_of reply) replied no_end left;
      bad = λ is. bad_stops after.base at.0 (session_number before) (logged_of reply) (replied ∙ ap (reply_to after.base at.0 (session_number before)) is);
    }

-- the same, where the call was answered
pub steps_if : {X : Type 0} (before after : SessionPass) (request : Request) (o : Result Reply X) → LegalRelaysNameAccepted → LegalRepliesAreMessages → AreWithinLimits before.base → is_end request ≡ false →
    IsSamePass before after → IfOk o (λ r. GoesOnTo before.seen (entry_of (session_number before) request (logged_of r)) after.seen) →
    IfOk o (λ r. after.mine ≡ before.mine ++ entry_of (session_number before) request (logged_of r) ∷ []) → IfOk o (λ r. IsFullInOrder r after.seen) → Legal after.base (reverse after.seen) →
    IfOk o (λ r. Steps before request r after)
steps_if before after request (Ok reply) names messages limits no_end same on mine whole legal = steps before after request reply names messages limits no_end same on mine whole legal
steps_if before after request (Err e) names messages limits no_end same on mine whole legal = tt

-- ---- A reply is posted

module _ (a : Stand) (q : Request) (reply : Reply) (inbox : List ℕ) (told : Told) (pass : SessionPass) (takes : TakesOffRequest a.inbox q inbox) (s : Steps a.pass q reply pass) where
  due_same : a.outbox ++ frame (reply_bytes reply) ≡ a.outbox ++ due_frames pass.seen (s.entry ∷ [])
  due_same = ap (λ l. a.outbox ++ l) (ap frame s.whole ∙ sym (frames_of_one pass.seen s.entry))

  alone : stop_after (s.entry ∷ []) ≡ stop_of (logged_of reply)
  alone = stop_alone s.entry ∙ ap stop_of s.told

  no_end_here : All (λ (e : Entry). is_end e.request ≡ false) (s.entry ∷ [])
  no_end_here = one (λ (e : Entry). is_end e.request ≡ false) s.entry (ap is_end s.asks ∙ takes.asked)

  received_none : (sent : List ℕ) → record a.told { sent = a.told.sent ++ sent } ≡ record a.told { sent = a.told.sent ++ sent; received = a.told.received ++ [] }
  received_none sent = ap (λ (l : List ℕ). record a.told { sent = a.told.sent ++ sent; received = l }) (sym (append-nil a.told.received))

  not_bad : stop_of (logged_of reply) ≡ None → q ≢ requests.Bad
  not_bad none bad = let some : IsSome (stop_of s.entry.reply) = s.bad bad in let no : stop_of s.entry.reply ≡ None = ap stop_of s.told ∙ none in absurd (none_is_some (stop_of s.entry.reply) no some)
    where
      none_is_some : (o : Option SessionOut) → o ≡ None → IsSome o → ⊥
      none_is_some None e there = cc
      none_is_some (Some out) e there = cc

  pub on_answered : (outbox : List ℕ) → stop_of (logged_of reply) ≡ None → PostsOn a.told (a.outbox ++ frame (reply_bytes reply)) told outbox →
      LoopGoesOn a (record { told = told; pass = pass; inbox = inbox; outbox = outbox })
  on_answered outbox none posts =
      record {
        received = [];
        sent = posts.sent;
        answered = s.entry ∷ [];
        told = posts.told ∙ received_none posts.sent;
        steps = s.on;
        no_end = no_end_here;
        requests = subst (λ l. BeginsWithRequests l (s.entry.request ∷ []) inbox) (sym (append-nil a.inbox)) (subst (λ (x : Request). BeginsWithRequests a.inbox (x ∷ []) inbox) (sym s.asks) (takes.next (not_bad none)));
        replies = posts.all ∙ due_same;
        on = alone ∙ none;
      }

  stops_for : (reason : SessionOut) → stop_of (logged_of reply) ≡ Some reason → StopsFor reason (s.entry ∷ [])
  stops_for reason is = record {
    before = [];
    last = s.entry;
    are = refl;
    on = refl;
    stop = ap stop_of s.told ∙ is;
    leave = λ left. s.asks ∙ s.leave (ap stop_of s.told ∙ (is ∙ ap Some left));
  }

  breaks : LoopBreaksOff (s.entry ∷ [])
  breaks = record { before = []; last = s.entry ∷ []; are = refl; few = omega arith; on = refl }

  ended_same : (out : SessionOut) → (stop_of (logged_of reply) ≡ Some out) ⊎ IsBroken out → (b : Bool) → ended_by out b ≡ b
  ended_same out (inl is) b = each_reason (λ o. ended_by o b ≡ b) (logged_of reply) out is refl refl refl refl
  ended_same out (inr (inl is)) b = ap (λ o. ended_by o b) is
  ended_same out (inr (inr is)) b = ap (λ o. ended_by o b) is

  explains_stop : (out : SessionOut) → stop_of (logged_of reply) ≡ Some out → (stream sent due : List ℕ) → sent ≡ due → ExplainsOut out stream (s.entry ∷ []) sent due
  explains_stop out is stream sent due all =
      each_reason (λ o. stop_of (logged_of reply) ≡ Some o → ExplainsOut o stream (s.entry ∷ []) sent due) (logged_of reply) out is
      (λ e. (stops_for outs.Left e, all)) (λ e. (stops_for outs.Malformed e, all)) (λ e. (stops_for outs.Ended e, all)) (λ e. (stops_for outs.Spent e, all)) is

  explains_broken : (out : SessionOut) → IsBroken out → (stream sent due : List ℕ) → ExplainsOut out stream (s.entry ∷ []) sent due
  explains_broken out (inl is) stream sent due = subst (λ o. ExplainsOut o stream (s.entry ∷ []) sent due) (sym is) breaks
  explains_broken out (inr is) stream sent due = subst (λ o. ExplainsOut o stream (s.entry ∷ []) sent due) (sym is) breaks

  pub halts_answered : (out : SessionOut) → PostsLast a.told (a.outbox ++ frame (reply_bytes reply)) (stop_of (logged_of reply)) out told → Halts a out told pass
  halts_answered out posts =
      record {
        received = [];
        sent = posts.sent;
        answered = s.entry ∷ [];
        told = posts.told ∙ (received_none posts.sent ∙ ap (λ (b : Bool). record a.told { sent = a.told.sent ++ posts.sent; received = a.told.received ++ []; ended = b }) (sym (ended_same out (kinds posts.why) a.told.ended)));
        steps = s.on;
        no_end = no_end_here;
        requests = (takes.first.0, ap (λ (x : Request). x ∷ takes.first.0) s.asks ∙ (sym takes.first.1 ∙ ap requests_read (sym (append-nil a.inbox))));
        replies = subst (λ l. IsPrefix posts.sent l) due_same posts.part;
        cause = cause posts.why;
        exactly = exactly posts.why;
      }
    where
      kinds : ((stop_of (logged_of reply) ≡ Some out) × (posts.sent ≡ a.outbox ++ frame (reply_bytes reply))) ⊎ (IsBroken out × (posts.sent ≢ a.outbox ++ frame (reply_bytes reply))) → (stop_of (logged_of reply) ≡ Some out) ⊎ IsBroken out
      kinds (inl w) = inl w.0
      kinds (inr w) = inr w.0

      cause : ((stop_of (logged_of reply) ≡ Some out) × (posts.sent ≡ a.outbox ++ frame (reply_bytes reply))) ⊎ (IsBroken out × (posts.sent ≢ a.outbox ++ frame (reply_bytes reply))) →
          ExplainsOut out (a.inbox ++ []) (s.entry ∷ []) posts.sent (a.outbox ++ due_frames pass.seen (s.entry ∷ []))
      cause (inl w) = explains_stop out w.0 (a.inbox ++ []) posts.sent _ (w.1 ∙ due_same)
      cause (inr w) = explains_broken out w.0 (a.inbox ++ []) posts.sent _

      exactly : ((stop_of (logged_of reply) ≡ Some out) × (posts.sent ≡ a.outbox ++ frame (reply_bytes reply))) ⊎ (IsBroken out × (posts.sent ≢ a.outbox ++ frame (reply_bytes reply))) →
          (reason : SessionOut) → stop_after (s.entry ∷ []) ≡ Some reason → posts.sent ≡ a.outbox ++ due_frames pass.seen (s.entry ∷ []) → out ≡ reason
      exactly (inl w) reason stop all = let both : Some out ≡ Some reason = sym w.0 ∙ (sym alone ∙ stop) in cc
      exactly (inr w) reason stop all = absurd (w.1 (all ∙ sym due_same))

-- ---- No request is answered

module _ (a : Stand) where
  told_same : record a.told { sent = a.told.sent ++ []; received = a.told.received ++ [] } ≡ a.told
  told_same = ap (λ (l : List ℕ). record a.told { sent = l; received = a.told.received ++ [] }) (append-nil a.told.sent) ∙ ap (λ (l : List ℕ). record a.told { received = l }) (append-nil a.told.received)

  none_stop : (reason : SessionOut) → stop_after [] ≡ Some reason → ⊥
  none_stop reason e = cc

  -- there was no memory for a request, or for its step
  pub halts_unanswered : (pass : SessionPass) → StepsOn a.pass [] pass → Halts a outs.Memory a.told pass
  halts_unanswered pass on = record {
    received = [];
    sent = [];
    answered = [];
    told = sym told_same;
    steps = on;
    no_end = All-nil (λ (e : Entry). is_end e.request ≡ false);
    requests = (requests_read (a.inbox ++ []), refl);
    replies = (a.outbox ++ due_frames pass.seen [], refl);
    cause = record { before = []; last = []; are = refl; few = omega arith; on = refl };
    exactly = λ reason stop all. absurd (none_stop reason stop);
  }

  due_none : a.outbox ++ due_frames a.pass.seen [] ≡ a.outbox
  due_none = ap (λ l. a.outbox ++ l) (frames_of_none a.pass.seen) ∙ append-nil a.outbox

  pub on_read : (told : Told) (inbox : List ℕ) → ReadsOn a.told a.outbox a.inbox told inbox → LoopGoesOn a (record { told = told; pass = a.pass; inbox = inbox; outbox = [] })
  on_read told inbox reads = record {
    received = reads.bytes;
    sent = a.outbox;
    answered = [];
    told = reads.told;
    steps = steps_none a.pass;
    no_end = All-nil (λ (e : Entry). is_end e.request ≡ false);
    requests = subst (λ l. BeginsWithRequests (a.inbox ++ reads.bytes) [] l) (sym reads.grew) (begins_with_none (a.inbox ++ reads.bytes));
    replies = append-nil a.outbox ∙ sym due_none;
    on = refl;
  }

  pub halts_read : (out : SessionOut) (told : Told) → first_frame a.inbox ≡ None → too_long a.inbox ≡ None → ReadsLast a.told a.outbox out told → Halts a out told a.pass
  halts_read out told no_frame no_length reads = record {
    received = [];
    sent = reads.sent;
    answered = [];
    told = reads.told ∙ ap (λ (l : List ℕ). record a.told { sent = a.told.sent ++ reads.sent; received = l; ended = ended_by out a.told.ended }) (sym (append-nil a.told.received));
    steps = steps_none a.pass;
    no_end = All-nil (λ (e : Entry). is_end e.request ≡ false);
    requests = (requests_read (a.inbox ++ []), refl);
    replies = subst (λ l. IsPrefix reads.sent l) (sym due_none) reads.part;
    cause = cause reads.why;
    exactly = λ reason stop all. absurd (none_stop reason stop);
  }
    where
      breaks_none : LoopBreaksOff []
      breaks_none = record { before = []; last = []; are = refl; few = omega arith; on = refl }

      cause : ((out ≡ outs.Closed) × (reads.sent ≡ a.outbox)) ⊎ IsBroken out → ExplainsOut out (a.inbox ++ []) [] reads.sent (a.outbox ++ due_frames a.pass.seen [])
      cause (inl w) = subst (λ o. ExplainsOut o (a.inbox ++ []) [] reads.sent (a.outbox ++ due_frames a.pass.seen [])) (sym w.0)
          (record { on = refl; all = sym (ap requests_read (append-nil a.inbox) ∙ none_yet a.inbox no_frame no_length); rest = ap (λ l. too_long (split_frames l).1) (append-nil a.inbox) ∙ none_left a.inbox no_frame no_length }, w.1 ∙ sym due_none)
      cause (inr (inl w)) = subst (λ o. ExplainsOut o (a.inbox ++ []) [] reads.sent (a.outbox ++ due_frames a.pass.seen [])) (sym w) breaks_none
      cause (inr (inr w)) = subst (λ o. ExplainsOut o (a.inbox ++ []) [] reads.sent (a.outbox ++ due_frames a.pass.seen [])) (sym w) breaks_none

-- ---- What the round answers

pub round_posted : (result : Option SessionOut) (a : Stand) (q : Request) (reply : Reply) (inbox : List ℕ) (told : Told) (pass : SessionPass) (outbox : List ℕ) → TakesOffRequest a.inbox q inbox → Steps a.pass q reply pass →
    IsReplyPosted result (stop_of (logged_of reply)) a.told (a.outbox ++ frame (reply_bytes reply)) told outbox → IsRound result a (stand told pass inbox outbox)
round_posted None a q reply inbox told pass outbox takes s posts = on_answered a q reply inbox told pass takes s outbox posts.0 posts.1
round_posted (Some out) a q reply inbox told pass outbox takes s posts = halts_answered a q reply inbox told pass takes s out posts

pub round_read : (result : Option SessionOut) (a : Stand) (told : Told) (inbox outbox : List ℕ) → first_frame a.inbox ≡ None → too_long a.inbox ≡ None → ReadsOnOrEnds result a.told a.outbox a.inbox told inbox outbox →
    IsRound result a (stand told a.pass inbox outbox)
round_read None a told inbox outbox no_frame no_length reads = subst (λ l. LoopGoesOn a (stand told a.pass inbox l)) (sym reads.1) (on_read a told inbox reads.0)
round_read (Some out) a told inbox outbox no_frame no_length reads = halts_read a out told no_frame no_length reads
