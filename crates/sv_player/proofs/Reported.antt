-- What a player reports: its trace, whose first session has another number than its own, and its ends, which were closed.
use Rattle.std.proofs.Common.{◌≡◌, ◌≢◌, ◌⊎◌, inl, inr, ℕ, ◌+◌, ◌≤◌, Bool, true, false, List, [], ◌∷◌, ◌++◌, map, reverse, refl, sym, ap, subst, ◌∙◌, arith, true≢false}
use Rattle.std.specs.Prelude.{All}
use Rattle.std.proofs.lemmas.List.{reverse-reverse}
use mathlib.Core.List.{IsPrefix}
use Rattle.sv_bytes.specs.Faults.{Rose}
use Rattle.sv_link.specs.Ends.{Told}
use Rattle.sv_world.specs.declared.world.ClientId.{ClientId}
use Rattle.sv_watch.specs.declared.change.Change.{Change}
use Rattle.sv_watch.specs.Told.{change_line}
use Rattle.sv_wire.specs.declared.message.Request.{Request}
use Rattle.sv_wire.specs.declared.message.Reply.{Reply}
use Rattle.sv_wire.specs.declared.message.Reply.TheVariants as replies
use Rattle.sv_wire.specs.Laws.{IsRequest}
use Rattle.sv_client.specs.declared.trace.Event.{Event}
use Rattle.sv_client.specs.declared.trace.Event.TheVariants as events
use Rattle.sv_client.specs.declared.trace.Trace.{Trace}
use Rattle.sv_client.specs.Traces.{joins, requests_of, asked, got}
use Rattle.sv_client.specs.Taking.{Identity}
use Rattle.sv_client.specs.Proper.{Proper, identity_of}
use Rattle.sv_client.specs.Seen.{raised, trace_from}
use Rattle.sv_client.proofs.Sessions.{no_got, no_asked}
use Rattle.sv_client.proofs.Shifts.{Up, up_joins, up_got, up_asked}
use Rattle.sv_script.specs.Following.{FollowsTo, Follows, FollowsToEnd, is_finished}
use Rattle.sv_script.specs.Telling.{changes_of, told_lines}
use Rattle.sv_script.proofs.Shifted.{up_finished, up_follows}
use Rattle.sv_player.specs.declared.outcome.PlayerCause.{PlayerCause}
use Rattle.sv_player.specs.declared.outcome.PlayerCause.TheVariants as causes
use Rattle.sv_player.specs.declared.playing.Player.{Player}
use Rattle.sv_player.specs.Awaiting.{GetsAreAwaited, WaitsWhereNeeded}
use Rattle.sv_player.specs.Carried.{request_frames, BeginsWithReplies}
use Rattle.sv_player.specs.Going.{AreTold}
use Rattle.sv_player.specs.Stops.{IsBad, IsShut}
use Rattle.sv_player.specs.Played.{replies_of, IsTraceOf, IsDone, IsIdle, IsOpenSession, AreDone, HasOpen, IsCause, IsExact, HasFollowed, has_quit, has_left, lines_told}
use Rattle.sv_player.specs.Ends.{IsUncut, AreKept, IsClosedEnd, IsLeft, IsStuck, IsWhy, HasPlayed}
use Rattle.sv_player.proofs.Listed.{after, before}
use Rattle.sv_player.proofs.Linking.{frames_none}
use Rattle.sv_player.proofs.Stepping.{left_none}
use Rattle.sv_player.proofs.Raised.{up_quit, up_left, up_awaited, up_changes, up_open, up_shut, up_bad}

-- ---- The last event

quit_finishes : (t : List Event) → has_quit t ≡ true → is_finished t ≡ true
quit_finishes [] h = cc
quit_finishes (events.Join s ∷ t) h = cc
quit_finishes (events.Make a ∷ t) h = cc
quit_finishes (events.Poll ∷ t) h = cc
quit_finishes (events.Observe os wait ∷ t) h = cc
quit_finishes (events.Leave ∷ t) h = cc
quit_finishes (events.Got s reply ∷ t) h = cc
quit_finishes (events.Cut ∷ t) h = cc
quit_finishes (events.Quit ∷ t) h = refl
quit_finishes (events.Show objects ∷ t) h = cc

left_by : (s : ℕ) (reply : Reply) (t : List Event) → has_left (events.Got s reply ∷ t) ≡ true → is_finished (events.Got s reply ∷ t) ≡ true
left_by s (replies.Welcome commit head) t h = cc
left_by s (replies.Relay seq commit head items) t h = cc
left_by s (replies.Seen last commit head items) t h = cc
left_by s (replies.Dropped seq chain far) t h = cc
left_by s (replies.Denied seq object) t h = cc
left_by s (replies.Settled seq pos) t h = cc
left_by s (replies.Noted commit) t h = cc
left_by s replies.Idle t h = cc
left_by s (replies.Refused code detail) t h = cc
left_by s replies.Bye t h = refl

left_finishes : (t : List Event) → has_left t ≡ true → is_finished t ≡ true
left_finishes [] h = cc
left_finishes (events.Join s ∷ t) h = cc
left_finishes (events.Make a ∷ t) h = cc
left_finishes (events.Poll ∷ t) h = cc
left_finishes (events.Observe os wait ∷ t) h = cc
left_finishes (events.Leave ∷ t) h = cc
left_finishes (events.Got s reply ∷ t) h = left_by s reply t h
left_finishes (events.Cut ∷ t) h = cc
left_finishes (events.Quit ∷ t) h = cc
left_finishes (events.Show objects ∷ t) h = cc

not_both : (t : List Event) → has_left t ≡ true → has_quit t ≡ true → ⊥
not_both [] h q = cc
not_both (events.Join s ∷ t) h q = cc
not_both (events.Make a ∷ t) h q = cc
not_both (events.Poll ∷ t) h q = cc
not_both (events.Observe os wait ∷ t) h q = cc
not_both (events.Leave ∷ t) h q = cc
not_both (events.Got s reply ∷ t) h q = cc
not_both (events.Cut ∷ t) h q = cc
not_both (events.Quit ∷ t) h q = cc
not_both (events.Show objects ∷ t) h q = cc

-- ---- The report

module _ {E : Type 0} (told : E → Told) (faults : E → ℕ) (calm : E → Type 0) where
  pub played_over : (p0 p : Player) (was old mid : List E) (cause : PlayerCause) → was ≡ old → HasPlayed told faults calm p0 p was mid cause → HasPlayed told faults calm p0 p old mid cause
  played_over p0 p was old mid cause e h = subst (λ (es : List E). HasPlayed told faults calm p0 p es mid cause) e h

  pub closed_over : (was mid now new : List E) → was ≡ mid → now ≡ new → AreKept (λ n. IsClosedEnd told faults calm) was now → AreKept (λ n. IsClosedEnd told faults calm) mid new
  closed_over was mid now new e f h =
      subst (λ (es : List E). AreKept (λ n. IsClosedEnd told faults calm) mid es) f (subst (λ (es : List E). AreKept (λ n. IsClosedEnd told faults calm) es now) e h)

-- Of no objects no change is told.
nothing_told : (client : ClientId) (t : List Event) → changes_of client [] t ≡ []
nothing_told client [] = refl
nothing_told client (e ∷ t) = ap (λ (cs : List Change). cs ++ []) (nothing_told client t)

module _ {E : Type 0} (told : E → Told) (faults : E → ℕ) (calm : E → Type 0) (p0 p : Player) (old mid new : List E) (cause : PlayerCause) (T : Trace)
    (played : HasPlayed told faults calm p0 p old mid cause) (closed : AreKept (λ n. IsClosedEnd told faults calm) mid new)
    (trace : T ≡ trace_from p0.first p.client) (proper : Proper p.client.who.shape T) where
  events_are : reverse T.events ≡ Up p0.first p.client.events
  events_are = ap (λ (x : Trace). reverse x.events) trace ∙ reverse-reverse (map (raised p0.first) p.client.events)

  identity_is : identity_of p0.client.who.shape T ≡ p.client.who
  identity_is =
      ap (λ (x : Trace). identity_of p0.client.who.shape x) trace
      ∙ ap (λ (w : Identity). record { client = p.client.who.client; interest = p.client.who.interest; shape = w.shape }) (sym played.who)

  at_number : (k : ℕ) → p0.first + k ≡ k + p0.first
  at_number k = omega arith

  requests_are : (k : ℕ) → requests_of T (p0.first + k) ≡ asked p.client.who.client p.client.who.interest p.client.events k
  requests_are k =
      ap (λ (x : Trace). requests_of x (p0.first + k)) trace
      ∙ ap (λ (es : List Event). asked p.client.who.client p.client.who.interest es (p0.first + k)) (reverse-reverse (map (raised p0.first) p.client.events))
      ∙ ap (λ (n : ℕ). asked p.client.who.client p.client.who.interest (Up p0.first p.client.events) n) (at_number k)
      ∙ up_asked p0.first p.client.who p.client.events k

  replies_are : (k : ℕ) → replies_of T (p0.first + k) ≡ got p.client.events k
  replies_are k =
      ap (λ (es : List Event). got es (p0.first + k)) events_are
      ∙ ap (λ (n : ℕ). got (Up p0.first p.client.events) n) (at_number k)
      ∙ up_got p0.first p.client.events k

  -- what holds of the raised events holds of the trace
  in_trace : (P : Identity → List Event → ℕ → Type 0) (k : ℕ) → P p.client.who (Up p0.first p.client.events) (k + p0.first) → P (identity_of p0.client.who.shape T) (reverse T.events) (p0.first + k)
  in_trace P k h =
      subst (λ (w : Identity). P w (reverse T.events) (p0.first + k)) (sym identity_is)
      (subst (λ (es : List Event). P p.client.who es (p0.first + k)) (sym events_are)
      (subst (P p.client.who (Up p0.first p.client.events)) (sym (at_number k)) h))

  open_session : (k : ℕ) → IsUncut p.client.events k → IsOpenSession T (p0.first + k)
  open_session k o =
      let up = in_trace (λ w es n. IsUncut es n) k (up_open p0.first p.client.events k o) in
      record { current = up.current; open_is = up.open_is }

  -- ---- Ends

  end_done : (k : ℕ) (a m b : E) → IsLeft told faults calm p.client.who p.client.events cause k a m → IsClosedEnd told faults calm m b → IsDone T cause (p0.first + k) (told a) (told b)
  end_done k a m b l c =
      subst (λ (e : Told). IsDone T cause (p0.first + k) (told a) e) (sym c.told_is) (record {
        closed_is = refl;
        pair = l.carried.same.pair;
        side = l.carried.same.side;
        sent = subst (λ (rs : List Request). IsPrefix (told m).sent (request_frames rs)) (sym (requests_are k)) l.carried.sent;
        whole = λ w. l.carried.whole w ∙ ap (λ (rs : List Request). request_frames rs) (sym (requests_are k));
        messages = λ w. subst (All IsRequest) (sym (requests_are k)) (l.carried.messages w);
        rest = l.carried.rest;
        received = subst (λ (rs : List Reply). BeginsWithReplies (told m).received rs l.carried.rest) (sym (replies_are k)) l.carried.received;
      })

  none_sent : (sent : List ℕ) (rs : List Request) → rs ≡ [] → IsPrefix sent (request_frames rs) → sent ≡ []
  none_sent sent rs none prefix = left_none sent prefix.0 (prefix.1 ∙ ap (λ (qs : List Request). request_frames qs) none ∙ frames_none)

  end_idle : (k : ℕ) (a m b : E) → IsLeft told faults calm p.client.who p.client.events cause k a m → IsClosedEnd told faults calm m b → joins (reverse T.events) ≤ k → IsIdle T (p0.first + k) (told b)
  end_idle k a m b l c few =
      let begun : joins (reverse T.events) ≡ joins p.client.events = ap joins events_are ∙ up_joins p0.first p.client.events in
      let none = no_asked p.client.who 0 p.client.events played.proper k (omega (arith, few, begun)) in
      record {
        requests = requests_are k ∙ none;
        replies = replies_are k ∙ no_got p.client.who 0 p.client.events played.proper k (omega (arith, few, begun));
        sent = ap (λ (e : Told). e.sent) c.told_is ∙ none_sent (told m).sent _ none l.carried.sent;
        received = ap (λ (e : Told). e.received) c.told_is ∙ l.carried.idle none;
      }

  fault_at : (k : ℕ) (a m b : E) → (faults m ≡ faults a) ⊎ ((cause ≡ causes.LinkFault) × IsUncut p.client.events k) → IsClosedEnd told faults calm m b →
      (faults b ≡ faults a) ⊎ ((cause ≡ causes.LinkFault) × IsOpenSession T (p0.first + k))
  fault_at k a m b (inl f) c = inl (c.faults_are ∙ f)
  fault_at k a m b (inr o) c = inr (o.0, open_session k o.1)

  pub ends_done : AreDone told faults calm T cause p0.first old new
  ends_done =
      record {
        count = closed.count ∙ played.ends.count;
        each = λ k a b was is.
            let m = before (λ n. IsClosedEnd told faults calm) mid new closed k b is in
            end_done k a m.0 b (played.ends.each k a m.0 was m.1) (closed.each k m.0 b m.1 is);
        idle = λ k b is few.
            let m = before (λ n. IsClosedEnd told faults calm) mid new closed k b is in
            let a = before (IsLeft told faults calm p.client.who p.client.events cause) old mid played.ends k m.0 m.1 in
            end_idle k a.0 m.0 b (played.ends.each k a.0 m.0 a.1 m.1) (closed.each k m.0 b m.1 is) few;
        faults_are = λ k a b was is.
            let m = before (λ n. IsClosedEnd told faults calm) mid new closed k b is in
            fault_at k a m.0 b (played.ends.each k a m.0 was m.1).faults_are (closed.each k m.0 b m.1 is);
        calm_is = λ k a b was is was_calm.
            let m = before (λ n. IsClosedEnd told faults calm) mid new closed k b is in
            (closed.each k m.0 b m.1 is).calm_is ((played.ends.each k a m.0 was m.1).calm_is was_calm);
      }

  -- ---- Causes

  stuck_open : (P : ℕ → Told → Type 0) (c : PlayerCause) → (s : IsStuck told faults calm p.client.who p.client.events p0.first c old mid) → P (p0.first + s.place) (record (told s.after) { closed = true }) → HasOpen told faults calm P T p0.first new
  stuck_open P c s h =
      let b = after (λ n. IsClosedEnd told faults calm) mid new closed s.place s.after s.is in
      record {
        place = s.place;
        after = b.0;
        is = b.1;
        session = open_session s.place s.session;
        shows = subst (P (p0.first + s.place)) (sym (closed.each s.place s.after b.0 s.is b.1).told_is) h;
      }

  cause_by : (c : PlayerCause) → IsWhy told faults calm p.client.who p.client.events p0.first c old mid → IsCause told faults calm p0.client.who.shape T p0.first old new c
  cause_by causes.Finished h = ap has_left events_are ∙ up_left p0.first p.client.events ∙ h
  cause_by causes.Quit h = ap has_quit events_are ∙ up_quit p0.first p.client.events ∙ h
  cause_by causes.LinkFault s =
      let b = after (λ n. IsClosedEnd told faults calm) mid new closed s.place s.after s.is in
      record {
        place = s.place;
        before = s.before;
        after = b.0;
        was = s.was;
        is = b.1;
        rose = subst (Rose (faults s.before)) (sym (closed.each s.place s.after b.0 s.is b.1).faults_are) s.rose;
        session = open_session s.place s.session;
      }
  cause_by causes.Closed s =
      let shut = up_shut p0.first p.client.who p.client.events s.place (told s.after) s.reason in
      let here = in_trace (λ w es n. IsShut w es n (told s.after)) s.place shut in
      stuck_open (λ n end. IsShut (identity_of p0.client.who.shape T) (reverse T.events) n end) causes.Closed s
      (record { awaited = here.awaited; ended = here.ended; rest = here.rest; received = here.received; none = here.none })
  cause_by (causes.BadReply session payload fault) s =
      let bad = up_bad p0.first p.client.who p.client.events s.place (told s.after) payload.items fault s.reason.1 in
      let here = in_trace (λ w es n. IsBad w es n (told s.after) payload.items fault) s.place bad in
      stuck_open (λ n end. (session ≡ n) × IsBad (identity_of p0.client.who.shape T) (reverse T.events) n end payload.items fault) (causes.BadReply session payload fault) s
      (s.reason.0 ∙ sym (at_number s.place), record { rest = here.rest; received = here.received; bad = here.bad })
  cause_by causes.Memory h = tt

  pub cause_is : IsCause told faults calm p0.client.who.shape T p0.first old new cause
  cause_is = cause_by cause played.why

  exact_quit : (c : PlayerCause) → IsWhy told faults calm p.client.who p.client.events p0.first c old mid → c ≢ causes.Memory → has_quit p.client.events ≡ true → c ≡ causes.Quit
  exact_quit causes.Finished h ne q = absurd (not_both p.client.events h q)
  exact_quit causes.Quit h ne q = refl
  exact_quit causes.LinkFault s ne q = absurd (true≢false (sym (quit_finishes p.client.events q) ∙ s.going_on))
  exact_quit causes.Closed s ne q = absurd (true≢false (sym (quit_finishes p.client.events q) ∙ s.going_on))
  exact_quit (causes.BadReply session payload fault) s ne q = absurd (true≢false (sym (quit_finishes p.client.events q) ∙ s.going_on))
  exact_quit causes.Memory h ne q = absurd (ne refl)

  exact_left : (c : PlayerCause) → IsWhy told faults calm p.client.who p.client.events p0.first c old mid → c ≢ causes.Memory → has_left p.client.events ≡ true → c ≡ causes.Finished
  exact_left causes.Finished h ne l = refl
  exact_left causes.Quit h ne l = absurd (not_both p.client.events l h)
  exact_left causes.LinkFault s ne l = absurd (true≢false (sym (left_finishes p.client.events l) ∙ s.going_on))
  exact_left causes.Closed s ne l = absurd (true≢false (sym (left_finishes p.client.events l) ∙ s.going_on))
  exact_left (causes.BadReply session payload fault) s ne l = absurd (true≢false (sym (left_finishes p.client.events l) ∙ s.going_on))
  exact_left causes.Memory h ne l = absurd (ne refl)

  pub exact_is : IsExact T cause
  exact_is =
      record {
        quit = λ ne q. exact_quit cause played.why ne (sym (ap has_quit events_are ∙ up_quit p0.first p.client.events) ∙ q);
        left = λ ne l. exact_left cause played.why ne (sym (ap has_left events_are ∙ up_left p0.first p.client.events) ∙ l);
      }

  -- ---- The trace and its lines

  follows_is : Follows p0.client.who.shape p0.script.now T
  follows_is =
      record {
        left = played.left;
        follows =
            subst (λ (w : Identity). FollowsTo w p0.script.now (reverse T.events) played.left) (sym identity_is)
            (subst (λ (es : List Event). FollowsTo p.client.who p0.script.now es played.left) (sym events_are)
            (up_follows p0.first p.client.who p0.script.now p.client.events played.left played.follows));
      }

  to_end : is_finished p.client.events ≡ true → FollowsToEnd p0.client.who.shape p0.script.now T
  to_end f = record { follows = follows_is; finished = ap is_finished events_are ∙ up_finished p0.first p.client.events ∙ f }

  awaited_is : WaitsWhereNeeded p0.client.who.shape p0.script.now T
  awaited_is =
      subst (λ (w : Identity). GetsAreAwaited w p0.script.now (reverse T.events)) (sym identity_is)
      (subst (λ (es : List Event). GetsAreAwaited p.client.who p0.script.now es) (sym events_are)
      (up_awaited p0.first p.client.who p0.script.now p.client.events played.awaited))

  pub followed : HasFollowed p0.client.who.shape p0.script.now T cause
  followed =
      record {
        follows = follows_is;
        awaited = awaited_is;
        finished = λ e. to_end (left_finishes p.client.events (subst (λ (c : PlayerCause). IsWhy told faults calm p.client.who p.client.events p0.first c old mid) e played.why));
        quit = λ e. to_end (quit_finishes p.client.events (subst (λ (c : PlayerCause). IsWhy told faults calm p.client.who p.client.events p0.first c old mid) e played.why));
      }

  told_or_none : (watched : Bool) → AreTold watched p.client.who p.client.events p.lines.items → p.lines.items ≡ lines_told watched T
  told_or_none true lines =
      lines
      ∙ sym (ap (λ (x : Trace). told_lines x) trace
      ∙ ap (λ (es : List Event). map change_line (changes_of p.client.who.client p.client.who.interest es)) (reverse-reverse (map (raised p0.first) p.client.events))
      ∙ ap (map change_line) (up_changes p0.first p.client.who.client p.client.who.interest p.client.events))
  told_or_none false lines = lines ∙ ap (map change_line) (nothing_told p.client.who.client p.client.events)

  pub lines_are : cause ≢ causes.Memory → p.lines.items ≡ lines_told p0.watched T
  lines_are ne = told_or_none p0.watched (played.lines ne)

  pub trace_is : IsTraceOf p0.client p0.first T
  trace_is =
      record {
        client_is = ap (λ (x : Trace). x.client) trace ∙ ap (λ (w : Identity). w.client) played.who;
        interest = ap (λ (x : Trace). x.interest) trace ∙ ap (λ (w : Identity). w.interest) played.who;
        first_is = ap (λ (x : Trace). x.first) trace;
        proper = subst (λ (w : Identity). Proper w.shape T) played.who proper;
      }
