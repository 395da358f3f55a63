-- What one session more makes of a player and its ends.
use Rattle.std.proofs.Common.{◌≡◌, ◌≢◌, ◌⊎◌, inl, inr, ℕ, zero, suc, ◌+◌, ◌<◌, ◌≤◌, Bool, true, false, eqb, List, [], ◌∷◌, ◌++◌, length, slice_get, slice_set, Option, None, Some, refl, sym, ap, subst, ◌∙◌, arith, append-nil}
use Rattle.std.specs.Prelude.{All, if◌then◌else◌}
use Rattle.std.specs.List.{AllByRecursion}
use Rattle.std.specs.Option.{IfSome}
use Rattle.sv_world.specs.declared.world.Shape.{Shape}
use Rattle.std.proofs.lemmas.Bool.{cases_lt}
use Rattle.std.proofs.lemmas.Bool.Decides.{eqb_tells}
use Rattle.std.proofs.lemmas.List.Elements.{All-nil}
use Rattle.std.proofs.lemmas.Option.{same_Some, slice_get_within}
use mathlib.Core.List.{IsPrefix}
use Rattle.sv_link.specs.Ends.{Told}
use Rattle.sv_wire.specs.declared.message.Request.{Request}
use Rattle.sv_wire.specs.declared.message.Reply.{Reply}
use Rattle.sv_wire.specs.Laws.{IsRequest}
use Rattle.sv_client.specs.declared.trace.Event.{Event}
use Rattle.sv_client.specs.declared.trace.Event.TheVariants as events
use Rattle.sv_client.specs.Traces.{joins, current_session, asked, got}
use Rattle.sv_client.specs.Taking.{Identity}
use Rattle.sv_client.specs.Proper.{AreProper}
use Rattle.sv_client.proofs.Sessions.{session_after, current_is}
use Rattle.sv_scenario.specs.declared.scenario.Step.{Step}
use Rattle.sv_scenario.specs.Sessions.{cuts_in}
use Rattle.sv_script.specs.Following.{FollowsTo, must_join}
use Rattle.sv_player.specs.declared.outcome.SessionEnd.{SessionEnd}
use Rattle.sv_player.specs.declared.outcome.SessionEnd.TheVariants as endings
use Rattle.sv_player.specs.declared.outcome.PlayerCause.{PlayerCause}
use Rattle.sv_player.specs.declared.outcome.PlayerCause.TheVariants as causes
use Rattle.sv_player.specs.declared.playing.Player.{Player}
use Rattle.sv_player.specs.Carried.{request_frames, BeginsWithReplies}
use Rattle.sv_player.specs.Awaiting.{GetsAreAwaited}
use Rattle.sv_player.specs.Going.{one_more_if, AreTold, IsGoing, IsNew}
use Rattle.sv_player.specs.Stops.{is_cut}
use Rattle.sv_player.specs.Sessions.{IsFresh, IsSameEnd, IsReason, HasEnded, Ended, Stopped}
use Rattle.sv_player.specs.Played.{SentAll, has_quit, has_left}
use Rattle.sv_player.specs.Ends.{IsCarried, IsUncut, IsPlayedNext, NextCause, AreKept, IsClosedEnd, IsClosing, IsSoFar, IsPlaying, IsLeft, IsStuck, IsWhy, HasPlayed}
use Rattle.sv_player.proofs.Linking.{frames_none, prefix_of, begins_none}
use Rattle.sv_player.proofs.Listed.{all_there, before, kept_set, set_is}

-- ---- Sessions that were begun

pub left_none : {X : Type 0} (xs ys : List X) → xs ++ ys ≡ [] → xs ≡ []
left_none [] ys e = refl
left_none (x ∷ xs) ys e = cc

right_none : {X : Type 0} (xs ys : List X) → xs ++ ys ≡ [] → ys ≡ []
right_none [] ys e = e
right_none (x ∷ xs) ys e = cc

some_asked : {X : Type 0} (b : Bool) (x : X) (xs : List X) → b ≡ true → (if b then x ∷ xs else []) ≡ [] → ⊥
some_asked true x xs b e = cc
some_asked false x xs b e = cc

-- In each session that was begun something was asked.
pub begun_asks : (who : Identity) (t : List Event) → AreProper who 0 t → (n : ℕ) → n < joins t → asked who.client who.interest t n ≡ [] → ⊥
begun_asks who [] p n l e = absurd (omega arith)
begun_asks who (events.Join s ∷ t) p n l e = go (eqb_tells s n) (λ m. begun_asks who t p.1 n m (left_none _ _ e))
  where
    go : ((eqb s n ≡ true) × (s ≡ n)) ⊎ ((eqb s n ≡ false) × (s ≢ n)) → (n < joins t → ⊥) → ⊥
    go (inl y) earlier = some_asked (eqb s n) _ _ y.0 (right_none _ _ e)
    go (inr m) earlier = earlier (omega (arith, p.0.next, m.1, l))
begun_asks who (events.Make a ∷ t) p n l e = begun_asks who t p.1 n l (left_none _ _ e)
begun_asks who (events.Poll ∷ t) p n l e = begun_asks who t p.1 n l (left_none _ _ e)
begun_asks who (events.Observe os wait ∷ t) p n l e = begun_asks who t p.1 n l (left_none _ _ e)
begun_asks who (events.Leave ∷ t) p n l e = begun_asks who t p.1 n l (left_none _ _ e)
begun_asks who (events.Got s reply ∷ t) p n l e = begun_asks who t p.1 n l (left_none _ _ e)
begun_asks who (events.Cut ∷ t) p n l e = begun_asks who t p.1 n l (left_none _ _ e)
begun_asks who (events.Quit ∷ t) p n l e = begun_asks who t p.1 n l (left_none _ _ e)
begun_asks who (events.Show objects ∷ t) p n l e = begun_asks who t p.1 n l (left_none _ _ e)

-- A session in which nothing was asked was not begun.
unbegun : (who : Identity) (t : List Event) → AreProper who 0 t → (n : ℕ) → asked who.client who.interest t n ≡ [] → joins t ≤ n
unbegun who t p n none = go (cases_lt n (joins t))
  where
    go : (n < joins t) ⊎ (joins t ≤ n) → joins t ≤ n
    go (inl l) = absurd (begun_asks who t p n l none)
    go (inr l) = l

joined_by : (j s : ℕ) → session_after 0 j ≡ Some s → j ≡ suc s
joined_by zero s e = cc
joined_by (suc j) s e = let same : 0 + j ≡ s = same_Some _ _ e in omega (arith, same)

-- Where session s was begun last, there were so many.
pub joined_to : (who : Identity) (t : List Event) (s : ℕ) → AreProper who 0 t → current_session t ≡ Some s → joins t ≡ suc s
joined_to who t s p e = joined_by (joins t) s (sym (current_is who 0 t p) ∙ e)

-- ---- What an end carried

-- It stays so where nothing more was asked or got in its session.
carried_on : (W V : Type 0) → (V → W) → (who w : Identity) (t u : List Event) (n : ℕ) (a b : Told) → w ≡ who →
    asked who.client who.interest u n ≡ asked who.client who.interest t n → got u n ≡ got t n → IsCarried W who t n a b → IsCarried V w u n a b
carried_on W V f who w t u n a b e asks gets c =
    subst (λ (x : Identity). IsCarried V x u n a b) (sym e) (record {
      same = c.same;
      sent = subst (λ (rs : List Request). IsPrefix b.sent (request_frames rs)) (sym asks) c.sent;
      whole = λ v. c.whole (f v) ∙ ap (λ (rs : List Request). request_frames rs) (sym asks);
      messages = λ v. subst (All IsRequest) (sym asks) (c.messages (f v));
      rest = c.rest;
      received = subst (λ (rs : List Reply). BeginsWithReplies b.received rs c.rest) (sym gets) c.received;
      idle = λ none. c.idle (sym asks ∙ none);
    })

carried_fresh : (who : Identity) (n : ℕ) (a : Told) → IsFresh a → IsCarried (Unit {0}) who [] n a a
carried_fresh who n a f =
    let none : a.sent ≡ request_frames [] = f.sent ∙ sym frames_none in
    record {
      same = record { pair = refl; side = refl };
      sent = prefix_of a.sent [] (request_frames []) (append-nil a.sent ∙ none);
      whole = λ _. none;
      messages = λ _. All-nil IsRequest;
      rest = [];
      received = subst (λ (bytes : List ℕ). BeginsWithReplies bytes [] []) (sym f.received) begins_none;
      idle = λ _. f.received;
    }

carried_ended : (W : Type 0) (s : ℕ) (p q : Player) (old new : Told) (ending : SessionEnd) → IsSameEnd old new → Ended s p q new ending → IsCarried W q.client.who q.client.events s old new
carried_ended W s p q old new ending same d =
    let begun : joins q.client.events ≡ suc s = joined_to q.client.who q.client.events s d.going.proper d.current in
    record {
      same = same;
      sent = prefix_of new.sent [] _ (append-nil new.sent ∙ d.sent);
      whole = λ _. d.sent;
      messages = λ _. d.messages;
      rest = d.rest;
      received = d.received;
      idle = λ none. absurd (begun_asks q.client.who q.client.events d.going.proper s (omega (arith, begun)) none);
    }

carried_stopped : (s : ℕ) (p q : Player) (old new : Told) (cause : PlayerCause) → IsSameEnd old new → Stopped s p q new cause → IsCarried (SentAll cause) q.client.who q.client.events s old new
carried_stopped s p q old new cause same d =
    record {
      same = same;
      sent = d.part.sent;
      whole = λ w. d.whole w.link w.memory;
      messages = λ w. d.messages w.link w.memory;
      rest = d.part.rest;
      received = d.part.received;
      idle = λ none. d.idle (unbegun q.client.who q.client.events d.proper s none);
    }

-- ---- Causes

-- The count of faults at a stop.
count_at : (cause : PlayerCause) (before now : ℕ) (t : List Event) (s : ℕ) → NextCause before now (Some cause) → (cause ≢ causes.Memory → current_session t ≡ Some s) → is_cut t s ≡ false →
    (now ≡ before) ⊎ ((cause ≡ causes.LinkFault) × IsUncut t s)
count_at causes.Finished before now t s n current open_is = inl n
count_at causes.Quit before now t s n current open_is = inl n
count_at causes.LinkFault before now t s n current open_is = inr (refl, record { current = current (λ e. cc); open_is = open_is })
count_at causes.Closed before now t s n current open_is = inl n
count_at (causes.BadReply session payload fault) before now t s n current open_is = inl n
count_at causes.Memory before now t s n current open_is = inl n

quit_last : (t : List Event) (s : ℕ) → HasEnded endings.Quit t s → has_quit t ≡ true
quit_last t s h = ap has_quit h.1

left_last : (t : List Event) (s : ℕ) → HasEnded endings.Left t s → has_left t ≡ true
left_last t s h = ap has_left h.1

-- A watch for a client's world is one for the same client's.
pub still_fits : {W : Type 0} {s u : Shape} (shape_of : W → Shape) (watch : Option W) → IfSome watch (λ w. shape_of w ≡ s) → s ≡ u → IfSome watch (λ w. shape_of w ≡ u)
still_fits shape_of None fits same = tt
still_fits shape_of (Some w) fits same = fits ∙ same

module _ {E : Type 0} (told : E → Told) (faults : E → ℕ) (calm : E → Type 0) where
  -- ---- Before the first session

  first_end : (p : Player) (ends : List E) → p.client.events ≡ [] → AllByRecursion (λ end. IsFresh (told end)) ends → (n : ℕ) (a b : E) → slice_get ends n ≡ Some a → slice_get ends n ≡ Some b →
      IsSoFar told faults calm p.client.who p.client.events n a b
  first_end p ends none fresh n a b was is =
      subst (λ (e : E). IsSoFar told faults calm p.client.who p.client.events n a e) (same_Some a b (sym was ∙ is)) (record {
        carried = subst (λ (t : List Event). IsCarried (Unit {0}) p.client.who t n (told a) (told a)) (sym none) (carried_fresh p.client.who n (told a) (all_there (λ end. IsFresh (told end)) ends n a fresh was));
        ahead = λ _. refl;
        faults_are = refl;
        calm_is = λ c. c;
      })

  pub begins : (p : Player) (ends : List E) → IsGoing p → p.client.events ≡ [] → AllByRecursion (λ end. IsFresh (told end)) ends → IsPlaying told faults calm p p ends ends 0
  begins p ends g none fresh =
      record {
        going = g;
        needed = ap must_join none;
        joined = ap joins none;
        who = refl;
        script = refl;
        first = refl;
        watched = refl;
        ends = record { count = refl; each = first_end p ends none fresh };
      }

  -- Before it, memory ended.
  pub none_played : (p : Player) (ends : List E) → IsNew p → AllByRecursion (λ end. IsFresh (told end)) ends → HasPlayed told faults calm p p ends ends causes.Memory
  none_played p ends new fresh =
      record {
        who = refl;
        proper = subst (AreProper p.client.who 0) (sym new.none) tt;
        left = p.left.now;
        follows = subst (λ (t : List Event). FollowsTo p.client.who p.script.now t p.left.now) (sym new.none) new.left;
        awaited = subst (GetsAreAwaited p.client.who p.script.now) (sym new.none) tt;
        lines = λ some. absurd (some refl);
        ends =
            record {
              count = refl;
              each = λ n a b was is.
                  let r = first_end p ends new.none fresh n a b was is in
                  record {
                    carried = carried_on (Unit {0}) (SentAll causes.Memory) (λ _. tt) p.client.who p.client.who p.client.events p.client.events n (told a) (told b) refl refl refl r.carried;
                    faults_are = inl r.faults_are;
                    calm_is = r.calm_is;
                  };
            };
        why = tt;
      }

  -- ---- One session more

  module _ (p0 p q : Player) (old now : List E) (k : ℕ) (x y : E) (playing : IsPlaying told faults calm p0 p old now k) (at_k : slice_get now k ≡ Some x)
      (same : IsSameEnd (told x) (told y)) (calm_is : calm x → calm y) where
    -- the end at its place was as it had come
    came : (a : E) → IsSoFar told faults calm p.client.who p.client.events k a x → x ≡ a
    came a r = r.ahead (omega (arith, playing.joined))

    pub plays_on : Ended k p q (told y) endings.Cut → faults y ≡ faults x → IsPlaying told faults calm p0 q old (slice_set now k y) (k + 1)
    plays_on d f =
        let begun : joins q.client.events ≡ suc k = joined_to q.client.who q.client.events k d.going.proper d.current in
        record {
          going = d.going;
          needed = ap must_join d.how.1;
          joined = omega (arith, begun);
          who = d.onward.who ∙ playing.who;
          script = d.onward.script ∙ playing.script;
          first = d.onward.first ∙ playing.first;
          watched = d.onward.watched ∙ playing.watched;
          ends = kept_set (IsSoFar told faults calm p.client.who p.client.events) (IsSoFar told faults calm q.client.who q.client.events) old now k x y playing.ends at_k
              (λ n a b ne r. record {
                carried = carried_on (Unit {0}) (Unit {0}) (λ u. u) p.client.who q.client.who p.client.events q.client.events n (told a) (told b) d.onward.who (d.onward.asks n ne) (d.onward.gets n ne) r.carried;
                ahead = λ l. r.ahead (omega (arith, l, begun, playing.joined));
                faults_are = r.faults_are;
                calm_is = r.calm_is;
              })
              (λ a was r. record {
                carried = subst (λ (e : E). IsCarried (Unit {0}) q.client.who q.client.events k (told e) (told y)) (came a r) (carried_ended (Unit {0}) k p q (told x) (told y) endings.Cut same d);
                ahead = λ l. absurd (omega (arith, l, begun));
                faults_are = f ∙ ap faults (came a r);
                calm_is = λ c. calm_is (subst calm (sym (came a r)) c);
              });
        }

    -- The ends when the player stops in this session.
    left_ends : (cause : PlayerCause) → q.client.who ≡ p.client.who →
        ((n : ℕ) → n ≢ k → asked p.client.who.client p.client.who.interest q.client.events n ≡ asked p.client.who.client p.client.who.interest p.client.events n) →
        ((n : ℕ) → n ≢ k → got q.client.events n ≡ got p.client.events n) →
        IsCarried (SentAll cause) q.client.who q.client.events k (told x) (told y) → (faults y ≡ faults x) ⊎ ((cause ≡ causes.LinkFault) × IsUncut q.client.events k) →
        AreKept (IsLeft told faults calm q.client.who q.client.events cause) old (slice_set now k y)
    left_ends cause who asks gets carried f =
        kept_set (IsSoFar told faults calm p.client.who p.client.events) (IsLeft told faults calm q.client.who q.client.events cause) old now k x y playing.ends at_k
        (λ n a b ne r. record {
          carried = carried_on (Unit {0}) (SentAll cause) (λ _. tt) p.client.who q.client.who p.client.events q.client.events n (told a) (told b) who (asks n ne) (gets n ne) r.carried;
          faults_are = inl r.faults_are;
          calm_is = r.calm_is;
        })
        (λ a was r. record {
          carried = subst (λ (e : E). IsCarried (SentAll cause) q.client.who q.client.events k (told e) (told y)) (came a r) carried;
          faults_are = subst (λ (e : E). (faults y ≡ faults e) ⊎ ((cause ≡ causes.LinkFault) × IsUncut q.client.events k)) (came a r) f;
          calm_is = λ c. calm_is (subst calm (sym (came a r)) c);
        })

    played_ended : (ending : SessionEnd) (cause : PlayerCause) → Ended k p q (told y) ending → faults y ≡ faults x → IsWhy told faults calm q.client.who q.client.events p0.first cause old (slice_set now k y) →
        HasPlayed told faults calm p0 q old (slice_set now k y) cause
    played_ended ending cause d f why =
        record {
          who = d.onward.who ∙ playing.who;
          proper = d.going.proper;
          left = q.left.now;
          follows = subst (λ (s : List Step). FollowsTo q.client.who s q.client.events q.left.now) (d.onward.script ∙ playing.script) d.going.follows;
          awaited = subst (λ (s : List Step). GetsAreAwaited q.client.who s q.client.events) (d.onward.script ∙ playing.script) d.going.awaited;
          lines = λ _. subst (λ (w : Bool). AreTold w q.client.who q.client.events q.lines.items) (d.onward.watched ∙ playing.watched) d.going.told;
          ends = left_ends cause d.onward.who d.onward.asks d.onward.gets (carried_ended (SentAll cause) k p q (told x) (told y) ending same d) (inl f);
          why = why;
        }

    stuck : (cause : PlayerCause) → cause ≢ causes.Memory → Stopped k p q (told y) cause → NextCause (faults x) (faults y) (Some cause) → IsStuck told faults calm q.client.who q.client.events p0.first cause old (slice_set now k y)
    stuck cause some d n =
        let a = before (IsSoFar told faults calm p.client.who p.client.events) old now playing.ends k x at_k in
        let xa = came a.0 (playing.ends.each k a.0 x a.1 at_k) in
        record {
          place = k;
          before = a.0;
          after = y;
          was = a.1;
          is = set_is (IsSoFar told faults calm p.client.who p.client.events) (λ _ _ _. Unit {0}) old now k x y playing.ends at_k (λ _ _ _ _ _. tt) (λ _ _ _. tt);
          session = record { current = d.current some; open_is = d.open_is };
          going_on = d.going_on some;
          rose = subst (λ (e : E). NextCause (faults e) (faults y) (Some cause)) xa n;
          reason = subst (λ (f : ℕ). IsReason q.client.who q.client.events f k (told y) cause) (d.onward.first ∙ playing.first) d.reason;
        }

    played_stopped : (cause : PlayerCause) → Stopped k p q (told y) cause → NextCause (faults x) (faults y) (Some cause) → IsWhy told faults calm q.client.who q.client.events p0.first cause old (slice_set now k y) →
        HasPlayed told faults calm p0 q old (slice_set now k y) cause
    played_stopped cause d n why =
        record {
          who = d.onward.who ∙ playing.who;
          proper = d.proper;
          left = d.left;
          follows = subst (λ (s : List Step). FollowsTo q.client.who s q.client.events d.left) (d.onward.script ∙ playing.script) d.follows;
          awaited = subst (λ (s : List Step). GetsAreAwaited q.client.who s q.client.events) (d.onward.script ∙ playing.script) d.awaited;
          lines = λ some. subst (λ (w : Bool). AreTold w q.client.who q.client.events q.lines.items) (d.onward.watched ∙ playing.watched) (d.told some);
          ends = left_ends cause d.onward.who d.onward.asks d.onward.gets (carried_stopped k p q (told x) (told y) cause same d)
              (count_at cause (faults x) (faults y) q.client.events k n d.current d.open_is);
          why = why;
        }

    pub has_played : (cause : PlayerCause) → IsPlayedNext (Some cause) k p q (told y) → NextCause (faults x) (faults y) (Some cause) → HasPlayed told faults calm p0 q old (slice_set now k y) cause
    has_played causes.Finished d n = played_ended endings.Left causes.Finished d n (left_last q.client.events k d.how)
    has_played causes.Quit d n = played_ended endings.Quit causes.Quit d n (quit_last q.client.events k d.how)
    has_played causes.LinkFault d n = played_stopped causes.LinkFault d n (stuck causes.LinkFault (λ e. cc) d n)
    has_played causes.Closed d n = played_stopped causes.Closed d n (stuck causes.Closed (λ e. cc) d n)
    has_played (causes.BadReply session payload fault) d n = played_stopped (causes.BadReply session payload fault) d n (stuck (causes.BadReply session payload fault) (λ e. cc) d n)
    has_played causes.Memory d n = played_stopped causes.Memory d n tt

  -- ---- The next session

  -- Its end is fresh.
  pub fresh_next : (p0 p : Player) (old now : List E) (k : ℕ) (x : E) → IsPlaying told faults calm p0 p old now k → slice_get now k ≡ Some x → AllByRecursion (λ end. IsFresh (told end)) old → IsFresh (told x)
  fresh_next p0 p old now k x playing at_k fresh =
      let a = before (IsSoFar told faults calm p.client.who p.client.events) old now playing.ends k x at_k in
      let r = playing.ends.each k a.0 x a.1 at_k in
      subst (λ (e : E). IsFresh (told e)) (sym (r.ahead (omega (arith, playing.joined)))) (all_there (λ end. IsFresh (told end)) old k a.0 fresh a.1)

  -- There always is one more.
  pub not_over : (p0 p : Player) (old now : List E) (k : ℕ) → IsPlaying told faults calm p0 p old now k → length old ≡ 1 + cuts_in p0.script.now → k < length old
  not_over p0 p old now k playing count =
      let budget = playing.going.budget.sessions in
      let some : one_more_if (must_join p.client.events) ≡ 0 = ap one_more_if playing.needed in
      let cuts : cuts_in p.script.now ≡ cuts_in p0.script.now = ap cuts_in playing.script in
      omega (arith, budget, some, cuts, playing.joined, count)

  -- ---- Closing

  pub none_closed : (ends : List E) → AreKept (IsClosing told faults calm 0) ends ends
  none_closed ends = record { count = refl; each = λ n a b was is. record { below = λ l. absurd (omega arith); ahead = λ _. same_Some b a (sym is ∙ was) } }

  pub one_closed : (old now : List E) (k : ℕ) (x y : E) → AreKept (IsClosing told faults calm k) old now → slice_get now k ≡ Some x → IsClosedEnd told faults calm x y →
      AreKept (IsClosing told faults calm (k + 1)) old (slice_set now k y)
  one_closed old now k x y kept at_k c =
      kept_set (IsClosing told faults calm k) (IsClosing told faults calm (k + 1)) old now k x y kept at_k
      (λ n a b ne r. record { below = λ l. r.below (omega (arith, l, ne)); ahead = λ l. r.ahead (omega arith) })
      (λ a was r. record {
        below = λ _. subst (λ (e : E). IsClosedEnd told faults calm e y) (r.ahead (omega arith)) c;
        ahead = λ l. absurd (omega arith);
      })

  pub all_closed : (old now : List E) (k : ℕ) → length now ≤ k → AreKept (IsClosing told faults calm k) old now → AreKept (λ n. IsClosedEnd told faults calm) old now
  all_closed old now k few kept =
      record { count = kept.count; each = λ n a b was is. (kept.each n a b was is).below (omega (arith, few, slice_get_within now n b is)) }
