-- A client's turn makes it the next player: what its events do, against the definition of a turn.
use Rattle.std.proofs.Common.{◌≡◌, ℕ, ◌+◌, ◌<◌, ◌≤◌, Bool, true, false, ◌&&◌, ◌||◌, ◌==◌, List, [], ◌∷◌, ◌++◌, length, Some, None, slice_get, refl, sym, ap, subst, ◌∙◌, arith, eq-eqb}
use Rattle.std.specs.Prelude.{if◌then◌else◌, nat_lt, All}
use Rattle.std.proofs.lemmas.Bool.{and_from, and_right, lt-ltb, le-ltb}
use Rattle.std.proofs.lemmas.List.{append-nil}
use Rattle.std.proofs.lemmas.Option.{none-some}
use Rattle.std.proofs.lemmas.List.Elements.{recursion_from_All, All-from_recursion}
use mathlib.Core.Bool.{or-false}
use Rattle.sv_wire.specs.Laws.{IsRequest}
use Rattle.law_system.proofs.Every.{each-right}
use Rattle.sv_world.specs.declared.world.ObjectId.{ObjectId}
use Rattle.sv_world.specs.declared.action.Action.{Action}
use Rattle.sv_wire.specs.declared.message.Reply.{Reply}
use Rattle.sv_wire.specs.declared.message.Request.{Request}
use Rattle.sv_client.specs.declared.trace.Event.{Event}
use Rattle.sv_client.specs.declared.trace.Event.TheVariants as events
use Rattle.sv_client.specs.Traces.{joins, is_join, pending_of}
use Rattle.sv_client.specs.declared.fault.TakeFault.{TakeFault}
use Rattle.sv_client.specs.declared.fault.TakeFault.TheVariants as faults
use Rattle.sv_client.specs.Answers.{IsTakeFault, got_now}
use Rattle.sv_client.specs.Taking.{Identity, first_fault_of_reply, Fault, Unasked, WrongKind, BadOrder, BadItem, Missing}
use Rattle.sv_client.specs.Proper.{MayMake, MayPoll, MayObserve, MayLeave, in_session}
use Rattle.sv_client.specs.Seen.{raised, latest_session, newly_asked}
use Rattle.sv_client.proofs.Shifts.{Up, up_joins, up_makes, up_session, up_pending, up_outstanding, up_fault}
use Rattle.sv_scenario.specs.declared.scenario.Step.{Step}
use Rattle.sv_scenario.specs.declared.scenario.Step.TheVariants as steps
use Rattle.sv_script.specs.Laws.{is_got}
use Rattle.sv_script.specs.Following.{must_join, is_welcomed}
use Rattle.law_system.specs.Outcomes.{is_quit}
use Rattle.law_schedule.specs.Players.{Player, player_turn, next_step, last_steps, if_free, is_calm, is_settled, does, takes, takes_if}
use Rattle.law_schedule.proofs.DoneShut.{turn-joins}
use Rattle.sv_replay.specs.declared.playing.Playing.{Playing}
use Rattle.sv_exchange.specs.View.{ExchangeView, TakesReply}
use Rattle.sv_replay.specs.Messages.{AsksMessages}
use Rattle.sv_replay.specs.Players.{session_of, asked_by_player, IsFit, Moves, is_closing, taken_from}
use Rattle.sv_replay.specs.Machine.{player_of, AreFlags, IsInSession, Does, MovedPlayer}
use Rattle.sv_replay.proofs.Events.{up_must}
use Rattle.sv_replay.proofs.Doing.{player, session_latest, JoinsNext, event_moves, close_moves, got_moves, still_moves, left_moves}

-- The player after an event.
abbrev pub next_player : Playing → Event → List Step → Player
next_player p e rest = player p.client.who p.first (e ∷ p.client.events) rest (is_quit e)

same_player : (who who' : Identity) (first first' : ℕ) (t t' : List Event) (left left' : List Step) (closed closed' : Bool) →
    who ≡ who' → first ≡ first' → t ≡ t' → left ≡ left' → closed ≡ closed' → player who first t left closed ≡ player who' first' t' left' closed'
same_player who who' first first' t t' left left' closed closed' a b c d e = rw (a, b, c, d, e) refl

at_closed : (who : Identity) (first : ℕ) (t : List Event) (left : List Step) (b : Bool) (P : Player → Type 0) → b ≡ false → P (player who first t left false) → P (player who first t left b)
at_closed who first t left b P e h = subst (λ x. P (player who first t left x)) (sym e) h

pub does_moved : (e : Event) (rest : List Step) (closed : Bool) (p q : Playing) (c d : ExchangeView) → IsFit 64 (player_of p) → p.closed ≡ false → JoinsNext p.client.events e →
    is_got e ≡ false → closed ≡ is_quit e → Does e rest closed p q c d → MovedPlayer (next_player p e rest) p q c d
does_moved e rest closed p q c d fit linked j g quits did =
    let who = p.client.who in
    let t = p.client.events in
    let free : IsFit 64 (player who p.first t p.left.now false) = subst (λ b. IsFit 64 (player who p.first t p.left.now b)) linked fit in
    record {
      player = same_player q.client.who who q.first p.first q.client.events (e ∷ t) q.left.now rest q.closed (is_quit e) did.who did.first did.events did.left (did.closed_is ∙ quits);
      flags = did.flags;
      sent = newly_asked who t e;
      taken = [];
      closing = is_closing e;
      moves = at_closed who p.first t p.left.now p.closed (λ (old : Player). Moves (session_of old) old (next_player p e rest) (newly_asked who t e) [] (is_closing e)) linked
          (event_moves who p.first t p.left.now free e j g rest);
      requests = ap (λ (v : ExchangeView). v.requests) did.channel;
      replies = sym (ap (λ (v : ExchangeView). v.replies) did.channel);
      closed = ap (λ (v : ExchangeView). v.closed) did.channel;
      stopped = ap (λ (v : ExchangeView). v.stopped) did.channel;
    }

pub still_moved : (p : Playing) (c : ExchangeView) → AreFlags p → MovedPlayer (player_of p) p p c c
still_moved p c flags = record {
  player = refl;
  flags = flags;
  sent = [];
  taken = [];
  closing = false;
  moves = still_moves (player_of p);
  requests = sym (append-nil c.requests);
  replies = refl;
  closed = sym (or-false c.closed);
  stopped = refl;
}

-- ---- Which turn it is

pub turn_waits : (p : Player) → p.closed ≡ false → must_join p.events ≡ false → is_welcomed p.events ≡ false → player_turn p ≡ p
turn_waits p c m w = rw (c, m, w) refl

pub turn_steps : (p : Player) → p.closed ≡ false → must_join p.events ≡ false → is_welcomed p.events ≡ true → player_turn p ≡ next_step p p.left
turn_steps p c m w = rw (c, m, w) refl

pub joins_player : (p : Playing) → p.closed ≡ false → must_join p.client.events ≡ true →
    player_turn (player_of p) ≡ next_player p (events.Join (joins p.client.events)) p.left.now
joins_player p c m =
    let count : p.first + joins (Up p.first p.client.events) ≡ joins p.client.events + p.first = (let same : joins (Up p.first p.client.events) ≡ joins p.client.events = up_joins p.first p.client.events in omega arith) in
    turn-joins (player_of p) c (up_must p.first p.client.events ∙ m)
    ∙ ap (λ (n : ℕ). does (player_of p) (events.Join n) p.left.now) count
    ∙ ap (λ (b : Bool). does (player p.client.who p.first p.client.events p.left.now b) (events.Join (joins p.client.events + p.first)) p.left.now) c

pub may_join : (p : Playing) → p.closed ≡ false → must_join p.client.events ≡ true → IsFit 64 (player_turn (player_of p)) → joins p.client.events < 64
may_join p c m fit =
    let after = subst (IsFit 64) (joins_player p c m) fit in
    subst (λ n. n < 64) (up_joins p.first p.client.events) after.proper.0.few

-- An event of a client with an open link.
pub does_player : (p : Playing) (e : Event) (rest : List Step) → p.closed ≡ false → is_quit e ≡ false → does (player_of p) (raised p.first e) rest ≡ next_player p e rest
does_player p e rest c q = ap (λ (b : Bool). player p.client.who p.first (e ∷ p.client.events) rest b) (c ∙ sym q)

-- ---- What may be done

pub down_make : (who : Identity) (first : ℕ) (t : List Event) (a : Action) → MayMake who (Up first t) a → MayMake who t a
down_make who first t a m = record {
  joined = sym (up_session first t) ∙ m.joined;
  good = m.good;
  room = rw (sym (up_pending first t)) m.room;
  calm = rw (sym (up_outstanding first who t)) m.calm;
  few = rw (sym (up_makes first t)) m.few;
}

pub down_poll : (who : Identity) (first : ℕ) (t : List Event) → MayPoll who (Up first t) → MayPoll who t
down_poll who first t m = record { joined = sym (up_session first t) ∙ m.joined; calm = rw (sym (up_outstanding first who t)) m.calm }

pub down_observe : (who : Identity) (first : ℕ) (t : List Event) (objects : List ObjectId) → MayObserve who (Up first t) objects → MayObserve who t objects
down_observe who first t objects m = record { joined = sym (up_session first t) ∙ m.joined; good = m.good; calm = rw (sym (up_outstanding first who t)) m.calm }

pub down_leave : (who : Identity) (first : ℕ) (t : List Event) → MayLeave who (Up first t) → MayLeave who t
down_leave who first t m = record { joined = sym (up_session first t) ∙ m.joined; settled = sym (up_outstanding first who t) ∙ m.settled }

if_may : (p : Player) (may : Bool) (e : Event) (rest : List Step) → may ≡ true → if_free p may e rest ≡ does p e rest
if_may p may e rest t = rw t refl

if_not : (p : Player) (may : Bool) (e : Event) (rest : List Step) → may ≡ false → if_free p may e rest ≡ p
if_not p may e rest f = rw f refl

pub acts : (p : Player) (a : Action) (rest : List Step) → length (pending_of p.events) < 8 → is_calm p ≡ true → next_step p (steps.Act a ∷ rest) ≡ does p (events.Make a) rest
acts p a rest l c = if_may p (nat_lt (length (pending_of p.events)) 8 && is_calm p) (events.Make a) rest (and_from (nat_lt (length (pending_of p.events)) 8) (is_calm p) (lt-ltb _ 8 l) c)

pub waits_full : (p : Player) (a : Action) (rest : List Step) → 8 ≤ length (pending_of p.events) → next_step p (steps.Act a ∷ rest) ≡ p
waits_full p a rest l = if_not p (nat_lt (length (pending_of p.events)) 8 && is_calm p) (events.Make a) rest (ap (λ b. b && is_calm p) (le-ltb _ 8 l))

pub waits_busy : (p : Player) (a : Action) (rest : List Step) → is_calm p ≡ false → next_step p (steps.Act a ∷ rest) ≡ p
waits_busy p a rest c = if_not p (nat_lt (length (pending_of p.events)) 8 && is_calm p) (events.Make a) rest (and_right (nat_lt (length (pending_of p.events)) 8) (is_calm p) c)

pub polls : (p : Player) (rest : List Step) → is_calm p ≡ true → next_step p (steps.Poll ∷ rest) ≡ does p events.Poll rest
polls p rest c = if_may p (is_calm p) events.Poll rest c

pub waits_poll : (p : Player) (rest : List Step) → is_calm p ≡ false → next_step p (steps.Poll ∷ rest) ≡ p
waits_poll p rest c = if_not p (is_calm p) events.Poll rest c

pub observes : (p : Player) (objects : List ObjectId) (rest : List Step) → is_calm p ≡ true → next_step p (steps.Observe objects ∷ rest) ≡ does p (events.Observe objects 0) rest
observes p objects rest c = if_may p (is_calm p) (events.Observe objects 0) rest c

pub waits_observe : (p : Player) (objects : List ObjectId) (rest : List Step) → is_calm p ≡ false → next_step p (steps.Observe objects ∷ rest) ≡ p
waits_observe p objects rest c = if_not p (is_calm p) (events.Observe objects 0) rest c

pub leaves : (p : Player) → is_settled p ≡ true → in_session p.events ≡ true → last_steps p ≡ does p events.Leave []
leaves p s i = rw (s, i) refl

pub closes : (p : Player) → is_settled p ≡ true → in_session p.events ≡ false → last_steps p ≡ record p { closed = true }
closes p s i = rw (s, i) refl

pub waits_last : (p : Player) → is_settled p ≡ false → last_steps p ≡ p
waits_last p s = rw s refl

-- ---- Each turn, from what the client did

-- The next event is no join, where a client is in a session.
no_join : (t : List Event) (e : Event) → is_join e ≡ false → must_join t ≡ false → JoinsNext t e
no_join t e j m = record { needed = j ∙ sym m; next = λ n is. absurd (let other : is_join e ≡ true = ap is_join is in cc) }

-- A ready client did an event that is no join.
pub ready_moved : (e : Event) (rest : List Step) (next : Player) (p q : Playing) (c d : ExchangeView) → IsInSession p → is_got e ≡ false → is_join e ≡ false →
    next ≡ next_player p e rest → Does e rest (is_quit e) p q c d → MovedPlayer next p q c d
ready_moved e rest next p q c d ready g j is did =
    subst (λ (n : Player). MovedPlayer n p q c d) (sym is)
    (does_moved e rest (is_quit e) p q c d ready.fit ready.linked (no_join p.client.events e j ready.joined) g refl did)

-- As it did before, where the flag of a closed link is as it was.
pub same_link : (e : Event) (rest : List Step) (closed other : Bool) (p q : Playing) (c d : ExchangeView) → closed ≡ other → Does e rest closed p q c d → Does e rest other p q c d
same_link e rest closed other p q c d same did = subst (λ (b : Bool). Does e rest b p q c d) same did

pub left_is : (e : Event) (rest other : List Step) (p q : Playing) (c d : ExchangeView) → rest ≡ other → Does e rest false p q c d → Does e other false p q c d
left_is e rest other p q c d same did = subst (λ (ss : List Step). Does e ss false p q c d) same did

pub joined_moved : (p q : Playing) (c d : ExchangeView) → IsFit 64 (player_of p) → p.closed ≡ false → must_join p.client.events ≡ true →
    Does (events.Join (joins p.client.events)) p.left.now p.closed p q c d → MovedPlayer (player_turn (player_of p)) p q c d
joined_moved p q c d fit linked m did =
    subst (λ (n : Player). MovedPlayer n p q c d) (sym (joins_player p linked m))
    (does_moved (events.Join (joins p.client.events)) p.left.now p.closed p q c d fit linked (record { needed = sym m; next = λ n is. (cc) }) refl linked did)

pub still_at : (next : Player) (p : Playing) (c : ExchangeView) → next ≡ player_of p → AreFlags p → MovedPlayer next p p c c
still_at next p c is flags = subst (λ (n : Player). MovedPlayer n p p c c) (sym is) (still_moved p c flags)

-- Steps left are no matter for the connection.
sync_moves : (p : Player) (rest : List Step) → Moves (session_of p) p (next_step p (steps.Sync ∷ rest)) [] [] false
sync_moves p rest = go (is_settled p)
  where
    go : (b : Bool) → Moves (session_of p) p (if b then record p { left = rest } else p) [] [] false
    go true = left_moves p rest
    go false = still_moves p

-- A sync was passed, or not yet.
pub sync_moved : (p q : Playing) (rest : List Step) (c : ExchangeView) → player_of q ≡ next_step (player_of p) (steps.Sync ∷ rest) → AreFlags q →
    MovedPlayer (next_step (player_of p) (steps.Sync ∷ rest)) p q c c
sync_moved p q rest c is flags = record {
  player = is;
  flags = flags;
  sent = [];
  taken = [];
  closing = false;
  moves = sync_moves (player_of p) rest;
  requests = sym (append-nil c.requests);
  replies = refl;
  closed = sym (or-false c.closed);
  stopped = refl;
}

-- A client closed its link for good.
pub closed_moved : (p : Playing) (c d : ExchangeView) → IsInSession p → AreFlags p → d ≡ record c { closed = true } → MovedPlayer (record (player_of p) { closed = true }) p (record p { closed = true }) c d
closed_moved p c d ready flags is =
    let who = p.client.who in
    let t = p.client.events in
    let free : IsFit 64 (player who p.first t p.left.now false) = subst (λ b. IsFit 64 (player who p.first t p.left.now b)) ready.linked ready.fit in
    record {
      player = refl;
      flags = record { between = flags.between; welcomed = flags.welcomed };
      sent = [];
      taken = [];
      closing = true;
      moves = at_closed who p.first t p.left.now p.closed (λ (old : Player). Moves (session_of old) old (record old { closed = true }) [] [] true) ready.linked
          (close_moves who p.first t p.left.now free ready.joined);
      requests = ap (λ (v : ExchangeView). v.requests) is ∙ sym (append-nil c.requests);
      replies = sym (ap (λ (v : ExchangeView). v.replies) is);
      closed = ap (λ (v : ExchangeView). v.closed) is ∙ or_true c.closed;
      stopped = ap (λ (v : ExchangeView). v.stopped) is;
    }
  where
    or_true : (b : Bool) → true ≡ (b || true)
    or_true true = refl
    or_true false = refl

-- ---- Replies

-- A fault other than running out of memory is one of the reply.
refuses : (who : Identity) (t : List Event) (reply : Reply) (fault : TakeFault) → (fault ≡ faults.Memory → ⊥) → IsTakeFault who t reply fault →
    (f : Fault) × (first_fault_of_reply who t reply ≡ Some f)
refuses who t reply faults.Unasked other is = (Unasked, is)
refuses who t reply faults.WrongKind other is = (WrongKind, is)
refuses who t reply faults.BadOrder other is = (BadOrder, is)
refuses who t reply faults.BadItem other is = (BadItem, is)
refuses who t reply (faults.Missing pos object) other is = (Missing pos object.0, is)
refuses who t reply faults.Memory other is = absurd (other refl)

pub first_of : {X : Type 0} (x : X) (xs ys : List X) → xs ≡ x ∷ ys → slice_get xs 0 ≡ Some x
first_of x xs ys e = ap (λ zs. slice_get zs 0) e

pub none_waits : (p : Playing) (c d : ExchangeView) (s : ℕ) → TakesReply c d None → AreFlags p → MovedPlayer (takes (player_of p) s (slice_get c.replies 0)) p p c d
none_waits p c d s h flags =
    subst (λ (v : ExchangeView). MovedPlayer (takes (player_of p) s (slice_get c.replies 0)) p p c v) (sym h.1)
    (still_at _ p c (ap (takes (player_of p) s) (ap (λ (rs : List Reply). slice_get rs 0) h.0)) flags)

took_fine : (p : Player) (s : ℕ) (reply : Reply) → first_fault_of_reply p.who p.events reply ≡ None → takes p s (Some reply) ≡ does p (events.Got s reply) p.left
took_fine p s reply e = ap (takes_if p s reply) e

-- The player after a reply that it got.
pub took_next : (p : Playing) (c : ExchangeView) (reply : Reply) → IsFit 64 (player_of p) → p.closed ≡ false → must_join p.client.events ≡ false → slice_get c.replies 0 ≡ Some reply →
    first_fault_of_reply p.client.who p.client.events reply ≡ None →
    takes (player_of p) (session_of (player_of p)) (slice_get c.replies 0) ≡ player p.client.who p.first (got_now p.client.events reply ∷ p.client.events) p.left.now false
took_next p c reply fit linked joined first fine =
    let k = p.client.who in
    let t = p.client.events in
    let n = session_of (player_of p) in
    let last : latest_session t + p.first ≡ n = session_latest k p.first t p.left.now p.closed fit.proper joined (fit.begun (up_must p.first t ∙ joined)) in
    ap (takes (player_of p) n) first
    ∙ took_fine (player_of p) n reply (up_fault p.first k t reply ∙ fine)
    ∙ ap (λ (m : ℕ). does (player_of p) (events.Got m reply) p.left.now) (sym last)
    ∙ ap (λ (x : Bool). player k p.first (got_now t reply ∷ t) p.left.now x) linked

-- A reply was got, and what it asks is sent.
pub took_moved : (p q : Playing) (c b d : ExchangeView) (reply : Reply) → IsFit 64 (player_of p) → p.closed ≡ false → must_join p.client.events ≡ false →
    TakesReply c b (Some reply) → first_fault_of_reply p.client.who p.client.events reply ≡ None →
    q.client.who ≡ p.client.who → q.client.events ≡ got_now p.client.events reply ∷ p.client.events → q.first ≡ p.first → q.left.now ≡ p.left.now → q.closed ≡ p.closed →
    AreFlags p → q.between ≡ p.between → q.welcomed ≡ true → d ≡ record b { requests = b.requests ++ newly_asked p.client.who p.client.events (got_now p.client.events reply) } →
    MovedPlayer (takes (player_of p) (session_of (player_of p)) (slice_get c.replies 0)) p q c d
took_moved p q c b d reply fit linked joined h fine who es first left closed flags between welcomed sent =
    let k = p.client.who in
    let t = p.client.events in
    let e = got_now t reply in
    let free : IsFit 64 (player k p.first t p.left.now false) = subst (λ b. IsFit 64 (player k p.first t p.left.now b)) linked fit in
    subst (λ (x : Player). MovedPlayer x p q c d) (sym (took_next p c reply fit linked joined (first_of reply c.replies b.replies (ap (λ (v : ExchangeView). v.replies) h)) fine)) (record {
      player = same_player q.client.who k q.first p.first q.client.events (e ∷ t) q.left.now p.left.now q.closed false who first es left (closed ∙ linked);
      flags = record {
        between = between ∙ flags.between ∙ joined ∙ ap must_join (sym es);
        welcomed = welcomed ∙ ap is_welcomed (sym es);
      };
      sent = newly_asked k t e;
      taken = reply ∷ [];
      closing = false;
      moves = at_closed k p.first t p.left.now p.closed (λ (old : Player). Moves (session_of old) old (player k p.first (e ∷ t) p.left.now false) (newly_asked k t e) (reply ∷ []) false) linked
          (got_moves k p.first t p.left.now free joined (latest_session t) reply refl);
      requests = ap (λ (v : ExchangeView). v.requests) sent ∙ ap (λ (v : ExchangeView). v.requests ++ newly_asked k t e) (sym h);
      replies = ap (λ (v : ExchangeView). v.replies) h ∙ ap (λ (rs : List Reply). reply ∷ rs) (sym (ap (λ (v : ExchangeView). v.replies) sent));
      closed = ap (λ (v : ExchangeView). v.closed) sent ∙ ap (λ (v : ExchangeView). v.closed) (sym h) ∙ sym (or-false c.closed);
      stopped = ap (λ (v : ExchangeView). v.stopped) sent ∙ ap (λ (v : ExchangeView). v.stopped) (sym h);
    })

-- A reply without a fault is refused only where memory runs out.
pub takes_fine : (who : Identity) (t : List Event) (reply : Reply) (fault : TakeFault) → (fault ≡ faults.Memory → ⊥) → IsTakeFault who t reply fault → first_fault_of_reply who t reply ≡ None → ⊥
takes_fine who t reply fault other is fine = let f = refuses who t reply fault other is in none-some f.0 (sym fine ∙ f.1)

-- ---- What is asked next is messages

newly_from : (n : ℕ) (before after sent : List Request) → after ≡ before ++ (if n == n then sent else []) → All IsRequest after → All IsRequest sent
newly_from n before after sent e all =
    let here : (n == n) ≡ true = eq-eqb n n refl in
    let both : after ≡ before ++ sent = e ∙ ap (λ (b : Bool). before ++ (if b then sent else [])) here in
    All-from_recursion IsRequest sent (each-right IsRequest before sent (recursion_from_All IsRequest (before ++ sent) (subst (All IsRequest) both all)))

asks_event : (p : Playing) (e : Event) (rest : List Step) → IsFit 64 (player_of p) → p.closed ≡ false → JoinsNext p.client.events e → is_got e ≡ false →
    AsksMessages (next_player p e rest) → All IsRequest (newly_asked p.client.who p.client.events e)
asks_event p e rest fit linked j g asks =
    let k = p.client.who in
    let t = p.client.events in
    let free : IsFit 64 (player k p.first t p.left.now false) = subst (λ b. IsFit 64 (player k p.first t p.left.now b)) linked fit in
    let n = session_of (player k p.first t p.left.now false) in
    newly_from n (asked_by_player (player k p.first t p.left.now false) n) (asked_by_player (next_player p e rest) n) (newly_asked k t e) ((event_moves k p.first t p.left.now free e j g rest).asks n) (asks n)

pub asks_join : (p : Playing) → IsFit 64 (player_of p) → p.closed ≡ false → must_join p.client.events ≡ true → AsksMessages (player_turn (player_of p)) →
    All IsRequest (newly_asked p.client.who p.client.events (events.Join (joins p.client.events)))
asks_join p fit linked m asks =
    asks_event p (events.Join (joins p.client.events)) p.left.now fit linked (record { needed = sym m; next = λ n is. (cc) }) refl (subst AsksMessages (joins_player p linked m) asks)

pub asks_ready : (p : Playing) (e : Event) (rest : List Step) (next : Player) → IsInSession p → is_got e ≡ false → is_join e ≡ false → next ≡ next_player p e rest → AsksMessages next →
    All IsRequest (newly_asked p.client.who p.client.events e)
asks_ready p e rest next ready g j is asks = asks_event p e rest ready.fit ready.linked (no_join p.client.events e j ready.joined) g (subst AsksMessages is asks)

pub asks_got_now : (p : Playing) (c : ExchangeView) (reply : Reply) → IsFit 64 (player_of p) → p.closed ≡ false → must_join p.client.events ≡ false → slice_get c.replies 0 ≡ Some reply →
    first_fault_of_reply p.client.who p.client.events reply ≡ None → AsksMessages (takes (player_of p) (session_of (player_of p)) (slice_get c.replies 0)) →
    All IsRequest (newly_asked p.client.who p.client.events (got_now p.client.events reply))
asks_got_now p c reply fit linked joined first fine asks =
    let k = p.client.who in
    let t = p.client.events in
    let e = got_now t reply in
    let free : IsFit 64 (player k p.first t p.left.now false) = subst (λ b. IsFit 64 (player k p.first t p.left.now b)) linked fit in
    let n = session_of (player k p.first t p.left.now false) in
    newly_from n (asked_by_player (player k p.first t p.left.now false) n) (asked_by_player (player k p.first (e ∷ t) p.left.now false) n) (newly_asked k t e)
    ((got_moves k p.first t p.left.now free joined (latest_session t) reply refl).asks n) (subst AsksMessages (took_next p c reply fit linked joined first fine) asks n)

-- A request that an event asks alone.
pub only_asked : (b : Bool) (q request : Request) → request ∷ [] ≡ (if b then q ∷ [] else []) → request ≡ q
only_asked true q request e = cc
only_asked false q request e = cc

-- ---- Whether a client's end is open

pub take_shut : (p : Player) (replies : List Reply) → p.closed ≡ true → taken_from replies p ≡ p
take_shut p replies c = rw c refl

pub take_between : (p : Player) (replies : List Reply) → p.closed ≡ false → must_join p.events ≡ true → taken_from replies p ≡ p
take_between p replies c m = rw (c, m) refl

pub take_linked : (p : Player) (replies : List Reply) → p.closed ≡ false → must_join p.events ≡ false → taken_from replies p ≡ takes p (session_of p) (slice_get replies 0)
take_linked p replies c m = rw (c, m) refl
