-- A client stays one with each event that its calls append.
use Rattle.std.proofs.Common.{◌≡◌, ℕ, suc, ◌+◌, ◌<◌, ◌≤◌, Bool, true, false, List, [], ◌∷◌, ◌++◌, length, map, Option, Some, None, refl, sym, ap, subst, ◌∙◌, add-one, zero-add, arith}
use Rattle.std.specs.Prelude.{if◌then◌else◌, replicate, unwrap_or}
use Rattle.std.proofs.lemmas.Bool.{eq-eqb}
use Rattle.std.proofs.lemmas.List.{length-append, map-append, length-replicate}
use Rattle.sv_world.specs.declared.action.Action.{Action}
use Rattle.sv_world.specs.declared.world.ObjectId.{ObjectId}
use Rattle.sv_versions.specs.Held.{Store}
use Rattle.sv_pending.specs.Made.{PendingList}
use Rattle.sv_pending.specs.Pending.{PendingAction, kept_of}
use Rattle.sv_wire.specs.declared.message.Reply.{Reply}
use Rattle.sv_wire.specs.declared.message.Request.{Request}
use Rattle.sv_wire.specs.declared.message.Request.TheVariants as requests
use Rattle.sv_client.specs.declared.kinds.Awaited.{Awaited}
use Rattle.sv_client.specs.declared.kinds.Awaited.TheVariants as kinds
use Rattle.sv_client.specs.declared.trace.Event.{Event}
use Rattle.sv_client.specs.declared.trace.Event.TheVariants as events
use Rattle.sv_client.specs.declared.trace.TraceMark.{TraceMark}
use Rattle.sv_client.specs.declared.trace.TraceMark.TheVariants as marks
use Rattle.sv_client.specs.Traces.{joins, makes, current_session, is_session, held_of, pending_of, submit_of}
use Rattle.sv_client.specs.Taking.{Identity, outstanding, unanswered, told, first_fault_of_reply}
use Rattle.sv_client.specs.Proper.{AreInTurn, IsReadyToMake, MayPoll, MayObserve, MayLeave, in_session}
use Rattle.sv_client.specs.Kinds.{kind_of}
use Rattle.sv_client.specs.Seen.{latest_session, event_of_mark}
use Rattle.sv_client.specs.Invariant.{StandsFor, AreAwaited, IsClientOf}
use Rattle.sv_client.specs.Answers.{got_now}
use Rattle.sv_client.proofs.Sessions.{some_current}
use Rattle.sv_client.proofs.Outstanding.{when, answers_some, joined_turn, made_turn, polled_turn, observed_turn, left_turn, outstanding_cut, outstanding_quit, outstanding_shown}
use Rattle.sv_client.proofs.Standing.{kept_same}

-- ---- What is awaited

kinds_more : (ks : List Awaited) (os : List Request) (k : Awaited) (r : Request) → map (λ k. Some k) ks ≡ map kind_of os → kind_of r ≡ Some k
    → map (λ k. Some k) (ks ++ k ∷ []) ≡ map kind_of (os ++ r ∷ [])
kinds_more ks os k r e h =
    map-append (λ k. Some k) ks (k ∷ []) ∙ rw (e, sym h) (sym (map-append kind_of os (r ∷ [])))

awaited_more : (who : Identity) (t : List Event) (e : Event) (ks ls : List Awaited) (k : Awaited) (r : Request) → AreAwaited who t ks → length ks < 16
    → ls ≡ ks ++ k ∷ [] → outstanding who (e ∷ t) ≡ outstanding who t ++ r ∷ [] → kind_of r ≡ Some k → AreAwaited who (e ∷ t) ls
awaited_more who t e ks ls k r a l h o q = record {
  same = ap (map (λ k. Some k)) h ∙ kinds_more ks (outstanding who t) k r a.same q ∙ ap (map kind_of) (sym o);
  few = rw (h, length-append ks (k ∷ [])) (omega (arith, l));
}

kinds_of_submits : (ps : List PendingAction) → map (λ k. Some k) (replicate (length ps) kinds.Submit) ≡ map kind_of (map submit_of ps)
kinds_of_submits [] = refl
kinds_of_submits (p ∷ ps) = ap (λ ks. Some kinds.Submit ∷ ks) (kinds_of_submits ps)

same_awaited : (who : Identity) (t : List Event) (e : Event) (ks : List Awaited) → AreAwaited who t ks → outstanding who (e ∷ t) ≡ outstanding who t → AreAwaited who (e ∷ t) ks
same_awaited who t e ks a o = record { same = a.same ∙ ap (map kind_of) (sym o); few = a.few }

-- ---- Each event

module _ (who : Identity) (t : List Event) (store : Store) (pending : PendingList) (ks : List Awaited) (sessions made commit : ℕ) (joined : Bool) (is : IsClientOf who t store pending ks sessions made commit joined) where
  pub made_keeps : (a : Action) (after : PendingList) (ls : List Awaited) → IsReadyToMake who t a
      → after ≡ record pending { items = pending.items ++ record { seq = made + 1; action = a; kept = kept_of store.held pending.items a } ∷ [] }
      → ls ≡ ks ++ kinds.Submit ∷ [] → length ks < 16
      → IsClientOf who (events.Make a ∷ t) store after ls sessions (made + 1) commit joined
  made_keeps a after ls may e h l = record {
    interest = is.interest;
    turn = (may, is.turn);
    held = record { shape = is.held.shape; answers = is.held.answers; few = is.held.few };
    actions = e ∙ rw (is.actions, is.counts.made_are, kept_same is.held.answers (pending_of t) a, add-one (makes t)) refl;
    awaited = awaited_more who t (events.Make a) ks ls kinds.Submit (requests.Submit (suc (makes t)) a) is.awaited l h (made_turn who 0 t a is.turn may.joined) refl;
    counts = record {
      sessions_are = is.counts.sessions_are;
      made_are = rw (is.counts.made_are) (add-one (makes t));
      commit_is = is.counts.commit_is;
      joined_is = is.counts.joined_is;
    };
  }

  pub polled_keeps : (ls : List Awaited) → MayPoll who t → ls ≡ ks ++ kinds.Poll ∷ [] → length ks < 16
      → IsClientOf who (events.Poll ∷ t) store pending ls sessions made commit joined
  polled_keeps ls may h l = record {
    interest = is.interest;
    turn = (may, is.turn);
    held = record { shape = is.held.shape; answers = is.held.answers; few = is.held.few };
    actions = is.actions;
    awaited = awaited_more who t events.Poll ks ls kinds.Poll requests.Poll is.awaited l h (polled_turn who 0 t is.turn may.joined) refl;
    counts = record {
      sessions_are = is.counts.sessions_are;
      made_are = is.counts.made_are;
      commit_is = is.counts.commit_is;
      joined_is = is.counts.joined_is;
    };
  }

  pub observed_keeps : (os : List ObjectId) (wait : ℕ) (ls : List Awaited) → MayObserve who t os → ls ≡ ks ++ kinds.Observe os ∷ [] → length ks < 16
      → IsClientOf who (events.Observe os wait ∷ t) store pending ls sessions made commit joined
  observed_keeps os wait ls may h l = record {
    interest = is.interest;
    turn = (may, is.turn);
    held = record { shape = is.held.shape; answers = is.held.answers; few = is.held.few };
    actions = is.actions;
    awaited = awaited_more who t (events.Observe os wait) ks ls (kinds.Observe os) (requests.Observe os wait) is.awaited l h (observed_turn who 0 t os wait is.turn may.joined) refl;
    counts = record {
      sessions_are = is.counts.sessions_are;
      made_are = is.counts.made_are;
      commit_is = is.counts.commit_is;
      joined_is = is.counts.joined_is;
    };
  }

  pub left_keeps : (ls : List Awaited) → MayLeave who t → ls ≡ ks ++ kinds.Leave ∷ [] → length ks < 16
      → IsClientOf who (events.Leave ∷ t) store pending ls sessions made commit false
  left_keeps ls may h l = record {
    interest = is.interest;
    turn = (may, is.turn);
    held = record { shape = is.held.shape; answers = is.held.answers; few = is.held.few };
    actions = is.actions;
    awaited = awaited_more who t events.Leave ks ls kinds.Leave requests.Leave is.awaited l h (left_turn who 0 t is.turn may.joined) refl;
    counts = record {
      sessions_are = is.counts.sessions_are;
      made_are = is.counts.made_are;
      commit_is = is.counts.commit_is;
      joined_is = refl;
    };
  }

  pub joined_keeps : (ls : List Awaited) → ls ≡ kinds.Join ∷ replicate (length pending.items) kinds.Submit → length pending.items ≤ 8
      → IsClientOf who (events.Join (joins t) ∷ t) store pending ls (sessions + 1) made commit true
  joined_keeps ls h l =
      let o = joined_turn who 0 t is.turn (joins t) (sym (zero-add (joins t))) in
      let n : length pending.items ≡ length (pending_of t) = ap (λ (p : PendingList). length p.items) is.actions in
      record {
        interest = is.interest;
        turn = (sym (zero-add (joins t)), is.turn);
        held = record { shape = is.held.shape; answers = is.held.answers; few = is.held.few };
        actions = is.actions;
        awaited = record {
          same = ap (map (λ k. Some k)) h ∙ rw n (ap (λ (xs : List (Option Awaited)). Some kinds.Join ∷ xs) (kinds_of_submits (pending_of t))) ∙ ap (map kind_of) (sym o);
          few = rw (h, length-replicate (length pending.items) kinds.Submit) (omega (arith, l));
        };
        counts = record {
          sessions_are = rw (is.counts.sessions_are) (add-one (joins t));
          made_are = is.counts.made_are;
          commit_is = is.counts.commit_is;
          joined_is = refl;
        };
      }

  noted : (e : Event) → AreInTurn who 0 (e ∷ t) → held_of (e ∷ t) ≡ held_of t → told (e ∷ t) ≡ told t → pending_of (e ∷ t) ≡ pending_of t
      → outstanding who (e ∷ t) ≡ outstanding who t → joins (e ∷ t) ≡ joins t → makes (e ∷ t) ≡ makes t → in_session (e ∷ t) ≡ in_session t
      → IsClientOf who (e ∷ t) store pending ks sessions made commit joined
  noted e p h c a o j m i = record {
    interest = is.interest;
    turn = p;
    held = record { shape = is.held.shape; answers = rw (h, c) is.held.answers; few = rw c is.held.few };
    actions = rw a is.actions;
    awaited = same_awaited who t e ks is.awaited o;
    counts = record {
      sessions_are = rw j is.counts.sessions_are;
      made_are = rw m is.counts.made_are;
      commit_is = rw c is.counts.commit_is;
      joined_is = rw i is.counts.joined_is;
    };
  }

  pub noted_keeps : (mark : TraceMark) → IsClientOf who (event_of_mark mark ∷ t) store pending ks sessions made commit joined
  noted_keeps marks.Cut = noted events.Cut (tt, is.turn) refl refl refl (outstanding_cut who t) refl refl refl
  noted_keeps marks.Quit = noted events.Quit (tt, is.turn) refl refl refl (outstanding_quit who t) refl refl refl
  noted_keeps (marks.Show os) = noted (events.Show os) (tt, is.turn) refl refl refl (outstanding_shown who t os) refl refl refl

pub latest_in : (who : Identity) (t : List Event) (o : Option ℕ) → 0 < length (unanswered who t o) → o ≡ Some (unwrap_or o 0)
latest_in who t None l = absurd (omega (arith, l))
latest_in who t (Some s) l = refl

-- A reply without a fault comes in a session.
pub latest_is : (who : Identity) (t : List Event) (reply : Reply) → first_fault_of_reply who t reply ≡ None → current_session t ≡ Some (latest_session t)
latest_is who t reply f = latest_in who t (current_session t) (answers_some who t reply f)

pub got_keeps : (who : Identity) (t : List Event) (reply : Reply) (store : Store) (pending : PendingList) (ks ls : List Awaited) (sessions made commit after : ℕ) (joined : Bool) (held : Store) (list : PendingList)
    → IsClientOf who t store pending ks sessions made commit joined
    → first_fault_of_reply who t reply ≡ None → StandsFor who (got_now t reply ∷ t) held → list ≡ record { shape = who.shape; items = pending_of (got_now t reply ∷ t) }
    → AreAwaited who (got_now t reply ∷ t) ls → after ≡ told (got_now t reply ∷ t)
    → IsClientOf who (got_now t reply ∷ t) held list ls sessions made after joined
got_keeps who t reply store pending ks ls sessions made commit after joined held list is f h a w c = record {
  interest = is.interest;
  turn = (record { current = latest_is who t reply f; taken = f }, is.turn);
  held = h;
  actions = a;
  awaited = w;
  counts = record {
    sessions_are = is.counts.sessions_are;
    made_are = is.counts.made_are;
    commit_is = c;
    joined_is = is.counts.joined_is;
  };
}

-- ---- What a client in a session asks

pub in_latest : (t : List Event) → in_session t ≡ true → is_session (current_session t) (latest_session t) ≡ true
in_latest t j =
    let c = some_current t j in
    subst (λ (o : Option ℕ). is_session o (unwrap_or o 0) ≡ true) (sym c.1) (eq-eqb c.0 c.0 refl)

pub asks_one : (t : List Event) (r : Request) → in_session t ≡ true → r ∷ [] ≡ (if is_session (current_session t) (latest_session t) then r ∷ [] else [])
asks_one t r j = sym (when (is_session (current_session t) (latest_session t)) (r ∷ []) [] (in_latest t j))

pub same_long : (ks : List Awaited) (os : List Request) → map (λ k. Some k) ks ≡ map kind_of os → length ks ≡ length os
same_long [] [] e = refl
same_long [] (o ∷ os) e = cc
same_long (k ∷ ks) [] e = cc
same_long (k ∷ ks) (o ∷ os) e = let rest : map (λ k. Some k) ks ≡ map kind_of os = cc in ap suc (same_long ks os rest)
