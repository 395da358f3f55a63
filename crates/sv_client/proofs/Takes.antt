-- What a reply makes of a client, from what its parts say.
use Rattle.std.proofs.Common.{◌≡◌, ℕ, ◌<◌, ◌≤◌, Bool, List, [], ◌∷◌, ◌++◌, length, drop, map, slice_get, Option, Some, None, Ok, refl, sym, ap, subst, ◌∙◌, arith}
use Rattle.std.specs.Prelude.{IfSome}
use Rattle.std.proofs.lemmas.Bool.{eq-eqb}
use Rattle.std.proofs.lemmas.List.{length-append, length-drop, map-append}
use Rattle.sv_versions.specs.Held.{Held, Store, AnswersAbove, count_up_to}
use Rattle.sv_pending.specs.Made.{PendingList}
use Rattle.sv_wire.specs.declared.message.Reply.{Reply}
use Rattle.sv_wire.specs.declared.message.Reply.TheVariants as replies
use Rattle.sv_wire.specs.declared.message.Request.{Request}
use Rattle.sv_client.specs.declared.kinds.Awaited.{Awaited}
use Rattle.sv_client.specs.declared.trace.Event.{Event}
use Rattle.sv_client.specs.Traces.{held_of, pending_of, with_reply, done_for}
use Rattle.sv_client.specs.Taking.{Identity, outstanding, told, told_by, told_with, commit_in, first_fault_of_reply, missing_fault, missing_in, Fault}
use Rattle.sv_client.specs.Proper.{MayGet}
use Rattle.sv_client.specs.Kinds.{kind_of, done_kinds}
use Rattle.sv_client.specs.Seen.{newly_asked, latest_session, fault_named}
use Rattle.sv_client.specs.Evaluating.{IsApplied, IsMissing}
use Rattle.sv_client.specs.Invariant.{AreAwaited, IsClientOf}
use Rattle.sv_client.specs.declared.fault.TakeFault.{TakeFault}
use Rattle.sv_client.specs.Answers.{IsFine, IsTaken, IsTakeFault, got_now}
use Rattle.sv_client.proofs.Looking.{fine_misses, Oldest, oldest}
use Rattle.sv_client.proofs.Outstanding.{got_turn}
use Rattle.sv_client.proofs.Keeping.{latest_is, same_long}

told_more : (o : Option ℕ) (n : ℕ) → n ≤ told_with o n
told_more None n = omega arith
told_more (Some c) n = omega arith

pub told_least : (reply : Reply) (n : ℕ) → n ≤ told_by reply n
told_least reply n = told_more (commit_in reply) n

-- The Done of a reply is awaited.
kinds_done : (held : List Held) (reply : Reply) → map (λ k. Some k) (done_kinds reply) ≡ map kind_of (done_for held reply)
kinds_done held (replies.Welcome c h) = refl
kinds_done held (replies.Relay n c h is) = refl
kinds_done held (replies.Seen l c h []) = refl
kinds_done held (replies.Seen l c h (i ∷ is)) = refl
kinds_done held (replies.Dropped n c f) = refl
kinds_done held (replies.Denied n o) = refl
kinds_done held (replies.Settled n p) = refl
kinds_done held (replies.Noted c) = refl
kinds_done held replies.Idle = refl
kinds_done held (replies.Refused c d) = refl
kinds_done held replies.Bye = refl

done_few : (reply : Reply) → length (done_kinds reply) ≤ 1
done_few (replies.Welcome c h) = omega arith
done_few (replies.Relay n c h is) = omega arith
done_few (replies.Seen l c h []) = omega arith
done_few (replies.Seen l c h (i ∷ is)) = omega arith
done_few (replies.Dropped n c f) = omega arith
done_few (replies.Denied n o) = omega arith
done_few (replies.Settled n p) = omega arith
done_few (replies.Noted c) = omega arith
done_few replies.Idle = omega arith
done_few (replies.Refused c d) = omega arith
done_few replies.Bye = omega arith

front_off : (ks : List Awaited) (os : List Request) → map (λ k. Some k) ks ≡ map kind_of os → map (λ k. Some k) (drop 1 ks) ≡ map kind_of (drop 1 os)
front_off [] [] e = refl
front_off [] (o ∷ os) e = cc
front_off (k ∷ ks) [] e = cc
front_off (k ∷ ks) (o ∷ os) e = cc

awaited_got : (who : Identity) (t : List Event) (reply : Reply) (ks ls : List Awaited) → AreAwaited who t ks → 0 < length (outstanding who t)
    → outstanding who (got_now t reply ∷ t) ≡ drop 1 (outstanding who t) ++ done_for (held_of t) reply → ls ≡ drop 1 ks ++ done_kinds reply → AreAwaited who (got_now t reply ∷ t) ls
awaited_got who t reply ks ls a some o h =
    let long = same_long ks (outstanding who t) a.same in
    let front = front_off ks (outstanding who t) a.same in
    let few = done_few reply in
    record {
      same = ap (map (λ k. Some k)) h ∙ map-append (λ k. Some k) (drop 1 ks) (done_kinds reply) ∙ rw (front, kinds_done (held_of t) reply) (sym (map-append kind_of (drop 1 (outstanding who t)) (done_for (held_of t) reply))) ∙ ap (map kind_of) (sym o);
      few = rw (h, length-append (drop 1 ks) (done_kinds reply), length-drop 1 ks) (omega (arith, long, some, few, a.few));
    }

pub newly_got : (who : Identity) (t : List Event) (reply : Reply) → newly_asked who t (got_now t reply) ≡ done_for (held_of t) reply
newly_got who t reply = rw (eq-eqb (latest_session t) (latest_session t) refl) refl

asked_some : (os : List Request) (r : Request) (rs : List Request) → os ≡ r ∷ rs → 0 < length os
asked_some os r rs e = rw e (omega arith)

pub taken_is : (who : Identity) (t : List Event) (reply : Reply) (store : Store) (pending : PendingList) (ks : List Awaited) (sessions made commit : ℕ) (joined : Bool)
    → IsClientOf who t store pending ks sessions made commit joined → (fine : IsFine who t reply)
    → (done : Option Request) (store_after : Store) (pending_after : PendingList) (kinds : List Awaited) (commit_after : ℕ) (kept : List Held)
    → IsApplied (told t) (held_of t) (kind_of fine.request) reply (pending_of t) (Ok done) kept pending_after.items
    → pending_after.shape ≡ who.shape → store_after.shape ≡ who.shape
    → ((n : ℕ) (all : List Held) → n ≤ commit_after → AnswersAbove n kept all → AnswersAbove commit_after store_after.held all)
    → ((x : ℕ) → count_up_to store_after.held x commit_after ≤ 1)
    → kinds ≡ drop 1 ks ++ done_kinds reply → commit_after ≡ told_by reply (told t)
    → IsTaken who t reply done store_after pending_after kinds commit_after
taken_is who t reply store pending ks sessions made commit joined is fine done store_after pending_after kinds commit_after kept a shape versions prune few awaited c =
    let none : first_fault_of_reply who t reply ≡ None = fine_misses who t reply fine ∙ ap missing_fault a.0 in
    let may : MayGet who t (latest_session t) reply = record { current = latest_is who t reply none; taken = none } in
    let below : told t ≤ commit_after = rw c (told_least reply (told t)) in
    record {
      fine = none;
      held = record {
        shape = versions;
        answers = subst (λ (n : ℕ). AnswersAbove n store_after.held (with_reply (held_of t) reply)) c (prune (told t) (with_reply (held_of t) reply) below a.3);
        few = subst (λ (n : ℕ). (x : ℕ) → count_up_to store_after.held x n ≤ 1) c few;
      };
      actions = λ i. record { shape = shape i; items = a.2 i };
      awaited = awaited_got who t reply ks kinds is.awaited (asked_some (outstanding who t) fine.request fine.rest fine.asked) (got_turn who 0 t (latest_session t) reply is.turn may) awaited;
      commit_is = c;
      asked = a.1 ∙ sym (newly_got who t reply);
    }

-- A client that takes a reply awaits one.
pub awaits_one : (who : Identity) (t : List Event) (reply : Reply) (store : Store) (pending : PendingList) (ks : List Awaited) (sessions made commit : ℕ) (joined : Bool)
    → IsClientOf who t store pending ks sessions made commit joined → IsFine who t reply → 0 < length ks
awaits_one who t reply store pending ks sessions made commit joined is fine =
    omega (arith, same_long ks (outstanding who t) is.awaited.same, asked_some (outstanding who t) fine.request fine.rest fine.asked)

-- What a reply answers is the front of what is awaited.
pub answers_front : (who : Identity) (t : List Event) (reply : Reply) (k : Awaited) (ks : List Awaited) → AreAwaited who t ks → slice_get ks 0 ≡ Some k → (fine : IsFine who t reply) → Some k ≡ kind_of fine.request
answers_front who t reply k ks a e fine = go (oldest ks (outstanding who t) k a.same e)
  where
    go : Oldest (outstanding who t) k → Some k ≡ kind_of fine.request
    go o =
        let same : o.request ∷ o.rest ≡ fine.request ∷ fine.rest = sym o.is ∙ fine.asked in
        let first : o.request ≡ fine.request = cc in
        sym o.kind ∙ ap kind_of first

-- A value that is missing is the fault of a reply in which nothing else is wrong.
pub missing_is : (who : Identity) (t : List Event) (reply : Reply) (fault : TakeFault) (fine : IsFine who t reply) → IsMissing (missing_in (held_of t) (kind_of fine.request) reply) fault → IsTakeFault who t reply fault
missing_is who t reply fault fine m = subst (λ (o : Option Fault). IfSome (fault_named fault) (λ f. o ≡ Some f)) (sym (fine_misses who t reply fine)) m
