-- How many replies the outstanding requests may bring, where the Done of a relay or of what was seen brings one more.
use Rattle.std.proofs.Common.{◌≡◌, ℕ, suc, ◌+◌, ◌*◌, ◌≤◌, true, List, [], ◌∷◌, ◌++◌, length, map, drop, None, sym, ap, arith}
use Rattle.std.proofs.lemmas.Option.{none-some}
use Rattle.sv_world.specs.declared.action.Action.{Action}
use Rattle.sv_world.specs.declared.world.ObjectId.{ObjectId}
use Rattle.sv_versions.specs.Held.{Held}
use Rattle.sv_pending.specs.Pending.{PendingAction}
use Rattle.sv_wire.specs.declared.message.Reply.{Reply}
use Rattle.sv_wire.specs.declared.message.Reply.TheVariants as replies
use Rattle.sv_wire.specs.declared.message.Request.{Request}
use Rattle.sv_wire.specs.declared.message.Request.TheVariants as requests
use Rattle.sv_client.specs.declared.trace.Event.{Event}
use Rattle.sv_client.specs.declared.trace.Event.TheVariants as events
use Rattle.sv_client.specs.Traces.{held_of, pending_of, submit_of, done_for, makes}
use Rattle.sv_client.specs.Taking.{Identity, Unasked, outstanding, allows, fault_after}
use Rattle.sv_client.specs.Proper.{AreProper, MayGet, MayJoin, in_session}
use Rattle.sv_client.proofs.Outstanding.{outstanding_joined, outstanding_made, outstanding_polled, outstanding_observed, outstanding_left, outstanding_cut, outstanding_quit, outstanding_shown, outstanding_got}
use Rattle.sv_client.proofs.Faultless.{kind-of}
use Rattle.sv_script.proofs.Pending.{pending-few}

abbrev pub due_of : Request → ℕ
due_of (requests.Join client life interest) = 1
due_of (requests.Submit seq action) = 2
due_of (requests.Done results) = 1
due_of requests.Poll = 2
due_of (requests.Observe objects wait) = 2
due_of requests.Leave = 1
due_of requests.End = 1
due_of requests.Bad = 1

abbrev pub due : List Request → ℕ
due [] = 0
due (r ∷ rs) = due_of r + due rs

pub due-append : (xs ys : List Request) → due (xs ++ ys) ≡ due xs + due ys
due-append [] ys = omega arith
due-append (x ∷ xs) ys = omega (arith, due-append xs ys)

due-submits : (ps : List PendingAction) → due (map submit_of ps) ≡ 2 * length ps
due-submits [] = omega arith
due-submits (p ∷ ps) = omega (arith, due-submits ps)

-- The replies to a new session's requests are at most 17: one to the Join, and two for each pending action.
pub due-joined : (who : Identity) (first : ℕ) (t : List Event) (s : ℕ) → AreProper who first t → MayJoin first t s → due (outstanding who (events.Join s ∷ t)) ≤ 17
due-joined who first t s p m =
    let all = ap due (outstanding_joined who first t p s m.next) in
    let submits = due-submits (pending_of t) in
    let few = pending-few who first t p in
    omega (arith, all, submits, few)

due-pushed : (os qs : List Request) (r : Request) → qs ≡ os ++ r ∷ [] → due qs ≡ due os + due_of r
due-pushed os qs r e = let all = ap due e in let more = due-append os (r ∷ []) in omega (arith, all, more)

pub due-made : (who : Identity) (first : ℕ) (t : List Event) (a : Action) → AreProper who first t → in_session t ≡ true
    → due (outstanding who (events.Make a ∷ t)) ≡ due (outstanding who t) + 2
due-made who first t a p j = due-pushed (outstanding who t) _ (requests.Submit (suc (makes t)) a) (outstanding_made who first t a p j)

pub due-polled : (who : Identity) (first : ℕ) (t : List Event) → AreProper who first t → in_session t ≡ true
    → due (outstanding who (events.Poll ∷ t)) ≡ due (outstanding who t) + 2
due-polled who first t p j = due-pushed (outstanding who t) _ requests.Poll (outstanding_polled who first t p j)

pub due-observed : (who : Identity) (first : ℕ) (t : List Event) (os : List ObjectId) (wait : ℕ) → AreProper who first t → in_session t ≡ true
    → due (outstanding who (events.Observe os wait ∷ t)) ≡ due (outstanding who t) + 2
due-observed who first t os wait p j = due-pushed (outstanding who t) _ (requests.Observe os wait) (outstanding_observed who first t os wait p j)

pub due-left : (who : Identity) (first : ℕ) (t : List Event) → AreProper who first t → in_session t ≡ true
    → due (outstanding who (events.Leave ∷ t)) ≡ due (outstanding who t) + 1
due-left who first t p j = due-pushed (outstanding who t) _ requests.Leave (outstanding_left who first t p j)

pub due-some : (q : Request) → 1 ≤ due_of q
due-some (requests.Join client life interest) = omega arith
due-some (requests.Submit seq action) = omega arith
due-some (requests.Done results) = omega arith
due-some requests.Poll = omega arith
due-some (requests.Observe objects wait) = omega arith
due-some requests.Leave = omega arith
due-some requests.End = omega arith
due-some requests.Bad = omega arith

-- A request that a relay may answer brings two replies.
due-relay : (q : Request) (seq commit : ℕ) (head : List _) (items : List _) → allows q (replies.Relay seq commit head items) ≡ true → 2 ≤ due_of q
due-relay (requests.Join client life interest) seq commit head items e = cc
due-relay (requests.Submit n action) seq commit head items e = omega arith
due-relay (requests.Done results) seq commit head items e = cc
due-relay requests.Poll seq commit head items e = omega arith
due-relay (requests.Observe objects wait) seq commit head items e = cc
due-relay requests.Leave seq commit head items e = cc
due-relay requests.End seq commit head items e = cc
due-relay requests.Bad seq commit head items e = cc

-- So does one that a Seen may answer.
due-seen : (q : Request) (last commit : ℕ) (head : List _) (items : List _) → allows q (replies.Seen last commit head items) ≡ true → 2 ≤ due_of q
due-seen (requests.Join client life interest) last commit head items e = cc
due-seen (requests.Submit n action) last commit head items e = cc
due-seen (requests.Done results) last commit head items e = cc
due-seen requests.Poll last commit head items e = cc
due-seen (requests.Observe objects wait) last commit head items e = omega arith
due-seen requests.Leave last commit head items e = cc
due-seen requests.End last commit head items e = cc
due-seen requests.Bad last commit head items e = cc

due-done : (held : List Held) (q : Request) (reply : Reply) → allows q reply ≡ true → suc (due (done_for held reply)) ≤ due_of q
due-done held q (replies.Relay seq commit head items) e = omega (arith, due-relay q seq commit head items e)
due-done held q (replies.Welcome commit head) e = omega (arith, due-some q)
due-done held q (replies.Dropped seq chain far) e = omega (arith, due-some q)
due-done held q (replies.Denied seq object) e = omega (arith, due-some q)
due-done held q (replies.Seen last commit head []) e = omega (arith, due-some q)
due-done held q (replies.Seen last commit head (item ∷ items)) e = omega (arith, due-seen q last commit head (item ∷ items) e)
due-done held q (replies.Settled seq pos) e = omega (arith, due-some q)
due-done held q (replies.Noted commit) e = omega (arith, due-some q)
due-done held q replies.Idle e = omega (arith, due-some q)
due-done held q (replies.Refused code detail) e = omega (arith, due-some q)
due-done held q replies.Bye e = omega (arith, due-some q)

due-answered : (who : Identity) (t : List Event) (reply : Reply) (os : List Request) → fault_after who t os reply ≡ None
    → suc (due (drop 1 os ++ done_for (held_of t) reply)) ≤ due os
due-answered who t reply [] e = absurd (none-some Unasked (sym e))
due-answered who t reply (q ∷ qs) e =
    let more = due-append qs (done_for (held_of t) reply) in
    let one = due-done (held_of t) q reply (kind-of (allows q reply) _ e) in
    omega (arith, more, one)

pub due-got : (who : Identity) (first : ℕ) (t : List Event) (s : ℕ) (reply : Reply) → AreProper who first t → MayGet who t s reply
    → suc (due (outstanding who (events.Got s reply ∷ t))) ≤ due (outstanding who t)
due-got who first t s reply p m =
    let all = ap due (outstanding_got who first t s reply p m) in
    let less = due-answered who t reply (outstanding who t) m.taken in
    omega (arith, all, less)

pub due-cut : (who : Identity) (t : List Event) → due (outstanding who (events.Cut ∷ t)) ≡ due (outstanding who t)
due-cut who t = ap due (outstanding_cut who t)

pub due-quit : (who : Identity) (t : List Event) → due (outstanding who (events.Quit ∷ t)) ≡ due (outstanding who t)
due-quit who t = ap due (outstanding_quit who t)

pub due-shown : (who : Identity) (t : List Event) (os : List ObjectId) → due (outstanding who (events.Show os ∷ t)) ≡ due (outstanding who t)
due-shown who t os = ap due (outstanding_shown who t os)
