-- A client with pending actions awaits replies: each has a Submit that is outstanding.
use Rattle.std.proofs.Common.{◌≡◌, ℕ, suc, ◌+◌, ◌≤◌, Bool, true, false, ◌&&◌, not, eqb, List, [], ◌∷◌, ◌++◌, length, map, drop, ℤ, Option, refl, sym, ap, subst, arith, eqb-true}
use Rattle.std.proofs.lemmas.Bool.{ne_eqb, cond-false, not-false, or_parts}
use Rattle.std.proofs.lemmas.List.{length-append}
use Rattle.sv_versions.specs.Held.{Held}
use Rattle.sv_pending.specs.Pending.{PendingAction, kept_of, redone}
use Rattle.sv_wire.specs.declared.message.Request.{Request}
use Rattle.sv_wire.specs.declared.message.Request.TheVariants as requests
use Rattle.sv_wire.specs.declared.message.Reply.{Reply}
use Rattle.sv_wire.specs.declared.message.Reply.TheVariants as replies
use Rattle.sv_client.specs.declared.trace.Event.{Event}
use Rattle.sv_client.specs.declared.trace.Event.TheVariants as events
use Rattle.sv_client.specs.Traces.{makes, held_of, with_reply, pending_of, pending_with, settled_by, without_front, are_same, submit_of, done_for}
use Rattle.sv_client.specs.Taking.{Identity, outstanding, allows, is_bad_head, is_bad_relay, is_good_relay, is_for_front, ends_with_front, has_bad_item}
use Rattle.sv_client.specs.Proper.{AreProper}
use Rattle.sv_client.proofs.Outstanding.{outstanding_joined, outstanding_made, outstanding_polled, outstanding_observed, outstanding_left, outstanding_cut, outstanding_quit, outstanding_shown, outstanding_got}
use Rattle.sv_script.proofs.Pending.{redone-count, either-few, replied-few}
use Rattle.sv_client.proofs.Wells.{is_well}
use Rattle.sv_player.proofs.Wire.{pending_are}
use Rattle.sv_client.proofs.Wires.{AreWirePending}

abbrev submit_count : Request → ℕ
submit_count (requests.Submit seq action) = 1
submit_count _ = 0

abbrev submits : List Request → ℕ
submits [] = 0
submits (r ∷ rs) = submit_count r + submits rs

count_most : (r : Request) → submit_count r ≤ 1
count_most (requests.Join client life interest) = omega arith
count_most (requests.Submit seq action) = omega arith
count_most (requests.Done results) = omega arith
count_most requests.Poll = omega arith
count_most (requests.Observe os wait) = omega arith
count_most requests.Leave = omega arith
count_most requests.Bad = omega arith
count_most requests.End = omega arith

submits_most : (rs : List Request) → submits rs ≤ length rs
submits_most [] = omega arith
submits_most (r ∷ rs) = omega (arith, count_most r, submits_most rs)

submits_append : (xs ys : List Request) → submits (xs ++ ys) ≡ submits xs + submits ys
submits_append [] ys = omega arith
submits_append (x ∷ xs) ys = omega (arith, submits_append xs ys)

submits_pending : (ps : List PendingAction) → submits (map submit_of ps) ≡ length ps
submits_pending [] = refl
submits_pending (p ∷ ps) = omega (arith, submits_pending ps)

no_submits : (held : List Held) (reply : Reply) → submits (done_for held reply) ≡ 0
no_submits held (replies.Relay seq commit head items) = refl
no_submits held (replies.Welcome commit head) = refl
no_submits held (replies.Seen last commit head []) = refl
no_submits held (replies.Seen last commit head (item ∷ items)) = refl
no_submits held (replies.Denied seq object) = refl
no_submits held (replies.Dropped seq chain far) = refl
no_submits held (replies.Settled seq pos) = refl
no_submits held (replies.Noted commit) = refl
no_submits held replies.Idle = refl
no_submits held (replies.Refused code detail) = refl
no_submits held replies.Bye = refl

-- ---- How many are pending after a reply

-- The reply to a Submit settles the front.
front_gone : (seq : ℕ) (held : List Held) (ps : List PendingAction) → is_for_front seq ps ≡ true → suc (length (redone held (without_front ps))) ≤ length ps
front_gone seq held [] e = cc
front_gone seq held (p ∷ ps) e = omega (arith, redone-count held ps)

settled_one : (held : List Held) (own : Option (List (List ℤ))) (seq : ℕ) (ps : List PendingAction) → is_for_front seq ps ≡ true → suc (length (settled_by held own ps)) ≤ length ps
settled_one held own seq [] e = cc
settled_one held own seq (p ∷ ps) e = let few = either-few (are_same own p.kept) ps (redone held ps) (length ps) (omega arith) (omega (arith, redone-count held ps)) in omega (arith, few)

no_zero : (seq : ℕ) (ps : List PendingAction) → AreWirePending ps → is_for_front seq ps ≡ true → eqb seq 0 ≡ false
no_zero seq [] all e = cc
no_zero seq (p ∷ ps) all e = let same = eqb-true seq p.seq e in ne_eqb seq 0 (λ z. absurd (omega (arith, same, z, all.0.1)))

both_true : (a b : Bool) → (a && b) ≡ true → a ≡ true
both_true true b e = refl
both_true false b e = cc

submit_settles : (who : Identity) (n : ℕ) (a : Rattle.sv_world.specs.declared.action.Action.Action) (before after : List Held) (reply : Reply) (ps : List PendingAction) → AreWirePending ps → allows (requests.Submit n a) reply ≡ true →
    has_bad_item who ps (requests.Submit n a) reply ≡ false → suc (length (pending_with before after reply ps)) ≤ length ps
submit_settles who n a before after (replies.Relay seq commit head items) ps all k bad =
    let f = or_parts (is_bad_head who.shape head) (is_bad_relay who ps (requests.Submit n a) seq items) bad in
    let g = or_parts _ (not (is_good_relay who ps (requests.Submit n a) seq items)) f.1 in
    let front = both_true (is_for_front seq ps) (ends_with_front who ps items) (not-false (is_good_relay who ps (requests.Submit n a) seq items) g.1) in
    subst (λ (qs : List PendingAction). suc (length qs) ≤ length ps) (sym (cond-false (eqb seq 0) ps _ (no_zero seq ps all front))) (settled_one after _ seq ps front)
submit_settles who n a before after (replies.Dropped seq chain far) ps all k bad = front_gone seq after ps (not-false (is_for_front seq ps) bad)
submit_settles who n a before after (replies.Denied seq object) ps all k bad = front_gone seq after ps (not-false (is_for_front seq ps) bad)
submit_settles who n a before after (replies.Seen last commit head items) ps all k bad = cc
submit_settles who n a before after (replies.Settled seq pos) ps all k bad = front_gone seq after ps (not-false (is_for_front seq ps) bad)
submit_settles who n a before after (replies.Welcome commit head) ps all k bad = cc
submit_settles who n a before after (replies.Noted commit) ps all k bad = cc
submit_settles who n a before after replies.Idle ps all k bad = cc
submit_settles who n a before after (replies.Refused code detail) ps all k bad = cc
submit_settles who n a before after replies.Bye ps all k bad = cc

answered : (who : Identity) (request : Request) (before after : List Held) (reply : Reply) (ps : List PendingAction) → AreWirePending ps → allows request reply ≡ true → has_bad_item who ps request reply ≡ false →
    submit_count request + length (pending_with before after reply ps) ≤ length ps
answered who (requests.Submit n a) before after reply ps all k bad = omega (arith, submit_settles who n a before after reply ps all k bad)
answered who (requests.Join client life interest) before after reply ps all k bad = omega (arith, replied-few before after reply ps)
answered who (requests.Done results) before after reply ps all k bad = omega (arith, replied-few before after reply ps)
answered who requests.Poll before after reply ps all k bad = omega (arith, replied-few before after reply ps)
answered who (requests.Observe os wait) before after reply ps all k bad = omega (arith, replied-few before after reply ps)
answered who requests.Leave before after reply ps all k bad = omega (arith, replied-few before after reply ps)
answered who requests.Bad before after reply ps all k bad = omega (arith, replied-few before after reply ps)
answered who requests.End before after reply ps all k bad = omega (arith, replied-few before after reply ps)

-- ---- Traces

submitted : (who : Identity) (first : ℕ) (t : List Event) → AreProper who first t → length (pending_of t) ≤ submits (outstanding who t)
submitted who first [] p = omega arith
submitted who first (events.Join s ∷ t) p =
    omega (arith, ap submits (outstanding_joined who first t p.1 s p.0.next), submits_pending (pending_of t))
submitted who first (events.Make a ∷ t) p =
    omega (arith, ap submits (outstanding_made who first t a p.1 p.0.joined), submits_append (outstanding who t) (requests.Submit (suc (makes t)) a ∷ []), submitted who first t p.1, length-append (pending_of t) (record { seq = suc (makes t); action = a; kept = kept_of (held_of t) (pending_of t) a } ∷ []))
submitted who first (events.Poll ∷ t) p =
    omega (arith, ap submits (outstanding_polled who first t p.1 p.0.joined), submits_append (outstanding who t) (requests.Poll ∷ []), submitted who first t p.1)
submitted who first (events.Observe os wait ∷ t) p =
    omega (arith, ap submits (outstanding_observed who first t os wait p.1 p.0.joined), submits_append (outstanding who t) (requests.Observe os wait ∷ []), submitted who first t p.1)
submitted who first (events.Leave ∷ t) p =
    omega (arith, ap submits (outstanding_left who first t p.1 p.0.joined), submits_append (outstanding who t) (requests.Leave ∷ []), submitted who first t p.1)
submitted who first (events.Got s reply ∷ t) p =
    let w = is_well who t reply p.0.taken in
    let now = ap submits (outstanding_got who first t s reply p.1 p.0) in
    let parts = submits_append (drop 1 (outstanding who t)) (done_for (held_of t) reply) in
    let rest = ap (λ (rs : List Request). submits (drop 1 rs)) w.asked in
    let all = ap submits w.asked in
    omega (arith, now, parts, no_submits (held_of t) reply, rest, all, submitted who first t p.1, answered who w.request (held_of t) (with_reply (held_of t) reply) reply (pending_of t) (pending_are who first t p.1) w.allowed w.good)
submitted who first (events.Cut ∷ t) p = omega (arith, ap submits (outstanding_cut who t), submitted who first t p.1)
submitted who first (events.Quit ∷ t) p = omega (arith, ap submits (outstanding_quit who t), submitted who first t p.1)
submitted who first (events.Show objects ∷ t) p = omega (arith, ap submits (outstanding_shown who t objects), submitted who first t p.1)

-- No more actions are pending than requests are outstanding.
pub pending_awaited : (who : Identity) (first : ℕ) (t : List Event) → AreProper who first t → length (pending_of t) ≤ length (outstanding who t)
pending_awaited who first t p = omega (arith, submitted who first t p, submits_most (outstanding who t))
