-- A proper trace has at most eight pending actions.
use Rattle.std.proofs.Common.{◌≡◌, ℕ, ◌+◌, ◌<◌, ◌≤◌, Bool, true, false, ◌==◌, List, [], ◌∷◌, ◌++◌, length, Option, arith}
use Rattle.std.specs.Prelude.{ℤ, if◌then◌else◌}
use Rattle.std.proofs.lemmas.List.{length-append}
use Rattle.sv_versions.specs.Held.{Held}
use Rattle.sv_pending.specs.Pending.{PendingAction, kept_of, redone, redone_after}
use Rattle.sv_wire.specs.declared.message.Reply.{Reply}
use Rattle.sv_wire.specs.declared.message.Reply.TheVariants as replies
use Rattle.sv_client.specs.declared.trace.Event.{Event}
use Rattle.sv_client.specs.declared.trace.Event.TheVariants as events
use Rattle.sv_client.specs.Traces.{held_of, with_reply, pending_of, pending_with, settled_by, without_front, are_same, has_news}
use Rattle.sv_client.specs.Taking.{Identity}
use Rattle.sv_client.specs.Proper.{AreProper}

redone-length : (held : List Held) (earlier ps : List PendingAction) → length (redone_after held earlier ps) ≡ length earlier + length ps
redone-length held earlier [] = omega arith
redone-length held earlier (p ∷ ps) =
    let again : PendingAction = record p { kept = kept_of held earlier p.action } in
    let rest = redone-length held (earlier ++ again ∷ []) ps in
    let more = length-append earlier (again ∷ []) in
    omega (arith, rest, more)

pub redone-count : (held : List Held) (ps : List PendingAction) → length (redone held ps) ≡ length ps
redone-count held ps = omega (arith, redone-length held [] ps)

redone-few : (held : List Held) (ps : List PendingAction) → length (redone held ps) ≤ length ps
redone-few held ps = omega (arith, redone-count held ps)

front-fewer : (ps : List PendingAction) → length (without_front ps) ≤ length ps
front-fewer [] = omega arith
front-fewer (p ∷ ps) = omega arith

redone-front : (held : List Held) (ps : List PendingAction) → length (redone held (without_front ps)) ≤ length ps
redone-front held ps = omega (arith, redone-few held (without_front ps), front-fewer ps)

pub either-few : (b : Bool) (xs ys : List PendingAction) (n : ℕ) → length xs ≤ n → length ys ≤ n → length (if b then xs else ys) ≤ n
either-few true xs ys n f g = f
either-few false xs ys n f g = g

settled-few : (held : List Held) (own : Option (List (List ℤ))) (ps : List PendingAction) → length (settled_by held own ps) ≤ length ps
settled-few held own [] = omega arith
settled-few held own (p ∷ ps) =
    either-few (are_same own p.kept) ps (redone held ps) (length (p ∷ ps)) (omega arith) (omega (arith, redone-few held ps))

pub replied-few : (before after : List Held) (reply : Reply) (ps : List PendingAction) → length (pending_with before after reply ps) ≤ length ps
replied-few before after (replies.Relay seq commit head items) ps =
    either-few (seq == 0) ps _ (length ps) (omega arith) (settled-few after _ ps)
replied-few before after (replies.Dropped seq chain far) ps = redone-front after ps
replied-few before after (replies.Denied seq object) ps = redone-front after ps
replied-few before after (replies.Seen last commit head items) ps =
    either-few (has_news head items) (redone after ps) ps (length ps) (redone-few after ps) (omega arith)
replied-few before after (replies.Settled seq pos) ps = redone-front after ps
replied-few before after (replies.Welcome commit head) ps = omega arith
replied-few before after (replies.Noted commit) ps = omega arith
replied-few before after replies.Idle ps = omega arith
replied-few before after (replies.Refused code detail) ps = omega arith
replied-few before after replies.Bye ps = omega arith

pushed-few : (ps : List PendingAction) (p : PendingAction) → length ps < 8 → length (ps ++ p ∷ []) ≤ 8
pushed-few ps p l = omega (arith, length-append ps (p ∷ []))

pub pending-few : (who : Identity) (first : ℕ) (t : List Event) → AreProper who first t → length (pending_of t) ≤ 8
pending-few who first [] p = omega arith
pending-few who first (events.Make action ∷ t) p = pushed-few (pending_of t) _ p.0.room
pending-few who first (events.Got s reply ∷ t) p =
    omega (arith, replied-few (held_of t) (with_reply (held_of t) reply) reply (pending_of t), pending-few who first t p.1)
pending-few who first (events.Join s ∷ t) p = pending-few who first t p.1
pending-few who first (events.Poll ∷ t) p = pending-few who first t p.1
pending-few who first (events.Observe objects wait ∷ t) p = pending-few who first t p.1
pending-few who first (events.Leave ∷ t) p = pending-few who first t p.1
pending-few who first (events.Cut ∷ t) p = pending-few who first t p.1
pending-few who first (events.Quit ∷ t) p = pending-few who first t p.1
pending-few who first (events.Show objects ∷ t) p = pending-few who first t p.1
