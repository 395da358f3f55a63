-- What a relay of a queue's position has is within the queue.
use Rattle.std.proofs.Common.{◌≡◌, ℕ, zero, suc, ◌+◌, ◌<◌, ◌≤◌, ◌-◌, Bool, true, false, ◌&&◌, cond, nat_lt, nat_le, is_none, List, [], ◌∷◌, map, drop, length, get_or, All, Option, option_map, Some, None, slice_get, slice_index_or, refl, sym, ◌∙◌, ap, subst, arith, length-append}
use Rattle.std.proofs.lemmas.Bool.{and_parts, ltb-true}
use Rattle.std.proofs.lemmas.List.{drop_more, length-map, get_or-map as read_mapped}
use Rattle.std.proofs.Math.ListN.{get_or-map}
use Rattle.sv_world.specs.declared.world.ObjectId.{ObjectId}
use Rattle.sv_world.specs.Control.{is_in, below}
use Rattle.sv_world.specs.Sets.{is_in_mask, at_mask}
use Rattle.sv_world.proofs.Bases.{head_for-iff, below-is_in}
use Rattle.sv_world.proofs.Members.{is_in-head, is_in-filter_parts, all-members}
use Rattle.sv_world.proofs.Needs.{needed-bounds}
use Rattle.sv_wire.specs.declared.message.ObjectValue.{ObjectValue}
use Rattle.sv_influence.specs.Lacking.{lacking, base_objects}
use Rattle.sv_world.specs.declared.action.Action.{Action}
use Rattle.sv_world.specs.declared.world.ClientId.{ClientId}
use Rattle.sv_queue.specs.Queue.{Queued, QueueView, IsUncommitted, last_position, with_action, queue_actions, sent_positions, given_objects}
use Rattle.sv_journal.specs.History.{accepted, result_at, commit_of}
use Rattle.sv_journal.specs.declared.entry.Entry.{Entry}
use Rattle.sv_journal.specs.Answer.{orphans, is_abandoned}
use Rattle.sv_core.specs.Relays.{held_in}

pub lacking-within : (v : QueueView) (s p : ℕ) → IsUncommitted v p → All (IsUncommitted v) (lacking v s p)
lacking-within v s p is = all-members (IsUncommitted v) (lacking v s p) (λ j m.
    let both = needed-bounds (queue_actions v) v.commit (sent_positions v s) p is.0 j m in
    let low : v.commit < j = both.0 in
    let high : j ≤ p = both.1 in
    let most : p ≤ last_position v = is.1 in
    (low, omega arith))

pub bases-low : (v : QueueView) (s p : ℕ) (head : List ObjectId) → map (λ (o : ObjectId). o.0) head ≡ base_objects v s p →
    All (λ (o : ObjectId). o.0 < v.shape.objects) head
bases-low v s p head is i d low =
    subst (λ n. n < v.shape.objects) (get_or-map (λ (o : ObjectId). o.0) head i d)
    (all-low (map (λ (o : ObjectId). o.0) head) (λ x m. ((head_for-iff v.shape.objects (queue_actions v) v.commit (sent_positions v s) (given_objects v s) p x).0 (subst (λ xs. is_in x xs ≡ true) is m)).0)
    i d.0 (omega (arith, length-map head (λ (o : ObjectId). o.0))))
  where
    all-low : (xs : List ℕ) → ((x : ℕ) → is_in x xs ≡ true → x < v.shape.objects) → All (λ x. x < v.shape.objects) xs
    all-low xs h = all-members (λ x. x < v.shape.objects) xs h

-- The slots in a mask from one on.
pub mask-step : (mask k : ℕ) (xs : List ℕ) → k < length xs →
    length (at_mask mask k (drop k xs)) ≡ cond (is_in_mask mask k) 1 0 + length (at_mask mask (k + 1) (drop (k + 1) xs))
mask-step mask k xs low =
    ap (λ ys. length (at_mask mask k ys)) (drop_more xs k 0 low) ∙ go (is_in_mask mask k)
  where
    go : (b : Bool) → length (cond b (get_or xs k 0 ∷ at_mask mask (k + 1) (drop (k + 1) xs)) (at_mask mask (k + 1) (drop (k + 1) xs)))
        ≡ cond b 1 0 + length (at_mask mask (k + 1) (drop (k + 1) xs))
    go true = omega arith
    go false = omega arith

-- The lowest abandoned position is above the commit and accepted.
pub orphan-within : (h : List Entry) (p : ℕ) (rest : List ℕ) → orphans h ≡ p ∷ rest → (commit_of h < p) × (p ≤ length (accepted h))
orphan-within h p rest is =
    let m : is_in p (orphans h) ≡ true = subst (λ xs. is_in p xs ≡ true) (sym is) (is_in-head p rest) in
    let parts = is_in-filter_parts (λ q. nat_lt (commit_of h) q && is_none (result_at h q) && is_abandoned h q) p (below (suc (length (accepted h)))) m in
    let high : p < suc (length (accepted h)) = below-is_in (suc (length (accepted h))) p parts.0 in
    let both = and_parts (nat_lt (commit_of h) p && is_none (result_at h p)) (is_abandoned h p) parts.1 in
    let low : commit_of h < p = ltb-true (commit_of h) p (and_parts (nat_lt (commit_of h) p) (is_none (result_at h p)) both.0).0 in
    (low, omega arith)

-- Objects below a number, with their values.
pub held-low : (v : QueueView) (n : ℕ) (xs : List ℕ) → All (λ x. x < n) xs → All (λ (x : ObjectValue). x.object.0 < n) (held_in v xs)
held-low v n xs all i d low =
    let lt : i < length xs = omega (arith, low, length-map xs (λ x. held x)) in
    subst (λ (y : ObjectValue). y.object.0 < n) (sym (read_mapped (λ x. held x) xs i 0 d lt)) (all i 0 lt)
  where
    held : ℕ → ObjectValue
    held x = record { object = record { 0 = x }; value = slice_index_or v.committed x [] }

pub bases-below : (v : QueueView) (s p : ℕ) → All (λ x. x < v.shape.objects) (base_objects v s p)
bases-below v s p = all-members (λ x. x < v.shape.objects) (base_objects v s p)
    (λ x m. ((head_for-iff v.shape.objects (queue_actions v) v.commit (sent_positions v s) (given_objects v s) p x).0 m).0)

-- Objects whose numbers are below another.
pub objects-low : (n : ℕ) (os : List ObjectId) (xs : List ℕ) → map (λ (o : ObjectId). o.0) os ≡ xs → All (λ x. x < n) xs → All (λ (o : ObjectId). o.0 < n) os
objects-low n os xs is all i d low =
    subst (λ m. m < n) (get_or-map (λ (o : ObjectId). o.0) os i d)
    (subst (λ ys. get_or ys i d.0 < n) (sym is) (all i d.0 (omega (arith, low, length-map os (λ (o : ObjectId). o.0), ap length is))))

-- A new action is uncommitted.
pub pushed-last : (v : QueueView) (author : ClientId) (seq : ℕ) (action : Action) → IsUncommitted (with_action v author seq action) (last_position (with_action v author seq action))
pushed-last v author seq action =
    let more = length-append {A = Queued} v.entries (record { author = author; seq = seq; action = action; result = None; marks = [] } ∷ []) in
    (omega arith, omega arith)
