-- What is proved by hand of `finish`.
use Rattle.std.proofs.Common.{◌≡◌, ℕ, List, [], ◌∷◌, length, map, sym, ap, arith}
use Rattle.sv_world.specs.declared.world.ObjectId.{ObjectId}
use Rattle.sv_world.specs.Sets.{at_mask}
use Rattle.test_queue.proofs.calls.finish.Goals as goal

-- An action that reads one object, with mask 1, writes one.
one_written : (reads : List ObjectId) (mask : ℕ) → length reads ≡ 1 → mask ≡ 1 → length (at_mask mask 0 (map (λ (o : ObjectId). o.0) reads)) ≡ 1
one_written [] mask l m = absurd (omega arith)
one_written (o ∷ []) mask l m = ap (λ (n : ℕ). length (at_mask n 0 (o.0 ∷ []))) m
one_written (o ∷ p ∷ os) mask l m = absurd (omega arith)

pub set_result-requires-clause-count : goal.set_result-requires-clause-count
set_result-requires-clause-count g c =
    let action = c.entry-entry.result.action.now in
    let reads : length action.reads ≡ 1 = omega (arith, c.len.ensures, c.if-len-ne1.false) in
    let mask : action.mask ≡ 1 = omega (arith, c.if-entry-ne1.false) in
    rw (c.in_ok-push.ensures.items, c.new-values.ensures.items, ← c.entry-entry.ensures.action) (sym (one_written action.reads action.mask reads mask))
