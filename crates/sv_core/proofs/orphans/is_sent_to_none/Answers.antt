-- What the check leaves to prove of `is_sent_to_none`.
use Rattle.std.proofs.Common.{◌≡◌, ◌<◌, true, ◌||◌, not, length, inl, inr, sym, ◌∙◌, arith}
use Rattle.std.proofs.lemmas.Bool.{false_from_ne_true, both_ways, or_cases, not-true}
use Rattle.sv_world.specs.Control.{is_in}
use Rattle.sv_queue.specs.Queue.{sent_positions}
use Rattle.sv_core.specs.Orphans.{is_live_row, is_abandoned_in}
use Rattle.sv_core.specs.Rows.{row_at}
use Rattle.sv_core.proofs.Abandoned.{all-below-at, all-below-from}
use Rattle.sv_core.proofs.orphans.is_sent_to_none.Goals as goal

pub returns-then-is_marked : goal.returns-then-is_marked
returns-then-is_marked g c =
    let v = c.args.queue.now in
    let rows = c.args.sessions.now in
    let s = c.loop-slot.slot in
    let low : s < length rows = omega arith in
    let marked : is_in c.args.pos (sent_positions v s) ≡ true = sym c.is_marked.ensures.marked ∙ c.if-is_marked.true in
    sym (false_from_ne_true (is_abandoned_in v rows c.args.pos) (λ q.
    elim (or_cases (not (is_live_row (row_at rows s))) (not (is_in c.args.pos (sent_positions v s)))
    (all-below-at (λ t. not (is_live_row (row_at rows t)) || not (is_in c.args.pos (sent_positions v t))) (length rows) s q low)) [
      | inl gone ↦ both_ways (is_live_row (row_at rows s)) (not-true (is_live_row (row_at rows s)) gone) (sym c.is_live_at.ensures ∙ c.if-is_live_at.true)
      | inr none ↦ both_ways (is_in c.args.pos (sent_positions v s)) (not-true (is_in c.args.pos (sent_positions v s)) none) marked
    ]))

pub returns : goal.returns
returns g c = sym (all-below-from (λ t. not (is_live_row (row_at c.args.sessions.now t)) || not (is_in c.args.pos (sent_positions c.args.queue.now t))) (length c.args.sessions.now)
    (λ s low. c.loop-slot.invariant s (omega arith)))
