-- What the check leaves to prove of `has_closed_marks`.
use Rattle.std.proofs.Common.{◌≡◌, ℕ, suc, true, false, inl, inr, ◌+◌, ◌<◌, ◌≤◌, List, [], ◌∷◌, length, sym, ◌∙◌, ap, subst, arith}
use Rattle.std.proofs.lemmas.Bool.{cond_both, cases_eq}
use Rattle.sv_world.specs.Control.{is_in, action_at, last_writer}
use Rattle.sv_world.specs.Sets.{read_set}
use Rattle.sv_world.proofs.Members.{is_in-cons_cases}
use Rattle.sv_queue.specs.Queue.{Queued, last_position, queue_actions, sent_positions, marked_above}
use Rattle.test_queue.proofs.shown.has_closed_marks.Goals.{else-is_marked-via-then-is_marked+else-not-reads_marked, else-is_marked-via-else-is_marked}
use Rattle.test_queue.proofs.shown.has_closed_marks.Goals as goal

-- Marked positions are those of entries.
marked-within : (n : ℕ) (es : List Queued) (s p : ℕ) → is_in p (marked_above n es s) ≡ true → (n < p) × (p ≤ n + length es)
marked-within n [] s p h = cc
marked-within n (e ∷ es) s p h =
    let rest = λ (m : is_in p (marked_above (suc n) es s) ≡ true). (let b = marked-within (suc n) es s p m in let low : suc n < p = b.0 in let high : p ≤ suc n + length es = b.1 in
    let both : (n < p) × (p ≤ n + length (e ∷ es)) = (omega arith, omega arith) in both) in
    cond_both (is_in s e.marks) (suc n ∷ marked_above (suc n) es s) (marked_above (suc n) es s) (λ (xs : List ℕ). is_in p xs ≡ true → (n < p) × (p ≤ n + length (e ∷ es)))
    (λ q m. elim (is_in-cons_cases p (suc n) (marked_above (suc n) es s) m) [ inl f ↦ (omega arith, omega arith) | inr r ↦ rest r ])
    (λ q m. rest m)
    h

pub loop-before-preserved : goal.loop-before-preserved
loop-before-preserved g c = λ p x low high m reads above.
    let v = c.args.queue.now in
    let before = c.loop-before.before in
    let s = c.args.session in
    elim (cases_eq p (before + 1)) [
      | inr ne ↦ c.loop-before.invariant p x low (omega arith) m reads above
      | inl e ↦ elim c.else-is_marked.branch [
        | else-is_marked-via-then-is_marked+else-not-reads_marked w ↦
            subst (λ (q : ℕ). is_in x (read_set (action_at (queue_actions v) q)) ≡ true → v.commit < last_writer (queue_actions v) x q → is_in (last_writer (queue_actions v) x q) (sent_positions v s) ≡ true)
            (sym e) (w.reads_marked.ensures w.if-not-reads_marked.false x) reads above
        | else-is_marked-via-else-is_marked w ↦ (let f : is_in p (sent_positions v s) ≡ false = ap (λ (q : ℕ). is_in q (sent_positions v s)) e ∙ sym c.is_marked.ensures.marked ∙ w.if-is_marked.false in cc)
      ]
    ]

pub returns : goal.returns
returns g c = λ t p x m reads above.
    let v = c.args.queue.now in
    let b = marked-within v.commit v.entries c.args.session p m in
    let high : p ≤ last_position v = b.1 in
    let done = c.loop-before-test.false in
    let e = c.last-before-end.ensures in
    c.loop-before.invariant p x b.0 (omega arith) m reads above
