-- What is known when the greatest wanted position was taken off.
use Rattle.std.proofs.Common.{◌≡◌, ℕ, ◌<◌, ◌≤◌, ◌+◌, inl, inr, Bool, true, false, ◌||◌, List, [], ◌∷◌, ◌++◌, length, reverse, Option, None, refl, sym, ◌∙◌, ap, subst, arith, length-append, append-nil}
use Rattle.std.specs.Prelude.{IfNone, option_to_list}
use Rattle.std.proofs.lemmas.List.{length-reverse}
use Rattle.sv_world.specs.Control.{is_in, missing_writers, wanted_up_to}
use Rattle.sv_world.specs.Faults.{is_ascending}
use Rattle.sv_world.proofs.Members.{is_in-head, is_in-one, is_in-append_left, is_in-append_right, is_in-append_cases}
use Rattle.sv_world.proofs.Sweeps.{sweep, sweep-same}
use Rattle.sv_world.proofs.Writers.{missing_writers-parts, missing_writers-lower}
use Rattle.sv_world.proofs.Needs.{needed-sent, needed-unsent}
use Rattle.sv_queue.specs.Queue.{QueueView, IsUncommitted, queue_actions, sent_positions}
use Rattle.sv_influence.specs.Lacking.{lacking}
use Rattle.sv_influence.proofs.Growth.{ascending-last, whole-pop, whole-nil}
use Rattle.sv_queue.proofs.Members.{is_in-append}

or_comm : (a b : Bool) → (a || b) ≡ (b || a)
or_comm true true = refl
or_comm true false = refl
or_comm false true = refl
or_comm false false = refl

pub is_in-swap : (j : ℕ) (xs ys : List ℕ) → is_in j (xs ++ ys) ≡ is_in j (ys ++ xs)
is_in-swap j xs ys = is_in-append j xs ys ∙ or_comm (is_in j xs) (is_in j ys) ∙ sym (is_in-append j ys xs)

-- What each position makes wanted.
abbrev pub makes_wanted : QueueView → ℕ → ℕ → List ℕ
makes_wanted v s = missing_writers (queue_actions v) v.commit (sent_positions v s)

pub next-bounds : (v : QueueView) (pos next : ℕ) (wanted rest : List ℕ) → ((j : ℕ) → is_in j wanted ≡ true → (v.commit < j) × (j ≤ pos)) →
    wanted ≡ rest ++ next ∷ [] → (v.commit < next) × (next ≤ pos)
next-bounds v pos next wanted rest within e =
    within next (subst (λ (xs : List ℕ). is_in next xs ≡ true) (sym e) (is_in-append_right next rest (next ∷ []) (is_in-head next [])))

pub rest-below : (v : QueueView) (pos next : ℕ) (wanted rest : List ℕ) → ((j : ℕ) → is_in j wanted ≡ true → (v.commit < j) × (j ≤ pos)) →
    is_ascending wanted ≡ true → wanted ≡ rest ++ next ∷ [] → (j : ℕ) → is_in j rest ≡ true → (0 < j) × (j < next)
rest-below v pos next wanted rest within up e j m =
    let b = within j (subst (λ (xs : List ℕ). is_in j xs ≡ true) (sym e) (is_in-append_left j rest (next ∷ []) m)) in
    let low : v.commit < j = b.0 in
    (omega arith, ascending-last rest next (subst (λ (xs : List ℕ). is_ascending xs ≡ true) e up) j m)

pub next-within : (v : QueueView) (s pos next : ℕ) (wanted rest new' : List ℕ) → ((j : ℕ) → is_in j wanted ≡ true → (v.commit < j) × (j ≤ pos)) →
    wanted ≡ rest ++ next ∷ [] → ((j : ℕ) → is_in j new' ≡ is_in j (makes_wanted v s next ++ rest)) → (j : ℕ) → is_in j new' ≡ true → (v.commit < j) × (j ≤ pos)
next-within v s pos next wanted rest new' within e same j m =
    elim (is_in-append_cases j (makes_wanted v s next) rest (sym (same j) ∙ m)) [
      | inl a ↦
          (let p = missing_writers-parts (queue_actions v) v.commit (sent_positions v s) next j a in
          let lower = missing_writers-lower (queue_actions v) v.commit (sent_positions v s) next j a in
          let less : j < next = lower.1 in
          let high : next ≤ pos = (next-bounds v pos next wanted rest within e).1 in
          (p.1.1.1.0, omega arith))
      | inr b ↦ within j (subst (λ (xs : List ℕ). is_in j xs ≡ true) (sym e) (is_in-append_left j rest (next ∷ []) b))
    ]

-- `all` is what is to be taken.
pub next-whole : (v : QueueView) (s pos next : ℕ) (all wanted rest new' items : List ℕ) → ((j : ℕ) → is_in j wanted ≡ true → (v.commit < j) × (j ≤ pos)) →
    is_ascending wanted ≡ true → wanted ≡ rest ++ next ∷ [] → ((j : ℕ) → is_in j new' ≡ is_in j (makes_wanted v s next ++ rest)) →
    wanted_up_to (queue_actions v) v.commit (sent_positions v s) pos wanted ++ reverse items ≡ all →
    wanted_up_to (queue_actions v) v.commit (sent_positions v s) pos new' ++ reverse (items ++ next ∷ []) ≡ all
next-whole v s pos next all wanted rest new' items within up e same whole =
    let b = next-bounds v pos next wanted rest within e in
    let low : v.commit < next = b.0 in
    whole-pop (makes_wanted v s) (missing_writers-lower (queue_actions v) v.commit (sent_positions v s)) pos rest new' next items all
    (omega arith) b.1 (rest-below v pos next wanted rest within up e)
    (λ j. same j ∙ is_in-swap j (makes_wanted v s next) rest)
    (ap (λ (xs : List ℕ). sweep (makes_wanted v s) pos xs ++ reverse items) (sym e) ∙ whole)

pub next-room : (v : QueueView) (s pos next : ℕ) (all wanted rest items : List ℕ) → ((j : ℕ) → is_in j wanted ≡ true → (v.commit < j) × (j ≤ pos)) →
    is_ascending wanted ≡ true → wanted ≡ rest ++ next ∷ [] →
    wanted_up_to (queue_actions v) v.commit (sent_positions v s) pos wanted ++ reverse items ≡ all →
    length items + 1 ≤ length all
next-room v s pos next all wanted rest items within up e whole =
    let after = makes_wanted v s next ++ rest in
    let left = sweep (makes_wanted v s) pos after in
    let h = next-whole v s pos next all wanted rest after items within up e (λ j. refl) whole in
    let a : length (left ++ reverse (items ++ next ∷ [])) ≡ length all = ap length h in
    let b : length (left ++ reverse (items ++ next ∷ [])) ≡ length left + length (reverse (items ++ next ∷ [])) = length-append left (reverse (items ++ next ∷ [])) in
    let d : length (reverse (items ++ next ∷ [])) ≡ length (items ++ next ∷ []) = length-reverse (items ++ next ∷ []) in
    let f : length (items ++ next ∷ []) ≡ length items + 1 = length-append items (next ∷ []) in
    omega arith

-- Where none is left, all were taken.
pub all-taken : (v : QueueView) (s pos : ℕ) (all wanted items : List ℕ) (next : Option ℕ) → next ≡ None → IfNone next (wanted ≡ []) →
    wanted_up_to (queue_actions v) v.commit (sent_positions v s) pos (wanted ++ option_to_list next) ++ reverse items ≡ all → reverse items ≡ all
all-taken v s pos all wanted items next none last whole =
    let empty : wanted ≡ [] = subst (λ (o : Option ℕ). IfNone o (wanted ≡ [])) none last in
    let both : wanted ++ option_to_list next ≡ [] = ap (λ (o : Option ℕ). wanted ++ option_to_list o) none ∙ append-nil wanted ∙ empty in
    sym (ap (λ (xs : List ℕ). xs ++ reverse items)
    (ap (λ (xs : List ℕ). wanted_up_to (queue_actions v) v.commit (sent_positions v s) pos xs) both ∙ whole-nil (makes_wanted v s) pos))
    ∙ whole

-- The same, where the last was to be taken off the wanted ones.
pub seen-all : (v : QueueView) (s pos : ℕ) (all wanted rest items : List ℕ) (next : Option ℕ) → next ≡ None → wanted ≡ rest ++ option_to_list next → IfNone next (rest ≡ []) →
    wanted_up_to (queue_actions v) v.commit (sent_positions v s) pos wanted ++ reverse items ≡ all → reverse items ≡ all
seen-all v s pos all wanted rest items next none is last whole =
    all-taken v s pos all rest items next none last
    (ap (λ (xs : List ℕ). wanted_up_to (queue_actions v) v.commit (sent_positions v s) pos xs ++ reverse items) (sym is) ∙ whole)

-- How it begins.
pub start-unsent : (v : QueueView) (s pos : ℕ) (wanted : List ℕ) → IsUncommitted v pos → is_in pos (sent_positions v s) ≡ false →
    ((j : ℕ) → is_in j wanted ≡ is_in j (pos ∷ [])) → wanted_up_to (queue_actions v) v.commit (sent_positions v s) pos wanted ≡ lacking v s pos
start-unsent v s pos wanted within unsent same =
    let low : v.commit < pos = within.0 in
    sweep-same (makes_wanted v s) (missing_writers-lower (queue_actions v) v.commit (sent_positions v s)) pos wanted (pos ∷ [])
    (λ j l m. sym (same j) ∙ m) (λ j l m. same j ∙ m) (λ m. let e : 0 ≡ pos = is_in-one 0 pos m in absurd (omega arith))
    ∙ sym (needed-unsent (queue_actions v) v.commit (sent_positions v s) pos unsent)

pub start-sent : (v : QueueView) (s pos : ℕ) → is_in pos (sent_positions v s) ≡ true → wanted_up_to (queue_actions v) v.commit (sent_positions v s) pos [] ≡ lacking v s pos
start-sent v s pos sent = whole-nil (makes_wanted v s) pos ∙ sym (needed-sent (queue_actions v) v.commit (sent_positions v s) pos sent)
