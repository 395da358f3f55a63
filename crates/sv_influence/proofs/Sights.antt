-- The search for what a session lacks of objects at a position, as one for an action that reads them behind the first actions.
use Rattle.std.proofs.Common.{◌≡◌, inl, inr, ℕ, zero, suc, ◌+◌, ◌*◌, ◌^◌, map, ◌<◌, ◌≤◌, true, not, ◌&&◌, List, [], ◌∷◌, ◌++◌, length, reverse, All, sym, ◌∙◌, ap, subst, arith, nat_le, nat_lt, append-nil, leb-true, ltb-true}
use Rattle.std.proofs.Math.Nat.{pow-suc}
use Rattle.std.proofs.lemmas.Bool.{and_parts}
use Rattle.std.proofs.lemmas.List.{reverse-append}
use Rattle.std.proofs.lemmas.List.Elements.{filter_agree}
use Rattle.std.specs.List.{list_all}
use Rattle.sv_world.specs.Sets.{read_set}
use Rattle.sv_world.specs.Limits.{most_reads, most_items}
use Rattle.sv_world.specs.Control.{is_in, action_at, last_writer, with_reading, up_to, wanted_up_to}
use Rattle.sv_world.specs.Faults.{is_ascending, may_be_observed}
use Rattle.sv_world.proofs.Members.{all-members, is_in-cons_cases, is_in-filter_parts, is_in-map_from}
use Rattle.sv_world.proofs.Bases.{head_for-iff}
use Rattle.sv_world.proofs.Writers.{last_writer-below}
use Rattle.sv_world.proofs.Growing.{see-longer}
use Rattle.sv_world.proofs.Greatest.{cut-is, cut-low, cut-high, cut-few}
use Rattle.sv_world.proofs.Seeing.{see-none, with_reading-before, with_reading-reads, with_reading-writer, see-ends, see-sweep}
use Rattle.sv_queue.specs.Queue.{QueueView, last_position, queue_actions, sent_positions, given_objects}
use Rattle.sv_influence.specs.Lacking.{lacking_writers, committed_reads, reads_at, lacking_to_see, bases_to_see, latest_cut, MarksAreClosed}
use Rattle.sv_influence.specs.Writers.{most_to_see}
use Rattle.sv_influence.proofs.Growth.{AreBases, bases_of, bases-none, bases-push, bases-all, bases-same}
use Rattle.sv_influence.proofs.Looks.{queue_length}
use Rattle.sv_influence.proofs.Places.{members-all}
use Rattle.sv_influence.proofs.Takes.{is_in-swap}

-- ---- objects that may be observed

pub observed-parts : (n : ℕ) (xs : List ℕ) → may_be_observed n xs ≡ true → (length xs ≤ most_reads) × (list_all (λ x. nat_lt x n) xs ≡ true)
observed-parts n xs h =
    let low = and_parts (nat_lt 0 (length xs) && nat_le (length xs) most_reads && is_ascending xs) (list_all (λ x. nat_lt x n) xs) h in
    let up = and_parts (nat_lt 0 (length xs) && nat_le (length xs) most_reads) (is_ascending xs) low.0 in
    let few = and_parts (nat_lt 0 (length xs)) (nat_le (length xs) most_reads) up.0 in
    (leb-true (length xs) most_reads few.1, low.1)

pub all-low : (n : ℕ) (xs : List ℕ) → list_all (λ x. nat_lt x n) xs ≡ true → (j : ℕ) → is_in j xs ≡ true → j < n
all-low n [] h j m = cc
all-low n (x ∷ xs) h j m =
    let parts = and_parts (nat_lt x n) (list_all (λ y. nat_lt y n) xs) h in
    elim (is_in-cons_cases j x xs m) [
      | inl e ↦ subst (λ (k : ℕ). k < n) (sym e) (ltb-true x n parts.0)
      | inr r ↦ all-low n xs parts.1 j r
    ]

-- ---- the beginning

pub see-first : (v : QueueView) (s pos next : ℕ) (xs wanted none : List ℕ) → pos ≤ last_position v → next ≡ suc pos → none ≡ [] →
    ((j : ℕ) → is_in j wanted ≡ is_in j (lacking_writers v s next xs ++ none)) →
    wanted_up_to (queue_actions v) v.commit (sent_positions v s) pos wanted ≡ lacking_to_see v s xs pos
see-first v s pos next xs wanted none l e empty same =
    let long = queue_length v in
    see-sweep (queue_actions v) v.commit (sent_positions v s) xs pos wanted (omega arith)
    (λ j. same j ∙ ap (λ (ys : List ℕ). is_in j (lacking_writers v s next xs ++ ys)) empty ∙ ap (is_in j) (append-nil (lacking_writers v s next xs))
    ∙ ap (λ (n : ℕ). is_in j (lacking_writers v s n xs)) e)

-- ---- the base values

-- Those that the reading action and the items so far read as committed.
abbrev pub AreSeenBases : QueueView → ℕ → List ℕ → ℕ → List ℕ → List ℕ → Type 0
AreSeenBases v s xs pos items head =
    AreBases v.shape.objects (with_reading (queue_actions v) pos xs) v.commit (given_objects v s) (suc pos ∷ items) head

-- What a position reads as committed is the same with the reading action behind it.
bases-read : (v : QueueView) (s pos k : ℕ) (xs ys : List ℕ) → pos ≤ last_position v → k ≤ suc pos →
    bases_of (with_reading (queue_actions v) pos xs) v.commit (given_objects v s) k ys ≡ committed_reads v s k ys
bases-read v s pos k xs ys l h =
    let long = queue_length v in
    filter_agree (λ (x : ℕ). nat_le (last_writer (with_reading (queue_actions v) pos xs) x k) v.commit && not (is_in x (given_objects v s)))
    (λ (x : ℕ). nat_le (last_writer (queue_actions v) x k) v.commit && not (is_in x (given_objects v s)))
    (λ x. ap (λ (n : ℕ). nat_le n v.commit && not (is_in x (given_objects v s))) (with_reading-writer (queue_actions v) pos xs x k (omega arith) h))
    ys

pub see-first_bases : (v : QueueView) (s pos next : ℕ) (xs bases none : List ℕ) → pos ≤ last_position v → next ≡ suc pos → none ≡ [] →
    ((x : ℕ) → is_in x xs ≡ true → x < v.shape.objects) →
    ((x : ℕ) → is_in x bases ≡ is_in x (committed_reads v s next xs ++ none)) → AreSeenBases v s xs pos [] bases
see-first_bases v s pos next xs bases none l e empty low same =
    let long = queue_length v in
    let A = queue_actions v in
    let R = with_reading A pos xs in
    let reads : read_set (action_at R (suc pos)) ≡ xs = with_reading-reads A pos xs (omega arith) in
    bases-push v.shape.objects R v.commit (given_objects v s) [] [] bases (suc pos)
    (λ x m. low x (sym (ap (is_in x) reads) ∙ m))
    (λ x. same x ∙ ap (λ (ys : List ℕ). is_in x (committed_reads v s next xs ++ ys)) empty ∙ ap (is_in x) (append-nil (committed_reads v s next xs))
    ∙ ap (λ (n : ℕ). is_in x (committed_reads v s n xs)) e
    ∙ ap (is_in x) (sym (bases-read v s pos (suc pos) xs xs l (omega arith)))
    ∙ ap (λ (ys : List ℕ). is_in x (bases_of R v.commit (given_objects v s) (suc pos) ys)) (sym reads))
    (bases-none v.shape.objects R v.commit (given_objects v s))

pub see-next_bases : (v : QueueView) (s pos p : ℕ) (xs items head new' : List ℕ) → pos ≤ last_position v → p ≤ pos →
    All (λ x. x < v.shape.objects) (reads_at v p) →
    ((x : ℕ) → is_in x new' ≡ is_in x (committed_reads v s p (reads_at v p) ++ head)) → AreSeenBases v s xs pos items head → AreSeenBases v s xs pos (items ++ p ∷ []) new'
see-next_bases v s pos p xs items head new' l h low same so =
    let long = queue_length v in
    let A = queue_actions v in
    let R = with_reading A pos xs in
    let reads : read_set (action_at R p) ≡ reads_at v p = ap read_set (with_reading-before A pos xs p (omega arith) h) in
    bases-push v.shape.objects R v.commit (given_objects v s) (suc pos ∷ items) head new' p
    (λ x m. members-all (λ y. y < v.shape.objects) (reads_at v p) low x (sym (ap (is_in x) reads) ∙ m))
    (λ x. same x ∙ is_in-swap x (committed_reads v s p (reads_at v p)) head
    ∙ ap (λ (ys : List ℕ). is_in x (head ++ ys))
    (sym (bases-read v s pos p xs (reads_at v p) l (omega arith)) ∙ ap (bases_of R v.commit (given_objects v s) p) (sym reads)))
    so

pub see-all_bases : (v : QueueView) (s pos : ℕ) (xs items head : List ℕ) → v.commit ≤ pos → AreSeenBases v s xs pos items head →
    reverse items ≡ lacking_to_see v s xs pos → (x : ℕ) → is_in x head ≡ is_in x (bases_to_see v s xs pos)
see-all_bases v s pos xs items head low so all =
    let A = queue_actions v in
    let R = with_reading A pos xs in
    bases-all v.shape.objects R v.commit (up_to pos (sent_positions v s)) (given_objects v s) (suc pos ∷ items) head (suc pos) so
    (reverse-append (suc pos ∷ []) items ∙ ap (λ (ys : List ℕ). ys ++ suc pos ∷ []) all ∙ sym (see-ends A v.commit (sent_positions v s) xs pos low))

pub bases_to_see-low : (v : QueueView) (s pos x : ℕ) (xs : List ℕ) → is_in x (bases_to_see v s xs pos) ≡ true → x < v.shape.objects
bases_to_see-low v s pos x xs h =
    ((head_for-iff v.shape.objects (with_reading (queue_actions v) pos xs) v.commit (up_to pos (sent_positions v s)) (given_objects v s) (suc pos) x).0 h).0

pub see-first_within : (v : QueueView) (s pos next : ℕ) (xs wanted none : List ℕ) → next ≡ suc pos → none ≡ [] →
    ((j : ℕ) → is_in j wanted ≡ is_in j (lacking_writers v s next xs ++ none)) → (j : ℕ) → is_in j wanted ≡ true → (v.commit < j) × (j ≤ pos)
see-first_within v s pos next xs wanted none e empty same j m =
    let there : is_in j (lacking_writers v s next xs) ≡ true =
    ap (is_in j) (sym (append-nil (lacking_writers v s next xs))) ∙ ap (λ (ys : List ℕ). is_in j (lacking_writers v s next xs ++ ys)) (sym empty) ∙ sym (same j) ∙ m in
    let writers = map (λ (x : ℕ). last_writer (queue_actions v) x next) xs in
    let kept = is_in-filter_parts (λ (k : ℕ). nat_lt v.commit k && not (is_in k (sent_positions v s))) j writers there in
    let tests = and_parts (nat_lt v.commit j) (not (is_in j (sent_positions v s))) kept.1 in
    let from = is_in-map_from (λ (x : ℕ). last_writer (queue_actions v) x next) j xs kept.0 in
    let is : j ≡ last_writer (queue_actions v) from.0 next = from.1.1 in
    let above : v.commit < j = ltb-true v.commit j tests.0 in
    let under : last_writer (queue_actions v) from.0 next < next = last_writer-below (queue_actions v) from.0 next (omega arith) in
    (above, omega arith)

pub bases_to_see-all : (v : QueueView) (s pos : ℕ) (xs head : List ℕ) → is_ascending head ≡ true → ((x : ℕ) → is_in x head ≡ is_in x (bases_to_see v s xs pos)) →
    head ≡ bases_to_see v s xs pos
bases_to_see-all v s pos xs head up same =
    bases-same v.shape.objects (with_reading (queue_actions v) pos xs) v.commit (up_to pos (sent_positions v s)) (given_objects v s) head (suc pos) up same

-- ---- halving

-- A half, rounded up, of what is at most a power of two is at most the half of that power.
pub half-ticks : (d d' before after t most : ℕ) → 1 < d → d' + d' ≤ d + 1 → d ≤ 2 ^ t → after ≤ before + most_to_see → before + most_to_see * t ≤ most →
    (u : ℕ) × ((d' ≤ 2 ^ u) × (after + most_to_see * u ≤ most))
half-ticks d d' before after zero most l half within more total = absurd (omega arith)
half-ticks d d' before after (suc u) most l half within more total =
    let double : 2 ^ suc u ≡ 2 ^ u * 2 = pow-suc 2 u in
    (u, (omega arith, omega arith))

-- ---- the search

pub see-none_at_commit : (v : QueueView) (s n : ℕ) (xs : List ℕ) → n ≤ v.commit → length (lacking_to_see v s xs n) ≡ 0
see-none_at_commit v s n xs l = ap length (see-none (queue_actions v) v.commit (sent_positions v s) xs n l)

-- It is the greatest cut where one position more is too much.
pub see-greatest : (v : QueueView) (s few many : ℕ) (xs : List ℕ) → MarksAreClosed v s → many ≤ few + 1 → few < many → many ≤ last_position v →
    length (lacking_to_see v s xs few) ≤ most_items → most_items < length (lacking_to_see v s xs many) → few ≡ latest_cut v s xs
see-greatest v s few many xs closed next less high passes fails =
    let long = queue_length v in
    cut-is (queue_actions v) v.commit (sent_positions v s) xs few (omega arith) (omega arith) passes
    (λ k over' l.
    let more = see-longer (queue_actions v) v.commit (sent_positions v s) xs many k closed (omega arith) l in
    omega arith)

-- The last position is, where it passes.
pub see-last : (v : QueueView) (s n : ℕ) (xs : List ℕ) → n ≡ last_position v → length (lacking_to_see v s xs n) ≤ most_items → n ≡ latest_cut v s xs
see-last v s n xs e passes =
    let long = queue_length v in
    cut-is (queue_actions v) v.commit (sent_positions v s) xs n (omega arith) (omega arith) passes (λ k over' l. absurd (omega arith))

pub latest-bounds : (v : QueueView) (s n : ℕ) (xs : List ℕ) → n ≡ latest_cut v s xs → (v.commit ≤ n) × (n ≤ last_position v)
latest-bounds v s n xs e =
    let long = queue_length v in
    let low = cut-low (queue_actions v) v.commit (sent_positions v s) xs in
    let high = cut-high (queue_actions v) v.commit (sent_positions v s) xs (omega arith) in
    (omega arith, omega arith)

pub latest-few : (v : QueueView) (s n : ℕ) (xs : List ℕ) → n ≡ latest_cut v s xs → length (lacking_to_see v s xs n) ≤ most_items
latest-few v s n xs e =
    subst (λ (m : ℕ). length (lacking_to_see v s xs m) ≤ most_items) (sym e) (cut-few (queue_actions v) v.commit (sent_positions v s) xs)

pub bases-low : (v : QueueView) (s pos : ℕ) (xs bases : List ℕ) → ((x : ℕ) → is_in x bases ≡ is_in x (bases_to_see v s xs pos)) → All (λ x. x < v.shape.objects) bases
bases-low v s pos xs bases same = all-members (λ x. x < v.shape.objects) bases (λ x m. bases_to_see-low v s pos x xs (sym (same x) ∙ m))
