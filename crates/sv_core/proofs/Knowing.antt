-- What is seen of objects is empty exactly where a session knows them all.
use Rattle.std.proofs.Common.{◌≡◌, ◌≢◌, ℕ, suc, ◌+◌, ◌<◌, ◌≤◌, inl, inr, ◌↔◌, Bool, true, false, not, ◌&&◌, nat_lt, nat_le, List, [], ◌∷◌, ◌++◌, map, filter, length, All, refl, sym, ◌∙◌, ap, arith, append-nil, lt-ltb}
use Rattle.std.specs.List.{list_all}
use Rattle.std.proofs.lemmas.Bool.{true≢false, cond-true, cond-false, cases_lt, lt-leb, le-leb, le-ltb, and_parts, and_from, and_left, and_right, not_from_true}
use Rattle.sv_world.specs.declared.world.ObjectId.{ObjectId}
use Rattle.sv_world.specs.Control.{is_in, last_writer}
use Rattle.sv_world.specs.Faults.{may_be_observed}
use Rattle.sv_world.specs.Sets.{numbers_of}
use Rattle.sv_world.proofs.Members.{all-members, is_in-head, is_in-tail, is_in-filter, is_in-map}
use Rattle.sv_world.proofs.Sweeps.{sweep-has}
use Rattle.sv_queue.specs.Pairs.{is_pair}
use Rattle.sv_queue.specs.Queue.{QueueView, last_position, queue_actions, sent_positions, given_objects}
use Rattle.sv_influence.specs.Lacking.{lacking_writers, committed_reads, lacking_to_see, bases_to_see, latest_cut}
use Rattle.sv_influence.proofs.Growth.{whole-nil}
use Rattle.sv_influence.proofs.Looks.{given-is, writer-above}
use Rattle.sv_influence.proofs.Sights.{observed-parts, all-low, see-first, see-first_within, see-first_bases, see-all_bases, bases_to_see-all, see-last}
use Rattle.sv_influence.proofs.Takes.{makes_wanted}
use Rattle.sv_core.specs.Relays.{knows, knows_of, seen_positions, seen_bases}
use Rattle.sv_core.proofs.Relayed.{objects-low}

-- ---- one object

-- No uncommitted position writes it.
pub knows-given : (v : QueueView) (s x w last : ℕ) (given : Bool) → x < v.shape.objects → last ≡ last_position v → w ≡ last_writer (queue_actions v) x (last + 1) → w ≡ 0 →
    given ≡ is_pair x s v.given → given ≡ knows v s x
knows-given v s x w last given low at is none same =
    let next : last + 1 ≡ suc (last_position v) = omega arith in
    let e : last_writer (queue_actions v) x (suc (last_position v)) ≡ 0 = ap (last_writer (queue_actions v) x) (sym next) ∙ sym is ∙ none in
    same ∙ sym (given-is v x s low)
    ∙ sym (cond-true (nat_le 0 v.commit) (is_in x (given_objects v s)) (is_in 0 (sent_positions v s)) (le-leb 0 v.commit (omega arith)))
    ∙ sym (ap (knows_of v s x) e)

pub knows-sent : (v : QueueView) (s x w last : ℕ) (sent : Bool) → last ≡ last_position v → w ≡ last_writer (queue_actions v) x (last + 1) → w ≢ 0 →
    sent ≡ is_in w (sent_positions v s) → sent ≡ knows v s x
knows-sent v s x w last sent at is some' same =
    let next : last + 1 ≡ suc (last_position v) = omega arith in
    let e : w ≡ last_writer (queue_actions v) x (suc (last_position v)) = is ∙ ap (last_writer (queue_actions v) x) next in
    let above = writer-above v x (suc (last_position v)) (omega arith) in
    let late : v.commit < w = omega arith in
    same ∙ sym (cond-false (nat_le w v.commit) (is_in x (given_objects v s)) (is_in w (sent_positions v s)) (lt-leb w v.commit late)) ∙ ap (knows_of v s x) e

-- Its last writer is not lacking.
known-writer : (v : QueueView) (s x w : ℕ) → knows_of v s x w ≡ true → (nat_lt v.commit w && not (is_in w (sent_positions v s))) ≡ false
known-writer v s x w h =
    elim (cases_lt v.commit w) [
      | inl late ↦
          and_right (nat_lt v.commit w) (not (is_in w (sent_positions v s))) (not_from_true (is_in w (sent_positions v s))
          (sym (cond-false (nat_le w v.commit) (is_in x (given_objects v s)) (is_in w (sent_positions v s)) (lt-leb w v.commit late)) ∙ h))
      | inr early ↦ and_left (nat_lt v.commit w) (not (is_in w (sent_positions v s))) (le-ltb v.commit w early)
    ]

-- Its committed value is not due.
known-base : (v : QueueView) (s x w : ℕ) → knows_of v s x w ≡ true → (nat_le w v.commit && not (is_in x (given_objects v s))) ≡ false
known-base v s x w h =
    elim (cases_lt v.commit w) [
      | inl late ↦ and_left (nat_le w v.commit) (not (is_in x (given_objects v s))) (lt-leb w v.commit late)
      | inr early ↦
          and_right (nat_le w v.commit) (not (is_in x (given_objects v s))) (not_from_true (is_in x (given_objects v s))
          (sym (cond-true (nat_le w v.commit) (is_in x (given_objects v s)) (is_in w (sent_positions v s)) (le-leb w v.commit early)) ∙ h))
    ]

-- ---- all of them

known-writers : (v : QueueView) (s : ℕ) (xs : List ℕ) → list_all (knows v s) xs ≡ true → lacking_writers v s (suc (last_position v)) xs ≡ []
known-writers v s [] h = refl
known-writers v s (x ∷ xs) h =
    let parts = and_parts (knows v s x) (list_all (knows v s) xs) h in
    let w = last_writer (queue_actions v) x (suc (last_position v)) in
    cond-false (nat_lt v.commit w && not (is_in w (sent_positions v s))) (w ∷ lacking_writers v s (suc (last_position v)) xs) (lacking_writers v s (suc (last_position v)) xs)
    (known-writer v s x w parts.0)
    ∙ known-writers v s xs parts.1

known-bases : (v : QueueView) (s : ℕ) (xs : List ℕ) → list_all (knows v s) xs ≡ true → committed_reads v s (suc (last_position v)) xs ≡ []
known-bases v s [] h = refl
known-bases v s (x ∷ xs) h =
    let parts = and_parts (knows v s x) (list_all (knows v s) xs) h in
    let w = last_writer (queue_actions v) x (suc (last_position v)) in
    cond-false (nat_le w v.commit && not (is_in x (given_objects v s))) (x ∷ committed_reads v s (suc (last_position v)) xs) (committed_reads v s (suc (last_position v)) xs)
    (known-base v s x w parts.0)
    ∙ known-bases v s xs parts.1

-- ---- what is seen

known-lacking : (v : QueueView) (s : ℕ) (xs : List ℕ) → list_all (knows v s) xs ≡ true → lacking_to_see v s xs (last_position v) ≡ []
known-lacking v s xs h =
    sym (see-first v s (last_position v) (suc (last_position v)) xs [] [] (omega arith) refl refl
    (λ j. ap (is_in j) (sym (append-nil (lacking_writers v s (suc (last_position v)) xs) ∙ known-writers v s xs h))))
    ∙ whole-nil (makes_wanted v s) (last_position v)

known-heads : (v : QueueView) (s : ℕ) (xs : List ℕ) → may_be_observed v.shape.objects xs ≡ true → list_all (knows v s) xs ≡ true →
    bases_to_see v s xs (last_position v) ≡ []
known-heads v s xs may h =
    let n = last_position v in
    let parts = observed-parts v.shape.objects xs may in
    let so = see-first_bases v s n (suc n) xs [] [] (omega arith) refl refl (all-low v.shape.objects xs parts.1)
    (λ x. ap (is_in x) (sym (append-nil (committed_reads v s (suc n) xs) ∙ known-bases v s xs h))) in
    sym (bases_to_see-all v s n xs [] refl (see-all_bases v s n xs [] [] (omega arith) so (sym (known-lacking v s xs h))))

-- The greatest cut is the last position.
pub known-cut : (v : QueueView) (s : ℕ) (xs : List ℕ) → list_all (knows v s) xs ≡ true → last_position v ≡ latest_cut v s xs
known-cut v s xs h =
    let e : length (lacking_to_see v s xs (last_position v)) ≡ 0 = ap length (known-lacking v s xs h) in
    see-last v s (last_position v) xs refl (omega arith)

pub known-positions : (v : QueueView) (s : ℕ) (xs : List ℕ) → list_all (knows v s) xs ≡ true → [] ≡ seen_positions v s xs
known-positions v s xs h = sym (known-lacking v s xs h) ∙ ap (lacking_to_see v s xs) (known-cut v s xs h)

pub known-seen_bases : (v : QueueView) (s : ℕ) (xs : List ℕ) → may_be_observed v.shape.objects xs ≡ true → list_all (knows v s) xs ≡ true → [] ≡ seen_bases v s xs
known-seen_bases v s xs may h = sym (known-heads v s xs may h) ∙ ap (bases_to_see v s xs) (known-cut v s xs h)

-- Objects that may be observed are of the world.
pub observed-low : (n : ℕ) (objects : List ObjectId) → may_be_observed n (numbers_of objects) ≡ true → All (λ (o : ObjectId). o.0 < n) objects
observed-low n objects h =
    objects-low n objects (numbers_of objects) refl (all-members (λ x. x < n) (numbers_of objects) (all-low n (numbers_of objects) (observed-parts n (numbers_of objects) h).1))

-- ---- and only there

must : (b m : Bool) → (b && not m) ≡ false → b ≡ true → m ≡ true
must b true h is = refl
must true false h is = sym h
must false false h is = is

never : (b : Bool) → (b ≡ true → ⊥) → b ≡ false
never false h = refl
never true h = absurd (h refl)

-- Whoever lacks nothing of an object, and is due no value of it, knows it.
knows-from : (v : QueueView) (s x w : ℕ) → (nat_lt v.commit w && not (is_in w (sent_positions v s))) ≡ false →
    (nat_le w v.commit && not (is_in x (given_objects v s))) ≡ false → knows_of v s x w ≡ true
knows-from v s x w writer base =
    elim (cases_lt v.commit w) [
      | inl late ↦
          cond-false (nat_le w v.commit) (is_in x (given_objects v s)) (is_in w (sent_positions v s)) (lt-leb w v.commit late)
          ∙ must (nat_lt v.commit w) (is_in w (sent_positions v s)) writer (lt-ltb v.commit w late)
      | inr early ↦
          cond-true (nat_le w v.commit) (is_in x (given_objects v s)) (is_in w (sent_positions v s)) (le-leb w v.commit early)
          ∙ must (nat_le w v.commit) (is_in x (given_objects v s)) base (le-leb w v.commit early)
    ]

-- What is in no filtered list fails the test.
fails : (p : ℕ → Bool) (k : ℕ) (xs : List ℕ) → ((j : ℕ) → is_in j (filter p xs) ≡ false) → is_in k xs ≡ true → p k ≡ false
fails p k xs none m = never (p k) (λ passes. true≢false (sym (is_in-filter p k xs m passes) ∙ none k))

all-pass : (f : ℕ → Bool) (xs : List ℕ) → ((x : ℕ) → is_in x xs ≡ true → f x ≡ true) → list_all f xs ≡ true
all-pass f [] h = refl
all-pass f (x ∷ xs) h = and_from (f x) (list_all f xs) (h x (is_in-head x xs)) (all-pass f xs (λ y m. h y (is_in-tail y x xs m)))

no-writers : (v : QueueView) (s : ℕ) (xs : List ℕ) → lacking_to_see v s xs (last_position v) ≡ [] → (j : ℕ) → is_in j (lacking_writers v s (suc (last_position v)) xs) ≡ false
no-writers v s xs none j =
    let n = last_position v in
    let W = lacking_writers v s (suc n) xs in
    let same : (k : ℕ) → is_in k W ≡ is_in k (W ++ []) = λ k. ap (is_in k) (sym (append-nil W)) in
    never (is_in j W) (λ m.
    let b = see-first_within v s n (suc n) xs W [] refl refl same j m in
    let low : v.commit < j = b.0 in
    let has = sweep-has (makes_wanted v s) n W j m (omega arith) b.1 in
    true≢false (sym has ∙ ap (is_in j) (see-first v s n (suc n) xs W [] (omega arith) refl refl same ∙ none)))

no-bases : (v : QueueView) (s : ℕ) (xs : List ℕ) → may_be_observed v.shape.objects xs ≡ true → lacking_to_see v s xs (last_position v) ≡ [] →
    bases_to_see v s xs (last_position v) ≡ [] → (x : ℕ) → is_in x (committed_reads v s (suc (last_position v)) xs) ≡ false
no-bases v s xs may none due x =
    let n = last_position v in
    let B = committed_reads v s (suc n) xs in
    let parts = observed-parts v.shape.objects xs may in
    let so = see-first_bases v s n (suc n) xs B [] (omega arith) refl refl (all-low v.shape.objects xs parts.1) (λ k. ap (is_in k) (sym (append-nil B))) in
    see-all_bases v s n xs [] B (omega arith) so (sym none) x ∙ ap (is_in x) due

known-back : (v : QueueView) (s : ℕ) (xs : List ℕ) → may_be_observed v.shape.objects xs ≡ true → lacking_to_see v s xs (last_position v) ≡ [] →
    bases_to_see v s xs (last_position v) ≡ [] → list_all (knows v s) xs ≡ true
known-back v s xs may none due =
    let n = last_position v in
    all-pass (knows v s) xs (λ x m.
    let w = last_writer (queue_actions v) x (suc n) in
    let writers = map (λ (y : ℕ). last_writer (queue_actions v) y (suc n)) xs in
    knows-from v s x w
    (fails (λ (k : ℕ). nat_lt v.commit k && not (is_in k (sent_positions v s))) w writers (no-writers v s xs none) (is_in-map (λ (y : ℕ). last_writer (queue_actions v) y (suc n)) x xs m))
    (fails (λ (y : ℕ). nat_le (last_writer (queue_actions v) y (suc n)) v.commit && not (is_in y (given_objects v s))) x xs (no-bases v s xs may none due) m))

-- At the last position a session lacks nothing of objects, and no value of theirs is due, exactly where it knows them all.
pub known-exactly : (v : QueueView) (s : ℕ) (xs : List ℕ) → may_be_observed v.shape.objects xs ≡ true →
    (list_all (knows v s) xs ≡ true) ↔ ((lacking_to_see v s xs (last_position v) ≡ []) × (bases_to_see v s xs (last_position v) ≡ []))
known-exactly v s xs may = (
  (λ h. (known-lacking v s xs h, known-heads v s xs may h)),
  (λ p. known-back v s xs may p.0 p.1),
)
