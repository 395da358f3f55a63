-- What one look-up of an object's last writer adds.
use Rattle.std.proofs.Common.{◌≡◌, ◌≢◌, ℕ, ◌+◌, ◌<◌, ◌≤◌, inl, inr, Bool, true, false, ◌||◌, ◌&&◌, not, List, [], ◌∷◌, ◌++◌, map, length, replicate, sym, ◌∙◌, ap, subst, nat_lt, nat_le, arith, length-append, le-leb, lt-ltb}
use Rattle.std.proofs.lemmas.Bool.{cond-true, cond-false, and_from, and_left, and_right, not_from_false, not_from_true, lt-leb, cases_lt}
use Rattle.std.proofs.lemmas.List.{length-replicate, length-map}
use Rattle.std.proofs.lemmas.List.Elements.{filter-append}
use Rattle.sv_world.specs.declared.action.Action.{Action}
use Rattle.sv_world.specs.Sets.{write_set}
use Rattle.sv_world.specs.Control.{is_in, below, blank, action_at, last_writer}
use Rattle.sv_world.proofs.Members.{is_in-filter, is_in-filter_parts, same_test}
use Rattle.sv_world.proofs.Bases.{is_in-below}
use Rattle.sv_world.proofs.Writers.{last_writer-below, last_writer-writes}
use Rattle.sv_queue.specs.Pairs.{is_pair}
use Rattle.sv_queue.specs.Queue.{Queued, QueueView, IsUncommitted, last_position, queue_actions, entry_actions, sent_positions, given_objects}
use Rattle.sv_queue.proofs.Members.{is_in-append}
use Rattle.sv_queue.proofs.SourceLists.{committed_blank}
use Rattle.sv_influence.specs.Lacking.{lacking_of, lacking_writers, base_of, committed_reads}
use Rattle.sv_influence.proofs.ReadSets.{or_move}

pub queue_length : (v : QueueView) → length (queue_actions v) ≡ last_position v
queue_length v =
    length-append (replicate v.commit blank) (entry_actions v.entries)
    ∙ (let a = length-replicate v.commit blank in let b = length-map v.entries (λ (e : Queued). e.action) in omega arith)

-- A last writer in a queue is above the commit, where there is one.
pub writer-above : (v : QueueView) (x i : ℕ) → 0 < last_writer (queue_actions v) x i → v.commit < last_writer (queue_actions v) x i
writer-above v x i low =
    let j = last_writer (queue_actions v) x i in
    elim (cases_lt v.commit j) [
      | inl l ↦ l
      | inr l ↦
          (let h : is_in x (write_set (action_at (queue_actions v) j)) ≡ true = last_writer-writes (queue_actions v) x i low in
          let g : is_in x (write_set blank) ≡ true = subst (λ (a : Action). is_in x (write_set a) ≡ true) (committed_blank v.commit j (entry_actions v.entries) l) h in
          cc)
    ]

pub given-is : (v : QueueView) (x s : ℕ) → x < v.shape.objects → is_in x (given_objects v s) ≡ is_pair x s v.given
given-is v x s low =
    same_test (is_in x (given_objects v s)) (is_pair x s v.given)
    (λ h. (is_in-filter_parts (λ (y : ℕ). is_pair y s v.given) x (below v.shape.objects) h).1)
    (λ h. is_in-filter (λ (y : ℕ). is_pair y s v.given) x (below v.shape.objects) (is_in-below v.shape.objects x low) h)

-- The object's last writer is committed, and it was not given.
pub look-base : (v : QueueView) (s o w : ℕ) (old new' : List ℕ) → o < v.shape.objects → w ≡ 0 → is_pair o s v.given ≡ false →
    ((x : ℕ) → is_in x new' ≡ is_in x (o ∷ old)) → (x : ℕ) → is_in x new' ≡ is_in x (base_of v s w o ++ old)
look-base v s o w old new' low none ungiven h x =
    h x ∙ ap (λ (ys : List ℕ). is_in x (ys ++ old))
    (sym (cond-true (nat_le w v.commit && not (is_in o (given_objects v s))) (o ∷ []) []
    (and_from (nat_le w v.commit) (not (is_in o (given_objects v s)))
    (le-leb w v.commit (omega arith))
    (not_from_false (is_in o (given_objects v s)) (given-is v o s low ∙ ungiven)))))

-- It was given.
pub look-given : (v : QueueView) (s o w : ℕ) (old : List ℕ) → o < v.shape.objects → is_pair o s v.given ≡ true →
    (x : ℕ) → is_in x old ≡ is_in x (base_of v s w o ++ old)
look-given v s o w old low given x =
    ap (λ (ys : List ℕ). is_in x (ys ++ old))
    (sym (cond-false (nat_le w v.commit && not (is_in o (given_objects v s))) (o ∷ []) []
    (and_right (nat_le w v.commit) (not (is_in o (given_objects v s)))
    (not_from_true (is_in o (given_objects v s)) (given-is v o s low ∙ given)))))

-- It is not committed.
pub look-late : (v : QueueView) (s o w : ℕ) (old : List ℕ) → v.commit < w → (x : ℕ) → is_in x old ≡ is_in x (base_of v s w o ++ old)
look-late v s o w old late x =
    ap (λ (ys : List ℕ). is_in x (ys ++ old))
    (sym (cond-false (nat_le w v.commit && not (is_in o (given_objects v s))) (o ∷ []) []
    (and_left (nat_le w v.commit) (not (is_in o (given_objects v s))) (lt-leb w v.commit late))))

-- Nor was it sent.
pub look-unsent : (v : QueueView) (s w : ℕ) (old new' : List ℕ) → v.commit < w → is_in w (sent_positions v s) ≡ false →
    ((x : ℕ) → is_in x new' ≡ is_in x (w ∷ old)) → (x : ℕ) → is_in x new' ≡ is_in x (lacking_of v s (w ∷ []) ++ old)
look-unsent v s w old new' late unsent h x =
    h x ∙ ap (λ (ys : List ℕ). is_in x (ys ++ old))
    (sym (cond-true (nat_lt v.commit w && not (is_in w (sent_positions v s))) (w ∷ []) []
    (and_from (nat_lt v.commit w) (not (is_in w (sent_positions v s))) (lt-ltb v.commit w late)
    (not_from_false (is_in w (sent_positions v s)) unsent))))

-- The last writer of an object below a position that is not above the next one.
pub writer-queued : (v : QueueView) (x i w : ℕ) → i ≤ last_position v + 1 → w ≡ last_writer (queue_actions v) x i → w ≢ 0 → IsUncommitted v w
writer-queued v x i w within is some' =
    let low : 0 < last_writer (queue_actions v) x i = omega arith in
    let b : last_writer (queue_actions v) x i < i = last_writer-below (queue_actions v) x i low in
    let over' = writer-above v x i low in
    (omega arith, omega arith)

-- The first part of what is left to add goes over to what was added.
pub members-move : (j : ℕ) (first rest old new' : List ℕ) → is_in j new' ≡ is_in j (first ++ old) → is_in j (rest ++ new') ≡ is_in j ((first ++ rest) ++ old)
members-move j first rest old new' h =
    is_in-append j rest new'
    ∙ ap (λ (b : Bool). is_in j rest || b) (h ∙ is_in-append j first old)
    ∙ sym (or_move (is_in j first) (is_in j rest) (is_in j old))
    ∙ sym (ap (λ (b : Bool). b || is_in j old) (is_in-append j first rest))
    ∙ sym (is_in-append j (first ++ rest) old)

pub writers-cons : (v : QueueView) (s pos o : ℕ) (xs : List ℕ) → lacking_writers v s pos (o ∷ xs) ≡ lacking_writers v s pos (o ∷ []) ++ lacking_writers v s pos xs
writers-cons v s pos o xs =
    filter-append (λ (j : ℕ). nat_lt v.commit j && not (is_in j (sent_positions v s))) (last_writer (queue_actions v) o pos ∷ []) (map (λ (x : ℕ). last_writer (queue_actions v) x pos) xs)

pub reads-cons : (v : QueueView) (s pos o : ℕ) (xs : List ℕ) → committed_reads v s pos (o ∷ xs) ≡ committed_reads v s pos (o ∷ []) ++ committed_reads v s pos xs
reads-cons v s pos o xs =
    filter-append (λ (x : ℕ). nat_le (last_writer (queue_actions v) x pos) v.commit && not (is_in x (given_objects v s))) (o ∷ []) xs
