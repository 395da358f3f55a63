-- A queue whose positions are sent to a session, and whose objects are given to it.
use Rattle.std.proofs.Common.{◌≡◌, ℕ, zero, suc, ◌+◌, ◌-◌, ◌<◌, ◌≤◌, Bool, true, false, ◌&&◌, ◌||◌, cond, nat_eq, nat_le, inl, inr, List, [], ◌∷◌, ◌++◌, filter, All, Option, ℤ, refl, sym, ◌∙◌, ap, subst, arith, length-set, append_assoc, append-nil}
use Rattle.std.proofs.lemmas.Bool.{cases_eq, eq-eqb, ne_eqb, and_right, le-leb, lt-leb, or_right}
use Rattle.std.proofs.lemmas.List.{get_or-set_same, get_or-set_other}
use Rattle.std.proofs.lemmas.List.Elements.{filter-append}
use Rattle.std.proofs.lemmas.List.Folds.{list_any-append}
use Rattle.std.specs.List.{list_any}
use mathlib.Core.Bool.{or-false, or_comm, and-true}
use Rattle.sv_world.specs.declared.action.Action.{Action}
use Rattle.sv_world.specs.declared.world.Shape.{Shape}
use Rattle.sv_world.specs.declared.world.World.{World}
use Rattle.sv_world.specs.Control.{is_in, action_at, last_writer}
use Rattle.sv_world.specs.Sets.{write_set}
use Rattle.sv_world.proofs.Writers.{last_writer-most}
use Rattle.sv_wire.specs.declared.message.ObjectValue.{ObjectValue}
use Rattle.sv_queue.specs.Pairs.{is_pair}
use Rattle.sv_queue.specs.Queue.{Queued, QueueView, IsUncommitted, last_position, entry_at, no_entry, place_of, with_entry, with_mark, with_given}
use Rattle.sv_queue.specs.Slots.{with_slot}
use Rattle.sv_queue.proofs.Members.{is_in-append}
use Rattle.sv_queue.proofs.PairSets.{is_pair-where}
use Rattle.sv_queue.proofs.SlotSets.{in_slots}
use Rattle.sv_journal.specs.History.{Authored}
use Rattle.sv_journal.specs.Sessions.{names}
use Rattle.sv_core.specs.Fits.{actions_in, values_after, was_given, IsQueueEntry, QueueFits}
use Rattle.sv_core.specs.Relays.{marked_all, given_all}

pub entry-same : (v : QueueView) (p : ℕ) (e : Queued) → v.commit < p → p ≤ last_position v → entry_at (with_entry v p e) p ≡ e
entry-same v p e low high = get_or-set_same v.entries (p - v.commit - 1) e no_entry (omega arith)

pub entry-other : (v : QueueView) (p q : ℕ) (e : Queued) → v.commit < p → v.commit < q → (q ≡ p → ⊥) → entry_at (with_entry v p e) q ≡ entry_at v q
entry-other v p q e low lower ne = get_or-set_other v.entries (p - v.commit - 1) (q - v.commit - 1) e no_entry (λ same. ne (omega arith))

pub last-with_entry : (v : QueueView) (p : ℕ) (e : Queued) → last_position (with_entry v p e) ≡ last_position v
last-with_entry v p e = ap (λ n. v.commit + n) (length-set v.entries (place_of v p) e)

-- ---- What is given

-- A position above the commit gives nothing yet.
pub was_given-late : (acts : List Action) (sent named : List ℕ) (x c p : ℕ) → c < p → was_given acts (sent ++ p ∷ []) named x c ≡ was_given acts sent named x c
was_given-late acts sent named x c p late =
    ap (list_any T) (ap (λ ys. named ++ ys) (filter-append W sent (p ∷ [])) ∙ sym (append_assoc named (filter W sent) (filter W (p ∷ []))))
    ∙ list_any-append T (named ++ filter W sent) (filter W (p ∷ []))
    ∙ ap (λ b. list_any T (named ++ filter W sent) || b) (none (W p))
    ∙ or-false (list_any T (named ++ filter W sent))
  where
    T : ℕ → Bool
    T q = nat_le (last_writer acts x (suc c)) q && nat_le q c

    W : ℕ → Bool
    W q = is_in x (write_set (action_at acts q))

    none : (b : Bool) → list_any T (cond b (p ∷ []) []) ≡ false
    none true = ap (λ d. d || false) (and_right (nat_le (last_writer acts x (suc c)) p) (nat_le p c) (lt-leb p c late))
    none false = refl

-- What a reply at the commit names is given.
pub was_given-named : (acts : List Action) (sent named : List ℕ) (x c : ℕ) → was_given acts sent (named ++ c ∷ []) x c ≡ true
was_given-named acts sent named x c =
    ap (list_any T) (append_assoc named (c ∷ []) (filter W sent))
    ∙ list_any-append T named (c ∷ filter W sent)
    ∙ or_right (list_any T named) (list_any T (c ∷ filter W sent)) (rw (le-leb (last_writer acts x (suc c)) c (last_writer-most acts x c), le-leb c c (omega arith)) refl)
  where
    T : ℕ → Bool
    T q = nat_le (last_writer acts x (suc c)) q && nat_le q c

    W : ℕ → Bool
    W q = is_in x (write_set (action_at acts q))

-- ---- The same facts

-- Only what stands at the positions, sessions and objects counts.
pub values-same : (opening : List (List ℤ)) (acts : List Action) (R Q : ℕ → Option (List (List ℤ))) (c : ℕ) →
    ((p : ℕ) → 0 < p → p ≤ c → R p ≡ Q p) → values_after opening acts R c ≡ values_after opening acts Q c
values-same opening acts R Q zero same = refl
values-same opening acts R Q (suc c) same =
    rw (values-same opening acts R Q c (λ p low high. same p low (omega arith)), same (suc c) (omega arith) (omega arith)) refl

pub fits-same : (w : World) (A : List Authored) (R Q : ℕ → Option (List (List ℤ))) (S U : ℕ → List ℕ) (N M : ℕ → ℕ → List ℕ) (v : QueueView) →
    ((p : ℕ) → 0 < p → R p ≡ Q p) → ((s : ℕ) → S s ≡ U s) → ((s x : ℕ) → N s x ≡ M s x) → QueueFits w A R S N v → QueueFits w A Q U M v
fits-same w A R Q S U N M v results sent named f = record {
  shape = f.shape;
  last = f.last;
  committed = f.committed ∙ values-same w.values (actions_in A) R Q v.commit (λ p low high. results p low);
  entries = λ p low high. (let e = f.entries p low high in record {
    author = e.author;
    seq = e.seq;
    action = e.action;
    result = e.result ∙ results p (omega arith);
    marks = λ s small. e.marks s small ∙ ap (is_in p) (sent s);
  });
  given = λ x s low small. f.given x s low small ∙ ap (λ ks. was_given (actions_in A) ks (N s x) x v.commit) (sent s)
      ∙ ap (λ ks. was_given (actions_in A) (U s) ks x v.commit) (named s x);
}

-- ---- Marks

-- Positions sent to one session more.
abbrev pub sent_also : ℕ → List ℕ → (ℕ → List ℕ) → ℕ → List ℕ
sent_also s ps S t = cond (nat_eq s t) (S t ++ ps) (S t)

sent_also-more : (s p : ℕ) (ps : List ℕ) (S : ℕ → List ℕ) (t : ℕ) → sent_also s ps (sent_also s (p ∷ []) S) t ≡ sent_also s (p ∷ ps) S t
sent_also-more s p ps S t = go (nat_eq s t)
  where
    go : (b : Bool) → cond b (cond b (S t ++ p ∷ []) (S t) ++ ps) (cond b (S t ++ p ∷ []) (S t)) ≡ cond b (S t ++ p ∷ ps) (S t)
    go true = append_assoc (S t) (p ∷ []) ps
    go false = refl

sent_also-none : (s : ℕ) (S : ℕ → List ℕ) (t : ℕ) → S t ≡ sent_also s [] S t
sent_also-none s S t = go (nat_eq s t)
  where
    go : (b : Bool) → S t ≡ cond b (S t ++ []) (S t)
    go true = sym (append-nil (S t))
    go false = refl

nat_eq_swap : (a b : ℕ) → nat_eq a b ≡ nat_eq b a
nat_eq_swap a b = elim (cases_eq a b) [ inl e ↦ eq-eqb a b e ∙ sym (eq-eqb b a (sym e)) | inr ne ↦ ne_eqb a b ne ∙ sym (ne_eqb b a (λ e. ne (sym e))) ]

-- Whether a position is among those of a session with one more.
pub is_sent_also : (s p : ℕ) (S : ℕ → List ℕ) (t q : ℕ) → is_in q (sent_also s (p ∷ []) S t) ≡ (is_in q (S t) || (nat_eq s t && nat_eq q p))
is_sent_also s p S t q = go (nat_eq s t)
  where
    go : (b : Bool) → is_in q (cond b (S t ++ p ∷ []) (S t)) ≡ (is_in q (S t) || (b && nat_eq q p))
    go true = is_in-append q (S t) (p ∷ []) ∙ ap (λ d. is_in q (S t) || d) (or-false (nat_eq q p))
    go false = sym (or-false (is_in q (S t)))

marked-entry : (A : List Authored) (R : ℕ → Option (List (List ℤ))) (S : ℕ → List ℕ) (p s : ℕ) (q : Queued) → IsQueueEntry A R S p q →
    IsQueueEntry A R (sent_also s (p ∷ []) S) p (record q { marks = with_slot s q.marks })
marked-entry A R S p s q e = record {
  author = e.author;
  seq = e.seq;
  action = e.action;
  result = e.result;
  marks = λ t small.
      in_slots (λ u. nat_eq u s || is_in u q.marks) t small
      ∙ ap (λ b. nat_eq t s || b) (e.marks t small)
      ∙ ap (λ b. b || is_in p (S t)) (nat_eq_swap t s)
      ∙ or_comm (nat_eq s t) (is_in p (S t))
      ∙ sym (is_sent_also s p S t p ∙ ap (λ b. is_in p (S t) || b) (ap (λ b. nat_eq s t && b) (eq-eqb p p refl) ∙ and-true (nat_eq s t)));
}

other-entry : (A : List Authored) (R : ℕ → Option (List (List ℤ))) (S : ℕ → List ℕ) (p k s : ℕ) (q : Queued) → (k ≡ p → ⊥) → IsQueueEntry A R S k q →
    IsQueueEntry A R (sent_also s (p ∷ []) S) k q
other-entry A R S p k s q ne e = record {
  author = e.author;
  seq = e.seq;
  action = e.action;
  result = e.result;
  marks = λ t small. e.marks t small
      ∙ sym (is_sent_also s p S t k ∙ ap (λ b. is_in k (S t) || b) (ap (λ b. nat_eq s t && b) (ne_eqb k p ne) ∙ and_right (nat_eq s t) false refl) ∙ or-false (is_in k (S t)));
}

pub fits-mark : (w : World) (A : List Authored) (R : ℕ → Option (List (List ℤ))) (S : ℕ → List ℕ) (N : ℕ → ℕ → List ℕ) (v : QueueView) (p s : ℕ) →
    IsUncommitted v p → QueueFits w A R S N v → QueueFits w A R (sent_also s (p ∷ []) S) N (with_mark v p s)
fits-mark w A R S N v p s is f = record {
  shape = f.shape;
  last = last-with_entry v p e ∙ f.last;
  committed = f.committed;
  entries = λ k low high. elim (cases_eq k p) [
    | inl same ↦ subst (λ n. IsQueueEntry A R (sent_also s (p ∷ []) S) n (entry_at (with_mark v p s) n)) (sym same)
        (subst (IsQueueEntry A R (sent_also s (p ∷ []) S) p) (sym (entry-same v p e is.0 is.1)) (marked-entry A R S p s (entry_at v p) (f.entries p is.0 (omega (arith, is.1, f.last)))))
    | inr ne ↦ subst (IsQueueEntry A R (sent_also s (p ∷ []) S) k) (sym (entry-other v p k e is.0 low ne)) (other-entry A R S p k s (entry_at v k) ne (f.entries k low high))
  ];
  given = λ x t low small. f.given x t low small ∙ late (nat_eq s t) x t;
}
  where
    e : Queued
    e = record (entry_at v p) { marks = with_slot s (entry_at v p).marks }

    late : (b : Bool) (x t : ℕ) → was_given (actions_in A) (S t) (N t x) x v.commit ≡ was_given (actions_in A) (cond b (S t ++ p ∷ []) (S t)) (N t x) x v.commit
    late true x t = sym (was_given-late (actions_in A) (S t) (N t x) x v.commit p is.0)
    late false x t = refl

uncommitted-marked : (v : QueueView) (p s : ℕ) (ps : List ℕ) → All (IsUncommitted v) ps → All (IsUncommitted (with_mark v p s)) ps
uncommitted-marked v p s ps all = λ i d low. (let both = all i d low in (both.0, omega (arith, both.1, last-with_entry v p (record (entry_at v p) { marks = with_slot s (entry_at v p).marks }))))

pub fits-marked : (w : World) (A : List Authored) (R : ℕ → Option (List (List ℤ))) (S : ℕ → List ℕ) (N : ℕ → ℕ → List ℕ) (v : QueueView) (ps : List ℕ) (s : ℕ) →
    All (IsUncommitted v) ps → QueueFits w A R S N v → QueueFits w A R (sent_also s ps S) N (marked_all v ps s)
fits-marked w A R S N v [] s all f = fits-same w A R R S (sent_also s [] S) N N v (λ p low. refl) (sent_also-none s S) (λ t x. refl) f
fits-marked w A R S N v (p ∷ ps) s all f =
    fits-same w A R R (sent_also s ps (sent_also s (p ∷ []) S)) (sent_also s (p ∷ ps) S) N N (marked_all (with_mark v p s) ps s)
    (λ q low. refl) (sent_also-more s p ps S) (λ t x. refl)
    (fits-marked w A R (sent_also s (p ∷ []) S) N (with_mark v p s) ps s (uncommitted-marked v p s ps (λ i d low. all (suc i) d (omega arith)))
    (fits-mark w A R S N v p s (all 0 p (omega arith)) f))

pub commit-marked : (v : QueueView) (ps : List ℕ) (s : ℕ) → (marked_all v ps s).commit ≡ v.commit
commit-marked v [] s = refl
commit-marked v (p ∷ ps) s = commit-marked (with_mark v p s) ps s

pub shape-marked : (v : QueueView) (ps : List ℕ) (s : ℕ) → (marked_all v ps s).shape ≡ v.shape
shape-marked v [] s = refl
shape-marked v (p ∷ ps) s = shape-marked (with_mark v p s) ps s

pub room-marked : (v : QueueView) (ps : List ℕ) (slot : ℕ) → (marked_all v ps slot).room ≡ v.room
room-marked v [] slot = refl
room-marked v (p ∷ ps) slot = room-marked (with_mark v p slot) ps slot

-- ---- Heads

pub room-given : (v : QueueView) (head : List ObjectValue) (slot : ℕ) → (given_all v head slot).room ≡ v.room
room-given v [] slot = refl
room-given v (x ∷ xs) slot = room-given (with_given v x.object.0 slot) xs slot

-- A head of a reply at a commit named to one session more.
abbrev pub named_also : ℕ → List ObjectValue → ℕ → (ℕ → ℕ → List ℕ) → ℕ → ℕ → List ℕ
named_also s head c N t x = cond (nat_eq s t) (N t x ++ cond (names head x) (c ∷ []) []) (N t x)

-- The pairs once a session was given a head.
given-all-pair : (v : QueueView) (head : List ObjectValue) (s x t : ℕ) → x < v.shape.objects → t < 1024 →
    is_pair x t (given_all v head s).given ≡ (is_pair x t v.given || (nat_eq s t && names head x))
given-all-pair v [] s x t low small = sym (ap (λ b. is_pair x t v.given || b) (and_right (nat_eq s t) false refl) ∙ or-false (is_pair x t v.given))
given-all-pair v (o ∷ os) s x t low small =
    given-all-pair (with_given v o.object.0 s) os s x t low small
    ∙ ap (λ b. b || (nat_eq s t && names os x)) (is_pair-where (λ y u. (nat_eq y o.object.0 && nat_eq u s) || is_pair y u v.given) x t v.shape.objects low small
    ∙ ap (λ b. (nat_eq x o.object.0 && b) || is_pair x t v.given) (nat_eq_swap t s))
    ∙ go (nat_eq x o.object.0) (nat_eq s t) (is_pair x t v.given) (names os x)
  where
    go : (a b c d : Bool) → (((a && b) || c) || (b && d)) ≡ (c || (b && (a || d)))
    go true true true d = refl
    go true true false d = refl
    go true false true d = refl
    go true false false d = refl
    go false b c d = refl

pub fits-given : (w : World) (A : List Authored) (R : ℕ → Option (List (List ℤ))) (S : ℕ → List ℕ) (N : ℕ → ℕ → List ℕ) (v : QueueView) (head : List ObjectValue) (s : ℕ) →
    QueueFits w A R S N v → QueueFits w A R S (named_also s head v.commit N) (given_all v head s)
fits-given w A R S N v head s f = record {
  shape = (same head v).0 ∙ f.shape;
  last = (same head v).1.0 ∙ f.last;
  committed = (same head v).1.1.0 ∙ f.committed ∙ ap (values_after w.values (actions_in A) R) (sym (same head v).1.1.1.0);
  entries = λ k low high. subst (IsQueueEntry A R S k) (sym ((same head v).1.1.1.1 k)) (f.entries k (omega (arith, low, (same head v).1.1.1.0)) high);
  given = λ x t low small.
      given-all-pair v head s x t (omega (arith, low, ap (λ (d : Shape). d.objects) f.shape)) small
      ∙ ap (λ b. b || (nat_eq s t && names head x)) (f.given x t low small)
      ∙ go (nat_eq s t) (names head x) x t
      ∙ ap (was_given (actions_in A) (S t) (named_also s head v.commit N t x) x) (sym (same head v).1.1.1.0);
}
  where
    same : (hs : List ObjectValue) (u : QueueView) → ((given_all u hs s).shape ≡ u.shape) × ((last_position (given_all u hs s) ≡ last_position u)
        × (((given_all u hs s).committed ≡ u.committed) × (((given_all u hs s).commit ≡ u.commit) × ((k : ℕ) → entry_at (given_all u hs s) k ≡ entry_at u k))))
    same [] u = (refl, (refl, (refl, (refl, λ k. refl))))
    same (o ∷ os) u = same os (with_given u o.object.0 s)

    go : (b d : Bool) (x t : ℕ) → (was_given (actions_in A) (S t) (N t x) x v.commit || (b && d))
        ≡ was_given (actions_in A) (S t) (cond b (N t x ++ cond d (v.commit ∷ []) []) (N t x)) x v.commit
    go true true x t = or_right (was_given (actions_in A) (S t) (N t x) x v.commit) true refl ∙ sym (was_given-named (actions_in A) (S t) (N t x) x v.commit)
    go true false x t = or-false (was_given (actions_in A) (S t) (N t x) x v.commit) ∙ ap (λ ks. was_given (actions_in A) (S t) ks x v.commit) (sym (append-nil (N t x)))
    go false d x t = or-false (was_given (actions_in A) (S t) (N t x) x v.commit)
