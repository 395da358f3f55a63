-- A queue that keeps reported results.
use Rattle.std.proofs.Common.{◌≡◌, ℕ, suc, ◌<◌, ◌≤◌, Bool, true, false, ◌&&◌, cond, nat_eq, nat_lt, inl, inr, List, [], ◌∷◌, length, get_or, All, Option, ℤ, Some, None, is_some, is_none, refl, sym, ◌∙◌, ap, subst, arith}
use Rattle.std.proofs.lemmas.Bool.{cases_eq, eq-eqb, eqb-true, ne_eqb, cond-true, cond-false, ltb-true, ltb-false}
use Rattle.sv_world.specs.declared.action.Action.{Action}
use Rattle.sv_world.specs.declared.world.World.{World}
use Rattle.sv_world.specs.Sets.{write_set}
use Rattle.sv_wire.specs.declared.message.Done1.{Done1}
use Rattle.sv_queue.specs.Queue.{Queued, QueueView, last_position, entry_at, with_result}
use Rattle.sv_journal.specs.History.{Authored, either, reported}
use Rattle.sv_journal.proofs.Results.{either_none}
use Rattle.sv_core.specs.Fits.{actions_in, IsQueueEntry, QueueFits}
use Rattle.sv_core.specs.Relays.{with_report, with_reports, CanReport}
use Rattle.sv_core.proofs.FitMarks.{entry-same, entry-other, last-with_entry, fits-same, values-same}

pub either-some : {X : Type 0} (o p : Option X) → is_some o ≡ true → either o p ≡ o
either-some (Some x) p h = refl
either-some None p h = cc

-- The results with one that was reported.
abbrev pub result_also : Done1 → (ℕ → Option (List (List ℤ))) → ℕ → Option (List (List ℤ))
result_also d R p = either (R p) (cond (nat_eq d.pos p) (Some d.values) None)

not_none : {X : Type 0} (o : Option X) → is_none o ≡ false → is_some o ≡ true
not_none (Some x) h = refl
not_none None h = cc

is_none_is : {X : Type 0} (o : Option X) → is_none o ≡ true → o ≡ None
is_none_is None h = refl
is_none_is (Some x) h = cc

-- Where the position has a result already, it stays.
kept-result : (R : ℕ → Option (List (List ℤ))) (d : Done1) → (0 < d.pos → is_some (R d.pos) ≡ true) → (p : ℕ) → 0 < p → R p ≡ result_also d R p
kept-result R d known p low = go (nat_eq d.pos p) refl
  where
    go : (b : Bool) → nat_eq d.pos p ≡ b → R p ≡ either (R p) (cond b (Some d.values) None)
    go true e = let same : d.pos ≡ p = eqb-true d.pos p e in
        sym (either-some (R p) (Some d.values) (subst (λ n. is_some (R n) ≡ true) same (known (omega arith))))
    go false e = sym (either_none (R p))

pub fits-report : (w : World) (A : List Authored) (R : ℕ → Option (List (List ℤ))) (S : ℕ → List ℕ) (N : ℕ → ℕ → List ℕ) (v : QueueView) (d : Done1) →
    ((p : ℕ) → 0 < p → p ≤ v.commit → is_some (R p) ≡ true) → d.pos ≤ last_position v → QueueFits w A R S N v →
    QueueFits w A (result_also d R) S N (with_report v d)
fits-report w A R S N v d done high f = go (nat_lt v.commit d.pos) refl (is_none (entry_at v d.pos).result) refl
  where
    same : (0 < d.pos → is_some (R d.pos) ≡ true) → QueueFits w A (result_also d R) S N v
    same known = fits-same w A R (result_also d R) S S N N v (kept-result R d known) (λ s. refl) (λ s x. refl) f

    e : Queued
    e = record (entry_at v d.pos) { result = Some d.values }

    taken : v.commit < d.pos → (entry_at v d.pos).result ≡ None → QueueFits w A (result_also d R) S N (with_result v d.pos d.values)
    taken low none = record {
      shape = f.shape;
      last = last-with_entry v d.pos e ∙ f.last;
      committed = f.committed ∙ values-same w.values (actions_in A) R (result_also d R) v.commit
          (λ p some most. sym (either-some (R p) (cond (nat_eq d.pos p) (Some d.values) None) (done p some most)));
      entries = λ k lower most. elim (cases_eq k d.pos) [
        | inl is ↦ subst (λ n. IsQueueEntry A (result_also d R) S n (entry_at (with_result v d.pos d.values) n)) (sym is)
            (subst (IsQueueEntry A (result_also d R) S d.pos) (sym (entry-same v d.pos e low high)) here)
        | inr ne ↦ subst (IsQueueEntry A (result_also d R) S k) (sym (entry-other v d.pos k e low lower ne)) (other k ne (f.entries k lower most))
      ];
      given = f.given;
    }
      where
        old : IsQueueEntry A R S d.pos (entry_at v d.pos)
        old = f.entries d.pos low (omega (arith, high, f.last))

        here : IsQueueEntry A (result_also d R) S d.pos e
        here = record {
          author = old.author;
          seq = old.seq;
          action = old.action;
          marks = old.marks;
          result = sym (ap (λ o. either o (cond (nat_eq d.pos d.pos) (Some d.values) None)) (sym old.result ∙ none)
              ∙ cond-true (nat_eq d.pos d.pos) (Some d.values) None (eq-eqb d.pos d.pos refl));
        }

        other : (k : ℕ) → (k ≡ d.pos → ⊥) → IsQueueEntry A R S k (entry_at v k) → IsQueueEntry A (result_also d R) S k (entry_at v k)
        other k ne h = record {
          author = h.author;
          seq = h.seq;
          action = h.action;
          marks = h.marks;
          result = h.result ∙ sym (ap (either (R k)) (cond-false (nat_eq d.pos k) (Some d.values) None (ne_eqb d.pos k (λ q. ne (sym q)))) ∙ either_none (R k));
        }

    go : (b : Bool) → nat_lt v.commit d.pos ≡ b → (n : Bool) → is_none (entry_at v d.pos).result ≡ n →
        QueueFits w A (result_also d R) S N (cond (b && n) (with_result v d.pos d.values) v)
    go true e1 true e2 = taken (ltb-true v.commit d.pos e1) (is_none_is (entry_at v d.pos).result e2)
    go true e1 false e2 = same (λ some. subst (λ o. is_some o ≡ true) (f.entries d.pos (ltb-true v.commit d.pos e1) (omega (arith, high, f.last))).result
        (not_none (entry_at v d.pos).result e2))
    go false e1 n e2 = same (λ some. done d.pos some (ltb-false v.commit d.pos e1))

pub commit-report : (v : QueueView) (d : Done1) → (with_report v d).commit ≡ v.commit
commit-report v d = go (nat_lt v.commit d.pos && is_none (entry_at v d.pos).result)
  where
    go : (b : Bool) → (cond b (with_result v d.pos d.values) v).commit ≡ v.commit
    go true = refl
    go false = refl

pub last-report : (v : QueueView) (d : Done1) → last_position (with_report v d) ≡ last_position v
last-report v d = go (nat_lt v.commit d.pos && is_none (entry_at v d.pos).result)
  where
    go : (b : Bool) → last_position (cond b (with_result v d.pos d.values) v) ≡ last_position v
    go true = last-with_entry v d.pos (record (entry_at v d.pos) { result = Some d.values })
    go false = refl

pub shape-report : (v : QueueView) (d : Done1) → (with_report v d).shape ≡ v.shape
shape-report v d = go (nat_lt v.commit d.pos && is_none (entry_at v d.pos).result)
  where
    go : (b : Bool) → (cond b (with_result v d.pos d.values) v).shape ≡ v.shape
    go true = refl
    go false = refl

action-report : (v : QueueView) (d : Done1) (k : ℕ) → d.pos ≤ last_position v → v.commit < k → (entry_at (with_report v d) k).action ≡ (entry_at v k).action
action-report v d k high low = go (nat_lt v.commit d.pos) refl (is_none (entry_at v d.pos).result)
  where
    e : Queued
    e = record (entry_at v d.pos) { result = Some d.values }

    go : (b : Bool) → nat_lt v.commit d.pos ≡ b → (n : Bool) → (entry_at (cond (b && n) (with_result v d.pos d.values) v) k).action ≡ (entry_at v k).action
    go true q true = elim (cases_eq k d.pos) [
      | inl is ↦ ap (λ n. (entry_at (with_result v d.pos d.values) n).action) is
          ∙ ap (λ (o : Queued). o.action) (entry-same v d.pos e (ltb-true v.commit d.pos q) high)
          ∙ ap (λ n. (entry_at v n).action) (sym is)
      | inr ne ↦ ap (λ (o : Queued). o.action) (entry-other v d.pos k e (ltb-true v.commit d.pos q) low ne)
    ]
    go true q false = refl
    go false q n = refl

-- A report that may be made may still be made after another.
pub can_report_still : (v : QueueView) (d o : Done1) → d.pos ≤ last_position v → CanReport v o → CanReport (with_report v d) o
can_report_still v d o high can = record {
  last = omega (arith, can.last, last-report v d);
  count = λ low. (let lower : v.commit < o.pos = omega (arith, low, commit-report v d) in
      can.count lower ∙ ap (λ (a : Action). length (write_set a)) (sym (action-report v d o.pos high lower)));
  attrs = λ low. subst (λ s. All (λ value. length value ≡ s.attrs) o.values) (sym (shape-report v d)) (can.attrs (omega (arith, low, commit-report v d)));
}

also-more : (R : ℕ → Option (List (List ℤ))) (d : Done1) (ds : List Done1) (p : ℕ) →
    either (result_also d R p) (reported p ds) ≡ either (R p) (reported p (d ∷ ds))
also-more R d ds p = go (R p) (nat_eq d.pos p)
  where
    go : (o : Option (List (List ℤ))) (b : Bool) → either (either o (cond b (Some d.values) None)) (reported p ds) ≡ either o (cond b (Some d.values) (reported p ds))
    go (Some x) b = refl
    go None true = refl
    go None false = refl

also-some : (R : ℕ → Option (List (List ℤ))) (d : Done1) (p : ℕ) → is_some (R p) ≡ true → is_some (result_also d R p) ≡ true
also-some R d p h = rw (either-some (R p) (cond (nat_eq d.pos p) (Some d.values) None) h) h

pub fits-reports : (w : World) (A : List Authored) (R : ℕ → Option (List (List ℤ))) (S : ℕ → List ℕ) (N : ℕ → ℕ → List ℕ) (v : QueueView) (ds : List Done1) →
    ((p : ℕ) → 0 < p → p ≤ v.commit → is_some (R p) ≡ true) → All (λ (d : Done1). d.pos ≤ last_position v) ds → QueueFits w A R S N v →
    QueueFits w A (λ p. either (R p) (reported p ds)) S N (with_reports v ds)
fits-reports w A R S N v [] done all f = fits-same w A R (λ p. either (R p) None) S S N N v (λ p low. sym (either_none (R p))) (λ s. refl) (λ s x. refl) f
fits-reports w A R S N v (d ∷ ds) done all f =
    fits-same w A (λ p. either (result_also d R p) (reported p ds)) (λ p. either (R p) (reported p (d ∷ ds))) S S N N (with_reports (with_report v d) ds)
    (λ p low. also-more R d ds p) (λ s. refl) (λ s x. refl)
    (fits-reports w A (result_also d R) S N (with_report v d) ds
    (λ p low most. also-some R d p (done p low (omega (arith, most, commit-report v d))))
    (λ i o low. omega (arith, all (suc i) o (omega arith), last-report v d))
    (fits-report w A R S N v d done (all 0 d (omega arith)) f))

pub commit-reports : (v : QueueView) (ds : List Done1) → (with_reports v ds).commit ≡ v.commit
commit-reports v [] = refl
commit-reports v (d ∷ ds) = commit-reports (with_report v d) ds ∙ commit-report v d

-- Of results that may be kept the first may be, and after that the others.
pub can_report_first : (v : QueueView) (d : Done1) (all rest : List Done1) → all ≡ d ∷ rest → All (CanReport v) all → CanReport v d
can_report_first v d all rest is can = subst (λ (ds : List Done1). All (CanReport v) ds) is can 0 d (omega arith)

pub can_report_rest : (v w : QueueView) (d : Done1) (all rest : List Done1) → all ≡ d ∷ rest → w ≡ with_report v d → All (CanReport v) all → All (CanReport w) rest
can_report_rest v w d all rest is made can i o low =
    let both : All (CanReport v) (d ∷ rest) = subst (λ (ds : List Done1). All (CanReport v) ds) is can in
    let first : CanReport v d = both 0 d (omega arith) in
    subst (λ (u : QueueView). CanReport u (get_or rest i o)) (sym made) (can_report_still v d (get_or rest i o) first.last (both (suc i) o (omega arith)))
