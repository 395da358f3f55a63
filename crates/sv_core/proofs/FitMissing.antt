-- Reported results whose positions are committed, or have a result already, change nothing.
use Rattle.std.proofs.Common.{◌≡◌, ℕ, Bool, true, false, ◌&&◌, cond, nat_lt, inl, inr, Some, List, [], ◌∷◌, filter, is_none, refl, sym, ◌∙◌, ap, subst}
use Rattle.std.proofs.lemmas.Bool.{cases_eq, ltb-true, and_parts}
use Rattle.sv_wire.specs.declared.message.Done1.{Done1}
use Rattle.sv_queue.specs.Queue.{Queued, QueueView, entry_at, with_result}
use Rattle.sv_core.specs.Relays.{is_missing, with_report, with_reports}
use Rattle.sv_core.proofs.FitMarks.{entry-other}

-- What is missing after a report was missing before it.
missing-still : (v : QueueView) (d : Done1) (k : ℕ) → is_missing (with_report v d) k ≡ true → is_missing v k ≡ true
missing-still v d k = go (is_missing v d.pos) refl
  where
    e : Queued
    e = record (entry_at v d.pos) { result = Some d.values }

    other : is_missing v d.pos ≡ true → is_missing (with_result v d.pos d.values) k ≡ true → is_missing v k ≡ true
    other m h = elim (cases_eq k d.pos) [
      | inl is ↦ subst (λ n. is_missing v n ≡ true) (sym is) m
      | inr ne ↦ subst (λ (q : Queued). (nat_lt v.commit k && is_none q.result) ≡ true)
          (entry-other v d.pos k e (ltb-true v.commit d.pos (and_parts (nat_lt v.commit d.pos) (is_none (entry_at v d.pos).result) m).0)
          (ltb-true v.commit k (and_parts (nat_lt v.commit k) (is_none (entry_at (with_result v d.pos d.values) k).result) h).0) ne) h
    ]

    go : (b : Bool) → is_missing v d.pos ≡ b → is_missing (cond b (with_result v d.pos d.values) v) k ≡ true → is_missing v k ≡ true
    go true m h = other m h
    go false m h = h

unchanged : (p : ℕ → Bool) (v : QueueView) (d : Done1) → ((k : ℕ) → is_missing v k ≡ true → p k ≡ true) → p d.pos ≡ false → v ≡ with_report v d
unchanged p v d h out = go (is_missing v d.pos) refl
  where
    go : (b : Bool) → is_missing v d.pos ≡ b → v ≡ cond b (with_result v d.pos d.values) v
    go true m = (let yes = h d.pos m in cc)
    go false m = refl

filtered-first : (p : ℕ → Bool) (v : QueueView) (d : Done1) (ds others : List Done1) → ((k : ℕ) → is_missing v k ≡ true → p k ≡ true) →
    with_reports (with_report v d) others ≡ with_reports (with_report v d) ds → with_reports v others ≡ with_reports v ds →
    (b : Bool) → p d.pos ≡ b → with_reports v (cond b (d ∷ others) others) ≡ with_reports (with_report v d) ds
filtered-first p v d ds others h kept left true e = kept
filtered-first p v d ds others h kept left false e = left ∙ ap (λ (w : QueueView). with_reports w ds) (unchanged p v d h e)

-- A test that each missing position passes leaves out no report that changes anything.
reports-filtered : (p : ℕ → Bool) (v : QueueView) (ds : List Done1) → ((k : ℕ) → is_missing v k ≡ true → p k ≡ true) →
    with_reports v (filter (λ (d : Done1). p d.pos) ds) ≡ with_reports v ds
reports-filtered p v [] h = refl
reports-filtered p v (d ∷ ds) h =
    filtered-first p v d ds (filter (λ (o : Done1). p o.pos) ds) h
    (reports-filtered p (with_report v d) ds (λ k m. h k (missing-still v d k m)))
    (reports-filtered p v ds h)
    (p d.pos) refl

pub reports-missing : (v : QueueView) (ds : List Done1) → with_reports v (filter (λ (d : Done1). is_missing v d.pos) ds) ≡ with_reports v ds
reports-missing v ds = reports-filtered (is_missing v) v ds (λ k m. m)
