-- Counts of faults, by the ending of a call or of a part of one.
use Rattle.std.proofs.Common.{◌≡◌, ◌≢◌, refl, arith, ℕ, sym, ap, ◌∙◌}
use Rattle.std.specs.Prelude.{IsErrAnd, Result, Ok, Err}
use Rattle.sv_ending.specs.declared.ending.Ending.{Ending}
use Rattle.sv_ending.specs.declared.ending.Ending.TheVariants as endings
use Rattle.sv_ending.specs.Statuses.{Counts, counts, Raises, ending_of, status_of}

pub same_counts : (f0 f1 c0 c1 n0 n1 k : ℕ) → f1 ≡ f0 → c1 ≡ c0 → n1 ≡ n0 → counts f1 c1 n1 k ≡ counts f0 c0 n0 k
same_counts f0 f1 c0 c1 n0 n1 k f c n =
    ap (λ (x : ℕ). counts x c1 n1 k) f ∙ ap (λ (x : ℕ). counts f0 x n1 k) c ∙ ap (λ (x : ℕ). counts f0 c0 x k) n

-- ---- Answers that come by a `?`

err_inside : (T : Type 0) (a b : Ending) → ◌≡◌ {A = Result T Ending} (Err a) (Err b) → a ≡ b
err_inside T a b q = cc

-- The endings may be of a type of the call's own.
module _ {T E : Type 0} (r : Result T E) (e : E) (by : IsErrAnd r (λ x. x ≡ e)) where
  pub came : r ≡ Err e
  came = go r by
    where
      go : (q : Result T E) → IsErrAnd q (λ x. x ≡ e) → q ≡ Err e
      go (Ok t) i = absurd i
      go (Err x) i = ap (λ (y : E). Err y) i

module _ {T : Type 0} (r : Result T Ending) (e : Ending) (by : IsErrAnd r (λ x. x ≡ e)) where
  pub raised_by : (before now : Counts) → Raises before now e → Raises before now (ending_of r)
  raised_by before now h = rw (came r e by) h

  pub unlike : (x : Ending) → (e ≡ x → ⊥) → r ≡ Err x → ⊥
  unlike x n s = n (err_inside T e x (sym (came r e by) ∙ s))

-- ---- Counts that stand still

-- Where the counts of the crew and of the net stand still, no status tells of them.
pub unthreaded : (k : Counts) (f0 f1 : ℕ) (e : Ending) → Raises (record k { files = f0 }) (record k { files = f1 }) e → (status_of e ≢ 6) × (status_of e ≢ 7)
unthreaded k f0 f1 endings.Link h = absurd (omega (arith, h.0))
unthreaded k f0 f1 endings.Start h = absurd (omega (arith, h.0))
unthreaded k f0 f1 endings.Done h = (λ s. absurd (omega arith), λ s. absurd (omega arith))
unthreaded k f0 f1 endings.Words h = (λ s. absurd (omega arith), λ s. absurd (omega arith))
unthreaded k f0 f1 (endings.Scenario line) h = (λ s. absurd (omega arith), λ s. absurd (omega arith))
unthreaded k f0 f1 endings.File h = (λ s. absurd (omega arith), λ s. absurd (omega arith))
unthreaded k f0 f1 endings.Out h = (λ s. absurd (omega arith), λ s. absurd (omega arith))
unthreaded k f0 f1 endings.Memory h = (λ s. absurd (omega arith), λ s. absurd (omega arith))
unthreaded k f0 f1 endings.Range h = (λ s. absurd (omega arith), λ s. absurd (omega arith))

pub link_status : {T : Type 0} (r : Result T Ending) → r ≡ Err endings.Link → status_of (ending_of r) ≡ 6
link_status r e = rw e refl

-- ---- The counts after a text was made, and then written

pub wrote : (f0 f1 c0 c1 n0 n1 k0 k1 : ℕ) → k1 ≡ k0 → counts f1 c1 n1 k0 ≡ counts f0 c0 n0 k0 → counts f1 c1 n1 k1 ≡ counts f0 c0 n0 k0
wrote f0 f1 c0 c1 n0 n1 k0 k1 same e = ap (λ (k : ℕ). counts f1 c1 n1 k) same ∙ e

pub broke : (f0 f1 c0 c1 n0 n1 k0 k1 : ℕ) → counts f1 c1 n1 k0 ≡ counts f0 c0 n0 k0 → counts f1 c1 n1 k1 ≡ counts f0 c0 n0 k1
broke f0 f1 c0 c1 n0 n1 k0 k1 e = ap (λ (k : Counts). record k { out = k1 }) e
