-- What the status of an ending says.
use Rattle.std.proofs.Common.{◌≡◌, ◌≢◌, ◌↔◌, ◌⊎◌, inl, inr, refl, arith, ℕ, ◌<◌, ◌≤◌, List, Option, Some, None, ap}
use Rattle.std.specs.Prelude.{string_bytes, IfSome, String}
use Rattle.std.specs.declared.alloc.Global.{Global}
use Rattle.sv_bytes.specs.Faults.{Rose}
use Rattle.sv_bytes.specs.Writing.{GrewOrRose}
use Rattle.sv_ending.specs.declared.ending.Ending.{Ending}
use Rattle.sv_ending.specs.declared.ending.Ending.TheVariants as endings
use Rattle.sv_ending.specs.Reading.{IsRefused}
use Rattle.sv_ending.specs.Statuses.{status_of, Counts, Raises, TellsFaults, ending_line, TellsStatus}

-- ---- Statuses

-- of a call that asks for nothing by a number
pub range_is : (e : Ending) → (e ≡ endings.Range → ⊥) → (status_of e ≡ 0) ⊎ ((2 ≤ status_of e) × (status_of e ≤ 8))
range_is endings.Done never = inl refl
range_is endings.Words never = inr (omega arith, omega arith)
range_is (endings.Scenario line) never = inr (omega arith, omega arith)
range_is endings.File never = inr (omega arith, omega arith)
range_is endings.Start never = inr (omega arith, omega arith)
range_is endings.Link never = inr (omega arith, omega arith)
range_is endings.Out never = inr (omega arith, omega arith)
range_is endings.Memory never = inr (omega arith, omega arith)
range_is endings.Range never = absurd (never refl)

words_of : (e : Ending) → status_of e ≡ 2 → e ≡ endings.Words
words_of endings.Words s = refl
words_of endings.Done s = absurd (omega arith)
words_of (endings.Scenario line) s = absurd (omega arith)
words_of endings.File s = absurd (omega arith)
words_of endings.Start s = absurd (omega arith)
words_of endings.Link s = absurd (omega arith)
words_of endings.Out s = absurd (omega arith)
words_of endings.Memory s = absurd (omega arith)
words_of endings.Range s = absurd (omega arith)

pub words_is : {A : Type 0} (e : Ending) → ((e ≡ endings.Words) ↔ A) → (status_of e ≡ 2) ↔ A
words_is e w = (λ s. w.0 (words_of e s), λ n. ap status_of (w.1 n))

pub file_is : (e : Ending) → status_of e ≡ 4 → e ≡ endings.File
file_is endings.File s = refl
file_is endings.Done s = absurd (omega arith)
file_is endings.Words s = absurd (omega arith)
file_is (endings.Scenario line) s = absurd (omega arith)
file_is endings.Start s = absurd (omega arith)
file_is endings.Link s = absurd (omega arith)
file_is endings.Out s = absurd (omega arith)
file_is endings.Memory s = absurd (omega arith)
file_is endings.Range s = absurd (omega arith)

pub sure_is : (sure : List ℕ → Type 0) (named : Option (List ℕ)) (e : Ending) → IfSome named (λ name. sure name → e ≢ endings.File) → IfSome named (λ name. sure name → status_of e ≢ 4)
sure_is sure None e h = tt
sure_is sure (Some name) e h = λ s f. h s (file_is e f)

pub link_is : (e : Ending) → status_of e ≡ 6 → e ≡ endings.Link
link_is endings.Link s = refl
link_is endings.Done s = absurd (omega arith)
link_is endings.Words s = absurd (omega arith)
link_is (endings.Scenario line) s = absurd (omega arith)
link_is endings.File s = absurd (omega arith)
link_is endings.Start s = absurd (omega arith)
link_is endings.Out s = absurd (omega arith)
link_is endings.Memory s = absurd (omega arith)
link_is endings.Range s = absurd (omega arith)

-- ---- Faults

pub quiet : (b a : ℕ) → a ≡ b → Rose b a → ⊥
quiet b a e rose = omega (arith, e, rose)

pub untold : (n m b a : ℕ) → (n ≡ m → ⊥) → a ≡ b → (n ≡ m) ↔ Rose b a
untold n m b a other e = (λ s. absurd (other s), λ rose. absurd (quiet b a e rose))

told : {A : Type 0} (n : ℕ) → A → (n ≡ n) ↔ A
told n a = (λ s. a, λ x. refl)

-- The status tells of no fault.
abbrev pub TellsNone : ℕ → Type 0
TellsNone n = (n < 4) ⊎ (7 < n)

apart : (n m : ℕ) → TellsNone n → 4 ≤ m → m ≤ 7 → n ≡ m → ⊥
apart n m (inl l) low high e = omega (arith, l, low, e)
apart n m (inr l) low high e = omega (arith, l, high, e)

module _ (before now : Counts) where
  pub none_told : (n : ℕ) → TellsNone n → now ≡ before → TellsFaults n before now
  none_told n t e = record {
    file = untold n 4 _ _ (apart n 4 t (omega arith) (omega arith)) (ap (λ (k : Counts). k.files) e);
    start = untold n 7 _ _ (apart n 7 t (omega arith) (omega arith)) (ap (λ (k : Counts). k.crew) e);
    link = untold n 6 _ _ (apart n 6 t (omega arith) (omega arith)) (ap (λ (k : Counts). k.net) e);
    out = untold n 5 _ _ (apart n 5 t (omega arith) (omega arith)) (ap (λ (k : Counts). k.out) e);
  }

  pub faults_are : (e : Ending) → Raises before now e → TellsFaults (status_of e) before now
  faults_are endings.Done h = none_told 0 (inl (omega arith)) h
  faults_are endings.Words h = none_told 2 (inl (omega arith)) h
  faults_are (endings.Scenario line) h = none_told 3 (inl (omega arith)) h
  faults_are endings.Memory h = none_told 8 (inr (omega arith)) h
  faults_are endings.Range h = none_told 10 (inr (omega arith)) h
  faults_are endings.File h = record {
    file = told 4 h.0;
    start = untold 4 7 _ _ (λ s. absurd (omega arith)) (ap (λ (k : Counts). k.crew) h.1);
    link = untold 4 6 _ _ (λ s. absurd (omega arith)) (ap (λ (k : Counts). k.net) h.1);
    out = untold 4 5 _ _ (λ s. absurd (omega arith)) (ap (λ (k : Counts). k.out) h.1);
  }
  faults_are endings.Start h = record {
    file = untold 7 4 _ _ (λ s. absurd (omega arith)) (ap (λ (k : Counts). k.files) h.1);
    start = told 7 h.0;
    link = untold 7 6 _ _ (λ s. absurd (omega arith)) (ap (λ (k : Counts). k.net) h.1);
    out = untold 7 5 _ _ (λ s. absurd (omega arith)) (ap (λ (k : Counts). k.out) h.1);
  }
  faults_are endings.Link h = record {
    file = untold 6 4 _ _ (λ s. absurd (omega arith)) (ap (λ (k : Counts). k.files) h.1);
    start = untold 6 7 _ _ (λ s. absurd (omega arith)) (ap (λ (k : Counts). k.crew) h.1);
    link = told 6 h.0;
    out = untold 6 5 _ _ (λ s. absurd (omega arith)) (ap (λ (k : Counts). k.out) h.1);
  }
  faults_are endings.Out h = record {
    file = untold 5 4 _ _ (λ s. absurd (omega arith)) (ap (λ (k : Counts). k.files) h.1);
    start = untold 5 7 _ _ (λ s. absurd (omega arith)) (ap (λ (k : Counts). k.crew) h.1);
    link = untold 5 6 _ _ (λ s. absurd (omega arith)) (ap (λ (k : Counts). k.net) h.1);
    out = told 5 h.0;
  }

-- ---- The line

module _ (words_line : List ℕ) (held named : Option (List ℕ)) (t0 t1 : Option (List ℕ)) (n0 n1 : ℕ) where
  -- An ending tells its status where its line is written. It tells of no scenario only where that was refused.
  pub told_is : (e : Ending) → ((line : String Global) → e ≡ endings.Scenario line → IsRefused held (string_bytes line)) → GrewOrRose t0 t1 n0 n1 (ending_line words_line e named)
      → TellsStatus words_line (status_of e) held named t0 t1 n0 n1
  told_is endings.Done refused t = record { line = ending_line words_line endings.Done named; faulty = λ s. absurd (omega arith); plain = λ s. refl; told = t }
  told_is endings.Words refused t = record { line = ending_line words_line endings.Words named; faulty = λ s. absurd (omega arith); plain = λ s. refl; told = t }
  told_is endings.File refused t = record { line = ending_line words_line endings.File named; faulty = λ s. absurd (omega arith); plain = λ s. refl; told = t }
  told_is endings.Start refused t = record { line = ending_line words_line endings.Start named; faulty = λ s. absurd (omega arith); plain = λ s. refl; told = t }
  told_is endings.Link refused t = record { line = ending_line words_line endings.Link named; faulty = λ s. absurd (omega arith); plain = λ s. refl; told = t }
  told_is endings.Out refused t = record { line = ending_line words_line endings.Out named; faulty = λ s. absurd (omega arith); plain = λ s. refl; told = t }
  told_is endings.Memory refused t = record { line = ending_line words_line endings.Memory named; faulty = λ s. absurd (omega arith); plain = λ s. refl; told = t }
  told_is endings.Range refused t = record { line = ending_line words_line endings.Range named; faulty = λ s. absurd (omega arith); plain = λ s. refl; told = t }
  told_is (endings.Scenario line) refused t = record { line = string_bytes line; faulty = λ s. refused line refl; plain = λ s. absurd (s refl); told = t }
