-- What is left of a call, by how it ended.
use Rattle.std.proofs.Common.{◌≡◌, ◌≢◌, refl, arith, ℕ, List, take, Option, subst}
use Rattle.std.specs.Prelude.{IfSome, IsErrAnd, Result, String}
use Rattle.std.specs.declared.alloc.Global.{Global}
use Rattle.sv_bytes.specs.Writing.{Grew, GrewByPart}
use Rattle.sv_ending.specs.declared.ending.Ending.{Ending}
use Rattle.sv_ending.specs.declared.ending.Ending.TheVariants as endings
use Rattle.sv_ending.specs.Statuses.{status_of}
use Rattle.sv_ending.specs.Calls.{Leaves}
use Rattle.sv_ending.specs.Reading.{read_limit, IsNoScenario}
use Rattle.sv_ending.specs.Endings.{IsMade, IsPrinted, IsCutShort, Ends, OrWords}
use Rattle.sv_ending.proofs.Counts.{came}
use Rattle.sv_ending.proofs.Held.{Faulty}

-- There is no text, for a cause that came by a `?`.
pub early_made : {E : Type 0} (IsText : List ℕ → Type 0) (EndsEarly : E → Type 0) (r : Result (String Global) E) (e : E) → IsErrAnd r (λ x. x ≡ e) → EndsEarly e → IsMade IsText EndsEarly r
early_made IsText EndsEarly r e by h = rw (came r e by) h

module _ (IsText : List ℕ → Type 0) (old now : Option (List ℕ)) (text bytes : List ℕ) (same : bytes ≡ text) (told : IsText text) where
  -- The text was written.
  pub printed_by : Grew old now bytes → IsPrinted IsText old now
  printed_by grew = record { text = text; told = told; grew = subst (λ (xs : List ℕ). Grew old now xs) same grew }

  -- A front part of it was.
  pub cut_by : GrewByPart old now bytes → IsCutShort IsText old now
  cut_by part = record { text = text; told = told; part = subst (λ (xs : List ℕ). GrewByPart old now xs) same part }

module _ (IsText : List ℕ → Type 0) (EndsEarly : Ending → Type 0) (old : Option (List ℕ)) where
  -- There was no text, and nothing was written.
  pub ends_early : (EndsEarly endings.Done → ⊥) → (EndsEarly endings.Out → ⊥) → (e : Ending) → EndsEarly e → Ends IsText EndsEarly old old e
  ends_early d o endings.Done h = absurd (d h)
  ends_early d o endings.Out h = absurd (o h)
  ends_early d o endings.Words h = (h, refl)
  ends_early d o (endings.Scenario line) h = (h, refl)
  ends_early d o endings.File h = (h, refl)
  ends_early d o endings.Start h = (h, refl)
  ends_early d o endings.Link h = (h, refl)
  ends_early d o endings.Memory h = (h, refl)
  ends_early d o endings.Range h = (h, refl)

-- Where a call may be asked for nothing, it was asked for something.
pub or_words : (EndsEarly : Ending → Type 0) (e : Ending) → EndsEarly e → OrWords EndsEarly e
or_words EndsEarly endings.Words h = tt
or_words EndsEarly endings.Done h = h
or_words EndsEarly endings.Out h = h
or_words EndsEarly (endings.Scenario line) h = h
or_words EndsEarly endings.File h = h
or_words EndsEarly endings.Start h = h
or_words EndsEarly endings.Link h = h
or_words EndsEarly endings.Memory h = h
or_words EndsEarly endings.Range h = h

-- ---- By the status

module _ (IsText : List ℕ → Type 0) (EndsEarly : Ending → Type 0) (old now : Option (List ℕ)) where
  pub printed_is : (e : Ending) → Ends IsText EndsEarly old now e → status_of e ≡ 0 → IsPrinted IsText old now
  printed_is endings.Done h s = h
  printed_is endings.Words h s = absurd (omega arith)
  printed_is (endings.Scenario line) h s = absurd (omega arith)
  printed_is endings.File h s = absurd (omega arith)
  printed_is endings.Start h s = absurd (omega arith)
  printed_is endings.Link h s = absurd (omega arith)
  printed_is endings.Out h s = absurd (omega arith)
  printed_is endings.Memory h s = absurd (omega arith)
  printed_is endings.Range h s = absurd (omega arith)

  pub part_is : (e : Ending) → Ends IsText EndsEarly old now e → status_of e ≡ 5 → IsCutShort IsText old now
  part_is endings.Out h s = h
  part_is endings.Done h s = absurd (omega arith)
  part_is endings.Words h s = absurd (omega arith)
  part_is (endings.Scenario line) h s = absurd (omega arith)
  part_is endings.File h s = absurd (omega arith)
  part_is endings.Start h s = absurd (omega arith)
  part_is endings.Link h s = absurd (omega arith)
  part_is endings.Memory h s = absurd (omega arith)
  part_is endings.Range h s = absurd (omega arith)

  pub nothing_is : (e : Ending) → Ends IsText EndsEarly old now e → status_of e ≢ 0 → status_of e ≢ 5 → now ≡ old
  nothing_is endings.Done h z f = absurd (z refl)
  nothing_is endings.Out h z f = absurd (f refl)
  nothing_is endings.Words h z f = h.1
  nothing_is (endings.Scenario line) h z f = h.1
  nothing_is endings.File h z f = h.1
  nothing_is endings.Start h z f = h.1
  nothing_is endings.Link h z f = h.1
  nothing_is endings.Memory h z f = h.1
  nothing_is endings.Range h z f = h.1

  pub leaves_is : (held : Option (List ℕ)) (e : Ending) → Ends IsText EndsEarly old now e → IfSome held (λ all. IsNoScenario (take read_limit all) → Faulty (status_of e))
      → Leaves IsText held old now (status_of e)
  leaves_is held e h faulty = record { printed = printed_is e h; part = part_is e h; nothing = nothing_is e h; faulty = faulty }

  -- An ending that tells of no scenario says what the call says of it.
  pub refused_is : (e : Ending) → Ends IsText EndsEarly old now e → (line : String Global) → e ≡ endings.Scenario line → EndsEarly (endings.Scenario line)
  refused_is e h line is = (subst (λ (x : Ending). Ends IsText EndsEarly old now x) is h).0

  -- A call that asks for nothing by a number does not end so.
  pub unranged : (EndsEarly endings.Range → ⊥) → (e : Ending) → Ends IsText EndsEarly old now e → e ≡ endings.Range → ⊥
  unranged never e h is = never (subst (λ (x : Ending). Ends IsText EndsEarly old now x) is h).0
