-- What the status of an ending says.
use Rattle.std.proofs.Common.{◌≡◌, ◌≢◌, ◌↔◌, ◌⊎◌, inl, inr, refl, arith, ℕ, ◌≤◌, List, take, subst, sym, Option, Some, None}
use Rattle.std.specs.Prelude.{string_bytes, IfSome, IsErrAnd, Result, String}
use Rattle.std.specs.declared.alloc.Global.{Global}
use Rattle.sv_ending.specs.declared.ending.Ending.{Ending}
use Rattle.sv_ending.specs.declared.ending.Ending.TheVariants as endings
use Rattle.sv_bytes.specs.Writing.{Grew, GrewByPart, GrewOrRose}
use Rattle.sv_ending.specs.Calls.{Moment}
use Rattle.sv_ending.specs.Endings.{Ends, IsCutShort, IsMade, IsPrinted, OrWords}
use Rattle.sv_ending.specs.Reading.{read_limit, held_by_file, IsRefused, IsNoScenario, HoldsScenario}
use Rattle.sv_ending.specs.Statuses.{status_of, Counts, Raises, NoneRose, ending_line}
use Rattle.sv_ending.proofs.Held.{Faulty, read_is, holds_none, always, unheld, unnamed}
use Rattle.sv_ending.proofs.Left.{early_made, printed_by, cut_by, ends_early, or_words, leaves_is, refused_is as left_refused}
use Rattle.sv_ending.proofs.Statuses.{words_is, sure_is, faults_are, told_is}
use Rattle.sv_looks.specs.Answers.{Answers}
use Rattle.sv_looks.specs.Statuses.{EndsEarly, IsText}
use Rattle.sv_looks.specs.Words.{words_line}

pub early_by : (held : Option (List ℕ)) (r : Result (String Global) Ending) (e : Ending) → IsErrAnd r (λ x. x ≡ e) → EndsEarly held e → IsMade (IsText held) (EndsEarly held) r
early_by held r e by h = early_made (IsText held) (EndsEarly held) r e by h

-- what is left of a call, by what the file holds
abbrev pub Leaves : Option (List ℕ) → Option (List ℕ) → Option (List ℕ) → Ending → Type 0
Leaves held old now e = Ends (IsText held) (OrWords (EndsEarly held)) old now e

-- ---- What was printed, by the name

module _ (contents : List ℕ → Option (List ℕ)) (named : Option (List ℕ)) (name : List ℕ) (is : named ≡ Some name) where
  text_named : (text : List ℕ) → IsText (contents name) text → IsText (held_by_file contents named) text
  text_named text told = subst (λ (o : Option (List ℕ)). IsText (held_by_file contents o) text) (sym is) told

  pub printed_named : (text bytes : List ℕ) (old now : Option (List ℕ)) → bytes ≡ text → IsText (contents name) text → Grew old now bytes → IsPrinted (IsText (held_by_file contents named)) old now
  printed_named text bytes old now same told grew = printed_by (IsText (held_by_file contents named)) old now text bytes same (text_named text told) grew

  pub cut_named : (text bytes : List ℕ) (old now : Option (List ℕ)) → bytes ≡ text → IsText (contents name) text → GrewByPart old now bytes → IsCutShort (IsText (held_by_file contents named)) old now
  cut_named text bytes old now same told part = cut_by (IsText (held_by_file contents named)) old now text bytes same (text_named text told) part

  pub early_named : (old : Option (List ℕ)) (e : Ending) → EndsEarly (contents name) e → Leaves (held_by_file contents named) old old e
  early_named old e h =
      subst (λ (o : Option (List ℕ)). Leaves (held_by_file contents o) old old e) (sym is)
      (ends_early (IsText (contents name)) (OrWords (EndsEarly (contents name))) old (λ x. x) (λ x. x) e (or_words (EndsEarly (contents name)) e h))

-- ---- What is left, by the status

module _ (held old now : Option (List ℕ)) where
  pub range_is : (e : Ending) → Leaves held old now e → (status_of e ≡ 0) ⊎ ((2 ≤ status_of e) × (status_of e ≤ 5)) ⊎ (status_of e ≡ 8)
  range_is endings.Done h = inl refl
  range_is endings.Words h = inr (inl (omega arith, omega arith))
  range_is (endings.Scenario line) h = inr (inl (omega arith, omega arith))
  range_is endings.File h = inr (inl (omega arith, omega arith))
  range_is endings.Start h = absurd h.0
  range_is endings.Link h = absurd h.0
  range_is endings.Out h = inr (inl (omega arith, omega arith))
  range_is endings.Memory h = inr (inr refl)
  range_is endings.Range h = absurd h.0

  pub refused_is : (e : Ending) → Leaves held old now e → (line : String Global) → e ≡ endings.Scenario line → IsRefused held (string_bytes line)
  refused_is e h line is = left_refused (IsText held) (OrWords (EndsEarly held)) old now e h line is

module _ (named : Option (List ℕ)) (contents : List ℕ → Option (List ℕ)) (old now : Option (List ℕ)) where
  abbrev held : Option (List ℕ)
  held = held_by_file contents named

  pub faulty_is : (e : Ending) → ((e ≡ endings.Words) ↔ (named ≡ None)) → Leaves held old now e
      → IfSome held (λ all. IsNoScenario (take read_limit all) → Faulty (status_of e))
  faulty_is endings.Done w h = read_is held _ h.told.scenario h.told.scenario_is
  faulty_is endings.Out w h = read_is held _ h.told.scenario h.told.scenario_is
  faulty_is endings.Start w h = absurd h.0
  faulty_is endings.Link w h = absurd h.0
  faulty_is endings.Range w h = absurd h.0
  faulty_is endings.Words w h = unheld _ contents named (w.0 refl)
  faulty_is (endings.Scenario line) w h = always (Faulty 3) _ held (inl refl)
  faulty_is endings.File w h = always (Faulty 4) _ held (inr (inl refl))
  faulty_is endings.Memory w h = always (Faulty 8) _ held (inr (inr refl))

  pub complete_is : (before after : Counts) (e : Ending) → ((e ≡ endings.Words) ↔ (named ≡ None)) → Leaves held old now e → Raises before after e
      → HoldsScenario held → NoneRose before after → (status_of e ≡ 0) ⊎ (status_of e ≡ 8)
  complete_is before after endings.Done w h r can none = inl refl
  complete_is before after endings.Memory w h r can none = inr refl
  complete_is before after endings.Words w h r can none = absurd (unnamed contents named (w.0 refl) can)
  complete_is before after (endings.Scenario line) w h r can none = holds_none held _ (string_bytes line) h.0 can
  complete_is before after endings.File w h r can none = absurd (none.0 r.0)
  complete_is before after endings.Start w h r can none = absurd h.0
  complete_is before after endings.Link w h r can none = absurd h.0
  complete_is before after endings.Range w h r can none = absurd h.0
  complete_is before after endings.Out w h r can none = absurd (none.3 r.0)

-- ---- The answer

module _ (asked : Option (List ℕ)) (contents : List ℕ → Option (List ℕ)) (is_sure : List ℕ → Type 0) (before now : Moment) where
  pub answers_is : (e : Ending) → ((e ≡ endings.Words) ↔ (asked ≡ None)) → Leaves (held_by_file contents asked) before.out now.out e → Raises before.faults now.faults e
      → IfSome asked (λ file. is_sure file → e ≢ endings.File) → GrewOrRose before.err now.err before.err_faults now.err_faults (ending_line words_line e asked)
      → Answers asked contents is_sure before now (status_of e)
  answers_is e w h r s t =
      let held : Option (List ℕ) = held_by_file contents asked in
      record {
        range = range_is held before.out now.out e h;
        words = words_is e w;
        faults = faults_are before.faults now.faults e r;
        sure = sure_is is_sure asked e s;
        left = leaves_is (IsText held) (OrWords (EndsEarly held)) before.out now.out held e h (faulty_is asked contents before.out now.out e w h);
        told = told_is words_line held asked before.err now.err before.err_faults now.err_faults e (refused_is held before.out now.out e h) t;
        complete = complete_is asked contents before.out now.out before.faults now.faults e w h r;
      }

-- The status says that the words are others only where they are.
pub apart_is : (e : Ending) (P : Type 0) → (e ≡ endings.Words → P) → status_of e ≡ 2 → P
apart_is endings.Words P f s = f refl
apart_is endings.Done P f s = absurd (omega arith)
apart_is (endings.Scenario line) P f s = absurd (omega arith)
apart_is endings.File P f s = absurd (omega arith)
apart_is endings.Start P f s = absurd (omega arith)
apart_is endings.Link P f s = absurd (omega arith)
apart_is endings.Out P f s = absurd (omega arith)
apart_is endings.Memory P f s = absurd (omega arith)
apart_is endings.Range P f s = absurd (omega arith)
