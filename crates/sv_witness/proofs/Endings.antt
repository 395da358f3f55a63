-- What the status of an ending says.
use Rattle.std.proofs.Common.{◌≡◌, ◌≢◌, ◌↔◌, ◌⊎◌, inl, inr, refl, arith, ℕ, ◌≤◌, List, length, take, Option, Some, None, sym, ap, subst}
use Rattle.std.specs.Prelude.{string_bytes, option_map, IfSome, Ok, String}
use Rattle.std.specs.declared.alloc.Global.{Global}
use Rattle.sv_bytes.specs.Writing.{Grew, GrewByPart, GrewOrRose}
use Rattle.sv_scenario.specs.declared.scenario.Scenario.{Scenario}
use Rattle.sv_scenario.specs.Scenarios.{scenario_of}
use Rattle.sv_ending.specs.declared.ending.Ending.{Ending}
use Rattle.sv_ending.specs.declared.ending.Ending.TheVariants as endings
use Rattle.sv_ending.specs.Calls.{Leaves, Moment}
use Rattle.sv_ending.specs.Endings.{Ends}
use Rattle.sv_ending.specs.Reading.{IsRead, IsRefused, IsNoScenario, HoldsScenario, held_by_file, read_limit}
use Rattle.sv_ending.specs.Statuses.{Counts, Raises, NoneRose, TellsStatus, ending_line, status_of}
use Rattle.sv_ending.proofs.Held.{Faulty, always, both, same_scenario, read_is, holds_none}
use Rattle.sv_ending.proofs.Statuses.{words_is, file_is, faults_are, told_is as plain_told}
use Rattle.sv_ending.proofs.Left.{printed_by, cut_by, ends_early, leaves_is, refused_is}
use Rattle.sv_witness.specs.declared.words.Witnessing.{Witnessing}
use Rattle.sv_witness.specs.Words.{Asked, asked_by, named_by, words_line}
use Rattle.sv_witness.specs.Statuses.{IsLiarWithin, IsLiarOver, IsText, LacksLiar, EndsEarly}
use Rattle.sv_witness.specs.Answers.{Answers, IsTextFor, TellsNumber}

-- ---- Statuses

sure_is : (sure : List ℕ → Type 0) (a : Option Asked) (e : Ending) → IfSome a (λ (x : Asked). sure x.file → e ≢ endings.File) → IfSome (named_by a) (λ (file : List ℕ). sure file → status_of e ≢ 4)
sure_is sure None e h = tt
sure_is sure (Some x) e h = λ s f. h s (file_is e f)

-- ---- What was read

not_over : (clients : ℕ) (liar : Option ℕ) → IsLiarWithin clients liar → IsLiarOver clients liar → ⊥
not_over clients None within over = over
not_over clients (Some k) within over = omega (arith, within, over)

module _ (P : Type 0) where
  -- It has the liar.
  not_lacking : (asked : Asked) (held : Option (List ℕ)) (scenario : Scenario) → IsRead held scenario → IsLiarWithin (length scenario.clients) asked.liar → IfSome held (λ all. LacksLiar asked (take read_limit all) → P)
  not_lacking asked None scenario r within = tt
  not_lacking asked (Some all) scenario r within = λ lacks.
      let read : scenario_of r.bytes ≡ Ok lacks.scenario = rw r.front lacks.read in
      let its : IsLiarWithin (length lacks.scenario.clients) asked.liar =
      subst (λ (x : Scenario). IsLiarWithin (length x.clients) asked.liar) (same_scenario scenario lacks.scenario r.bytes r.read read) within in
      absurd (not_over (length lacks.scenario.clients) asked.liar its lacks.over)

  -- What was refused is none.
  refused_lacks : (asked : Asked) (held : Option (List ℕ)) (line : List ℕ) → IsRefused held line → IfSome held (λ all. LacksLiar asked (take read_limit all) → P)
  refused_lacks asked None line r = tt
  refused_lacks asked (Some all) line r = λ lacks.
      let read : scenario_of r.bytes ≡ Ok lacks.scenario = rw r.front lacks.read in
      absurd (both lacks.scenario r.fault r.bytes read r.faulty)

-- ---- What is left of a run, by its status

words_alone : (e : Ending) (line : String Global) → e ≡ endings.Words → e ≡ endings.Scenario line → ⊥
words_alone e line is other = cc

module _ (old new : Option (List ℕ)) where
  module _ (asked : Asked) (held : Option (List ℕ)) where
    abbrev Lacking : ℕ → Type 0
    Lacking n = (n ≡ 4) ⊎ (n ≡ 8) ⊎ (n ≡ 10)

    faulty_of : (e : Ending) → Ends (IsText asked held) (EndsEarly asked held) old new e → IfSome held (λ all. IsNoScenario (take read_limit all) → Faulty (status_of e))
    faulty_of endings.Done h = read_is held (Faulty 0) h.told.scenario h.told.read
    faulty_of endings.Out h = read_is held (Faulty 5) h.told.scenario h.told.read
    faulty_of (endings.Scenario line) h = always (Faulty 3) _ held (inl refl)
    faulty_of endings.File h = always (Faulty 4) _ held (inr (inl refl))
    faulty_of endings.Memory h = always (Faulty 8) _ held (inr (inr refl))
    faulty_of endings.Range h = read_is held (Faulty 10) h.0.scenario h.0.read
    faulty_of endings.Words h = absurd h.0
    faulty_of endings.Start h = absurd h.0
    faulty_of endings.Link h = absurd h.0

    number_of : (e : Ending) → Ends (IsText asked held) (EndsEarly asked held) old new e → TellsNumber asked held (status_of e)
    number_of endings.Done h = record { outside = λ s. absurd (omega arith); lacking = not_lacking (Lacking 0) asked held h.told.scenario h.told.read h.told.within }
    number_of endings.Out h = record { outside = λ s. absurd (omega arith); lacking = not_lacking (Lacking 5) asked held h.told.scenario h.told.read h.told.within }
    number_of (endings.Scenario line) h = record { outside = λ s. absurd (omega arith); lacking = refused_lacks (Lacking 3) asked held (string_bytes line) h.0 }
    number_of endings.File h = record { outside = λ s. absurd (omega arith); lacking = always (Lacking 4) _ held (inl refl) }
    number_of endings.Memory h = record { outside = λ s. absurd (omega arith); lacking = always (Lacking 8) _ held (inr (inl refl)) }
    number_of endings.Range h = record { outside = λ s. h.0; lacking = always (Lacking 10) _ held (inr (inr refl)) }
    number_of endings.Words h = absurd h.0
    number_of endings.Start h = absurd h.0
    number_of endings.Link h = absurd h.0

    abbrev Range : ℕ → Type 0
    Range n = (n ≡ 0) ⊎ ((2 ≤ n) × (n ≤ 5)) ⊎ (n ≡ 8) ⊎ (n ≡ 10)

    range_of : (e : Ending) → Ends (IsText asked held) (EndsEarly asked held) old new e → Range (status_of e)
    range_of endings.Done h = inl refl
    range_of (endings.Scenario line) h = inr (inl (omega arith, omega arith))
    range_of endings.File h = inr (inl (omega arith, omega arith))
    range_of endings.Out h = inr (inl (omega arith, omega arith))
    range_of endings.Memory h = inr (inr (inl refl))
    range_of endings.Range h = inr (inr (inr refl))
    range_of endings.Words h = absurd h.0
    range_of endings.Start h = absurd h.0
    range_of endings.Link h = absurd h.0

    complete_of : (b a : Counts) (e : Ending) → Ends (IsText asked held) (EndsEarly asked held) old new e → Raises b a e → HoldsScenario held → NoneRose b a → (status_of e ≡ 0) ⊎ (status_of e ≡ 8) ⊎ (status_of e ≡ 10)
    complete_of b a endings.Done h r can none = inl refl
    complete_of b a (endings.Scenario line) h r can none = holds_none held ((3 ≡ 0) ⊎ (3 ≡ 8) ⊎ (3 ≡ 10)) (string_bytes line) h.0 can
    complete_of b a endings.File h r can none = absurd (none.0 r.0)
    complete_of b a endings.Out h r can none = absurd (none.3 r.0)
    complete_of b a endings.Memory h r can none = inr (inl refl)
    complete_of b a endings.Range h r can none = inr (inr refl)
    complete_of b a endings.Words h r can none = absurd h.0
    complete_of b a endings.Start h r can none = absurd h.0
    complete_of b a endings.Link h r can none = absurd h.0

  module _ (contents : List ℕ → Option (List ℕ)) where
    abbrev AllEnds : Option Asked → Ending → Type 0
    AllEnds a e = IfSome a (λ (x : Asked). Ends (IsText x (contents x.file)) (EndsEarly x (contents x.file)) old new e)

    left_is : (a : Option Asked) (e : Ending) → ((e ≡ endings.Words) ↔ (a ≡ None)) → AllEnds a e → (a ≡ None → new ≡ old)
        → Leaves (IsTextFor a (held_by_file contents (named_by a))) (held_by_file contents (named_by a)) old new (status_of e)
    left_is None e w h alone =
        let two : status_of e ≡ 2 = ap status_of (w.1 refl) in
        record { printed = λ s. absurd (omega (arith, two, s)); part = λ s. absurd (omega (arith, two, s)); nothing = λ z f. alone refl; faulty = tt }
    left_is (Some x) e w h alone = leaves_is (IsText x (contents x.file)) (EndsEarly x (contents x.file)) old new (contents x.file) e h (faulty_of x (contents x.file) e h)

    number_is : (a : Option Asked) (e : Ending) → AllEnds a e → IfSome a (λ (x : Asked). TellsNumber x (contents x.file) (status_of e))
    number_is None e h = tt
    number_is (Some x) e h = number_of x (contents x.file) e h

    range_is : (a : Option Asked) (e : Ending) → ((e ≡ endings.Words) ↔ (a ≡ None)) → AllEnds a e → (status_of e ≡ 0) ⊎ ((2 ≤ status_of e) × (status_of e ≤ 5)) ⊎ (status_of e ≡ 8) ⊎ (status_of e ≡ 10)
    range_is None e w h =
        let two : status_of e ≡ 2 = ap status_of (w.1 refl) in
        inr (inl (omega (arith, two), omega (arith, two)))
    range_is (Some x) e w h = range_of x (contents x.file) e h

    told_is : (words_line : List ℕ) (t0 t1 : Option (List ℕ)) (n0 n1 : ℕ) (a : Option Asked) (e : Ending) → ((e ≡ endings.Words) ↔ (a ≡ None)) → AllEnds a e
        → GrewOrRose t0 t1 n0 n1 (ending_line words_line e (named_by a)) → TellsStatus words_line (status_of e) (held_by_file contents (named_by a)) (named_by a) t0 t1 n0 n1
    told_is words_line t0 t1 n0 n1 None e w h t = plain_told words_line None None t0 t1 n0 n1 e (λ line is. absurd (words_alone e line (w.1 refl) is)) t
    told_is words_line t0 t1 n0 n1 (Some x) e w h t =
        plain_told words_line (contents x.file) (Some x.file) t0 t1 n0 n1 e (λ line is. refused_is (IsText x (contents x.file)) (EndsEarly x (contents x.file)) old new e h line is) t

    complete_is : (b c : Counts) (a : Option Asked) (e : Ending) → AllEnds a e → Raises b c e → HoldsScenario (held_by_file contents (named_by a)) → NoneRose b c
        → (status_of e ≡ 0) ⊎ (status_of e ≡ 8) ⊎ (status_of e ≡ 10)
    complete_is b c None e h r can none = absurd can
    complete_is b c (Some x) e h r can none = complete_of x (contents x.file) b c e h r can none

-- ---- The answer

module _ (asked : Option Asked) (contents : List ℕ → Option (List ℕ)) (is_sure : List ℕ → Type 0) (before now : Moment) where
  pub answers_is : (e : Ending) → ((e ≡ endings.Words) ↔ (asked ≡ None))
      → IfSome asked (λ (x : Asked). Ends (IsText x (contents x.file)) (EndsEarly x (contents x.file)) before.out now.out e)
      → (asked ≡ None → now.out ≡ before.out) → Raises before.faults now.faults e → IfSome asked (λ (x : Asked). is_sure x.file → e ≢ endings.File)
      → GrewOrRose before.err now.err before.err_faults now.err_faults (ending_line words_line e (named_by asked)) → Answers asked contents is_sure before now (status_of e)
  answers_is e w h alone r s t = record {
    range = range_is before.out now.out contents asked e w h;
    words = words_is e w;
    faults = faults_are before.faults now.faults e r;
    sure = sure_is is_sure asked e s;
    left = left_is before.out now.out contents asked e w h alone;
    number = number_is before.out now.out contents asked e h;
    told = told_is before.out now.out contents words_line before.err now.err before.err_faults now.err_faults asked e w h t;
    complete = complete_is before.out now.out contents before.faults now.faults asked e h r;
  }

-- ---- What was printed, by the words

module _ (contents : List ℕ → Option (List ℕ)) (given : Option Witnessing) (asked : Witnessing) (is : given ≡ Some asked) where
  pub early_given : (old : Option (List ℕ)) (e : Ending) → EndsEarly (asked_by asked) (contents asked.file.now) e
      → IfSome (option_map asked_by given) (λ (a : Asked). Ends (IsText a (contents a.file)) (EndsEarly a (contents a.file)) old old e)
  early_given old e h =
      subst (λ (o : Option Witnessing). IfSome (option_map asked_by o) (λ (a : Asked). Ends (IsText a (contents a.file)) (EndsEarly a (contents a.file)) old old e)) (sym is)
      (ends_early (IsText (asked_by asked) (contents asked.file.now)) (EndsEarly (asked_by asked) (contents asked.file.now)) old (λ x. x) (λ x. x) e h)

module _ (contents : List ℕ → Option (List ℕ)) (given : Option Witnessing) (asked : Witnessing) (is : given ≡ Some asked) (text bytes : List ℕ) (same_text : bytes ≡ text)
    (told : IsText (asked_by asked) (contents asked.file.now) text) (old now : Option (List ℕ)) where
  pub printed_given : Grew old now bytes → IfSome (option_map asked_by given) (λ (a : Asked). Ends (IsText a (contents a.file)) (EndsEarly a (contents a.file)) old now endings.Done)
  printed_given grew =
      subst (λ (o : Option Witnessing). IfSome (option_map asked_by o) (λ (a : Asked). Ends (IsText a (contents a.file)) (EndsEarly a (contents a.file)) old now endings.Done)) (sym is)
      (printed_by (IsText (asked_by asked) (contents asked.file.now)) old now text bytes same_text told grew)

  pub cut_given : GrewByPart old now bytes → IfSome (option_map asked_by given) (λ (a : Asked). Ends (IsText a (contents a.file)) (EndsEarly a (contents a.file)) old now endings.Out)
  cut_given part =
      subst (λ (o : Option Witnessing). IfSome (option_map asked_by o) (λ (a : Asked). Ends (IsText a (contents a.file)) (EndsEarly a (contents a.file)) old now endings.Out)) (sym is)
      (cut_by (IsText (asked_by asked) (contents asked.file.now)) old now text bytes same_text told part)
