-- What the status of an ending says.
use Rattle.std.proofs.Common.{◌≡◌, ◌≢◌, ◌↔◌, ◌⊎◌, inl, inr, refl, arith, ℕ, ◌<◌, ◌≤◌, List, length, take, Option, Some, None, ap}
use Rattle.std.specs.Prelude.{string_bytes, IfSome, Ok}
use Rattle.std.proofs.lemmas.Option.{slice_get_within}
use Rattle.sv_bytes.specs.Writing.{GrewOrRose}
use Rattle.sv_link.specs.Ends.{Told}
use Rattle.sv_scenario.specs.declared.scenario.Scenario.{Scenario}
use Rattle.sv_scenario.specs.Scenarios.{scenario_of}
use Rattle.sv_ending.specs.declared.ending.Ending.TheVariants as plain
use Rattle.sv_ending.specs.Calls.{Leaves, Moment}
use Rattle.sv_ending.specs.Reading.{IsRead, IsRefused, IsNoScenario, HoldsScenario, held_by_file, read_limit}
use Rattle.sv_ending.specs.Statuses.{Counts, NoneRose}
use Rattle.sv_ending.proofs.Left.{leaves_is}
use Rattle.sv_ending.proofs.Held.{Faulty, always, both, same_scenario, read_is, holds_none}
use Rattle.sv_ending.proofs.Statuses.{words_is as plain_words_is, file_is as plain_file_is, link_is as plain_link_is, quiet, untold}
use Rattle.sv_join.specs.declared.ending.JoinEnding.{JoinEnding}
use Rattle.sv_join.specs.declared.ending.JoinEnding.TheVariants as endings
use Rattle.sv_join.specs.Joining.{Passed}
use Rattle.sv_join.specs.Words.{Asked, named_by}
use Rattle.sv_join.specs.Statuses.{status_of, Raises, TellsJoinFaults, LacksClient, IsText, EndsEarly, Ends, join_line, TellsStatus}
use Rattle.sv_join.specs.Answers.{Answers, IsTextFor, TellsNumber, TellsPlay}

-- ---- Statuses

words_of : (e : JoinEnding) → status_of e ≡ 2 → e ≡ endings.Plain plain.Words
words_of (endings.Plain e) s = ap endings.Plain ((plain_words_is e (λ x. x, λ x. x)).0 s)
words_of (endings.Reply fault) s = absurd (omega arith)
words_of endings.Closed s = absurd (omega arith)

pub words_is : {A : Type 0} (e : JoinEnding) → ((e ≡ endings.Plain plain.Words) ↔ A) → (status_of e ≡ 2) ↔ A
words_is e w = (λ s. w.0 (words_of e s), λ n. ap status_of (w.1 n))

file_is : (e : JoinEnding) → status_of e ≡ 4 → e ≡ endings.Plain plain.File
file_is (endings.Plain e) s = ap endings.Plain (plain_file_is e s)
file_is (endings.Reply fault) s = absurd (omega arith)
file_is endings.Closed s = absurd (omega arith)

link_is : (e : JoinEnding) → status_of e ≡ 6 → e ≡ endings.Plain plain.Link
link_is (endings.Plain e) s = ap endings.Plain (plain_link_is e s)
link_is (endings.Reply fault) s = absurd (omega arith)
link_is endings.Closed s = absurd (omega arith)

sure_is : (sure : List ℕ → Type 0) (a : Option Asked) (e : JoinEnding) → IfSome a (λ (x : Asked). sure x.file → e ≢ endings.Plain plain.File) → IfSome (named_by a) (λ (file : List ℕ). sure file → status_of e ≢ 4)
sure_is sure None e h = tt
sure_is sure (Some x) e h = λ s f. h s (file_is e f)

certain_is : (sure : ℕ → Type 0) (a : Option Asked) (e : JoinEnding) → IfSome a (λ (x : Asked). sure x.port → e ≢ endings.Plain plain.Link) → IfSome a (λ (x : Asked). sure x.port → status_of e ≢ 6)
certain_is sure None e h = tt
certain_is sure (Some x) e h = λ s l. h s (link_is e l)

-- ---- Faults

module _ (before now : Counts) where
  none_told : (n : ℕ) → (n ≡ 4 → ⊥) → (n ≡ 5 → ⊥) → now ≡ before → TellsJoinFaults n before now
  none_told n file out e = record {
    file = untold n 4 _ _ file (ap (λ (k : Counts). k.files) e);
    out = untold n 5 _ _ out (ap (λ (k : Counts). k.out) e);
    link = λ rose. absurd (quiet _ _ (ap (λ (k : Counts). k.net) e) rose);
  }

  faults_are : (e : JoinEnding) → Raises before now e → TellsJoinFaults (status_of e) before now
  faults_are (endings.Plain plain.Done) h = none_told 0 (λ s. absurd (omega arith)) (λ s. absurd (omega arith)) h
  faults_are (endings.Plain plain.Words) h = none_told 2 (λ s. absurd (omega arith)) (λ s. absurd (omega arith)) h
  faults_are (endings.Plain (plain.Scenario line)) h = none_told 3 (λ s. absurd (omega arith)) (λ s. absurd (omega arith)) h
  faults_are (endings.Plain plain.Start) h = none_told 7 (λ s. absurd (omega arith)) (λ s. absurd (omega arith)) h
  faults_are (endings.Plain plain.Memory) h = none_told 8 (λ s. absurd (omega arith)) (λ s. absurd (omega arith)) h
  faults_are (endings.Plain plain.Range) h = none_told 10 (λ s. absurd (omega arith)) (λ s. absurd (omega arith)) h
  faults_are (endings.Reply fault) h = none_told 11 (λ s. absurd (omega arith)) (λ s. absurd (omega arith)) h
  faults_are endings.Closed h = none_told 12 (λ s. absurd (omega arith)) (λ s. absurd (omega arith)) h
  faults_are (endings.Plain plain.File) h = record {
    file = (λ s. h.0, λ rose. refl);
    out = untold 4 5 _ _ (λ s. absurd (omega arith)) (ap (λ (k : Counts). k.out) h.1);
    link = λ rose. absurd (quiet _ _ (ap (λ (k : Counts). k.net) h.1) rose);
  }
  faults_are (endings.Plain plain.Out) h = record {
    file = untold 5 4 _ _ (λ s. absurd (omega arith)) (ap (λ (k : Counts). k.files) h.1);
    out = (λ s. h.0, λ rose. refl);
    link = λ rose. absurd (quiet _ _ (ap (λ (k : Counts). k.net) h.1) rose);
  }
  faults_are (endings.Plain plain.Link) h = record {
    file = untold 6 4 _ _ (λ s. absurd (omega arith)) (ap (λ (k : Counts). k.files) h);
    out = untold 6 5 _ _ (λ s. absurd (omega arith)) (ap (λ (k : Counts). k.out) h);
    link = λ rose. refl;
  }

-- ---- What was read

module _ (P : Type 0) where
  -- It has the client.
  not_lacking : (k : ℕ) (held : Option (List ℕ)) (scenario : Scenario) → IsRead held scenario → k < length scenario.clients → IfSome held (λ all. LacksClient k (take read_limit all) → P)
  not_lacking k None scenario r low = tt
  not_lacking k (Some all) scenario r low = λ lacks.
      let read : scenario_of r.bytes ≡ Ok lacks.scenario = rw r.front lacks.read in
      let over = lacks.over in
      let counted : length scenario.clients ≡ length lacks.scenario.clients = ap (λ (x : Scenario). length x.clients) (same_scenario scenario lacks.scenario r.bytes r.read read) in
      absurd (omega (arith, over, counted, low))

  -- What was refused is none.
  refused_lacks : (k : ℕ) (held : Option (List ℕ)) (line : List ℕ) → IsRefused held line → IfSome held (λ all. LacksClient k (take read_limit all) → P)
  refused_lacks k None line r = tt
  refused_lacks k (Some all) line r = λ lacks.
      let read : scenario_of r.bytes ≡ Ok lacks.scenario = rw r.front lacks.read in
      absurd (both lacks.scenario r.fault r.bytes read r.faulty)

-- ---- What is left of a join, by its status

module _ {E : Type 0} (told : E → Told) (faults : E → ℕ) (calm : E → Type 0) (door : Passed) (before now : ℕ) (old new : Option (List ℕ)) where
  module _ (asked : Asked) (held : Option (List ℕ)) where
    abbrev Lacking : ℕ → Type 0
    Lacking n = (n ≡ 4) ⊎ (n ≡ 8) ⊎ (n ≡ 10)

    faulty_of : (e : JoinEnding) → Ends told faults calm asked held door before now old new e → IfSome held (λ all. IsNoScenario (take read_limit all) → Faulty (status_of e))
    faulty_of (endings.Plain plain.Done) h = read_is held (Faulty 0) h.told.scenario h.told.read
    faulty_of (endings.Plain plain.Out) h = read_is held (Faulty 5) h.told.scenario h.told.read
    faulty_of (endings.Plain (plain.Scenario line)) h = always (Faulty 3) _ held (inl refl)
    faulty_of (endings.Plain plain.File) h = always (Faulty 4) _ held (inr (inl refl))
    faulty_of (endings.Plain plain.Memory) h = always (Faulty 8) _ held (inr (inr refl))
    faulty_of (endings.Plain plain.Link) h = read_is held (Faulty 6) h.0.scenario h.0.read
    faulty_of (endings.Plain plain.Range) h = read_is held (Faulty 10) h.0.scenario h.0.read
    faulty_of (endings.Reply fault) h = read_is held (Faulty 11) h.0.scenario h.0.read
    faulty_of endings.Closed h = read_is held (Faulty 12) h.0.scenario h.0.read
    faulty_of (endings.Plain plain.Words) h = absurd h.0
    faulty_of (endings.Plain plain.Start) h = absurd h.0

    -- At any status but 0 and 5 nothing is printed.
    silent : (n : ℕ) → (n ≡ 0 → ⊥) → (n ≡ 5 → ⊥) → new ≡ old → IfSome held (λ all. IsNoScenario (take read_limit all) → Faulty n)
        → Leaves (IsText told faults calm asked held door) held old new n
    silent n zero five same faulty = record { printed = λ s. absurd (zero s); part = λ s. absurd (five s); nothing = λ z f. same; faulty = faulty }

    leaves_of : (e : JoinEnding) → Ends told faults calm asked held door before now old new e → Leaves (IsText told faults calm asked held door) held old new (status_of e)
    leaves_of (endings.Plain e) h = leaves_is (IsText told faults calm asked held door) (λ x. EndsEarly told faults calm asked held door before now (endings.Plain x)) old new held e h (faulty_of (endings.Plain e) h)
    leaves_of (endings.Reply fault) h = silent 11 (λ s. omega arith) (λ s. omega arith) h.1 (faulty_of (endings.Reply fault) h)
    leaves_of endings.Closed h = silent 12 (λ s. omega arith) (λ s. omega arith) h.1 (faulty_of endings.Closed h)

    number_of : (e : JoinEnding) → Ends told faults calm asked held door before now old new e → TellsNumber asked held (status_of e)
    number_of (endings.Plain plain.Done) h = let r = h.told in record { outside = λ s. absurd (omega arith); lacking = not_lacking (Lacking 0) asked.number held r.scenario r.read (slice_get_within r.scenario.clients asked.number r.play.play.plan r.play.play.plan_is) }
    number_of (endings.Plain plain.Out) h = let r = h.told in record { outside = λ s. absurd (omega arith); lacking = not_lacking (Lacking 5) asked.number held r.scenario r.read (slice_get_within r.scenario.clients asked.number r.play.play.plan r.play.play.plan_is) }
    number_of (endings.Plain (plain.Scenario line)) h = record { outside = λ s. absurd (omega arith); lacking = refused_lacks (Lacking 3) asked.number held (string_bytes line) h.0 }
    number_of (endings.Plain plain.File) h = record { outside = λ s. absurd (omega arith); lacking = always (Lacking 4) _ held (inl refl) }
    number_of (endings.Plain plain.Memory) h = record { outside = λ s. absurd (omega arith); lacking = always (Lacking 8) _ held (inr (inl refl)) }
    number_of (endings.Plain plain.Link) h = let r = h.0 in record { outside = λ s. absurd (omega arith); lacking = not_lacking (Lacking 6) asked.number held r.scenario r.read r.within }
    number_of (endings.Plain plain.Range) h = record { outside = λ s. h.0; lacking = always (Lacking 10) _ held (inr (inr refl)) }
    number_of (endings.Reply fault) h = let r = h.0 in record { outside = λ s. absurd (omega arith); lacking = not_lacking (Lacking 11) asked.number held r.scenario r.read (slice_get_within r.scenario.clients asked.number r.play.play.plan r.play.play.plan_is) }
    number_of endings.Closed h = let r = h.0 in record { outside = λ s. absurd (omega arith); lacking = not_lacking (Lacking 12) asked.number held r.scenario r.read (slice_get_within r.scenario.clients asked.number r.play.play.plan r.play.play.plan_is) }
    number_of (endings.Plain plain.Words) h = absurd h.0
    number_of (endings.Plain plain.Start) h = absurd h.0

    play_of : (e : JoinEnding) → Ends told faults calm asked held door before now old new e → TellsPlay told faults calm asked held door before now (status_of e)
    play_of (endings.Plain plain.Link) h = record { lost = λ s. h.0; shut_out = λ s. absurd (omega arith) }
    play_of endings.Closed h = record { lost = λ s. absurd (omega arith); shut_out = λ s. h.0 }
    play_of (endings.Plain plain.Done) h = record { lost = λ s. absurd (omega arith); shut_out = λ s. absurd (omega arith) }
    play_of (endings.Plain plain.Out) h = record { lost = λ s. absurd (omega arith); shut_out = λ s. absurd (omega arith) }
    play_of (endings.Plain (plain.Scenario line)) h = record { lost = λ s. absurd (omega arith); shut_out = λ s. absurd (omega arith) }
    play_of (endings.Plain plain.File) h = record { lost = λ s. absurd (omega arith); shut_out = λ s. absurd (omega arith) }
    play_of (endings.Plain plain.Memory) h = record { lost = λ s. absurd (omega arith); shut_out = λ s. absurd (omega arith) }
    play_of (endings.Plain plain.Range) h = record { lost = λ s. absurd (omega arith); shut_out = λ s. absurd (omega arith) }
    play_of (endings.Reply fault) h = record { lost = λ s. absurd (omega arith); shut_out = λ s. absurd (omega arith) }
    play_of (endings.Plain plain.Words) h = absurd h.0
    play_of (endings.Plain plain.Start) h = absurd h.0

    abbrev Range : ℕ → Type 0
    Range n = (n ≡ 0) ⊎ ((2 ≤ n) × (n ≤ 6)) ⊎ (n ≡ 8) ⊎ ((10 ≤ n) × (n ≤ 12))

    range_of : (e : JoinEnding) → Ends told faults calm asked held door before now old new e → Range (status_of e)
    range_of (endings.Plain plain.Done) h = inl refl
    range_of (endings.Plain plain.Words) h = inr (inl (omega arith, omega arith))
    range_of (endings.Plain (plain.Scenario line)) h = inr (inl (omega arith, omega arith))
    range_of (endings.Plain plain.File) h = inr (inl (omega arith, omega arith))
    range_of (endings.Plain plain.Start) h = absurd h.0
    range_of (endings.Plain plain.Link) h = inr (inl (omega arith, omega arith))
    range_of (endings.Plain plain.Out) h = inr (inl (omega arith, omega arith))
    range_of (endings.Plain plain.Memory) h = inr (inr (inl refl))
    range_of (endings.Plain plain.Range) h = inr (inr (inr (omega arith, omega arith)))
    range_of (endings.Reply fault) h = inr (inr (inr (omega arith, omega arith)))
    range_of endings.Closed h = inr (inr (inr (omega arith, omega arith)))

    told_of : (t0 t1 : Option (List ℕ)) (n0 n1 : ℕ) (named : Option (List ℕ)) (e : JoinEnding) → Ends told faults calm asked held door before now old new e → GrewOrRose t0 t1 n0 n1 (join_line e named)
        → TellsStatus told faults calm (Some asked) held named door (status_of e) t0 t1 n0 n1
    told_of t0 t1 n0 n1 named (endings.Plain plain.Done) h t = record { line = join_line (endings.Plain plain.Done) named; faulty = λ s. absurd (omega arith); reply = λ s. absurd (omega arith); plain_is = λ x y. refl; told_is = t }
    told_of t0 t1 n0 n1 named (endings.Plain plain.Words) h t = absurd h.0
    told_of t0 t1 n0 n1 named (endings.Plain (plain.Scenario line)) h t = record { line = string_bytes line; faulty = λ s. h.0; reply = λ s. absurd (omega arith); plain_is = λ x y. absurd (x refl); told_is = t }
    told_of t0 t1 n0 n1 named (endings.Plain plain.File) h t = record { line = join_line (endings.Plain plain.File) named; faulty = λ s. absurd (omega arith); reply = λ s. absurd (omega arith); plain_is = λ x y. refl; told_is = t }
    told_of t0 t1 n0 n1 named (endings.Plain plain.Start) h t = absurd h.0
    told_of t0 t1 n0 n1 named (endings.Plain plain.Link) h t = record { line = join_line (endings.Plain plain.Link) named; faulty = λ s. absurd (omega arith); reply = λ s. absurd (omega arith); plain_is = λ x y. refl; told_is = t }
    told_of t0 t1 n0 n1 named (endings.Plain plain.Out) h t = record { line = join_line (endings.Plain plain.Out) named; faulty = λ s. absurd (omega arith); reply = λ s. absurd (omega arith); plain_is = λ x y. refl; told_is = t }
    told_of t0 t1 n0 n1 named (endings.Plain plain.Memory) h t = record { line = join_line (endings.Plain plain.Memory) named; faulty = λ s. absurd (omega arith); reply = λ s. absurd (omega arith); plain_is = λ x y. refl; told_is = t }
    told_of t0 t1 n0 n1 named (endings.Plain plain.Range) h t = record { line = join_line (endings.Plain plain.Range) named; faulty = λ s. absurd (omega arith); reply = λ s. absurd (omega arith); plain_is = λ x y. refl; told_is = t }
    told_of t0 t1 n0 n1 named (endings.Reply fault) h t =
        record { line = join_line (endings.Reply fault) named; faulty = λ s. absurd (omega arith); reply = λ s. record { fault = fault; refused = h.0; line_is = refl }; plain_is = λ x y. absurd (y refl); told_is = t }
    told_of t0 t1 n0 n1 named endings.Closed h t = record { line = join_line endings.Closed named; faulty = λ s. absurd (omega arith); reply = λ s. absurd (omega arith); plain_is = λ x y. refl; told_is = t }

    abbrev Complete : ℕ → Type 0
    Complete n = (n ≡ 0) ⊎ (n ≡ 6) ⊎ (n ≡ 8) ⊎ ((10 ≤ n) × (n ≤ 12))

    complete_of : (b a : Counts) (e : JoinEnding) → Ends told faults calm asked held door before now old new e → Raises b a e → HoldsScenario held → NoneRose b a → Complete (status_of e)
    complete_of b a (endings.Plain plain.Done) h r can none = inl refl
    complete_of b a (endings.Plain plain.Words) h r can none = absurd h.0
    complete_of b a (endings.Plain (plain.Scenario line)) h r can none = holds_none held (Complete 3) (string_bytes line) h.0 can
    complete_of b a (endings.Plain plain.File) h r can none = absurd (none.0 r.0)
    complete_of b a (endings.Plain plain.Start) h r can none = absurd h.0
    complete_of b a (endings.Plain plain.Link) h r can none = inr (inl refl)
    complete_of b a (endings.Plain plain.Out) h r can none = absurd (none.3 r.0)
    complete_of b a (endings.Plain plain.Memory) h r can none = inr (inr (inl refl))
    complete_of b a (endings.Plain plain.Range) h r can none = inr (inr (inr (omega arith, omega arith)))
    complete_of b a (endings.Reply fault) h r can none = inr (inr (inr (omega arith, omega arith)))
    complete_of b a endings.Closed h r can none = inr (inr (inr (omega arith, omega arith)))

  module _ (contents : List ℕ → Option (List ℕ)) where
    abbrev AllEnds : Option Asked → JoinEnding → Type 0
    AllEnds a e = IfSome a (λ (x : Asked). Ends told faults calm x (contents x.file) door before now old new e)

    left_is : (a : Option Asked) (e : JoinEnding) → ((e ≡ endings.Plain plain.Words) ↔ (a ≡ None)) → AllEnds a e → (a ≡ None → new ≡ old)
        → Leaves (IsTextFor told faults calm a (held_by_file contents (named_by a)) door) (held_by_file contents (named_by a)) old new (status_of e)
    left_is None e w h alone =
        let two : status_of e ≡ 2 = ap status_of (w.1 refl) in
        record { printed = λ s. absurd (omega (arith, two, s)); part = λ s. absurd (omega (arith, two, s)); nothing = λ z f. alone refl; faulty = tt }
    left_is (Some x) e w h alone = leaves_of x (contents x.file) e h

    number_is : (a : Option Asked) (e : JoinEnding) → AllEnds a e → IfSome a (λ (x : Asked). TellsNumber x (contents x.file) (status_of e))
    number_is None e h = tt
    number_is (Some x) e h = number_of x (contents x.file) e h

    play_is : (a : Option Asked) (e : JoinEnding) → AllEnds a e → IfSome a (λ (x : Asked). TellsPlay told faults calm x (contents x.file) door before now (status_of e))
    play_is None e h = tt
    play_is (Some x) e h = play_of x (contents x.file) e h

    range_is : (a : Option Asked) (e : JoinEnding) → ((e ≡ endings.Plain plain.Words) ↔ (a ≡ None)) → AllEnds a e → (status_of e ≡ 0) ⊎ ((2 ≤ status_of e) × (status_of e ≤ 6)) ⊎ (status_of e ≡ 8) ⊎ ((10 ≤ status_of e) × (status_of e ≤ 12))
    range_is None e w h =
        let two : status_of e ≡ 2 = ap status_of (w.1 refl) in
        inr (inl (omega (arith, two), omega (arith, two)))
    range_is (Some x) e w h = range_of x (contents x.file) e h

    told_is : (t0 t1 : Option (List ℕ)) (n0 n1 : ℕ) (a : Option Asked) (e : JoinEnding) → ((e ≡ endings.Plain plain.Words) ↔ (a ≡ None)) → AllEnds a e → GrewOrRose t0 t1 n0 n1 (join_line e (named_by a))
        → TellsStatus told faults calm a (held_by_file contents (named_by a)) (named_by a) door (status_of e) t0 t1 n0 n1
    told_is t0 t1 n0 n1 None e w h t =
        let is = w.1 refl in
        let two : status_of e ≡ 2 = ap status_of is in
        record { line = join_line e None; faulty = λ s. absurd (omega (arith, two, s)); reply = λ s. tt; plain_is = λ x y. rw is refl; told_is = t }
    told_is t0 t1 n0 n1 (Some x) e w h t = told_of x (contents x.file) t0 t1 n0 n1 (Some x.file) e h t

    complete_is : (b c : Counts) (a : Option Asked) (e : JoinEnding) → AllEnds a e → Raises b c e → HoldsScenario (held_by_file contents (named_by a)) → NoneRose b c
        → (status_of e ≡ 0) ⊎ (status_of e ≡ 6) ⊎ (status_of e ≡ 8) ⊎ ((10 ≤ status_of e) × (status_of e ≤ 12))
    complete_is b c None e h r can none = absurd can
    complete_is b c (Some x) e h r can none = complete_of x (contents x.file) b c e h r can none

-- ---- The answer

module _ {E : Type 0} (end_told : E → Told) (end_faults : E → ℕ) (is_calm : E → Type 0) (asked : Option Asked) (contents : List ℕ → Option (List ℕ))
    (is_sure : List ℕ → Type 0) (is_certain : ℕ → Type 0) (door : Passed) (before now : Moment) where
  pub answers_is : (e : JoinEnding) → ((e ≡ endings.Plain plain.Words) ↔ (asked ≡ None))
      → IfSome asked (λ (x : Asked). Ends end_told end_faults is_calm x (contents x.file) door before.faults.net now.faults.net before.out now.out e)
      → (asked ≡ None → now.out ≡ before.out) → Raises before.faults now.faults e
      → IfSome asked (λ (x : Asked). is_sure x.file → e ≢ endings.Plain plain.File) → IfSome asked (λ (x : Asked). is_certain x.port → e ≢ endings.Plain plain.Link)
      → GrewOrRose before.err now.err before.err_faults now.err_faults (join_line e (named_by asked))
      → Answers end_told end_faults is_calm asked contents is_sure is_certain door before now (status_of e)
  answers_is e w h alone r s p t =
      let b = before.faults.net in
      let n = now.faults.net in
      record {
        range = range_is end_told end_faults is_calm door b n before.out now.out contents asked e w h;
        words = words_is e w;
        faults = faults_are before.faults now.faults e r;
        sure = sure_is is_sure asked e s;
        certain = certain_is is_certain asked e p;
        left = left_is end_told end_faults is_calm door b n before.out now.out contents asked e w h alone;
        number = number_is end_told end_faults is_calm door b n before.out now.out contents asked e h;
        play = play_is end_told end_faults is_calm door b n before.out now.out contents asked e h;
        told = told_is end_told end_faults is_calm door b n before.out now.out contents before.err now.err before.err_faults now.err_faults asked e w h t;
        complete = complete_is end_told end_faults is_calm door b n before.out now.out contents before.faults now.faults asked e h r;
      }
