-- What the status of an ending says.
use Rattle.std.proofs.Common.{◌≡◌, ◌≢◌, ◌↔◌, ◌⊎◌, inl, inr, refl, arith, ℕ, ◌<◌, ◌≤◌, List, length, take, Option, Some, None, ap}
use Rattle.std.specs.Prelude.{string_bytes, IfSome}
use Rattle.std.proofs.lemmas.List.{length-take-le}
use Rattle.sv_scenario.specs.declared.scenario.Scenario.{Scenario}
use Rattle.law_system.specs.declared.played.Played.{Played}
use Rattle.sv_bytes.specs.Writing.{GrewOrRose}
use Rattle.sv_ending.specs.declared.ending.Ending.TheVariants as plain
use Rattle.sv_ending.specs.Calls.{Leaves, Moment}
use Rattle.sv_ending.specs.Reading.{HoldsScenario, IsNoScenario, held_by_file, read_limit}
use Rattle.sv_ending.specs.Lines.{file_line}
use Rattle.sv_ending.specs.Statuses.{Counts, NoneRose, TellsFaults, status_line}
use Rattle.sv_ending.proofs.Held.{Faulty, always, read_is, holds_none}
use Rattle.sv_ending.proofs.Left.{leaves_is}
use Rattle.sv_ending.proofs.Statuses.{words_is as plain_words_is, file_is as plain_file_is, faults_are as plain_faults, none_told}
use Rattle.sv_audit.specs.declared.ending.AuditEnding.{AuditEnding}
use Rattle.sv_audit.specs.declared.ending.AuditEnding.TheVariants as endings
use Rattle.sv_audit.specs.Judging.{IsReportFront, IsApproved, IsText, report_size, report_limit}
use Rattle.sv_audit.specs.Statuses.{status_of, Raises, Ends, EndsEarly, IsPlaceOutside, IsReportRead, audit_line, wrong_line, TellsStatus}
use Rattle.sv_audit.specs.Answers.{Answers, IsTextFor, Judges}
use Rattle.sv_audit.specs.Words.{Asked, Question, Right, World, Why, scenario_named}

-- ---- Statuses

words_of : (e : AuditEnding) → status_of e ≡ 2 → e ≡ endings.Plain plain.Words
words_of (endings.Plain e) s = ap endings.Plain ((plain_words_is e (λ x. x, λ x. x)).0 s)
words_of endings.Report s = absurd (omega arith)
words_of (endings.Wrong line) s = absurd (omega arith)

pub words_is : {A : Type 0} (e : AuditEnding) → ((e ≡ endings.Plain plain.Words) ↔ A) → (status_of e ≡ 2) ↔ A
words_is e w = (λ s. w.0 (words_of e s), λ n. ap status_of (w.1 n))

unread_is : (e : AuditEnding) → status_of e ≡ 4 → (e ≡ endings.Plain plain.File) ⊎ (e ≡ endings.Report)
unread_is (endings.Plain e) s = inl (ap endings.Plain (plain_file_is e s))
unread_is endings.Report s = inr refl
unread_is (endings.Wrong line) s = absurd (omega arith)

module _ (sure : List ℕ → Type 0) where
  -- Where both files are sure to be read, none is told as unread.
  sure_is : (a : Option Asked) (e : AuditEnding) → IfSome a (λ (x : Asked). sure x.scenario → e ≢ endings.Plain plain.File) →
      IfSome a (λ (x : Asked). sure x.report → e ≢ endings.Report) → IfSome a (λ (x : Asked). sure x.scenario → sure x.report → status_of e ≢ 4)
  sure_is None e s r = tt
  sure_is (Some x) e s r = λ p q four. elim (unread_is e four) [ inl f ↦ s p f | inr g ↦ r q g ]

-- ---- Faults

faults_are : (before now : Counts) (e : AuditEnding) → Raises before now e → TellsFaults (status_of e) before now
faults_are before now (endings.Plain e) h = plain_faults before now e h
faults_are before now endings.Report h = plain_faults before now plain.File h
faults_are before now (endings.Wrong line) h = none_told before now 9 (inr (omega arith)) h

-- ---- What was read

-- A report of which no more was taken than one may have has no more.
few_taken : (all : List ℕ) → length (take report_limit all) ≤ report_size → report_size < length all → ⊥
few_taken all short long =
    let more : report_limit ≤ length all = omega arith in
    let e : length (take report_limit all) ≡ report_limit = length-take-le report_limit all more in
    omega (arith, e, short)

not_long : (P : Type 0) (told : Option (List ℕ)) (bytes : List ℕ) → IsReportFront told bytes → length bytes ≤ report_size → IfSome told (λ all. report_size < length all → P)
not_long P None bytes front short = tt
not_long P (Some all) bytes front short = λ long. absurd (few_taken all (rw front at short) long)

-- ---- What is left, by the status

module _ (held told : Option (List ℕ)) (question : Question) (old new : Option (List ℕ)) where
  abbrev Long : ℕ → Type 0
  Long n = (n ≡ 3) ⊎ (n ≡ 4) ⊎ (n ≡ 8) ⊎ (n ≡ 9)

  -- The scenario was read, and the report approved.
  module _ (n : ℕ) (scenario : Scenario) (played : Played) (approved : IsApproved held told scenario played) where
    judged_faulty : IfSome held (λ all. IsNoScenario (take read_limit all) → Faulty n)
    judged_faulty = read_is held (Faulty n) scenario approved.are_read.scenario_is

    judged_long : IfSome told (λ all. report_size < length all → Long n)
    judged_long = not_long (Long n) told approved.bytes approved.are_read.report_is approved.short

  -- The run has no such place.
  outside_faulty : (p : Question) → IsPlaceOutside held told p → IfSome held (λ all. IsNoScenario (take read_limit all) → Faulty 10)
  outside_faulty Right h = absurd h
  outside_faulty World h = absurd h
  outside_faulty (Why asking) h = judged_faulty 10 h.scenario h.played h.approved

  outside_long : (p : Question) → IsPlaceOutside held told p → IfSome told (λ all. report_size < length all → Long 10)
  outside_long Right h = absurd h
  outside_long World h = absurd h
  outside_long (Why asking) h = judged_long 10 h.scenario h.played h.approved

  faulty_of : (e : AuditEnding) → Ends held told question old new e → IfSome held (λ all. IsNoScenario (take read_limit all) → Faulty (status_of e))
  faulty_of (endings.Plain plain.Done) h = judged_faulty 0 h.told.scenario h.told.played h.told.approved
  faulty_of (endings.Plain plain.Out) h = judged_faulty 5 h.told.scenario h.told.played h.told.approved
  faulty_of (endings.Plain (plain.Scenario line)) h = always (Faulty 3) _ held (inl refl)
  faulty_of (endings.Plain plain.File) h = always (Faulty 4) _ held (inr (inl refl))
  faulty_of endings.Report h = always (Faulty 4) _ held (inr (inl refl))
  faulty_of (endings.Plain plain.Memory) h = always (Faulty 8) _ held (inr (inr refl))
  faulty_of (endings.Wrong line) h = read_is held (Faulty 9) h.0.scenario h.0.are_read.scenario_is
  faulty_of (endings.Plain plain.Range) h = outside_faulty question h.0
  faulty_of (endings.Plain plain.Words) h = absurd h.0
  faulty_of (endings.Plain plain.Start) h = absurd h.0
  faulty_of (endings.Plain plain.Link) h = absurd h.0

  -- At any status but 0 and 5 nothing is printed.
  silent : (n : ℕ) → (n ≡ 0 → ⊥) → (n ≡ 5 → ⊥) → new ≡ old → IfSome held (λ all. IsNoScenario (take read_limit all) → Faulty n) → Leaves (IsText held told question) held old new n
  silent n zero five same faulty = record { printed = λ s. absurd (zero s); part = λ s. absurd (five s); nothing = λ z f. same; faulty = faulty }

  leaves_of : (e : AuditEnding) → Ends held told question old new e → Leaves (IsText held told question) held old new (status_of e)
  leaves_of (endings.Plain e) h = leaves_is (IsText held told question) (λ x. EndsEarly held told question (endings.Plain x)) old new held e h (faulty_of (endings.Plain e) h)
  leaves_of endings.Report h = silent 4 (λ s. omega arith) (λ s. omega arith) h.1 (faulty_of endings.Report h)
  leaves_of (endings.Wrong line) h = silent 9 (λ s. omega arith) (λ s. omega arith) h.1 (faulty_of (endings.Wrong line) h)

  -- At any status but 9 and 10 nothing is said but that the report is not too long.
  judges_by : (n : ℕ) → (n ≡ 9 → ⊥) → (n ≡ 10 → ⊥) → IfSome told (λ all. report_size < length all → Long n) → Judges held told question n
  judges_by n nine ten long = record { wrong = λ s. absurd (nine s); outside = λ s. absurd (ten s); long = long }

  judges_of : (e : AuditEnding) → Ends held told question old new e → Judges held told question (status_of e)
  judges_of (endings.Plain plain.Done) h = judges_by 0 (λ s. omega arith) (λ s. omega arith) (judged_long 0 h.told.scenario h.told.played h.told.approved)
  judges_of (endings.Plain plain.Out) h = judges_by 5 (λ s. omega arith) (λ s. omega arith) (judged_long 5 h.told.scenario h.told.played h.told.approved)
  judges_of (endings.Plain (plain.Scenario line)) h = judges_by 3 (λ s. omega arith) (λ s. omega arith) (always (Long 3) _ told (inl refl))
  judges_of (endings.Plain plain.File) h = judges_by 4 (λ s. omega arith) (λ s. omega arith) (always (Long 4) _ told (inr (inl refl)))
  judges_of endings.Report h = judges_by 4 (λ s. omega arith) (λ s. omega arith) (always (Long 4) _ told (inr (inl refl)))
  judges_of (endings.Plain plain.Memory) h = judges_by 8 (λ s. omega arith) (λ s. omega arith) (always (Long 8) _ told (inr (inr (inl refl))))
  judges_of (endings.Wrong line) h =
      let w = h.0 in
      record { wrong = λ s. record { number = line; wrong = w }; outside = λ s. absurd (omega arith); long = always (Long 9) (λ all. report_size < length all) told (inr (inr (inr refl))) }
  judges_of (endings.Plain plain.Range) h = let out = h.0 in record { wrong = λ s. absurd (omega arith); outside = λ s. out; long = outside_long question out }
  judges_of (endings.Plain plain.Words) h = absurd h.0
  judges_of (endings.Plain plain.Start) h = absurd h.0
  judges_of (endings.Plain plain.Link) h = absurd h.0

  abbrev Range : ℕ → Type 0
  Range n = (n ≡ 0) ⊎ ((2 ≤ n) × (n ≤ 5)) ⊎ ((8 ≤ n) × (n ≤ 10))

  range_of : (e : AuditEnding) → Ends held told question old new e → Range (status_of e)
  range_of (endings.Plain plain.Done) h = inl refl
  range_of (endings.Plain plain.Words) h = absurd h.0
  range_of (endings.Plain (plain.Scenario line)) h = inr (inl (omega arith, omega arith))
  range_of (endings.Plain plain.File) h = inr (inl (omega arith, omega arith))
  range_of (endings.Plain plain.Start) h = absurd h.0
  range_of (endings.Plain plain.Link) h = absurd h.0
  range_of (endings.Plain plain.Out) h = inr (inl (omega arith, omega arith))
  range_of (endings.Plain plain.Memory) h = inr (inr (omega arith, omega arith))
  range_of endings.Report h = inr (inl (omega arith, omega arith))
  range_of (endings.Wrong line) h = inr (inr (omega arith, omega arith))
  range_of (endings.Plain plain.Range) h = inr (inr (omega arith, omega arith))

  abbrev Complete : ℕ → Type 0
  Complete n = (n ≡ 0) ⊎ ((8 ≤ n) × (n ≤ 10))

  complete_of : (b a : Counts) (e : AuditEnding) → Ends held told question old new e → Raises b a e → HoldsScenario held → NoneRose b a → Complete (status_of e)
  complete_of b a (endings.Plain plain.Done) h r can none = inl refl
  complete_of b a (endings.Plain plain.Words) h r can none = absurd h.0
  complete_of b a (endings.Plain (plain.Scenario line)) h r can none = holds_none held (Complete 3) (string_bytes line) h.0 can
  complete_of b a (endings.Plain plain.File) h r can none = absurd (none.0 r.0)
  complete_of b a (endings.Plain plain.Start) h r can none = absurd h.0
  complete_of b a (endings.Plain plain.Link) h r can none = absurd h.0
  complete_of b a (endings.Plain plain.Out) h r can none = absurd (none.3 r.0)
  complete_of b a (endings.Plain plain.Memory) h r can none = inr (omega arith, omega arith)
  complete_of b a endings.Report h r can none = absurd (none.0 r.0)
  complete_of b a (endings.Wrong line) h r can none = inr (omega arith, omega arith)
  complete_of b a (endings.Plain plain.Range) h r can none = inr (omega arith, omega arith)

-- What is left of a call, if something is asked for.
abbrev AllEnds : (List ℕ → Option (List ℕ)) → (old new : Option (List ℕ)) → Option Asked → AuditEnding → Type 0
AllEnds contents old new a e = IfSome a (λ (x : Asked). Ends (contents x.scenario) (contents x.report) x.question old new e)

module _ (contents : List ℕ → Option (List ℕ)) (old new : Option (List ℕ)) where
  left_is : (a : Option Asked) (e : AuditEnding) → ((e ≡ endings.Plain plain.Words) ↔ (a ≡ None)) → AllEnds contents old new a e → (a ≡ None → new ≡ old)
      → Leaves (IsTextFor a contents) (held_by_file contents (scenario_named a)) old new (status_of e)
  left_is None e w h alone =
      let two : status_of e ≡ 2 = ap status_of (w.1 refl) in
      record { printed = λ s. absurd (omega (arith, two, s)); part = λ s. absurd (omega (arith, two, s)); nothing = λ z f. alone refl; faulty = tt }
  left_is (Some x) e w h alone = leaves_of (contents x.scenario) (contents x.report) x.question old new e h

  judged_is : (a : Option Asked) (e : AuditEnding) → AllEnds contents old new a e → IfSome a (λ (x : Asked). Judges (contents x.scenario) (contents x.report) x.question (status_of e))
  judged_is None e h = tt
  judged_is (Some x) e h = judges_of (contents x.scenario) (contents x.report) x.question old new e h

  range_is : (a : Option Asked) (e : AuditEnding) → ((e ≡ endings.Plain plain.Words) ↔ (a ≡ None)) → AllEnds contents old new a e → (status_of e ≡ 0) ⊎ ((2 ≤ status_of e) × (status_of e ≤ 5)) ⊎ ((8 ≤ status_of e) × (status_of e ≤ 10))
  range_is None e w h =
      let two : status_of e ≡ 2 = ap status_of (w.1 refl) in
      inr (inl (omega (arith, two), omega (arith, two)))
  range_is (Some x) e w h = range_of (contents x.scenario) (contents x.report) x.question old new e h

  complete_is : (b c : Counts) (a : Option Asked) (e : AuditEnding) → AllEnds contents old new a e → Raises b c e → HoldsScenario (held_by_file contents (scenario_named a)) → NoneRose b c
      → (status_of e ≡ 0) ⊎ ((8 ≤ status_of e) × (status_of e ≤ 10))
  complete_is b c None e h r can none = absurd can
  complete_is b c (Some x) e h r can none = complete_of (contents x.scenario) (contents x.report) x.question old new b c e h r can none

-- ---- The line

module _ (sure : List ℕ → Type 0) (contents : List ℕ → Option (List ℕ)) (words_line : List ℕ) (old new t0 t1 : Option (List ℕ)) (n0 n1 : ℕ) where
  -- An ending whose line is that of its status.
  told_plain : (a : Option Asked) (e : AuditEnding) → (status_of e ≡ 3 → ⊥) → (status_of e ≡ 4 → ⊥) → (status_of e ≡ 9 → ⊥) →
      audit_line words_line a e ≡ status_line words_line (status_of e) (scenario_named a) → GrewOrRose t0 t1 n0 n1 (audit_line words_line a e) → TellsStatus sure contents words_line a (status_of e) t0 t1 n0 n1
  told_plain a e x y z is t = record {
    line = audit_line words_line a e;
    faulty = λ s. absurd (x s);
    unread = λ s. absurd (y s);
    wrong = λ s. absurd (z s);
    plain_is = λ p q r. is;
    told_is = t;
  }

  module _ (x : Asked) where
    told_of : (e : AuditEnding) → Ends (contents x.scenario) (contents x.report) x.question old new e → (sure x.scenario → e ≢ endings.Plain plain.File) →
        (sure x.report → e ≢ endings.Report) → GrewOrRose t0 t1 n0 n1 (audit_line words_line (Some x) e) → TellsStatus sure contents words_line (Some x) (status_of e) t0 t1 n0 n1
    told_of (endings.Plain plain.Done) h p q t = told_plain (Some x) (endings.Plain plain.Done) (λ s. omega arith) (λ s. omega arith) (λ s. omega arith) refl t
    told_of (endings.Plain plain.Out) h p q t = told_plain (Some x) (endings.Plain plain.Out) (λ s. omega arith) (λ s. omega arith) (λ s. omega arith) refl t
    told_of (endings.Plain plain.Memory) h p q t = told_plain (Some x) (endings.Plain plain.Memory) (λ s. omega arith) (λ s. omega arith) (λ s. omega arith) refl t
    told_of (endings.Plain plain.Range) h p q t = told_plain (Some x) (endings.Plain plain.Range) (λ s. omega arith) (λ s. omega arith) (λ s. omega arith) refl t
    told_of (endings.Plain (plain.Scenario line)) h p q t = record {
      line = string_bytes line;
      faulty = λ s. h.0;
      unread = λ s. absurd (omega arith);
      wrong = λ s. absurd (omega arith);
      plain_is = λ a b c. absurd (a refl);
      told_is = t;
    }
    told_of (endings.Plain plain.File) h p q t = record {
      line = file_line x.scenario;
      faulty = λ s. absurd (omega arith);
      unread = λ s. record { one_of = inl refl; unsure_scenario = λ r. absurd (p r refl); unsure_report = λ r. refl };
      wrong = λ s. absurd (omega arith);
      plain_is = λ a b c. absurd (b refl);
      told_is = t;
    }
    told_of endings.Report h p q t = record {
      line = file_line x.report;
      faulty = λ s. absurd (omega arith);
      unread = λ s. record { one_of = inr refl; unsure_scenario = λ r. refl; unsure_report = λ r. absurd (q r refl) };
      wrong = λ s. absurd (omega arith);
      plain_is = λ a b c. absurd (b refl);
      told_is = t;
    }
    told_of (endings.Wrong line) h p q t = record {
      line = wrong_line line;
      faulty = λ s. absurd (omega arith);
      unread = λ s. absurd (omega arith);
      wrong = λ s. record { number = line; wrong = h.0; line_is = refl };
      plain_is = λ a b c. absurd (c refl);
      told_is = t;
    }
    told_of (endings.Plain plain.Words) h p q t = absurd h.0
    told_of (endings.Plain plain.Start) h p q t = absurd h.0
    told_of (endings.Plain plain.Link) h p q t = absurd h.0

  told_is : (a : Option Asked) (e : AuditEnding) → ((e ≡ endings.Plain plain.Words) ↔ (a ≡ None)) → AllEnds contents old new a e → IfSome a (λ (x : Asked). sure x.scenario → e ≢ endings.Plain plain.File) →
      IfSome a (λ (x : Asked). sure x.report → e ≢ endings.Report) → GrewOrRose t0 t1 n0 n1 (audit_line words_line a e) → TellsStatus sure contents words_line a (status_of e) t0 t1 n0 n1
  told_is None e w h p q t = no_words e (w.1 refl) t
    where
      no_words : (e : AuditEnding) → e ≡ endings.Plain plain.Words → GrewOrRose t0 t1 n0 n1 (audit_line words_line None e) → TellsStatus sure contents words_line None (status_of e) t0 t1 n0 n1
      no_words e is t =
          let two : status_of e ≡ 2 = ap status_of is in
          told_plain None e (λ s. omega (arith, two, s)) (λ s. omega (arith, two, s)) (λ s. omega (arith, two, s)) (rw is refl) t
  told_is (Some x) e w h p q t = told_of x e h p q t

-- ---- The answer

module _ (asked : Option Asked) (contents : List ℕ → Option (List ℕ)) (is_sure : List ℕ → Type 0) (words_line : List ℕ) (rest : Option (List ℕ)) (before now : Moment) where
  pub answers_is : (e : AuditEnding) → ((e ≡ endings.Plain plain.Words) ↔ (asked ≡ None)) → AllEnds contents before.out now.out asked e
      → (asked ≡ None → now.out ≡ before.out) → Raises before.faults now.faults e → IfSome asked (λ (x : Asked). is_sure x.scenario → e ≢ endings.Plain plain.File)
      → IfSome asked (λ (x : Asked). is_sure x.report → e ≢ endings.Report)
      → (status_of e ≢ 2 → status_of e ≢ 4 → status_of e ≢ 8 → IfSome asked (λ (x : Asked). IsReportRead (contents x.report) rest))
      → GrewOrRose before.err now.err before.err_faults now.err_faults (audit_line words_line asked e) → Answers asked contents is_sure words_line rest before now (status_of e)
  answers_is e w h alone r p q read t = record {
    range = range_is contents before.out now.out asked e w h;
    words = words_is e w;
    faults = faults_are before.faults now.faults e r;
    sure = sure_is is_sure asked e p q;
    read = read;
    left = left_is contents before.out now.out asked e w h alone;
    judged = judged_is contents before.out now.out asked e h;
    told = told_is is_sure contents words_line before.out now.out before.err now.err before.err_faults now.err_faults asked e w h p q t;
    complete = complete_is contents before.out now.out before.faults now.faults asked e h r;
  }
