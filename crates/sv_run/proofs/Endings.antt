-- What the status of an ending of `run` says.
use Rattle.std.proofs.Common.{◌≡◌, ◌≢◌, ◌↔◌, ◌⊎◌, ◌≤◌, inl, inr, refl, ℕ, List, take, Option, Some, None, sym, ap, subst}
use Rattle.std.specs.Prelude.{string_bytes, option_map, IfSome, String}
use Rattle.std.specs.declared.alloc.Global.{Global}
use Rattle.sv_bytes.specs.Writing.{Grew, GrewByPart, GrewOrRose}
use Rattle.sv_ending.specs.declared.ending.Ending.{Ending}
use Rattle.sv_ending.specs.declared.ending.Ending.TheVariants as endings
use Rattle.sv_ending.specs.Calls.{Moment}
use Rattle.sv_ending.specs.Endings.{Ends, IsCutShort, IsPrinted, OrWords}
use Rattle.sv_ending.specs.Reading.{read_limit, held_by_file, IsNoScenario, IsRefused}
use Rattle.sv_ending.specs.Statuses.{status_of, Counts, Raises, NoneRose, ending_line}
use Rattle.sv_ending.proofs.Held.{Faulty, read_is, holds_none, always, unheld}
use Rattle.sv_ending.proofs.Statuses.{words_is, sure_is, faults_are, told_is, range_is as plain_range}
use Rattle.sv_ending.proofs.Left.{printed_by, cut_by, ends_early, or_words, unranged, leaves_is, refused_is as left_refused}
use Rattle.sv_link.specs.Nets.{Transcript}
use Rattle.sv_threads.specs.Moved.{Moved}
use Rattle.sv_run.specs.declared.words.RunCommand.{RunCommand}
use Rattle.sv_run.specs.Answers.{Answers}
use Rattle.sv_run.specs.Words.{Asked, Play, Replay, Load, asked_by, file_of, named_by, words_line}
use Rattle.sv_run.specs.Runs.{IsScenarioFor, IsText, IsTextFor}
use Rattle.sv_run.specs.Statuses.{LeavesAlone, IsReady, EndsEarly, CanRun}

-- ---- What was read

scenario_for : (a : Asked) (held : Option (List ℕ)) (r : IsReady (Some a) held) → IsScenarioFor a held r.scenario
scenario_for a held r =
    let e : r.command ≡ a = cc in
    subst (λ (x : Asked). IsScenarioFor x held r.scenario) e r.scenario_is

-- A text tells a run of a scenario.
text_ready : (a : Option Asked) (held : Option (List ℕ)) (m : Moved Transcript) (text : List ℕ) → IsTextFor a held m text → IsReady a held
text_ready None held m text t = absurd t
text_ready (Some x) held m text t = record { command = x; command_is = refl; scenario = t.scenario; scenario_is = t.scenario_is }

module _ (contents : List ℕ → Option (List ℕ)) (P : Type 0) where
  -- Where there is something to run, a file that is named holds a scenario.
  ready_is : (a : Option Asked) → IsReady a (held_by_file contents (named_by a)) → IfSome (held_by_file contents (named_by a)) (λ all. IsNoScenario (take read_limit all) → P)
  ready_is None r = tt
  ready_is (Some (Play file form)) r = read_is (contents file) P r.scenario (scenario_for (Play file form) (contents file) r)
  ready_is (Some (Replay file)) r = read_is (contents file) P r.scenario (scenario_for (Replay file) (contents file) r)
  ready_is (Some (Load size)) r = tt

  refused_is_none : {F N C : Type 0} (a : Option Asked) (line : List ℕ) (f0 f1 : F) (n0 n1 : N) (c0 c1 : C) → LeavesAlone a 3 f0 f1 n0 n1 c0 c1
      → IsRefused (held_by_file contents (named_by a)) line → CanRun a (held_by_file contents (named_by a)) → P
  refused_is_none None line f0 f1 n0 n1 c0 c1 l r can = absurd can
  refused_is_none (Some (Play file form)) line f0 f1 n0 n1 c0 c1 l r can = holds_none (contents file) P line r can
  refused_is_none (Some (Replay file)) line f0 f1 n0 n1 c0 c1 l r can = holds_none (contents file) P line r can
  refused_is_none (Some (Load size)) line f0 f1 n0 n1 c0 c1 l r can = absurd (l.1 refl)

-- Where nothing is asked for, nothing can be run.
unasked : (held : Option (List ℕ)) (a : Option Asked) → a ≡ None → CanRun a held → ⊥
unasked held None n can = can
unasked held (Some a) n can = cc

-- ---- What is left of a call, by the words

-- by what is asked for, and what the file holds
abbrev pub Leaves : Option Asked → Option (List ℕ) → Moved Transcript → Option (List ℕ) → Option (List ℕ) → Ending → Type 0
Leaves a held m old now e = Ends (IsTextFor a held m) (OrWords (EndsEarly a held)) old now e

module _ (contents : List ℕ → Option (List ℕ)) (m : Moved Transcript) (given : Option RunCommand) (command : RunCommand) (is : given ≡ Some command) where
  text_given : (text : List ℕ) → IsText (asked_by command) (held_by_file contents (file_of (asked_by command))) m text
      → IsTextFor (option_map asked_by given) (held_by_file contents (named_by (option_map asked_by given))) m text
  text_given text told = subst (λ (o : Option RunCommand). IsTextFor (option_map asked_by o) (held_by_file contents (named_by (option_map asked_by o))) m text) (sym is) told

  pub printed_given : (text bytes : List ℕ) (old now : Option (List ℕ)) → bytes ≡ text → IsText (asked_by command) (held_by_file contents (file_of (asked_by command))) m text → Grew old now bytes
      → IsPrinted (IsTextFor (option_map asked_by given) (held_by_file contents (named_by (option_map asked_by given))) m) old now
  printed_given text bytes old now same told grew =
      printed_by (IsTextFor (option_map asked_by given) (held_by_file contents (named_by (option_map asked_by given))) m) old now text bytes same (text_given text told) grew

  pub cut_given : (text bytes : List ℕ) (old now : Option (List ℕ)) → bytes ≡ text → IsText (asked_by command) (held_by_file contents (file_of (asked_by command))) m text → GrewByPart old now bytes
      → IsCutShort (IsTextFor (option_map asked_by given) (held_by_file contents (named_by (option_map asked_by given))) m) old now
  cut_given text bytes old now same told part =
      cut_by (IsTextFor (option_map asked_by given) (held_by_file contents (named_by (option_map asked_by given))) m) old now text bytes same (text_given text told) part

  pub early_given : (old : Option (List ℕ)) (e : Ending) → EndsEarly (Some (asked_by command)) (held_by_file contents (file_of (asked_by command))) e
      → Leaves (option_map asked_by given) (held_by_file contents (named_by (option_map asked_by given))) m old old e
  early_given old e h =
      let asked : Option Asked = Some (asked_by command) in
      let held = held_by_file contents (file_of (asked_by command)) in
      subst (λ (o : Option RunCommand). Leaves (option_map asked_by o) (held_by_file contents (named_by (option_map asked_by o))) m old old e) (sym is)
      (ends_early (IsTextFor asked held m) (OrWords (EndsEarly asked held)) old (λ x. x) (λ x. x) e (or_words (EndsEarly asked held) e h))

-- ---- What is left of a call, by its status

module _ (a : Option Asked) (contents : List ℕ → Option (List ℕ)) (m : Moved Transcript) (old now : Option (List ℕ)) where
  abbrev held : Option (List ℕ)
  held = held_by_file contents (named_by a)

  range_is : (e : Ending) → Leaves a held m old now e → (status_of e ≡ 0) ⊎ ((2 ≤ status_of e) × (status_of e ≤ 8))
  range_is e h = plain_range e (unranged (IsTextFor a held m) (OrWords (EndsEarly a held)) old now (λ x. x) e h)

  refused_is : (e : Ending) → Leaves a held m old now e → (line : String Global) → e ≡ endings.Scenario line → IsRefused held (string_bytes line)
  refused_is e h line is = left_refused (IsTextFor a held m) (OrWords (EndsEarly a held)) old now e h line is

  faulty_is : (e : Ending) → ((e ≡ endings.Words) ↔ (a ≡ None)) → Leaves a held m old now e
      → IfSome held (λ all. IsNoScenario (take read_limit all) → Faulty (status_of e))
  faulty_is endings.Done w h = ready_is contents _ a (text_ready a held m h.text h.told)
  faulty_is endings.Out w h = ready_is contents _ a (text_ready a held m h.text h.told)
  faulty_is endings.Start w h = ready_is contents _ a h.0
  faulty_is endings.Link w h = ready_is contents _ a h.0
  faulty_is endings.Words w h = unheld _ contents (named_by a) (ap named_by (w.0 refl))
  faulty_is (endings.Scenario line) w h = always (Faulty 3) _ held (inl refl)
  faulty_is endings.File w h = always (Faulty 4) _ held (inr (inl refl))
  faulty_is endings.Memory w h = always (Faulty 8) _ held (inr (inr refl))
  faulty_is endings.Range w h = absurd h.0

  complete_is : {F N C : Type 0} (f0 f1 : F) (n0 n1 : N) (c0 c1 : C) (before after : Counts) (e : Ending) → ((e ≡ endings.Words) ↔ (a ≡ None))
      → Leaves a held m old now e → LeavesAlone a (status_of e) f0 f1 n0 n1 c0 c1 → Raises before after e → CanRun a held → NoneRose before after → (status_of e ≡ 0) ⊎ (status_of e ≡ 8)
  complete_is f0 f1 n0 n1 c0 c1 before after endings.Done w h l r can none = inl refl
  complete_is f0 f1 n0 n1 c0 c1 before after endings.Memory w h l r can none = inr refl
  complete_is f0 f1 n0 n1 c0 c1 before after endings.Words w h l r can none = absurd (unasked held a (w.0 refl) can)
  complete_is f0 f1 n0 n1 c0 c1 before after (endings.Scenario line) w h l r can none = refused_is_none contents _ a (string_bytes line) f0 f1 n0 n1 c0 c1 l h.0 can
  complete_is f0 f1 n0 n1 c0 c1 before after endings.File w h l r can none = absurd (none.0 r.0)
  complete_is f0 f1 n0 n1 c0 c1 before after endings.Start w h l r can none = absurd (none.1 r.0)
  complete_is f0 f1 n0 n1 c0 c1 before after endings.Link w h l r can none = absurd (none.2 r.0)
  complete_is f0 f1 n0 n1 c0 c1 before after endings.Out w h l r can none = absurd (none.3 r.0)
  complete_is f0 f1 n0 n1 c0 c1 before after endings.Range w h l r can none = absurd h.0

-- ---- The answer

module _ (asked : Option Asked) (contents : List ℕ → Option (List ℕ)) (is_sure : List ℕ → Type 0) (m : Moved Transcript) (before now : Moment) where
  pub answers_is : {F N C : Type 0} (f0 f1 : F) (n0 n1 : N) (c0 c1 : C) (e : Ending) → ((e ≡ endings.Words) ↔ (asked ≡ None))
      → Leaves asked (held_by_file contents (named_by asked)) m before.out now.out e → LeavesAlone asked (status_of e) f0 f1 n0 n1 c0 c1 → Raises before.faults now.faults e
      → IfSome (named_by asked) (λ file. is_sure file → e ≢ endings.File)
      → GrewOrRose before.err now.err before.err_faults now.err_faults (ending_line words_line e (named_by asked)) → Answers asked contents is_sure m before now (status_of e)
  answers_is f0 f1 n0 n1 c0 c1 e w h l r s t =
      let held : Option (List ℕ) = held_by_file contents (named_by asked) in
      record {
        range = range_is asked contents m before.out now.out e h;
        words = words_is e w;
        faults = faults_are before.faults now.faults e r;
        sure = sure_is is_sure (named_by asked) e s;
        left = leaves_is (IsTextFor asked held m) (OrWords (EndsEarly asked held)) before.out now.out held e h (faulty_is asked contents m before.out now.out e w h);
        told = told_is words_line held (named_by asked) before.err now.err before.err_faults now.err_faults e (refused_is asked contents m before.out now.out e h) t;
        complete = complete_is asked contents m before.out now.out f0 f1 n0 n1 c0 c1 before.faults now.faults e w h l r;
      }
