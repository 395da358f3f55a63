-- What the status of an ending says.
use Rattle.std.proofs.Common.{◌≡◌, ◌≢◌, ◌↔◌, ◌⊎◌, inl, inr, refl, arith, ℕ, ◌≤◌, List, [], ◌∷◌, ◌++◌, length, length-append, take, append-nil, subst, sym, ap, ◌∙◌, Option, Some, None}
use Rattle.std.specs.Prelude.{string_bytes, option_map, IfSome, IsErrAnd, OnErr, Result, Ok, Err, String}
use Rattle.std.specs.declared.alloc.Global.{Global}
use Rattle.std.proofs.lemmas.Option.{none-some}
use Rattle.sv_bytes.specs.Writing.{Grew, GrewByPart, GrewOrRose}
use Rattle.sv_ending.specs.declared.ending.Ending.{Ending}
use Rattle.sv_ending.specs.declared.ending.Ending.TheVariants as endings
use Rattle.sv_ending.specs.Calls.{Moment}
use Rattle.sv_ending.specs.Endings.{Ends, IsCutShort, IsPrinted, OrWords}
use Rattle.sv_ending.specs.Reading.{read_limit, held_by_file, IsRefused, IsNoScenario, HoldsScenario}
use Rattle.sv_ending.specs.Statuses.{status_of, Counts, Raises, NoneRose, ending_line}
use Rattle.sv_ending.proofs.Statuses.{link_is, words_is, sure_is, faults_are, told_is, range_is as plain_range}
use Rattle.sv_ending.proofs.Held.{Faulty, read_is, holds_none, always, unheld, unnamed}
use Rattle.sv_ending.proofs.Left.{printed_by, cut_by, ends_early, or_words, unranged, leaves_is, refused_is as left_refused}
use Rattle.sv_sequencer.specs.Step.{SequencerView}
use Rattle.sv_threads.specs.declared.outcome.PlayFault.{PlayFault}
use Rattle.sv_threads.specs.declared.outcome.PlayFault.TheVariants as faults
use Rattle.sv_threads.specs.Moved.{Moved}
use Rattle.sv_threads.specs.Endings.{ending_of_fault}
use Rattle.sv_door.specs.Doors.{Passage}
use Rattle.sv_serve.specs.declared.words.ServeCommand.{ServeCommand}
use Rattle.sv_serve.specs.Answers.{Answers}
use Rattle.sv_serve.specs.Words.{Asked, asked_by, named_by, words_line}
use Rattle.sv_serve.specs.Giving.{Doorway, GaveAllBack, GaveBack, GaveUnused, GivesBack}
use Rattle.sv_serve.specs.Statuses.{IsText, EndsEarly, LeavesAlone, GivesBackBut}

-- ---- The ends

pub on_err : {A B : Type 0} (r : Result A B) (P : Type 0) → P → OnErr r P
on_err (Ok a) P p = tt
on_err (Err e) P p = p

pub none_made : (d : Doorway) → GaveAllBack d d
none_made d = record { passages = []; given = sym (append-nil d.given); numbers = λ k x e. absurd (none-some x e); made = omega arith; owed = refl }

pub none_used : (d : Doorway) → GaveUnused d d
unfolding none_made
none_used d = record { back = none_made d; unused = λ k x e. absurd (none-some x e) }

-- where nothing was sent over them nor received
pub unused_back : {old new : Doorway} (ran_before ran_now : List ℕ) → GaveUnused old new → GaveBack ran_before ran_now old new
unused_back ran_before ran_now unused = record { back = unused.back; unserved = λ same. unused }

-- where jobs ran
pub used_back : {old new : Doorway} (n : ℕ) (ran_before ran_now : List ℕ) → GaveAllBack old new → ran_now ≡ ran_before ++ n ∷ [] → GaveBack ran_before ran_now old new
used_back n ran_before ran_now back ran =
    record {
      back = back;
      unserved = λ same.
          let more = ap (λ (l : List ℕ). length l) (sym ran ∙ same) in
          let size = length-append ran_before (n ∷ []) in
          absurd (omega (arith, more, size));
    }

-- where no session was served for a fault other than that a thread could not be started
pub unserved_fault : (A : Type 0) (fault : PlayFault) (ran : List ℕ) (old new : Doorway) → (fault ≡ faults.Start → ⊥) → GaveUnused old new → GivesBack {A = A} ran ran old new (Err fault)
unserved_fault A faults.Start ran old new other unused = absurd (other refl)
unserved_fault A faults.Link ran old new other unused = (unused_back ran ran unused, refl)
unserved_fault A faults.Memory ran old new other unused = unused_back ran ran unused

pub untouched_back : (status : ℕ) (ran : List ℕ) (old new : Doorway) → new ≡ old → GivesBackBut status ran ran old new
untouched_back status ran old new same = inl (rw same (unused_back ran ran (none_used old)), λ six. refl)

pub memory_back : (A : Type 0) (r : Result A PlayFault) (ran : List ℕ) (d : Doorway) → IsErrAnd r (λ f. f ≡ faults.Memory) → GivesBack {A = A} ran ran d d r
memory_back A (Ok a) ran d e = absurd e
memory_back A (Err fault) ran d e = subst (λ f. GivesBack {A = A} ran ran d d (Err f)) (sym e) (unused_back ran ran (none_used d))

pub fault_back : (fault : PlayFault) (ran_before ran_now : List ℕ) (old new : Doorway) → GivesBack {A = SequencerView} ran_before ran_now old new (Err fault) →
    GivesBackBut (status_of (ending_of_fault fault)) ran_before ran_now old new
fault_back faults.Start ran_before ran_now old new h = inr (refl, h)
fault_back faults.Link ran_before ran_now old new h = inl (h.0, λ six. h.1)
fault_back faults.Memory ran_before ran_now old new h = inl (h, λ six. absurd (omega (arith, six)))

-- at 0 and 8
pub done_back : (ran_before ran_now : List ℕ) (old new : Doorway) → GaveBack ran_before ran_now old new → GivesBackBut 0 ran_before ran_now old new
done_back ran_before ran_now old new h = inl (h, λ six. absurd (omega (arith, six)))

pub unmade_back : (ran_before ran_now : List ℕ) (old new : Doorway) → GaveBack ran_before ran_now old new → GivesBackBut 8 ran_before ran_now old new
unmade_back ran_before ran_now old new h = inl (h, λ six. absurd (omega (arith, six)))

-- where the text was made and could not be printed
pub unprinted_back : (ran_before ran_now : List ℕ) (old new : Doorway) → GivesBackBut 0 ran_before ran_now old new → GivesBackBut 5 ran_before ran_now old new
unprinted_back ran_before ran_now old new (inl h) = inl (h.0, λ six. absurd (omega (arith, six)))
unprinted_back ran_before ran_now old new (inr h) = let seven = h.0 in absurd (omega (arith, seven))

-- ---- What a status excludes

early_status : (fault : PlayFault) → status_of (ending_of_fault fault) ≤ 4 → ⊥
early_status faults.Start low = omega (arith, low)
early_status faults.Link low = omega (arith, low)
early_status faults.Memory low = omega (arith, low)

pub touched : {F D C : Type 0} (status : ℕ) (f0 f1 : F) (d0 d1 : D) (c0 c1 : C) → (2 ≤ status → status ≤ 4 → ⊥) → LeavesAlone status f0 f1 d0 d1 c0 c1
touched status f0 f1 d0 d1 c0 c1 away =
    record { files = λ s. absurd (away (omega (arith, s)) (omega (arith, s))); door = λ s. absurd (away s.0 s.1); crew = λ s. absurd (away s.0 s.1) }

pub fault_touched : {F D C : Type 0} (fault : PlayFault) (f0 f1 : F) (d0 d1 : D) (c0 c1 : C) → LeavesAlone (status_of (ending_of_fault fault)) f0 f1 d0 d1 c0 c1
fault_touched fault f0 f1 d0 d1 c0 c1 = touched (status_of (ending_of_fault fault)) f0 f1 d0 d1 c0 c1 (λ l h. early_status fault h)

certain_is : (sure : ℕ → Type 0) (a : Option Asked) (e : Ending) → IfSome a (λ x. sure x.port → e ≢ endings.Link) → IfSome a (λ x. sure x.port → status_of e ≢ 6)
certain_is sure None e h = tt
certain_is sure (Some x) e h = λ s six. h s (link_is e six)

-- ---- What is left of a call, by the words

-- by what the file holds
abbrev pub Leaves : Option (List ℕ) → Moved Passage → Option (List ℕ) → Option (List ℕ) → Ending → Type 0
Leaves held m old now e = Ends (IsText held m) (OrWords (EndsEarly held)) old now e

module _ (contents : List ℕ → Option (List ℕ)) (m : Moved Passage) (given : Option ServeCommand) (command : ServeCommand) (is : given ≡ Some command) where
  text_given : (text : List ℕ) → IsText (contents command.file.now) m text → IsText (held_by_file contents (named_by (option_map asked_by given))) m text
  text_given text told = subst (λ (o : Option ServeCommand). IsText (held_by_file contents (named_by (option_map asked_by o))) m text) (sym is) told

  pub printed_given : (text bytes : List ℕ) (old now : Option (List ℕ)) → bytes ≡ text → IsText (contents command.file.now) m text → Grew old now bytes
      → IsPrinted (IsText (held_by_file contents (named_by (option_map asked_by given))) m) old now
  printed_given text bytes old now same told grew = printed_by (IsText (held_by_file contents (named_by (option_map asked_by given))) m) old now text bytes same (text_given text told) grew

  pub cut_given : (text bytes : List ℕ) (old now : Option (List ℕ)) → bytes ≡ text → IsText (contents command.file.now) m text → GrewByPart old now bytes
      → IsCutShort (IsText (held_by_file contents (named_by (option_map asked_by given))) m) old now
  cut_given text bytes old now same told part = cut_by (IsText (held_by_file contents (named_by (option_map asked_by given))) m) old now text bytes same (text_given text told) part

  pub early_given : (old : Option (List ℕ)) (e : Ending) → EndsEarly (contents command.file.now) e → Leaves (held_by_file contents (named_by (option_map asked_by given))) m old old e
  early_given old e h =
      subst (λ (o : Option ServeCommand). Leaves (held_by_file contents (named_by (option_map asked_by o))) m old old e) (sym is)
      (ends_early (IsText (contents command.file.now) m) (OrWords (EndsEarly (contents command.file.now))) old (λ x. x) (λ x. x) e (or_words (EndsEarly (contents command.file.now)) e h))

-- ---- What is left of a call, by its status

module _ (held : Option (List ℕ)) (m : Moved Passage) (old now : Option (List ℕ)) where
  range_is : (e : Ending) → Leaves held m old now e → (status_of e ≡ 0) ⊎ ((2 ≤ status_of e) × (status_of e ≤ 8))
  range_is e h = plain_range e (unranged (IsText held m) (OrWords (EndsEarly held)) old now (λ x. x) e h)

  refused_is : (e : Ending) → Leaves held m old now e → (line : String Global) → e ≡ endings.Scenario line → IsRefused held (string_bytes line)
  refused_is e h line is = left_refused (IsText held m) (OrWords (EndsEarly held)) old now e h line is

module _ (a : Option Asked) (contents : List ℕ → Option (List ℕ)) (m : Moved Passage) (old now : Option (List ℕ)) where
  abbrev held : Option (List ℕ)
  held = held_by_file contents (named_by a)

  faulty_is : (e : Ending) → ((e ≡ endings.Words) ↔ (a ≡ None)) → Leaves held m old now e
      → IfSome held (λ all. IsNoScenario (take read_limit all) → Faulty (status_of e))
  faulty_is endings.Done w h = read_is held _ h.told.scenario h.told.scenario_is
  faulty_is endings.Out w h = read_is held _ h.told.scenario h.told.scenario_is
  faulty_is endings.Start w h = read_is held _ h.0.scenario h.0.scenario_is
  faulty_is endings.Link w h = read_is held _ h.0.scenario h.0.scenario_is
  faulty_is endings.Words w h = unheld _ contents (named_by a) (ap named_by (w.0 refl))
  faulty_is (endings.Scenario line) w h = always (Faulty 3) _ held (inl refl)
  faulty_is endings.File w h = always (Faulty 4) _ held (inr (inl refl))
  faulty_is endings.Memory w h = always (Faulty 8) _ held (inr (inr refl))
  faulty_is endings.Range w h = absurd h.0

  complete_is : (before after : Counts) (e : Ending) → ((e ≡ endings.Words) ↔ (a ≡ None)) → Leaves held m old now e → Raises before after e
      → HoldsScenario held → NoneRose before after → (status_of e ≡ 0) ⊎ (status_of e ≡ 8)
  complete_is before after endings.Done w h r can none = inl refl
  complete_is before after endings.Memory w h r can none = inr refl
  complete_is before after endings.Words w h r can none = absurd (unnamed contents (named_by a) (ap named_by (w.0 refl)) can)
  complete_is before after (endings.Scenario line) w h r can none = holds_none held _ (string_bytes line) h.0 can
  complete_is before after endings.File w h r can none = absurd (none.0 r.0)
  complete_is before after endings.Start w h r can none = absurd (none.1 r.0)
  complete_is before after endings.Link w h r can none = absurd (none.2 r.0)
  complete_is before after endings.Out w h r can none = absurd (none.3 r.0)
  complete_is before after endings.Range w h r can none = absurd h.0

-- ---- The answer

module _ (asked : Option Asked) (contents : List ℕ → Option (List ℕ)) (is_sure : List ℕ → Type 0) (is_certain : ℕ → Type 0) (m : Moved Passage) (before now : Moment) where
  pub answers_is : (e : Ending) → ((e ≡ endings.Words) ↔ (asked ≡ None)) → Leaves (held_by_file contents (named_by asked)) m before.out now.out e → Raises before.faults now.faults e
      → IfSome (named_by asked) (λ file. is_sure file → e ≢ endings.File) → IfSome asked (λ (x : Asked). is_certain x.port → e ≢ endings.Link)
      → GrewOrRose before.err now.err before.err_faults now.err_faults (ending_line words_line e (named_by asked)) → Answers asked contents is_sure is_certain m before now (status_of e)
  answers_is e w h r s p t =
      let held : Option (List ℕ) = held_by_file contents (named_by asked) in
      record {
        range = range_is held m before.out now.out e h;
        words = words_is e w;
        faults = faults_are before.faults now.faults e r;
        sure = sure_is is_sure (named_by asked) e s;
        certain = certain_is is_certain asked e p;
        left = leaves_is (IsText held m) (OrWords (EndsEarly held)) before.out now.out held e h (faulty_is asked contents m before.out now.out e w h);
        told = told_is words_line held (named_by asked) before.err now.err before.err_faults now.err_faults e (refused_is held m before.out now.out e h) t;
        complete = complete_is asked contents m before.out now.out before.faults now.faults e w h r;
      }
