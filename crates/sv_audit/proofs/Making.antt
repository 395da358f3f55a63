-- The text of an answer, or why there is none, from the parts of the call; and the counts of faults.
use Rattle.std.proofs.Common.{◌≡◌, subst, ℕ, List, Option}
use Rattle.std.specs.Prelude.{IsErrAnd, IfErr, Result, Ok, Err, String}
use Rattle.std.specs.declared.alloc.Global.{Global}
use Rattle.sv_scenario.specs.declared.scenario.Scenario.{Scenario}
use Rattle.sv_scenario.specs.Scenarios.{scenario_of}
use Rattle.law_system.specs.declared.played.Played.{Played}
use Rattle.sv_ending.specs.declared.ending.Ending.{Ending}
use Rattle.sv_ending.specs.declared.ending.Ending.TheVariants as plain
use Rattle.sv_ending.specs.Endings.{IsMade}
use Rattle.sv_ending.specs.Reading.{IsFileFront}
use Rattle.sv_ending.specs.Statuses.{Counts, IsGiven, IsUnread}
use Rattle.sv_ending.proofs.Counts.{came}
use Rattle.sv_audit.specs.declared.ending.AuditEnding.{AuditEnding}
use Rattle.sv_audit.specs.declared.ending.AuditEnding.TheVariants as endings
use Rattle.sv_audit.specs.Judging.{IsReportFront, AreRead, IsApproved, IsJudged, AnswersOrEnds, IsOverAt, IsText}
use Rattle.sv_audit.specs.Statuses.{Raises, EndsEarly, AreUnread, ending_of}
use Rattle.sv_audit.specs.Words.{Question, Right, World, Why}

-- ---- Answers that come by a `?`

pub raised_by : {T : Type 0} (r : Result T AuditEnding) (e : AuditEnding) → IsErrAnd r (λ x. x ≡ e) → (before now : Counts) → Raises before now e → Raises before now (ending_of r)
raised_by r e by before now h = rw (came r e by) h

pub unread_by : {T : Type 0} (r : Result T AuditEnding) (e : Ending) → IsErrAnd r (λ x. x ≡ endings.Plain e) → IsUnread e → IfErr r AreUnread
unread_by r e by u = rw (came r (endings.Plain e) by) u

-- ---- The answer

module _ (held told : Option (List ℕ)) (question : Question) where
  pub unread_made : (e : AuditEnding) → AreUnread e → EndsEarly held told question e
  unread_made (endings.Plain plain.File) h = tt
  unread_made (endings.Plain plain.Memory) h = tt
  unread_made (endings.Plain plain.Done) h = absurd h
  unread_made (endings.Plain plain.Words) h = absurd h
  unread_made (endings.Plain (plain.Scenario line)) h = absurd h
  unread_made (endings.Plain plain.Out) h = absurd h
  unread_made (endings.Plain plain.Link) h = absurd h
  unread_made (endings.Plain plain.Start) h = absurd h
  unread_made endings.Report h = tt
  unread_made (endings.Wrong line) h = absurd h
  unread_made (endings.Plain plain.Range) h = absurd h

  pub refused_made : (bytes : List ℕ) (e : Ending) → IsFileFront held bytes → IsGiven bytes (Err e) → EndsEarly held told question (endings.Plain e)
  refused_made bytes (plain.Scenario line) front h = record { bytes = bytes; front = front; fault = h.fault; faulty = h.faulty; told = h.told }
  refused_made bytes plain.Memory front h = tt
  refused_made bytes plain.File front h = absurd h
  refused_made bytes plain.Done front h = absurd h
  refused_made bytes plain.Words front h = absurd h
  refused_made bytes plain.Out front h = absurd h
  refused_made bytes plain.Link front h = absurd h
  refused_made bytes plain.Start front h = absurd h
  refused_made bytes plain.Range front h = absurd h

  module _ (source bytes : List ℕ) (scenario : Scenario) (front : IsFileFront held source) (is : scenario_of source ≡ Ok scenario) (report : IsReportFront told bytes) where
    pub are_read : AreRead held told scenario bytes
    are_read = record { scenario_is = record { bytes = source; front = front; read = is }; report_is = report }

    pub wrong_made : (e : AuditEnding) → IsJudged scenario bytes (Err e) → EndsEarly held told question e
    wrong_made (endings.Wrong line) h = record { scenario = scenario; bytes = bytes; are_read = are_read; cause = h }
    wrong_made (endings.Plain plain.Memory) h = tt
    wrong_made (endings.Plain plain.File) h = absurd h
    wrong_made (endings.Plain plain.Done) h = absurd h
    wrong_made (endings.Plain plain.Words) h = absurd h
    wrong_made (endings.Plain (plain.Scenario line)) h = absurd h
    wrong_made (endings.Plain plain.Out) h = absurd h
    wrong_made (endings.Plain plain.Link) h = absurd h
    wrong_made (endings.Plain plain.Start) h = absurd h
    wrong_made endings.Report h = absurd h
    wrong_made (endings.Plain plain.Range) h = absurd h

    pub approved_is : (played : Played) → IsJudged scenario bytes (Ok played) → IsApproved held told scenario played
    approved_is played h = record { bytes = bytes; are_read = are_read; short = h.0; report = h.1 }

-- The run was approved; it has no such place, or its answer is told.
module _ (held told : Option (List ℕ)) (scenario : Scenario) (played : Played) (approved : IsApproved held told scenario played) where
  over_made : (question : Question) → IsOverAt scenario played question → EndsEarly held told question (endings.Plain plain.Range)
  over_made Right h = absurd h
  over_made World h = absurd h
  over_made (Why asking) h = record { scenario = scenario; played = played; approved = approved; over = h }

  pub answer_made : (question : Question) (r : Result (String Global) AuditEnding) → AnswersOrEnds scenario played question r → IsMade (IsText held told question) (EndsEarly held told question) r
  answer_made question (Ok text) h = record { scenario = scenario; played = played; approved = approved; answer = h }
  answer_made question (Err (endings.Plain plain.Range)) h = over_made question h
  answer_made question (Err (endings.Plain plain.Memory)) h = tt
  answer_made question (Err (endings.Plain plain.File)) h = absurd h
  answer_made question (Err (endings.Plain plain.Done)) h = absurd h
  answer_made question (Err (endings.Plain plain.Words)) h = absurd h
  answer_made question (Err (endings.Plain (plain.Scenario line))) h = absurd h
  answer_made question (Err (endings.Plain plain.Out)) h = absurd h
  answer_made question (Err (endings.Plain plain.Link)) h = absurd h
  answer_made question (Err (endings.Plain plain.Start)) h = absurd h
  answer_made question (Err endings.Report) h = absurd h
  answer_made question (Err (endings.Wrong line)) h = absurd h

-- ---- Endings that tell of no fault

-- The ending tells of no file that can't be read, nor of the output.
abbrev pub IsCalm : AuditEnding → Type 0
IsCalm (endings.Plain plain.Done) = Unit {0}
IsCalm (endings.Plain (plain.Scenario line)) = Unit {0}
IsCalm (endings.Plain plain.Memory) = Unit {0}
IsCalm (endings.Plain plain.Range) = Unit {0}
IsCalm (endings.Plain _) = ⊥
IsCalm endings.Report = ⊥
IsCalm (endings.Wrong line) = Unit {0}

pub calm_raises : (before now : Counts) (e : AuditEnding) → IsCalm e → now ≡ before → Raises before now e
calm_raises before now (endings.Plain plain.Done) c h = h
calm_raises before now (endings.Plain (plain.Scenario line)) c h = h
calm_raises before now (endings.Plain plain.Memory) c h = h
calm_raises before now (endings.Plain plain.File) c h = absurd c
calm_raises before now (endings.Plain plain.Words) c h = absurd c
calm_raises before now (endings.Plain plain.Out) c h = absurd c
calm_raises before now (endings.Plain plain.Link) c h = absurd c
calm_raises before now (endings.Plain plain.Start) c h = absurd c
calm_raises before now endings.Report c h = absurd c
calm_raises before now (endings.Wrong line) c h = h
calm_raises before now (endings.Plain plain.Range) c h = h

pub calm_file : (e : AuditEnding) → IsCalm e → e ≡ endings.Plain plain.File → ⊥
calm_file e c is = rw is at c

pub calm_report : (e : AuditEnding) → IsCalm e → e ≡ endings.Report → ⊥
calm_report e c is = rw is at c

pub given_calm : (bytes : List ℕ) (e : Ending) → IsGiven bytes (Err e) → IsCalm (endings.Plain e)
given_calm bytes (plain.Scenario line) h = tt
given_calm bytes plain.Memory h = tt
given_calm bytes plain.File h = absurd h
given_calm bytes plain.Done h = absurd h
given_calm bytes plain.Words h = absurd h
given_calm bytes plain.Out h = absurd h
given_calm bytes plain.Link h = absurd h
given_calm bytes plain.Start h = absurd h
given_calm bytes plain.Range h = absurd h

pub judged_calm : (scenario : Scenario) (bytes : List ℕ) (e : AuditEnding) → IsJudged scenario bytes (Err e) → IsCalm e
judged_calm scenario bytes (endings.Wrong line) h = tt
judged_calm scenario bytes (endings.Plain plain.Memory) h = tt
judged_calm scenario bytes (endings.Plain plain.File) h = absurd h
judged_calm scenario bytes (endings.Plain plain.Done) h = absurd h
judged_calm scenario bytes (endings.Plain plain.Words) h = absurd h
judged_calm scenario bytes (endings.Plain (plain.Scenario line)) h = absurd h
judged_calm scenario bytes (endings.Plain plain.Out) h = absurd h
judged_calm scenario bytes (endings.Plain plain.Link) h = absurd h
judged_calm scenario bytes (endings.Plain plain.Start) h = absurd h
judged_calm scenario bytes endings.Report h = absurd h
judged_calm scenario bytes (endings.Plain plain.Range) h = absurd h

pub answer_calm : (scenario : Scenario) (played : Played) (question : Question) (r : Result (String Global) AuditEnding) → AnswersOrEnds scenario played question r → IsCalm (ending_of r)
answer_calm scenario played question (Ok text) h = tt
answer_calm scenario played question (Err (endings.Plain plain.Range)) h = tt
answer_calm scenario played question (Err (endings.Plain plain.Memory)) h = tt
answer_calm scenario played question (Err (endings.Plain plain.File)) h = absurd h
answer_calm scenario played question (Err (endings.Plain plain.Done)) h = absurd h
answer_calm scenario played question (Err (endings.Plain plain.Words)) h = absurd h
answer_calm scenario played question (Err (endings.Plain (plain.Scenario line))) h = absurd h
answer_calm scenario played question (Err (endings.Plain plain.Out)) h = absurd h
answer_calm scenario played question (Err (endings.Plain plain.Link)) h = absurd h
answer_calm scenario played question (Err (endings.Plain plain.Start)) h = absurd h
answer_calm scenario played question (Err endings.Report) h = absurd h
answer_calm scenario played question (Err (endings.Wrong line)) h = absurd h

-- ---- One part after another

-- The first part raised no count.
pub then_raises : (a b c : Counts) (e : AuditEnding) → b ≡ a → Raises b c e → Raises a c e
then_raises a b c e same h = subst (λ (k : Counts). Raises k c e) same h
