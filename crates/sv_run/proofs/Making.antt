-- How the text of a call comes about, and why there is none.
use Rattle.std.proofs.Common.{◌≡◌, ℕ, List, Option, Some, sym, ap, ◌∙◌}
use Rattle.std.specs.Prelude.{reverse, IsErrAnd, Result, String}
use Rattle.std.specs.declared.alloc.Global.{Global}
use Rattle.std.proofs.lemmas.List.{reverse-reverse}
use Rattle.sv_link.specs.Nets.{Transcript}
use Rattle.sv_journal.specs.declared.entry.Entry.{Entry}
use Rattle.sv_client.specs.declared.trace.Trace.{Trace}
use Rattle.sv_scenario.specs.declared.scenario.Scenario.{Scenario}
use Rattle.law_schedule.specs.Records.{IsReplay}
use Rattle.sv_report.specs.Report.{report_text}
use Rattle.sv_ending.specs.declared.ending.Ending.{Ending}
use Rattle.sv_ending.specs.Reading.{IsRead}
use Rattle.sv_ending.specs.Endings.{IsMade}
use Rattle.sv_ending.proofs.Left.{early_made}
use Rattle.sv_threads.specs.Moved.{Moved}
use Rattle.sv_run.specs.Words.{Asked, Replay}
use Rattle.sv_run.specs.Runs.{IsText}
use Rattle.sv_run.specs.Statuses.{EndsEarly}

pub early_by : (a : Asked) (held : Option (List ℕ)) (m : Moved Transcript) (r : Result (String Global) Ending) (e : Ending) → IsErrAnd r (λ x. x ≡ e) → EndsEarly (Some a) held e
    → IsMade (IsText a held m) (EndsEarly (Some a) held) r
early_by a held m r e by h = early_made (IsText a held m) (EndsEarly (Some a) held) r e by h

-- ---- Texts

pub replayed : (file : List ℕ) (held : Option (List ℕ)) (m : Moved Transcript) (scenario : Scenario) (text : List ℕ) (entries : List Entry) (Ls : List Trace) → IsRead held scenario
    → IsReplay scenario (reverse entries) Ls → text ≡ report_text scenario.world entries Ls → IsText (Replay file) held m text
replayed file held m scenario text entries Ls read replay reported = record {
  scenario = scenario;
  h = reverse entries;
  Ls = Ls;
  scenario_is = read;
  record_is = replay;
  text_is = reported ∙ ap (λ (es : List Entry). report_text scenario.world es Ls) (sym (reverse-reverse entries));
}
