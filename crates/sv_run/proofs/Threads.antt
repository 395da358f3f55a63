-- What is left of a run on threads.
use Rattle.std.proofs.Common.{◌≡◌, List, reverse, sym, ap, ◌∙◌}
use Rattle.std.specs.List.{flat_map}
use Rattle.sv_link.specs.Nets.{Transcript}
use Rattle.sv_journal.specs.declared.entry.Entry.{Entry}
use Rattle.sv_journal.specs.Answer.{Rules}
use Rattle.sv_journal.specs.History.{commit_of, committed_of}
use Rattle.sv_client.specs.declared.trace.Trace.{Trace}
use Rattle.sv_scenario.specs.declared.scenario.Scenario.{Scenario}
use Rattle.law_system.specs.Records.{rules_of}
use Rattle.sv_threads.specs.Moved.{Moved}
use Rattle.sv_threads.specs.Playing.{IsThreadedRun}
use Rattle.sv_player.specs.Played.{lines_told}
use Rattle.sv_run.specs.declared.playing.Threaded.{Threaded}
use Rattle.sv_run.specs.declared.words.Form.{Form}
use Rattle.sv_run.specs.Runs.{IsThreaded, is_watched}

module _ (scenario : Scenario) (form : Form) (m : Moved Transcript) (threaded : Threaded) (entries seen : List Entry) (Ls : List Trace)
    (run : IsThreadedRun scenario (reverse seen) Ls m.kept_before m.kept_now m.ran_before m.ran_now) (took : entries ≡ seen) (same : threaded.played.journal.entries ≡ entries)
    (traces : threaded.played.traces ≡ Ls) where
  run_is : IsThreadedRun scenario (reverse threaded.played.journal.entries) threaded.played.traces m.kept_before m.kept_now m.ran_before m.ran_now
  run_is = rw (same ∙ took) (rw traces run)

  pub threaded_is : (rules : Rules) → rules ≡ rules_of scenario → threaded.played.shape ≡ scenario.world.shape → threaded.played.commit ≡ commit_of (reverse entries)
      → threaded.played.committed ≡ committed_of rules.world.values (reverse entries) → threaded.lines.items ≡ flat_map (lines_told (is_watched form)) Ls → IsThreaded scenario form m threaded
  threaded_is rules rules_is shape commit committed lines = record {
    run = run_is;
    played = record {
      traffic = run_is.full.traffic;
      shape = shape;
      commit = commit ∙ ap (λ (es : List Entry). commit_of (reverse es)) (sym same);
      committed = committed ∙ ap (λ (rs : Rules). committed_of rs.world.values (reverse entries)) rules_is ∙ ap (λ (es : List Entry). committed_of scenario.world.values (reverse es)) (sym same);
    };
    lines = lines ∙ ap (λ (ts : List Trace). flat_map (lines_told (is_watched form)) ts) (sym traces);
  }
