-- The snapshots of a scheduled run.
use Rattle.std.proofs.Common.{◌≡◌, ℕ, ◌<◌, List, length, slice_index_or, Option, sym, subst}
use Rattle.std.specs.Prelude.{All}
use Rattle.std.proofs.lemmas.List.Elements.{All-map}
use Rattle.sv_world.specs.declared.action.Action.{Action}
use Rattle.sv_world.specs.Faults.{IsGoodAction}
use Rattle.sv_world.specs.Sets.{read_set}
use Rattle.sv_world.proofs.Good.{good_of_none}
use Rattle.sv_eval.proofs.Serials.{serial_length, serial_shaped}
use Rattle.sv_journal.specs.declared.entry.Entry.{Entry}
use Rattle.sv_journal.specs.History.{Authored, accepted, actions_of}
use Rattle.sv_journal.specs.Laws.{LegalActionsAreGood}
use Rattle.sv_client.specs.declared.trace.Trace.{Trace}
use Rattle.sv_scenario.specs.declared.scenario.Scenario.{Scenario}
use Rattle.sv_scenario.specs.Limits.{IsGoodScenario}
use Rattle.law_schedule.specs.Records.{IsReplay}
use Rattle.law_system.specs.Records.{rules_of}
use Rattle.sv_ending.specs.Reading.{IsRead}
use Rattle.sv_looks.specs.Cuts.{IsCut, IsShaped}
use Rattle.sv_looks.specs.Lines.{looks_text}
use Rattle.sv_looks.specs.Snapshots.{snapshots_of}
use Rattle.sv_looks.specs.Statuses.{IsText}
use Rattle.sv_looks.proofs.Cutting.{cuts_are, shaped_are}

module _ (scenario : Scenario) (h : List Entry) (Ls : List Trace) (good : IsGoodScenario scenario) (replay : IsReplay scenario h Ls) where
  pub cuts_of_run : All (IsCut scenario.world.values (actions_of h)) (snapshots_of scenario.world.shape Ls)
  cuts_of_run =
      cuts_are scenario.world.shape scenario.world.values h Ls good.world.objects replay.full.traffic.proper
      replay.full.values replay.full.relays replay.full.seen

  reads_within : LegalActionsAreGood → All (λ (a : Action). All (λ x. x < length scenario.world.values) (read_set a)) (actions_of h)
  reads_within law =
      All-map (λ (a : Action). All (λ x. x < length scenario.world.values) (read_set a)) (λ (a : Authored). a.action) (accepted h)
      (λ k d l.
      let a : Authored = slice_index_or (accepted h) k d in
      let checked : IsGoodAction scenario.world.shape a.action = good_of_none scenario.world.shape a.action (law (rules_of scenario) h replay.full.traffic.legal k d l) in
      subst (λ (n : ℕ). All (λ x. x < n) (read_set a.action)) (sym good.world.objects) checked.objects)

  -- Each value has as many numbers as objects have attributes.
  pub shaped_of_run : LegalActionsAreGood → All (IsShaped scenario.world.shape) (snapshots_of scenario.world.shape Ls)
  shaped_of_run law =
      let A = actions_of h in
      let opening = scenario.world.values in
      shaped_are scenario.world.shape opening A (snapshots_of scenario.world.shape Ls) (serial_length opening A)
      (λ p. serial_shaped scenario.world.shape.attrs opening A p
      good.world.attrs (reads_within law))
      cuts_of_run

pub printed_run : (held : Option (List ℕ)) (scenario : Scenario) (text : List ℕ) (h : List Entry) (Ls : List Trace) → IsRead held scenario → IsGoodScenario scenario →
    IsReplay scenario h Ls → text ≡ looks_text scenario.world.shape Ls → IsText held text
printed_run held scenario text h Ls read good replay is =
    record { scenario = scenario; h = h; Ls = Ls; scenario_is = read; replay = replay; cuts = cuts_of_run scenario h Ls good replay; text_is = is }
