-- The lines up to some line of a client without the last one. Events stand with the latest first.
use Rattle.std.proofs.Common.{◌≡◌, inl, inr, ℕ, ◌^◌, ◌<◌, List, [], ◌∷◌, ◌++◌, length, reverse, refl, sym, ap, ◌∙◌, arith, decimal, append_assoc}
use Rattle.std.specs.Prelude.{codes}
use Rattle.std.specs.List.{flat_map}
use Rattle.sv_journal.specs.declared.entry.Entry.{Entry}
use Rattle.sv_client.specs.declared.trace.Event.{Event}
use Rattle.sv_scenario.specs.declared.scenario.Scenario.{Scenario}
use Rattle.sv_report.specs.Report.{event_text, event_lines, trace_text}
use Rattle.sv_lines.proofs.EntryLines.{then_inner, inner_decimal}
use Rattle.sv_check.specs.Parts.{IsClientPart, IsReportPart}
use Rattle.sv_check.proofs.FrontParts.{traces_front}
use Rattle.sv_check.proofs.GoingOn.{client_line}
use Rattle.sv_check.proofs.InnerLines.{event_inner}
use Rattle.sv_check.proofs.LessEvents.{with_events, last_event, so_far_less}
use Rattle.sv_check.proofs.Pairs.{text_long}
use Rattle.sv_check.proofs.Reports.{traffic_text}
use Rattle.sv_check.proofs.WholeLines.{behind_both, HasLast}

module _ (scenario : Scenario) (text : List ℕ) (short : length text < 2 ^ 32) (p : IsClientPart scenario text) where
  abbrev entries : List Entry
  entries = reverse p.h

  -- What stands before the client's part.
  abbrev X : List ℕ
  X = traffic_text scenario.world.shape p.h p.Ls

  small : length entries < 2 ^ 32
  small =
      let long = text_long scenario.world.shape entries (flat_map (trace_text entries) p.Ls) (trace_text entries p.L) in
      let size : length text ≡ length (X ++ trace_text entries p.L) = ap length p.text_is in
      omega (arith, long, size, short)

  -- The last line is that of the last event, or the client's first one.
  pub client_less : (t : List Event) → reverse p.L.events ≡ t → HasLast (IsReportPart scenario) text
  client_less [] none =
      let head = client_line p.L.client.0 in
      record {
        before = X;
        line = head;
        inner = then_inner (codes "client ") (decimal p.L.client.0) refl (inner_decimal p.L.client.0);
        text_is = p.text_is ∙ ap (λ (t : List Event). X ++ (head ++ 10 ∷ event_lines entries t)) none ∙ sym (append_assoc X head (10 ∷ []));
        less = traces_front scenario p.h entries refl p.journal small p.before (p.plan ∷ p.after) p.Ls p.plans p.done;
      }
  client_less (e ∷ t) latest =
      let M = with_events p.L t in
      let line = event_text entries t e in
      record {
        before = X ++ trace_text entries M;
        line = line;
        inner = event_inner entries t e;
        text_is = p.text_is ∙ ap (λ (l : List ℕ). X ++ l) (last_event p.L e t latest entries) ∙ behind_both X (trace_text entries M) line;
        less = inr (inr (inl (record {
          h = p.h;
          journal = p.journal;
          before = p.before;
          plan = p.plan;
          after = p.after;
          plans = p.plans;
          Ls = p.Ls;
          done = p.done;
          L = M;
          next = record { client = p.next.client; interest = p.next.interest; first_is = p.next.first_is };
          so_far = so_far_less p.L e t latest scenario p.h p.plan p.so_far;
          text_is = refl;
        })));
      }
