-- What a report has before the part of a client, and with the first lines of that, is a part of it.
-- A history h is the list of a journal's entries with the latest first, and `entries` are the same in order.
use Rattle.std.proofs.Common.{◌≡◌, inl, inr, ℕ, ◌+◌, ◌^◌, ◌<◌, List, [], ◌∷◌, ◌++◌, length, reverse, sym, ap, subst, ◌∙◌, arith, decimal, append_assoc, append-nil}
use Rattle.std.specs.Prelude.{codes}
use Rattle.std.specs.List.{flat_map}
use Rattle.std.proofs.lemmas.List.{reverse-reverse, length-reverse}
use Rattle.sv_world.specs.declared.world.Shape.{Shape}
use Rattle.sv_journal.specs.declared.entry.Entry.{Entry}
use Rattle.sv_journal.specs.History.{accepted}
use Rattle.sv_journal.specs.Text.{entry_lines, journal_text}
use Rattle.sv_client.specs.declared.trace.Trace.{Trace}
use Rattle.sv_scenario.specs.declared.scenario.Plan.{Plan}
use Rattle.sv_scenario.specs.declared.scenario.Scenario.{Scenario}
use Rattle.sv_scenario.specs.Sessions.{sessions_in}
use Rattle.sv_report.specs.Report.{trace_text}
use Rattle.sv_check.specs.Parts.{IsWholeJournal, IsTraceSoFar, IsWholeTrace, AreFirstTraces, IsOf, IsReportPart}
use Rattle.sv_check.proofs.WorldParts.{so_far}
use Rattle.sv_check.proofs.Splits.{split_last, lines_append, is_of}

-- ---- What was taken is a part

module _ (scenario : Scenario) (h entries : List Entry) (in_order : entries ≡ reverse h) (journal : IsWholeJournal scenario h) (small : length entries < 2 ^ 32) where
  abbrev shape : Shape
  shape = scenario.world.shape

  abbrev J : List ℕ
  J = journal_text shape entries

  -- The client's first lines behind whole traces.
  pub client_front : (before : List Plan) (plan : Plan) (plans : List Plan) (Ls : List Trace) (L : Trace) (text : List ℕ) → scenario.clients ≡ before ++ plan ∷ plans → AreFirstTraces shape h before Ls →
      IsOf (length before) (sessions_in before) plan L → IsTraceSoFar scenario h plan L → text ≡ (J ++ flat_map (trace_text entries) Ls) ++ trace_text entries L → IsReportPart scenario text
  client_front before plan plans Ls L text c d o g e = inr (inr (inl (record {
    h = h;
    journal = journal;
    before = before;
    plan = plan;
    after = plans;
    plans = c;
    Ls = Ls;
    done = d;
    L = L;
    next = o;
    so_far = g;
    text_is = e ∙ ap (λ (es : List Entry). (journal_text shape es ++ flat_map (trace_text es) Ls) ++ trace_text es L) in_order;
  })))

  pub journal_front : IsReportPart scenario J
  journal_front = inr (inl (record {
    count = length entries;
    h = h;
    small = small;
    within = let size = length-reverse h in let same = ap length in_order in omega (arith, size, same);
    entries = journal.entries;
    text_is = ap (λ (es : List Entry). codes "journal " ++ decimal (length entries) ++ 10 ∷ entry_lines shape (accepted (reverse es)) 1 es) in_order
        ∙ ap (λ (g : List Entry). codes "journal " ++ decimal (length entries) ++ 10 ∷ entry_lines shape (accepted g) 1 (reverse h)) (reverse-reverse h);
  }))

  pub traces_front : (before plans : List Plan) (Ls : List Trace) → scenario.clients ≡ before ++ plans → AreFirstTraces shape h before Ls → IsReportPart scenario (J ++ flat_map (trace_text entries) Ls)
  traces_front [] plans [] c d = subst (IsReportPart scenario) (sym (append-nil J)) journal_front
  traces_front [] plans (L ∷ Ls) c d = absurd d.clients
  traces_front (p ∷ before) plans [] c d = absurd d.clients
  traces_front (p ∷ before) plans (L ∷ Ls) c d =
      let s = split_last (IsWholeTrace shape h) 0 0 p before L Ls d.clients d.whole in
      client_front s.first s.plan plans s.Ms s.L (J ++ flat_map (trace_text entries) (L ∷ Ls)) (c ∙ ap (λ (ps : List Plan). ps ++ plans) s.plans ∙ append_assoc s.first (s.plan ∷ []) plans)
      (record { clients = s.clients; whole = s.each })
      (is_of (0 + length s.first) (0 + sessions_in s.first) (length s.first) (sessions_in s.first) s.plan s.L (omega arith) (omega arith) s.of)
      (so_far scenario h s.plan s.L s.whole)
      (ap (λ (Ns : List Trace). J ++ flat_map (trace_text entries) Ns) s.traces ∙ ap (λ (l : List ℕ). J ++ l) (lines_append entries s.Ms s.L)
      ∙ sym (append_assoc J (flat_map (trace_text entries) s.Ms) (trace_text entries s.L)))
