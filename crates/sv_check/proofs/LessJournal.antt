-- The first lines of a journal without the last one. A history is the list of its entries with the latest first.
use Rattle.std.proofs.Common.{◌≡◌, inl, inr, ℕ, ◌+◌, ◌^◌, ◌<◌, ◌≤◌, List, [], ◌∷◌, ◌++◌, length, reverse, refl, sym, ap, subst, ◌∙◌, arith, decimal, append_assoc, append-nil}
use Rattle.std.specs.Prelude.{codes}
use Rattle.std.proofs.lemmas.List.{reverse-append, reverse-reverse}
use Rattle.sv_world.specs.declared.world.Shape.{Shape}
use Rattle.sv_journal.specs.declared.entry.Entry.{Entry}
use Rattle.sv_journal.specs.History.{accepted}
use Rattle.sv_journal.specs.Laws.{FullRepliesStay, LegalRelaysNameAccepted}
use Rattle.sv_journal.specs.Text.{entry_line, entry_lines}
use Rattle.sv_scenario.specs.declared.scenario.Scenario.{Scenario}
use Rattle.sv_lines.proofs.EntryLines.{then_inner, inner_decimal, inner_line, line_inner, lines_append}
use Rattle.sv_check.specs.Parts.{AreEntries, IsReportPart}
use Rattle.sv_check.proofs.JournalLines.{told_fits, front_lines}
use Rattle.sv_check.proofs.JournalParts.{headed}
use Rattle.sv_check.proofs.WholeLines.{behind_both, HasLast}

module _ (stay : FullRepliesStay) (names : LegalRelaysNameAccepted) (scenario : Scenario) where
  abbrev shape : Shape
  shape = scenario.world.shape

  -- The lines of the entries h.
  abbrev lines : List Entry → List ℕ
  lines h = entry_lines shape (accepted h) 1 (reverse h)

  -- The lines of the earlier entries are the same with one entry more, whose line is the last.
  last_line : (e : Entry) (h : List Entry) → AreEntries scenario h →
      lines (e ∷ h) ≡ lines h ++ inner_line shape (accepted (e ∷ h)) (1 + length (reverse h)) e ++ 10 ∷ []
  last_line e h a =
      let A = accepted (e ∷ h) in
      let es = reverse h in
      let n = 1 + length es in
      let turned : reverse (e ∷ h) ≡ es ++ e ∷ [] = reverse-append (e ∷ []) h in
      let back : reverse (es ++ e ∷ []) ≡ e ∷ h = ap reverse (sym turned) ∙ reverse-reverse (e ∷ h) in
      let same : entry_lines shape A 1 es ≡ lines h =
      ap (λ (g : List Entry). entry_lines shape (accepted g) 1 es) (sym back)
      ∙ front_lines stay names scenario es (e ∷ []) (subst (AreEntries scenario) (sym (reverse-reverse h)) a)
      ∙ ap (λ (g : List Entry). entry_lines shape (accepted g) 1 es) (reverse-reverse h) in
      ap (entry_lines shape A 1) turned
      ∙ lines_append shape A 1 es (e ∷ [])
      ∙ ap (λ (l : List ℕ). entry_lines shape A 1 es ++ l) (append-nil (entry_line shape A n e))
      ∙ ap (λ (l : List ℕ). l ++ entry_line shape A n e) same
      ∙ sym (append_assoc (lines h) (inner_line shape A n e) (10 ∷ []))

  pub journal_less : (count : ℕ) (h : List Entry) (text : List ℕ) → count < 2 ^ 32 → length h ≤ count → AreEntries scenario h → text ≡ headed count (lines h) → HasLast (IsReportPart scenario) text
  journal_less count [] text small within a e = record {
    before = [];
    line = codes "journal " ++ decimal count;
    inner = then_inner (codes "journal ") (decimal count) refl (inner_decimal count);
    text_is = e;
    less = inl refl;
  }
  journal_less count (d ∷ h) text small within a e =
      let n = 1 + length (reverse h) in
      let line = inner_line shape (accepted (d ∷ h)) n d in
      record {
        before = headed count (lines h);
        line = line;
        inner = line_inner shape (accepted (d ∷ h)) n d (told_fits shape d.request a.0.told);
        text_is = e ∙ ap (headed count) (last_line d h a.1) ∙ behind_both (codes "journal " ++ decimal count) (10 ∷ lines h) line;
        less = inr (inl (record { count = count; h = h; small = small; within = omega (arith, within); entries = a.1; text_is = refl }));
      }
