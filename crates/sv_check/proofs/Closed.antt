-- Parts are closed: without its last line a part of a report is one, and so is a part of any kind.
use Rattle.std.proofs.Common.{◌≡◌, ◌⊎◌, inl, inr, ℕ, ◌^◌, ◌<◌, List, [], ◌∷◌, ◌++◌, length, reverse, refl, sym, ap, ◌∙◌, arith, decimal, append_assoc}
use Rattle.std.specs.Prelude.{codes}
use Rattle.sv_journal.specs.History.{commit_of}
use Rattle.sv_journal.specs.Text.{journal_text}
use Rattle.sv_journal.specs.Laws.{FullRepliesStay, LegalRelaysNameAccepted}
use Rattle.sv_lines.proofs.EntryLines.{then_inner, inner_decimal}
use Rattle.sv_scenario.specs.declared.scenario.Scenario.{Scenario}
use Rattle.sv_check.specs.Either.{IsPart}
use Rattle.sv_check.specs.Bare.{IsBare, commit_line}
use Rattle.sv_check.specs.Parts.{IsReportPart}
use Rattle.sv_check.proofs.FrontParts.{journal_front}
use Rattle.sv_check.proofs.BareStops.{entries_long}
use Rattle.sv_check.proofs.LessClients.{client_less}
use Rattle.sv_check.proofs.LessJournal.{journal_less}
use Rattle.sv_check.proofs.LessWorld.{world_less}
use Rattle.sv_check.proofs.WholeLines.{HasLast}

-- A journal of 2 ^ 32 entries or more has no right first line, so the text has to be short.
pub part_less : FullRepliesStay → LegalRelaysNameAccepted → (scenario : Scenario) (text : List ℕ) → length text < 2 ^ 32 → IsReportPart scenario text → (text ≡ []) ⊎ HasLast (IsReportPart scenario) text
part_less stay names scenario text short (inl none) = inl none
part_less stay names scenario text short (inr (inl p)) = inr (journal_less stay names scenario p.count p.h text p.small p.within p.entries p.text_is)
part_less stay names scenario text short (inr (inr (inl p))) = inr (client_less scenario text short p (reverse p.L.events) refl)
part_less stay names scenario text short (inr (inr (inr p))) = inr (world_less scenario text short p p.count p.within p.text_is)

-- What `serve` prints has the line of the commit behind its journal.
bare_less : (scenario : Scenario) (text : List ℕ) → length text < 2 ^ 32 → IsBare scenario text → HasLast (IsReportPart scenario) text
bare_less scenario text short p =
    let shape = scenario.world.shape in
    let es = reverse p.0 in
    let J = journal_text shape es in
    let commit = decimal (commit_of (reverse es)) in
    let K = commit_line (commit_of (reverse es)) in
    let long = entries_long shape es K in
    let size : length text ≡ length (J ++ K) = ap length p.1.text_is in
    record {
      before = J;
      line = codes "commit " ++ commit;
      inner = then_inner (codes "commit ") commit refl (inner_decimal (commit_of (reverse es)));
      text_is = p.1.text_is ∙ sym (append_assoc J (codes "commit " ++ commit) (10 ∷ []));
      less = journal_front scenario p.0 es refl p.1.journal (omega (arith, long, size, short));
    }

any_last : (scenario : Scenario) (text : List ℕ) → HasLast (IsReportPart scenario) text → HasLast (IsPart scenario) text
any_last scenario text h = record { before = h.before; line = h.line; inner = h.inner; text_is = h.text_is; less = inl h.less }

pub any_less : FullRepliesStay → LegalRelaysNameAccepted → (scenario : Scenario) (text : List ℕ) → length text < 2 ^ 32 → IsPart scenario text → (text ≡ []) ⊎ HasLast (IsPart scenario) text
any_less stay names scenario text short (inl p) =
    elim (part_less stay names scenario text short p) [ inl none ↦ inl none | inr h ↦ inr (any_last scenario text h) ]
any_less stay names scenario text short (inr p) = inr (any_last scenario text (bare_less scenario text short p))
