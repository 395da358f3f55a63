-- A text has one first wrong line.
use Rattle.std.proofs.Common.{◌≡◌, inl, inr, ℕ, suc, ◌+◌, ◌^◌, ◌<◌, List, [], ◌∷◌, ◌++◌, length, length-append, refl, sym, ap, subst, ◌∙◌, arith, append_assoc, append-nil}
use Rattle.std.specs.Prelude.{◌≢◌}
use Rattle.std.proofs.lemmas.List.Elements.{All-from_recursion}
use Rattle.sv_journal.specs.Laws.{FullRepliesStay, LegalRelaysNameAccepted}
use Rattle.sv_lines.specs.Lines.{line_ends}
use Rattle.sv_scenario.specs.declared.scenario.Scenario.{Scenario}
use Rattle.sv_check.specs.Either.{IsPart}
use Rattle.sv_check.specs.Wrong.{IsFirstWrong}
use Rattle.sv_check.proofs.Closed.{any_less}
use Rattle.sv_check.proofs.WholeLines.{AreLines, lines_behind, first_line, two_fronts, are_lines, fronts}

module _ (stay : FullRepliesStay) (names : LegalRelaysNameAccepted) (scenario : Scenario) (text : List ℕ) (short : length text < 2 ^ 32) where
  -- Between two first wrong lines stands no line: it would make a part with the lines before the first of the two.
  none_between : (m n : ℕ) (p : IsFirstWrong scenario text m) (q : IsFirstWrong scenario text n) (w : List ℕ) → q.before ≡ p.before ++ w → p.rest ≡ w ++ q.rest → w ≡ []
  none_between m n p q [] front rest = refl
  none_between m n p q (c ∷ w) front rest =
      let size : length text ≡ length q.before + length q.rest = ap length q.split ∙ length-append q.before q.rest in
      let fits : length q.before < 2 ^ 32 = omega (arith, short, size) in
      let less = any_less stay names scenario in
      let f = first_line c w (lines_behind p.before (c ∷ w) (subst (λ (l : List ℕ). AreLines l) front (are_lines (IsPart scenario) (2 ^ 32) less q.before fits q.part))) in
      let longer = p.before ++ f.line ++ 10 ∷ [] in
      let whole : q.before ≡ longer ++ f.more =
      front ∙ ap (λ (l : List ℕ). p.before ++ l) f.text_is ∙ sym (append_assoc (p.before ++ f.line) (10 ∷ []) f.more ∙ append_assoc p.before f.line (10 ∷ f.more)) in
      let part = fronts (IsPart scenario) (2 ^ 32) less (length f.more) longer f.more (omega arith) (inr (record { front = p.before ++ f.line; text_is = refl }))
      (subst (λ (l : List ℕ). length l < 2 ^ 32) whole fits) (subst (IsPart scenario) whole q.part) in
      absurd (p.wrong.line f.line (f.more ++ q.rest) (All-from_recursion (λ (byte : ℕ). byte ≢ 10) f.line f.plain)
      (rest ∙ ap (λ (l : List ℕ). l ++ q.rest) f.text_is ∙ append_assoc f.line (10 ∷ f.more) q.rest) part)

  same_before : (m n : ℕ) (p : IsFirstWrong scenario text m) (q : IsFirstWrong scenario text n) (w : List ℕ) → q.before ≡ p.before ++ w → p.rest ≡ w ++ q.rest → n ≡ m
  same_before m n p q w front rest =
      q.number ∙ ap (λ (l : List ℕ). suc (line_ends l)) (front ∙ ap (λ (l : List ℕ). p.before ++ l) (none_between m n p q w front rest) ∙ append-nil p.before) ∙ sym p.number

  pub same_number : (m n : ℕ) → IsFirstWrong scenario text m → IsFirstWrong scenario text n → m ≡ n
  same_number m n p q =
      elim (two_fronts p.before q.before p.rest q.rest (sym p.split ∙ q.split)) [
        | inl l ↦ sym (same_before m n p q l.more l.front l.rest)
        | inr l ↦ same_before n m q p l.more l.front l.rest
      ]
