-- The world's first lines without the last one. A history is the list of a journal's entries with the latest first.
use Rattle.std.proofs.Common.{◌≡◌, ◌⊎◌, inl, inr, ℕ, zero, suc, ◌+◌, ◌^◌, ◌<◌, ◌≤◌, ℤ, List, [], ◌∷◌, ◌++◌, length, reverse, take, refl, sym, ap, ◌∙◌, arith, decimal, append_assoc, append-nil}
use Rattle.std.specs.Prelude.{codes}
use Rattle.std.specs.List.{flat_map}
use Rattle.sv_journal.specs.History.{commit_of, committed_of}
use Rattle.sv_journal.specs.Pieces.{held_text}
use Rattle.sv_scenario.specs.declared.scenario.Scenario.{Scenario}
use Rattle.sv_report.specs.Report.{trace_text, value_lines}
use Rattle.sv_lines.proofs.EntryLines.{then_inner, inner_decimal, inner_held}
use Rattle.sv_check.specs.Parts.{IsWorldPart, IsReportPart}
use Rattle.sv_check.proofs.FrontParts.{traces_front}
use Rattle.sv_check.proofs.Pairs.{text_long}
use Rattle.sv_check.proofs.Reports.{traffic_text, front_apart}
use Rattle.sv_check.proofs.WholeLines.{behind_both, HasLast}
use Rattle.sv_check.proofs.WorldLines.{world_line, world_front}

-- The lines of n + 1 values are those of n, and the line of one more.
pub record HasValue (n object : ℕ) (values : List (List ℤ)) : Type 0 where
  pub value : List ℤ
  pub lines : value_lines object (take (suc n) values) ≡ value_lines object (take n values) ++ held_text (object + n) value ++ 10 ∷ []

one_value : (n object : ℕ) (values : List (List ℤ)) → (take (suc n) values ≡ take n values) ⊎ HasValue n object values
one_value zero object [] = inl refl
one_value zero object (v ∷ values) =
    let plain : object ≡ object + 0 = omega arith in
    inr (record { value = v; lines = ap (λ (m : ℕ). held_text m v ++ 10 ∷ []) plain })
one_value (suc n) object [] = inl refl
one_value (suc n) object (v ∷ values) =
    let first = held_text object v in
    let front = value_lines (object + 1) (take n values) in
    let plus : object + 1 + n ≡ object + suc n = omega arith in
    elim (one_value n (object + 1) values) [
      | inl same ↦ inl (ap (λ (vs : List (List ℤ)). v ∷ vs) same)
      | inr m ↦ inr (record {
        value = m.value;
        lines = ap (λ (l : List ℕ). first ++ 10 ∷ l) m.lines
            ∙ ap (λ (k : ℕ). first ++ 10 ∷ (front ++ held_text k m.value ++ 10 ∷ [])) plus
            ∙ behind_both first (10 ∷ front) (held_text (object + suc n) m.value);
      })
    ]

module _ (scenario : Scenario) (text : List ℕ) (short : length text < 2 ^ 32) (p : IsWorldPart scenario text) where
  -- What stands before the world's lines.
  abbrev X : List ℕ
  X = traffic_text scenario.world.shape p.h p.Ls

  abbrev commit : ℕ
  commit = commit_of p.h

  abbrev values : List (List ℤ)
  values = committed_of scenario.world.values p.h

  small : length (reverse p.h) < 2 ^ 32
  small =
      let front = world_front commit values p.count in
      let long = text_long scenario.world.shape (reverse p.h) (flat_map (trace_text (reverse p.h)) p.Ls) front in
      let size : length text ≡ length (X ++ front) = ap length (p.text_is ∙ front_apart X commit (value_lines 0 (take p.count values))) in
      omega (arith, long, size, short)

  -- The last line is that of a value, or `world C`.
  pub world_less : (n : ℕ) → n ≤ scenario.world.shape.objects → text ≡ X ++ codes "world " ++ decimal commit ++ 10 ∷ value_lines 0 (take n values) → HasLast (IsReportPart scenario) text
  world_less zero within e = record {
    before = X;
    line = world_line commit;
    inner = then_inner (codes "world ") (decimal commit) refl (inner_decimal commit);
    text_is = e ∙ ap (λ (l : List ℕ). l ++ 10 ∷ []) (append_assoc X (codes "world ") (decimal commit));
    less = traces_front scenario p.h (reverse p.h) refl p.journal small scenario.clients [] p.Ls (sym (append-nil scenario.clients)) p.traces;
  }
  world_less (suc n) within e =
      let head = X ++ codes "world " ++ decimal commit in
      let front = value_lines 0 (take n values) in
      elim (one_value n 0 values) [
        | inl same ↦ world_less n (omega (arith, within)) (e ∙ ap (λ (vs : List (List ℤ)). head ++ 10 ∷ value_lines 0 vs) same)
        | inr m ↦ record {
          before = head ++ 10 ∷ front;
          line = held_text (0 + n) m.value;
          inner = inner_held (0 + n) m.value;
          text_is = e ∙ ap (λ (l : List ℕ). head ++ 10 ∷ l) m.lines ∙ behind_both head (10 ∷ front) (held_text (0 + n) m.value);
          less = inr (inr (inr (record {
            h = p.h;
            journal = p.journal;
            Ls = p.Ls;
            traces = p.traces;
            count = n;
            within = omega (arith, within);
            text_is = refl;
          })));
        }
      ]
