-- A word of the language by its first letter.
use Rattle.std.proofs.Common.{◌≡◌, ℕ, Bool, true, false, cond, eqb, List, [], ◌∷◌, ◌⊎◌, inl, inr, get_or, refl, sym, ap, subst, ◌∙◌}
use Rattle.std.specs.Prelude.{◌==◌, codes}
use Rattle.std.proofs.lemmas.Bool.{eqb-true}
use Rattle.sv_text.specs.declared.token.Mark.{Mark}
use Rattle.sv_text.specs.declared.token.Mark.TheVariants as marks
use Rattle.sv_text.specs.Tokens.{is_text, word_of}

abbrev by_first : ℕ → List ℕ → Mark
by_first b run =
    cond (b == 114) (cond (is_text run (codes "reads")) marks.Reads marks.Other)
    (cond (b == 119) (cond (is_text run (codes "writes")) marks.Writes marks.Other)
    (cond (b == 97) (cond (is_text run (codes "at")) marks.At (cond (is_text run (codes "and")) marks.And marks.Other))
    (cond (b == 115) (cond (is_text run (codes "set")) marks.Set marks.Other)
    (cond (b == 105) (cond (is_text run (codes "if")) marks.If marks.Other)
    (cond (b == 101) (cond (is_text run (codes "else")) marks.Else marks.Other)
    (cond (b == 109) (cond (is_text run (codes "min")) marks.Min (cond (is_text run (codes "max")) marks.Max marks.Other))
    (cond (b == 111) (cond (is_text run (codes "or")) marks.Or marks.Other)
    (cond (b == 110) (cond (is_text run (codes "not")) marks.Not marks.Other)
    marks.Other))))))))

either : (b : Bool) → (b ≡ true) ⊎ (b ≡ false)
either true = inl refl
either false = inr refl

-- the letter is k, or it is not
is_or_not : (cs : List ℕ) (c k : ℕ) → word_of (k ∷ cs) ≡ by_first k (k ∷ cs) → (eqb c k ≡ false → word_of (c ∷ cs) ≡ by_first c (c ∷ cs)) → word_of (c ∷ cs) ≡ by_first c (c ∷ cs)
is_or_not cs c k here other = elim (either (eqb c k)) [
  | inl e ↦ subst (λ (x : ℕ). word_of (x ∷ cs) ≡ by_first x (x ∷ cs)) (sym (eqb-true c k e)) here
  | inr e ↦ other e
]

pub word_by_first : (run : List ℕ) → word_of run ≡ by_first (get_or run 0 0) run
unfolding word_of
word_by_first [] = refl
word_by_first (c ∷ cs) =
    is_or_not cs c 114 refl (λ e1.
    is_or_not cs c 119 refl (λ e2.
    is_or_not cs c 97 refl (λ e3.
    is_or_not cs c 115 refl (λ e4.
    is_or_not cs c 105 refl (λ e5.
    is_or_not cs c 101 refl (λ e6.
    is_or_not cs c 109 refl (λ e7.
    is_or_not cs c 111 refl (λ e8.
    is_or_not cs c 110 refl (λ e9.
    rw (e1, e2, e3, e4, e5, e6, e7, e8, e9) refl)))))))))

pub word_by_no_first : (run : List ℕ) (b : ℕ) → b ≡ get_or run 0 0 → eqb b 114 ≡ false → eqb b 119 ≡ false → eqb b 97 ≡ false → eqb b 115 ≡ false → eqb b 105 ≡ false → eqb b 101 ≡ false → eqb b 109 ≡ false → eqb b 111 ≡ false → eqb b 110 ≡ false → marks.Other ≡ word_of run
word_by_no_first run b is e1 e2 e3 e4 e5 e6 e7 e8 e9 =
    let none : by_first b run ≡ marks.Other = rw (e1, e2, e3, e4, e5, e6, e7, e8, e9) refl in
    sym (word_by_first run ∙ ap (λ (x : ℕ). by_first x run) (sym is) ∙ none)
