-- The lines that were taken so far, and the line ends of a text.
use Rattle.std.proofs.Common.{◌≡◌, ℕ, zero, suc, ◌+◌, ◌<◌, ◌≤◌, ltb, true, false, List, [], ◌∷◌, ◌++◌, length, take, drop, refl, sym, ap, subst, ◌∙◌, arith, append_assoc, append-nil}
use Rattle.std.specs.Prelude.{◌≢◌}
use Rattle.std.specs.List.{prefix_len}
use Rattle.std.proofs.lemmas.Bool.{lt-ltb}
use Rattle.std.proofs.lemmas.Bool.Decides.{nat_tests}
use Rattle.std.proofs.lemmas.List.{take-append-drop}
use Rattle.std.proofs.lemmas.List.Sums.{prefix_len-le-length}
use Rattle.sv_lines.specs.Lines.{is_inner, line_width, after_lines, Differs}

pub record Took (text lines rest left : List ℕ) : Type 0 where
  pub n : ℕ
  pub same : List ℕ
  pub lines_are : lines ≡ same ++ left
  pub text_is : text ≡ same ++ rest
  pub left_is : left ≡ after_lines n lines

abbrev first : List ℕ → List ℕ
first text = take (line_width text) text

abbrev others : List ℕ → List ℕ
others text = drop (line_width text) text

after_more : (n : ℕ) (text : List ℕ) → after_lines (suc n) text ≡ others (after_lines n text)
after_more zero text = refl
after_more (suc n) text = after_more n (others text)

pub took_none : (text lines : List ℕ) → Took text lines text lines
took_none text lines = record { n = 0; same = []; lines_are = refl; text_is = refl; left_is = refl }

module _ (text lines rest left line : List ℕ) (took : Took text lines rest left) (is : line ≡ first left) where
  pub took_more : (more next : List ℕ) → more ≡ others left → rest ≡ line ++ next → Took text lines next more
  took_more more next drops goes = record {
    n = suc took.n;
    same = took.same ++ line;
    lines_are =
        took.lines_are ∙ ap (λ (l : List ℕ). took.same ++ l) (sym (take-append-drop (line_width left) left) ∙ ap (λ (l : List ℕ). l ++ others left) (sym is) ∙ ap (λ (l : List ℕ). line ++ l) (sym drops))
        ∙ sym (append_assoc took.same line more);
    text_is = took.text_is ∙ ap (λ (l : List ℕ). took.same ++ l) goes ∙ sym (append_assoc took.same line next);
    left_is = drops ∙ ap others took.left_is ∙ sym (after_more took.n lines);
  }

  pub took_differs : 0 < length left → ((r : List ℕ) → rest ≢ line ++ r) → Differs text lines (length rest)
  took_differs some differ = record {
    n = took.n;
    same = took.same;
    after = rest;
    lines_are = took.lines_are ∙ ap (λ (l : List ℕ). took.same ++ l) took.left_is;
    text_is = took.text_is;
    more = subst (λ (l : List ℕ). 0 < length l) took.left_is some;
    differ = λ r e. differ r (e ∙ ap (λ (l : List ℕ). l ++ r) (ap first (sym took.left_is) ∙ sym is));
    left_is = refl;
  }

pub took_all : (text lines rest left : List ℕ) → Took text lines rest left → length left ≡ 0 → text ≡ lines ++ rest
took_all text lines rest [] took none = took.text_is ∙ ap (λ (l : List ℕ). l ++ rest) (sym (took.lines_are ∙ append-nil took.same))
took_all text lines rest (b ∷ left) took none = absurd (omega (arith, none))

pub inner_within : (text : List ℕ) → prefix_len is_inner text ≤ length text
inner_within text = prefix_len-le-length is_inner text

pub width_within : (text : List ℕ) (n : ℕ) → n ≡ prefix_len is_inner text → n < length text → n + 1 ≡ line_width text
width_within text n is lt =
    let some : ltb (prefix_len is_inner text) (length text) ≡ true = lt-ltb (prefix_len is_inner text) (length text) (omega (arith, is, lt)) in
    rw some (omega (arith, is))

pub width_whole : (text : List ℕ) (n : ℕ) → n ≡ prefix_len is_inner text → length text ≤ n → n ≡ line_width text
width_whole text n is le =
    let none : ltb (prefix_len is_inner text) (length text) ≡ false = grind (arith, nat_tests, is, le) in
    rw none is
