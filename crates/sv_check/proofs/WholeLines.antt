-- Texts of whole lines, from which the last line is left out.
use Rattle.std.proofs.Common.{◌≡◌, ◌⊎◌, inl, inr, ℕ, zero, suc, ◌+◌, ◌<◌, ◌≤◌, eqb, Bool, true, false, List, [], ◌∷◌, ◌++◌, length, length-append, refl, sym, ap, subst, ◌∙◌, arith, append_assoc, append-nil}
use Rattle.std.specs.Prelude.{◌≢◌}
use Rattle.std.specs.List.{AllByRecursion}
use Rattle.std.proofs.lemmas.Bool.{eqb-true, eqb-false}
use Rattle.sv_lines.specs.Lines.{line_ends}
use Rattle.sv_lines.proofs.Splitting.{first_is, others_are}
use Rattle.sv_lines.proofs.EntryLines.{IsInner, ends_append, one_end}
use Rattle.sv_check.proofs.Told.{none_behind}

pub behind_both : (a b line : List ℕ) → a ++ (b ++ line ++ 10 ∷ []) ≡ (a ++ b) ++ line ++ 10 ∷ []
behind_both a b line = sym (append_assoc a (b ++ line) (10 ∷ [])) ∙ ap (λ (l : List ℕ). l ++ 10 ∷ []) (sym (append_assoc a b line))

never_none : (c : ℕ) (w : List ℕ) → c ∷ w ≡ [] → ⊥
never_none c w e = cc

-- ---- Whole lines

pub record IsEnded (text : List ℕ) : Type 0 where
  pub front : List ℕ
  pub text_is : text ≡ front ++ 10 ∷ []

-- The text is empty, or ends with a line end.
abbrev pub AreLines : List ℕ → Type 0
AreLines text = (text ≡ []) ⊎ IsEnded text

less_one : (c : ℕ) (text front : List ℕ) → c ∷ text ≡ front ++ 10 ∷ [] → AreLines text
less_one c text [] e = inl (others_are c 10 text [] e)
less_one c text (d ∷ front) e = inr (record { front = front; text_is = others_are c d text (front ++ 10 ∷ []) e })

-- What stands behind any front of whole lines ends as they do.
pub lines_behind : (a w : List ℕ) → AreLines (a ++ w) → AreLines w
lines_behind [] w l = l
lines_behind (c ∷ a) w (inl none) = absurd (never_none c (a ++ w) none)
lines_behind (c ∷ a) w (inr e) = lines_behind a w (less_one c (a ++ w) e.front e.text_is)

some_ends : (c : ℕ) (w : List ℕ) → AreLines (c ∷ w) → 0 < line_ends (c ∷ w)
some_ends c w (inl none) = absurd (never_none c w none)
some_ends c w (inr e) =
    let some : 0 < line_ends e.front + 1 = omega arith in
    subst (λ (n : ℕ). 0 < n) (sym (ap line_ends e.text_is ∙ ends_append e.front (10 ∷ []))) some

-- The first of some lines, and what comes after it.
pub record HasFirst (text : List ℕ) : Type 0 where
  pub line : List ℕ
  pub more : List ℕ
  pub plain : AllByRecursion (λ (byte : ℕ). byte ≢ 10) line
  pub text_is : text ≡ line ++ 10 ∷ more

first_of : (front more : List ℕ) → HasFirst (front ++ 10 ∷ more)
first_of [] more = record { line = []; more = more; plain = tt; text_is = refl }
first_of (c ∷ front) more = go (eqb c 10) refl (first_of front more)
  where
    go : (b : Bool) → eqb c 10 ≡ b → HasFirst (front ++ 10 ∷ more) → HasFirst (c ∷ front ++ 10 ∷ more)
    go true is h = record { line = []; more = front ++ 10 ∷ more; plain = tt; text_is = ap (λ (d : ℕ). d ∷ (front ++ 10 ∷ more)) (eqb-true c 10 is) }
    go false is h = record { line = c ∷ h.line; more = h.more; plain = (eqb-false c 10 is, h.plain); text_is = ap (λ (l : List ℕ). c ∷ l) h.text_is }

pub first_line : (c : ℕ) (w : List ℕ) → AreLines (c ∷ w) → HasFirst (c ∷ w)
first_line c w (inl none) = absurd (never_none c w none)
first_line c w (inr e) = subst HasFirst (sym e.text_is) (first_of e.front [])

-- ---- Two fronts of a text

-- The second front has more than the first, and its rest is shorter.
pub record IsLonger (a b x y : List ℕ) : Type 0 where
  pub more : List ℕ
  pub front : b ≡ a ++ more
  pub rest : x ≡ more ++ y

pub two_fronts : (a b x y : List ℕ) → a ++ x ≡ b ++ y → IsLonger a b x y ⊎ IsLonger b a y x
two_fronts [] b x y e = inl (record { more = b; front = refl; rest = e })
two_fronts (c ∷ a) [] x y e = inr (record { more = c ∷ a; front = refl; rest = sym e })
two_fronts (c ∷ a) (d ∷ b) x y e =
    let same : c ≡ d = first_is c d (a ++ x) (b ++ y) e in
    elim (two_fronts a b x y (others_are c d (a ++ x) (b ++ y) e)) [
      | inl m ↦ inl (record { more = m.more; front = ap (λ (l : List ℕ). d ∷ l) m.front ∙ ap (λ (n : ℕ). n ∷ (a ++ m.more)) (sym same); rest = m.rest })
      | inr m ↦ inr (record { more = m.more; front = ap (λ (l : List ℕ). c ∷ l) m.front ∙ ap (λ (n : ℕ). n ∷ (b ++ m.more)) same; rest = m.rest })
    ]

-- ---- Without the last line

-- The text is one that P holds of, and one line more.
pub record HasLast (P : List ℕ → Type 0) (text : List ℕ) : Type 0 where
  pub before : List ℕ
  pub line : List ℕ
  pub inner : IsInner line
  pub text_is : text ≡ before ++ line ++ 10 ∷ []
  pub less : P before

-- Where P holds of a text without its last line, it does of any first lines of it.
module _ (P : List ℕ → Type 0) (most : ℕ) (one_less : (text : List ℕ) → length text < most → P text → (text ≡ []) ⊎ HasLast P text) where
  pub are_lines : (text : List ℕ) → length text < most → P text → AreLines text
  are_lines text short p =
      elim (one_less text short p) [
        | inl none ↦ inl none
        | inr h ↦ inr (record { front = h.before ++ h.line; text_is = h.text_is })
      ]

  -- A front that has more than all lines but the last has the last one too.
  all_or_none : (a : List ℕ) (c : ℕ) (more : List ℕ) → AreLines a → AreLines (c ∷ more) → (h : HasLast P (a ++ c ∷ more)) →
      (w : List ℕ) → a ≡ h.before ++ w → h.line ++ 10 ∷ [] ≡ w ++ c ∷ more → P a
  all_or_none a c more lines behind h [] front rest = subst P (sym (front ∙ append-nil h.before)) h.less
  all_or_none a c more lines behind h (d ∷ w) front rest =
      let one : line_ends (h.line ++ 10 ∷ []) ≡ 1 = one_end h.line h.inner in
      let sum : line_ends (h.line ++ 10 ∷ []) ≡ line_ends (d ∷ w) + line_ends (c ∷ more) = ap line_ends rest ∙ ends_append (d ∷ w) (c ∷ more) in
      let some : 0 < line_ends (d ∷ w) = some_ends d w (lines_behind h.before (d ∷ w) (subst AreLines front lines)) in
      let others : 0 < line_ends (c ∷ more) = some_ends c more behind in
      absurd (omega (arith, one, sum, some, others))

  pub fronts : (n : ℕ) (a more : List ℕ) → length more ≤ n → AreLines a → length (a ++ more) < most → P (a ++ more) → P a
  fronts n a [] within lines short p = subst P (append-nil a) p
  fronts zero a (c ∷ more) within lines short p = absurd (omega (arith, within))
  fronts (suc n) a (c ∷ more) within lines short p =
      elim (one_less (a ++ c ∷ more) short p) [
        | inl none ↦ absurd (never_none c more (none_behind a (c ∷ more) none))
        | inr h ↦ elim (two_fronts a h.before (c ∷ more) (h.line ++ 10 ∷ []) (h.text_is ∙ append_assoc h.before h.line (10 ∷ []))) [
          | inl l ↦
              (let last : length (c ∷ more) ≡ length l.more + length (h.line ++ 10 ∷ []) = ap length l.rest ∙ length-append l.more (h.line ++ 10 ∷ []) in
              let one : length (h.line ++ 10 ∷ []) ≡ length h.line + 1 = length-append h.line (10 ∷ []) in
              let whole : length (a ++ c ∷ more) ≡ length a + length (c ∷ more) = length-append a (c ∷ more) in
              let shorter : length (a ++ l.more) ≡ length a + length l.more = length-append a l.more in
              fronts n a l.more (omega (arith, within, last, one)) lines (omega (arith, short, last, whole, shorter)) (subst P l.front h.less))
          | inr l ↦ all_or_none a c more lines (lines_behind a (c ∷ more) (are_lines (a ++ c ∷ more) short p)) h l.more l.front l.rest
        ]
      ]
