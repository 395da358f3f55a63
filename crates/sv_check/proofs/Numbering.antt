-- The number of a wrong line.
use Rattle.std.proofs.Common.{◌≡◌, ◌⊎◌, inl, inr, ℕ, suc, ◌+◌, ◌-◌, ◌%◌, ◌^◌, ◌<◌, ◌≤◌, eqb, List, [], ◌∷◌, length, length-append, take, get_or, sym, ap, subst, ◌∙◌, arith}
use Rattle.std.proofs.Math.Nat.{mod-eq_of_lt}
use Rattle.std.proofs.Math.Seq.{take-append_seam}
use Rattle.std.proofs.lemmas.Bool.{cond_both}
use Rattle.sv_lines.specs.Lines.{line_ends}
use Rattle.sv_scenario.specs.declared.scenario.Scenario.{Scenario}
use Rattle.sv_check.specs.Either.{IsPart}
use Rattle.sv_check.specs.Stopping.{IsTextStop}
use Rattle.sv_check.specs.Wrong.{IsFirstWrong}

ends_most : (text : List ℕ) → line_ends text ≤ length text
ends_most [] = omega arith
ends_most (c ∷ text) =
    let more = ends_most text in
    cond_both (eqb c 10) (suc (line_ends text)) (line_ends text) (λ (n : ℕ). n ≤ suc (length text)) (λ t. omega (arith, more)) (λ t. omega (arith, more))

-- A text that begins with a `j` has a byte that ends no line.
ends_fewer : (text : List ℕ) → get_or text 0 0 ≡ 106 → line_ends text < length text
ends_fewer [] e = absurd (omega (arith, e))
ends_fewer (c ∷ text) e =
    let more = ends_most text in
    let less : line_ends text < suc (length text) = omega (arith, more) in
    subst (λ (b : ℕ). line_ends (b ∷ text) < suc (length text)) (sym e) less

begins : (scenario : Scenario) (text : List ℕ) → IsPart scenario text → (text ≡ []) ⊎ (get_or text 0 0 ≡ 106)
begins scenario text (inl (inl e)) = inl e
begins scenario text (inl (inr (inl p))) = inr (ap (λ (l : List ℕ). get_or l 0 0) p.text_is)
begins scenario text (inl (inr (inr (inl p)))) = inr (ap (λ (l : List ℕ). get_or l 0 0) p.text_is)
begins scenario text (inl (inr (inr (inr p)))) = inr (ap (λ (l : List ℕ). get_or l 0 0) p.text_is)
begins scenario text (inr h) = inr (ap (λ (l : List ℕ). get_or l 0 0) h.1.text_is)

few_ends : (scenario : Scenario) (text : List ℕ) → IsPart scenario text → length text < 2 ^ 32 → line_ends text + 1 < 2 ^ 32
few_ends scenario text p short = elim (begins scenario text p) [
  | inl e ↦ (let none : line_ends text ≡ 0 = ap line_ends e in omega (arith, none))
  | inr e ↦ (let fewer = ends_fewer text e in omega (arith, fewer, short))
]

-- The line at which the reading stopped is the first wrong one, and this is its number.
pub first_wrong : (scenario : Scenario) (text : List ℕ) (left : ℕ) (front : List ℕ) (ends n : ℕ) → length text < 2 ^ 32 → IsTextStop scenario text left →
    front ≡ take (length text - left) text → ends ≡ line_ends front % 2 ^ 32 → n ≡ (ends + 1) % 2 ^ 32 → IsFirstWrong scenario text n
first_wrong scenario text left front ends n short s f e is =
    let split = s.split in
    let sum = length-append s.before s.rest in
    let size = ap length split in
    let left_is = s.left_is in
    let width : length text - left ≡ length s.before = omega (arith, sum, size, left_is) in
    let front_is : front ≡ s.before =
    f ∙ ap (λ (m : ℕ). take m text) width ∙ ap (λ (l : List ℕ). take (length s.before) l) split ∙ take-append_seam s.before s.rest in
    let few = few_ends scenario s.before s.part (omega (arith, sum, size, short)) in
    let low : line_ends s.before < 2 ^ 32 = omega (arith, few) in
    let lines : ends ≡ line_ends s.before = e ∙ ap (λ (l : List ℕ). line_ends l % 2 ^ 32) front_is ∙ mod-eq_of_lt low in
    let next : suc (line_ends s.before) ≡ line_ends s.before + 1 = omega arith in
    record {
      before = s.before;
      rest = s.rest;
      split = split;
      number = is ∙ ap (λ (m : ℕ). (m + 1) % 2 ^ 32) lines ∙ mod-eq_of_lt few ∙ sym next;
      part = s.part;
      wrong = s.wrong;
      none = s.none;
    }
