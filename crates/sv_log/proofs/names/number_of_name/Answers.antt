-- What is proved by hand of `number_of_name`.
use Rattle.std.proofs.Common.{rules, ◌≡◌, ◌≢◌, ◌∙◌, ◌+◌, ◌++◌, ◌<◌, ℕ, List, codes, length, take, drop, ap, sym, subst, arith, take-append-drop}
use Rattle.sv_log.specs.Names.{digits, HasDigits, number_part, IsNumber}
use Rattle.sv_log.proofs.Numbers.{match_more, length-part, part_digits, part_ending, part_joined, part_value}
use Rattle.sv_log.proofs.names.number_of_name.Goals as goal

pub returns-then-rest : goal.returns-then-rest
returns-then-rest c n is e = let size : length c.args.rest.now ≡ 24 = ap length e ∙ length-part n in absurd (omega (arith, c.if-rest.true, size))

pub returns-then-ne : goal.returns-then-ne
returns-then-ne c n is e =
    let differ : c.split_at.result.1.now ≢ codes ".txt" = search rules in
    let back : c.split_at.result.1.now ≡ drop 20 c.args.rest.now = c.split_at.ensures.back in
    differ (back ∙ ap (drop 20) e ∙ part_ending n)

pub returns-in_default : goal.returns-in_default
returns-in_default c n number e =
    c.in_default.ensures n (omega (arith, number.1))
    (c.split_at.ensures.front ∙ ap (take 20) e ∙ part_digits n ∙ ap (λ (k : ℕ). digits k n) (sym c.split_at.ensures.front_len))

pub returns : goal.returns
returns c =
    let rest = c.args.rest.now in
    let front = c.split_at.result.0.now in
    let m = c.in-Some.number in
    let ends : c.split_at.result.1.now ≡ codes ".txt" = search rules in
    let joined : rest ≡ front ++ c.split_at.result.1.now =
    sym (take-append-drop 20 rest) ∙ ap (λ (l : List ℕ). l ++ drop 20 rest) (sym c.split_at.ensures.front) ∙ ap (λ (l : List ℕ). front ++ l) (sym c.split_at.ensures.back) in
    match_more c.counted.result _ _ _ _ c.counted.ensures
    (λ none n number e. none (subst IsNumber (sym (part_value m n front c.in-Some.ensures c.split_at.ensures.front_len (omega (arith, number.1))
    (c.split_at.ensures.front ∙ ap (take 20) e ∙ part_digits n))) number))
    (λ x is. (is.1, joined ∙ part_joined m front c.split_at.result.1.now c.in-Some.ensures c.split_at.ensures.front_len ends ∙ ap number_part (sym is.0)))
