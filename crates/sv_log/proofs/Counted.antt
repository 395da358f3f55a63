-- Lines are counted piece by piece.
use Rattle.std.proofs.Common.{◌≡◌, ℕ, ◌+◌, ◌-◌, ◌≤◌, List, [], ◌∷◌, ◌++◌, Bool, true, false, cond, nat_eq, length, take, drop, sym, ap, ◌∙◌, arith}
use Rattle.std.proofs.lemmas.List.{take-append-drop, drop-drop}
use Rattle.sv_log.specs.Chains.{lines}
use Rattle.sv_log.proofs.Chained.{lines-append}

-- what is behind a place has the lines up to another place, and those behind that
pub lines-split : (text : List ℕ) (start end : ℕ) → start ≤ end → lines (drop start text) ≡ lines (take (end - start) (drop start text)) + lines (drop end text)
lines-split text start end ordered =
    let k = end - start in
    let same : start + k ≡ end = omega arith in
    ap lines (sym (take-append-drop k (drop start text)))
    ∙ (lines-append (take k (drop start text)) (drop k (drop start text))
    ∙ ap (λ (rest : List ℕ). lines (take k (drop start text)) + lines rest) (drop-drop k start text ∙ ap (λ (n : ℕ). drop n text) same))

one-or-none : (b : Bool) → cond b 1 0 ≤ 1
one-or-none true = omega arith
one-or-none false = omega arith

pub lines-few : (text : List ℕ) → lines text ≤ length text
lines-few [] = omega arith
lines-few (b ∷ text) = let more = lines-few text in let one = one-or-none (nat_eq b 10) in omega (arith, more, one)
