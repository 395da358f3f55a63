-- The last line of a state.
use Rattle.std.proofs.Common.{◌≡◌, ◌↔◌, ℕ, ◌+◌, ◌-◌, ◌*◌, ◌<◌, ◌≤◌, List, [], ◌∷◌, ◌++◌, length, take, drop, codes, Some, refl, sym, ◌∙◌, ap, subst, arith, length-append, take-append-drop}
use Rattle.std.proofs.lemmas.List.{take_at, drop_at}
use Rattle.sha2.specs.Sha256.{sha256}
use Rattle.sha2.proofs.Facts256.{length-sha256}
use Rattle.hex.specs.Hex.{encode_with, encode_lower, lower_digits}
use Rattle.sv_log.specs.Chains.{IsWholeState, sum_line}

length_encoded : (t xs : List ℕ) → length (encode_with t xs) ≡ 2 * length xs
unfolding encode_with
length_encoded t [] = refl
length_encoded t (b ∷ xs) = let below = length_encoded t xs in omega (arith, below)

length-sum_line : (bytes : List ℕ) → length (sum_line bytes) ≡ 69
length-sum_line bytes =
    let digest : length (encode_lower (sha256 bytes)) ≡ 2 * length (sha256 bytes) = length_encoded lower_digits (sha256 bytes) in
    let size : length (sha256 bytes) ≡ 32 = length-sha256 bytes in
    let front : length (codes "sum " ++ encode_lower (sha256 bytes)) ≡ 4 + length (encode_lower (sha256 bytes)) = length-append (codes "sum ") (encode_lower (sha256 bytes)) in
    length-append (codes "sum " ++ encode_lower (sha256 bytes)) (10 ∷ []) ∙ (let e : length (codes "sum " ++ encode_lower (sha256 bytes)) + 1 ≡ 69 = omega (arith, front, digest, size) in e)

pub short_no_state : (bytes : List ℕ) → length bytes < 69 → IsWholeState (Some bytes) → ⊥
short_no_state bytes short whole =
    let size : length bytes ≡ length whole.0 + length (sum_line whole.0) = ap length whole.1 ∙ length-append whole.0 (sum_line whole.0) in
    let line : length (sum_line whole.0) ≡ 69 = length-sum_line whole.0 in
    absurd (omega (arith, size, line, short))

pub sum_whole : (bytes before last : List ℕ) → before ≡ take (length bytes - 69) bytes → last ≡ drop (length bytes - 69) bytes → (last ≡ sum_line before) ↔ IsWholeState (Some bytes)
sum_whole bytes before last front back = (
  (λ line. (before, sym (take-append-drop (length bytes - 69) bytes) ∙ ap (λ (l : List ℕ). l ++ drop (length bytes - 69) bytes) (sym front) ∙ ap (λ (l : List ℕ). before ++ l) (sym back ∙ line))),
  (λ whole.
      let size : length bytes ≡ length whole.0 + length (sum_line whole.0) = ap length whole.1 ∙ length-append whole.0 (sum_line whole.0) in
      let line : length (sum_line whole.0) ≡ 69 = length-sum_line whole.0 in
      let at : length whole.0 ≡ length bytes - 69 = omega (arith, size, line) in
      let same : before ≡ whole.0 = front ∙ ap (take (length bytes - 69)) whole.1 ∙ take_at whole.0 (sum_line whole.0) (length bytes - 69) at in
      back ∙ ap (drop (length bytes - 69)) whole.1 ∙ drop_at whole.0 (sum_line whole.0) (length bytes - 69) at ∙ ap sum_line (sym same)),
)
