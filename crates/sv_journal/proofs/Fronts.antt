-- Text that is written behind another, and taken back.
use mathlib.Core.List.{IsPrefix}
use Rattle.std.proofs.Common.{◌≡◌, ℕ, ◌≤◌, IsUtf8, length, take, String, string_bytes, string_len, sym, subst, ap, ◌∙◌, length-append, arith}
use Rattle.std.specs.String.Boundary.{IsSplitPoint}
use Rattle.std.proofs.lemmas.Str.{IsUtf8-string_bytes, IsCharBoundary-from_take}
use Rattle.std.proofs.Math.Seq.{take-append_seam}

-- what is left before the old length is the old text
pub taken_back : {Z : Type 0} (old new : String Z) (n : ℕ) → n ≡ string_len old → IsPrefix (string_bytes old) (string_bytes new) → take n (string_bytes new) ≡ string_bytes old
taken_back old new n is p =
    ap (λ k. take k (string_bytes new)) (is ∙ old.bytes.ok.0) ∙ ap (take (length (string_bytes old))) (sym p.1) ∙ take-append_seam (string_bytes old) p.0

-- a text may be cut behind one that it begins with
pub may_cut : {Z : Type 0} (old new : String Z) (n : ℕ) → n ≡ string_len old → IsPrefix (string_bytes old) (string_bytes new) → IsSplitPoint (string_bytes new) n
may_cut old new n is p =
    let short : n ≤ length (string_bytes new) = subst (λ w. n ≤ length w) p.1 (omega (arith, is, old.bytes.ok.0, length-append (string_bytes old) p.0)) in
    let text = subst IsUtf8 (sym (taken_back old new n is p)) (IsUtf8-string_bytes old) in
    (short, λ _. (IsCharBoundary-from_take (string_bytes new) n (IsUtf8-string_bytes new) short text).1)
