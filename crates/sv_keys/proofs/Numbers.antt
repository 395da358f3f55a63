-- Texts that write no number, and lists that are cut.
use Rattle.std.proofs.Common.{◌≡◌, ℕ, ◌<◌, ◌≤◌, ◌^◌, Bool, true, false, List, length, take, Option, Some, None, ap, refl, sym, subst, ◌∙◌, arith, min}
use Rattle.std.specs.Prelude.{nat_le}
use Rattle.std.specs.Fmt.{decimal}
use Rattle.std.specs.Str.{IsUtf8, bytes_eq}
use Rattle.std.specs.Str.Parse.{digits_value}
use Rattle.std.proofs.lemmas.Bool.{leb-true}
use Rattle.std.proofs.lemmas.Fmt.{IsAscii-decimal}
use Rattle.std.proofs.lemmas.List.{length-take, take_min}
use Rattle.std.proofs.lemmas.Slice.Eq.{bytes_eq-Decides}
use Rattle.std.proofs.lemmas.Str.{IsUtf8-from_ascii}
use Rattle.std.proofs.Math.Seq.{take-length}
use Rattle.std.specs.Prelude.{Result, Ok, Err}
use Rattle.std.specs.Result.{result_ok}
use Rattle.hex.specs.Hex.{decode_sized}
use Rattle.sv_keys.specs.Cuts.{behind}
use Rattle.sv_keys.specs.KeyLines.{IsRow}
use Rattle.sv_keys.specs.declared.line.KeyRow.{KeyRow}
use Rattle.sv_ending.specs.Numbers.{number_if, number_between}

-- What is no text writes no number.
pub no_number : (text : List ℕ) → (IsUtf8 text → ⊥) → number_between 0 65535 text ≡ None
no_number text never = none_if (digits_value 10 text)
  where
    none_if : (n : ℕ) → number_if 0 65535 n text ≡ None
    none_if n = go (nat_le 0 n) (nat_le n 65535) (bytes_eq text (decimal n)) refl refl refl
      where
        go : (a b e : Bool) → nat_le 0 n ≡ a → nat_le n 65535 ≡ b → bytes_eq text (decimal n) ≡ e → number_if 0 65535 n text ≡ None
        go true true true p q r =
            let small = leb-true n 65535 q in
            absurd (never (subst IsUtf8 (sym ((bytes_eq-Decides text (decimal n)).0 r)) (IsUtf8-from_ascii (decimal n) (IsAscii-decimal n (omega (arith, small))))))
        go false b e p q r = rw p refl
        go true false e p q r = rw p (rw q refl)
        go true true false p q r = rw p (rw q (rw r refl))

-- A front that is shorter than was asked for is all.
pub all_of : (n : ℕ) (all bytes : List ℕ) → bytes ≡ take n all → length bytes < n → bytes ≡ all
all_of n all bytes e short =
    let size : length bytes ≡ min n (length all) = rw e (length-take n all) in
    let few : min n (length all) ≡ length all = omega (arith, size, short) in
    e ∙ sym (take_min n all) ∙ (rw few (take-length all))

-- A text whose digits give no digest is no key.
pub no_digest : (text more : List ℕ) → more ≡ behind 32 text → None ≡ result_ok (decode_sized (take 64 more) 32) → (row : KeyRow) → IsRow text row → ⊥
no_digest text more e none row r = never (subst (λ (xs : List ℕ). None ≡ result_ok (decode_sized (take 64 xs) 32)) e none ∙ ap result_ok r.digest)
  where
    never : {x : List ℕ} → None ≡ Some x → ⊥
    never e = cc
