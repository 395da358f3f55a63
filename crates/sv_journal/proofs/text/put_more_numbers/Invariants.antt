-- The loop invariant of `put_more_numbers`.
use mathlib.Core.List.{IsPrefix}
use Rattle.std.proofs.Common.{◌≡◌, ◌∷◌, ◌++◌, string_bytes, drop}
use Rattle.std.specs.List.{flat_map}
use Rattle.std.specs.Fmt.{signed_decimal}
use Rattle.sv_journal.proofs.text.put_more_numbers.Given as goal

-- the text so far and that of the numbers left are the whole
abbrev pub invariant-loop-number : goal.invariant-loop-number
invariant-loop-number l = record {
  whole : string_bytes l.out ++ flat_map (λ n. 44 ∷ signed_decimal n) (drop l.number-index l.numbers)
      ≡ string_bytes l.fn.out ++ flat_map (λ n. 44 ∷ signed_decimal n) l.numbers;
  front : IsPrefix (string_bytes l.fn.out) (string_bytes l.out);
}
