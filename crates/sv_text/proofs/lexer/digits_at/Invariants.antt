-- The digits so far, and the number that they write.
use Rattle.std.proofs.Common.{◌≡◌, ◌≤◌, ◌+◌, ◌-◌, length, min}
use Rattle.sv_text.specs.Tokens.{digits_at, value_after, value_of}
use Rattle.sv_text.proofs.lexer.digits_at.Given as goal

abbrev pub invariant-loop-value : goal.invariant-loop-value
invariant-loop-value l = record {
  from : l.at ≤ l.end;
  small : l.value ≤ 18446744073709551615;
  counted : l.end + length (digits_at l.end l.bytes) ≡ l.at + length (digits_at l.at l.bytes);
  told : min (value_after l.value (digits_at l.end l.bytes)) 18446744073709551615 ≡ min (value_of (digits_at l.at l.bytes)) 18446744073709551615;
}

abbrev pub decreases-loop-value : goal.decreases-loop-value
decreases-loop-value l = length l.bytes - l.end
