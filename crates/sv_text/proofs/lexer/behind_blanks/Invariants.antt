-- The bytes behind the blanks have the tokens that all have.
use Rattle.std.proofs.Common.{◌≡◌, ◌≤◌, ◌-◌, length, drop}
use Rattle.sv_text.specs.Tokens.{tokens_from}
use Rattle.sv_text.proofs.lexer.behind_blanks.Given as goal

abbrev pub invariant-loop-is_glued : goal.invariant-loop-is_glued
invariant-loop-is_glued l = record {
  within : l.end ≤ length l.bytes;
  told : tokens_from 0 l.end l.is_glued (drop l.end l.bytes) ≡ tokens_from 0 l.at l.glued (drop l.at l.bytes);
}

abbrev pub decreases-loop-is_glued : goal.decreases-loop-is_glued
decreases-loop-is_glued l = length l.bytes - l.end
