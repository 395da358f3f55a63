-- The line ends so far and those of the bytes left are all, in 32 bits.
use Rattle.std.proofs.Common.{◌≡◌, ◌+◌, ◌%◌, ◌^◌, drop}
use Rattle.sv_lines.specs.Lines.{line_ends}
use Rattle.sv_lines.proofs.lines.line_ends.Given as goal

abbrev pub invariant-loop-byte : goal.invariant-loop-byte
invariant-loop-byte l = (l.count + line_ends (drop l.byte-index l.text)) % 2 ^ 32 ≡ line_ends l.text % 2 ^ 32
