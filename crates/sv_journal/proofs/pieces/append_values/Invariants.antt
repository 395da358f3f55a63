-- The loop invariant of `append_values`.
use Rattle.std.proofs.Common.{◌≡◌, ◌++◌, string_bytes, drop}
use Rattle.std.specs.List.{flat_map}
use Rattle.sv_journal.specs.Pieces.{value_text}
use Rattle.sv_journal.proofs.pieces.append_values.Given as goal

-- the text so far and that of the values left are the whole
abbrev pub invariant-loop-value : goal.invariant-loop-value
invariant-loop-value l = string_bytes l.out ++ flat_map value_text (drop l.value-index l.values) ≡ string_bytes l.fn.out ++ flat_map value_text l.values
