-- The disputes that are still to be told.
use Rattle.std.proofs.Common.{◌≡◌, ◌++◌, string_bytes, drop}
use Rattle.std.specs.List.{flat_map}
use Rattle.sv_witness.specs.Lines.{dispute_line}
use Rattle.sv_witness.proofs.lines.append_disputes.Given as goal

-- the text so far and that of the disputes left are the whole
abbrev pub invariant-loop-dispute : goal.invariant-loop-dispute
invariant-loop-dispute l = string_bytes l.out ++ flat_map dispute_line (drop l.dispute-index l.disputes) ≡ string_bytes l.fn.out ++ flat_map dispute_line l.disputes
