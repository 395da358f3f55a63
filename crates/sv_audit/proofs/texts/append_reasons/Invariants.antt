-- The lines of the positions so far.
use Rattle.std.proofs.Common.{◌≡◌, ◌++◌, take, reverse, string_bytes}
use Rattle.std.specs.List.{flat_map}
use Rattle.sv_journal.specs.History.{accepted}
use Rattle.sv_audit.specs.Texts.{reason_line}
use Rattle.sv_audit.proofs.texts.append_reasons.Given as goal

abbrev pub invariant-loop-pos : goal.invariant-loop-pos
invariant-loop-pos l = string_bytes l.out ≡ string_bytes l.initial.out ++ flat_map (reason_line (accepted (reverse l.journal.entries))) (take l.pos-index l.positions)
