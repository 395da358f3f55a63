-- The loop invariant of `find`.
use Rattle.std.proofs.Common.{◌≡◌, drop}
use Rattle.sv_bytes.specs.Stored.{contents_of}
use Rattle.sv_log.proofs.replay.find.Given as goal

abbrev pub invariant-loop-file : goal.invariant-loop-file
invariant-loop-file l = contents_of (drop l.file-index l.stored) l.name ≡ contents_of l.stored l.name
