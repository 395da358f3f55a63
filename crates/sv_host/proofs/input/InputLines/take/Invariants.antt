-- What the bytes that are taken left.
use Rattle.std.proofs.Common.{◌≡◌, List, ℕ, drop}
use Rattle.sv_host.specs.Inputs.{IsAtLine}
use Rattle.sv_host.proofs.Behind.{Gone}
use Rattle.sv_host.proofs.input.InputLines.take.Given as goal

abbrev pub invariant-loop-byte : goal.invariant-loop-byte
invariant-loop-byte l = (line : List ℕ) → IsAtLine l.fn.self line → Gone line l.self l.piece (drop l.byte-index l.piece)
