-- What is proved by hand of `line_end`.
use Rattle.std.proofs.Common.{arith}
use Rattle.sv_log.proofs.Mended.{plain_nil, plain_more, at_zero, at_line, at_end}
use Rattle.sv_log.proofs.mending.line_end.Goals as goal

pub loop-i-init : goal.loop-i-init
loop-i-init c = plain_nil

pub loop-i-preserved : goal.loop-i-preserved
loop-i-preserved c = plain_more c.args.bytes.now c.loop-i.i c.loop-i-test.true c.if-byte-eq0.false c.if-byte-eq10.false c.loop-i.invariant

pub returns-then-byte-eq0 : goal.returns-then-byte-eq0
returns-then-byte-eq0 c = at_zero c.args.bytes.now c.loop-i.i c.loop-i-test.true c.if-byte-eq0.true c.loop-i.invariant

pub returns-then-byte-eq10 : goal.returns-then-byte-eq10
returns-then-byte-eq10 c = (omega arith, omega (arith, c.loop-i-test.true), at_line c.args.bytes.now c.loop-i.i c.loop-i-test.true c.if-byte-eq10.true c.loop-i.invariant)

pub returns : goal.returns
returns c = at_end c.args.bytes.now c.loop-i.i (omega (arith, c.loop-i-test.false)) c.loop-i.invariant
