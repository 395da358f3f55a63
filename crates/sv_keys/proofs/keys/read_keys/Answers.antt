-- What was read is all, since more was asked for.
use Rattle.std.proofs.Common.{sym, arith}
use Rattle.sv_keys.proofs.Numbers.{all_of}
use Rattle.sv_keys.proofs.keys.read_keys.Goals as goal

pub returns-clause-all : goal.returns-clause-all
returns-clause-all g c = λ all e.
    let front = rw e at c.in-Ok.ensures.front in
    let few = c.if-as_slice-gt-MOST_KEY_BYTES.false in
    all_of 16777217 all c.in-Ok.bytes.items front.0 (rw (sym c.as_slice.ensures.value) (omega (arith, few)))
