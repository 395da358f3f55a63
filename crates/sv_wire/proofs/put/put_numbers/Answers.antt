-- What is proved by hand of `put_numbers`.
use Rattle.std.proofs.Common.{◌≡◌, ◌++◌, get_or, pos, refl, SFits, rules}
use Rattle.std.proofs.lemmas.Int.{to_z-of_z}
use Rattle.std.specs.Int.{w64}
use Rattle.sv_wire.specs.Spelling.{int_bytes}
use Rattle.sv_wire.proofs.Append.{written_more}
use Rattle.sv_wire.proofs.put.put_numbers.Goals as goal

pub loop-number-preserved : goal.loop-number-preserved
loop-number-preserved c =
    let number = get_or c.args.numbers.now c.loop-number.number-index (pos 0) in
    let fits : SFits w64 number = search rules in
    let put : c.put_i64.new.out.items ≡ c.loop-number.out.items ++ int_bytes w64 number = rw (to_z-of_z w64 number fits) at c.in_ok-put_i64.ensures in
    written_more (int_bytes w64) c.args.numbers.now c.loop-number.number-index number (pos 0) c.args.out.now.items c.loop-number.out.items c.put_i64.new.out.items c.loop-number-test.true refl c.loop-number.invariant put
