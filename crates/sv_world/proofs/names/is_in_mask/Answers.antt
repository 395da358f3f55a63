-- A slot past the bits of a mask is not in it.
use Rattle.std.proofs.Common.{◌≡◌, false, nat_lt, sym, ◌∙◌, arith}
use Rattle.std.proofs.lemmas.Bool.Decides.{nat_tests}
use Rattle.sv_world.proofs.Masks.{no_bit_past}
use Rattle.sv_world.proofs.names.is_in_mask.Goals as goal

pub returns-else-slot-lt-MOST_READS : goal.returns-else-slot-lt-MOST_READS
returns-else-slot-lt-MOST_READS c =
    let off : nat_lt c.args.slot 16 ≡ false = grind (arith, nat_tests) in
    off ∙ sym (no_bit_past c.args.mask c.args.slot (omega arith) (omega arith))
