-- A bit stands at or above the number of reads where the mask is at least that power.
use Rattle.std.proofs.Common.{◌≡◌, false, nat_lt, sym, ◌∙◌, arith}
use Rattle.std.proofs.lemmas.Bool.Decides.{nat_tests}
use Rattle.sv_world.specs.Faults.{has_bad_mask}
use Rattle.sv_world.proofs.Masks.{bits_above, none_above}
use Rattle.sv_world.proofs.check.has_bad_mask.Goals as goal

pub returns-then-reads-lt-MOST_READS : goal.returns-then-reads-lt-MOST_READS
unfolding has_bad_mask
returns-then-reads-lt-MOST_READS c = rw c.len-reads.ensures (bits_above _ _)

pub returns-else-reads-lt-MOST_READS : goal.returns-else-reads-lt-MOST_READS
unfolding has_bad_mask
returns-else-reads-lt-MOST_READS c =
    let off : nat_lt c.len-reads.result 16 ≡ false = grind (arith, nat_tests) in
    off ∙ sym (none_above _ _ (omega arith) (omega (arith, c.len-reads.ensures)))
