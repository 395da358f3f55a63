-- What the check leaves to prove of `Witness::new`.
use Rattle.sv_witness.proofs.Stepped.{as-opened}
use Rattle.sv_witness.proofs.witness.Witness.new.Goals as goal

pub invariant_of-result : goal.invariant_of-result
invariant_of-result c =
    let opened = as-opened c.in_ok-core.core _ _ c.in_ok-core.journal.entries c.in_ok-core.ensures.empty c.new.ensures c.new-2.ensures.items c.in_ok-core.ensures.keeps c.in_ok-core.ensures.seats in
    record { keeps = opened.keeps; seats = opened.seats; stands = opened.stands; room = c.in_ok-core.ensures.room }
