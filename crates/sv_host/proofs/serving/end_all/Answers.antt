-- What was entered is durable, or not.
use Rattle.sv_office.proofs.Knowing.{still_durable, trusted_still}
use Rattle.sv_host.proofs.serving.end_all.Goals as goal

pub returns-in-Ok-clause-trusted : goal.returns-in-Ok-clause-trusted
returns-in-Ok-clause-trusted g c = λ steward is.
    trusted_still c.end_each.new.keeper c.make_durable.new.self steward c.make_durable.ensures.world
    (still_durable c.end_each.new.keeper c.make_durable.new.self (λ b. (c.make_durable.ensures.broken b).0)) (c.end_each.ensures.trusted steward is)

pub returns-in-Err-clause-trusted : goal.returns-in-Err-clause-trusted
returns-in-Err-clause-trusted g c = λ steward is.
    trusted_still c.end_each.new.keeper c.make_durable.new.self steward c.make_durable.ensures.world
    (still_durable c.end_each.new.keeper c.make_durable.new.self (λ b. (c.make_durable.ensures.broken b).0)) (c.end_each.ensures.trusted steward is)
