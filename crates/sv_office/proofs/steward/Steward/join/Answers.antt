-- It joins, and takes the reply.
use Rattle.std.proofs.Common.{◌∙◌}
use Rattle.sv_office.proofs.Getting.{behind_is}
use Rattle.sv_office.proofs.steward.Steward.join.Goals as goal

pub returns-in_err-reply-clause-told : goal.returns-in_err-reply-clause-told
returns-in_err-reply-clause-told g c = λ told. behind_is c.begin_newest.new.keeper.world c.begin_newest.new.self c.begin_newest.ensures.behind

pub returns-in_err-take-clause-told : goal.returns-in_err-take-clause-told
returns-in_err-take-clause-told g c = λ told.
    behind_is c.begin_newest.new.keeper.world c.take.new.self (c.in_err-take.ensures.behind ∙ c.begin_newest.ensures.behind)
