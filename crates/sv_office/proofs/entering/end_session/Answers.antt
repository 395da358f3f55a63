-- An End is entered, or nothing.
use Rattle.std.proofs.Common.{refl}
use Rattle.sv_office.proofs.Adding.{goes_by}
use Rattle.sv_office.proofs.Knowing.{trusted_ended}
use Rattle.sv_office.proofs.entering.end_session.Goals as goal

pub returns-in-Ok-clause-added : goal.returns-in-Ok-clause-added
returns-in-Ok-clause-added g c = goes_by c.enter.ensures.added (c.enter.ensures.serial (λ sound authority is joined. tt))

pub returns-in-Err-clause-added : goal.returns-in-Err-clause-added
returns-in-Err-clause-added g c = goes_by c.enter.ensures.added (c.enter.ensures.serial (λ sound authority is joined. tt))

pub returns-in-Ok-clause-trusted : goal.returns-in-Ok-clause-trusted
returns-in-Ok-clause-trusted g c = λ steward. trusted_ended _ _ steward c.args.session c.enter.ensures.one (c.enter.ensures.others refl)

pub returns-in-Err-clause-trusted : goal.returns-in-Err-clause-trusted
returns-in-Err-clause-trusted g c = λ steward. trusted_ended _ _ steward c.args.session c.enter.ensures.one (c.enter.ensures.others refl)
