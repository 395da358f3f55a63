-- How it ends by what was asked for.
use Rattle.std.proofs.Common.{refl}
use Rattle.sv_host.specs.Causes.{EndsFor}
use Rattle.sv_host.specs.Words.{asked_by}
use Rattle.sv_host.proofs.top.ending_of.Goals as goal

pub returns-in-Err-Words-clause-why : goal.returns-in-Err-Words-clause-why
returns-in-Err-Words-clause-why g c = EndsFor.nothing (c.in-Err-Words.ensures.err c.in-Err-Words.field-0-is) refl

pub returns-in-Err-Memory-clause-why : goal.returns-in-Err-Memory-clause-why
returns-in-Err-Memory-clause-why g c = EndsFor.memory refl

pub returns-in-Ok-run-clause-words : goal.returns-in-Ok-run-clause-words
returns-in-Ok-run-clause-words g c = λ nothing. absurd (nothing (asked_by c.in-Ok.options) c.in-Ok.ensures.ok)

pub returns-in-Ok-run-clause-why : goal.returns-in-Ok-run-clause-why
returns-in-Ok-run-clause-why g c = EndsFor.served (asked_by c.in-Ok.options) c.in-Ok.ensures.ok c.in-Ok-run.ensures.done

pub returns-clause-words : goal.returns-clause-words
returns-clause-words g c = λ nothing. absurd (nothing (asked_by c.in-Ok.options) c.in-Ok.ensures.ok)

pub returns-clause-why : goal.returns-clause-why
returns-clause-why g c = EndsFor.early (asked_by c.in-Ok.options) c.in-Ok.ensures.ok c.in-Err.ensures.why c.in-Err.ensures.wrote
