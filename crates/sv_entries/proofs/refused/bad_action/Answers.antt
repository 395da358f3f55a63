-- What is proved by hand of `bad_action`.
use Rattle.std.proofs.Common.{Some, sym, ap, ◌∙◌}
use Rattle.sv_entries.proofs.Faulty.{too_many_reads, made_is_refused}
use Rattle.sv_entries.proofs.refused.bad_action.Goals as goal

pub returns-in-TooManyReads : goal.returns-in-TooManyReads
returns-in-TooManyReads c =
    made_is_refused c.single-in-TooManyReads.result _ c.args.shape c.args.cause c.single-in-TooManyReads.ensures (too_many_reads c.args.shape ∙ ap Some (sym c.in-TooManyReads.is))
