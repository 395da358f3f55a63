-- What is proved by hand of `causes_are_told`.
use Rattle.std.proofs.Common.{ap, ◌∙◌}
use Rattle.sv_entries.specs.Asking.{cause_numbered}
use Rattle.sv_entries.proofs.ReadLines.{cause_is_read, cause_has_number, number_of_cause}
use Rattle.sv_entries.proofs.laws.causes_are_told.Goals as goal

pub returns : goal.returns
returns c = record { told = cause_is_read; numbers = λ n cause. (number_of_cause n cause, λ e. ap cause_numbered e ∙ cause_has_number cause) }
