-- What is proved by hand of `line_at`.
use Rattle.std.proofs.Common.{ap, ◌∙◌}
use Rattle.sv_entries.specs.Asking.{line_read}
use Rattle.sv_entries.proofs.ReadLines.{gives_on, line_is_read}
use Rattle.sv_entries.proofs.read.line_at.Goals as goal

pub returns : goal.returns
returns c = λ n session request reply f g h e.
    gives_on _ c.read_line.result _ _ (ap (line_read c.args.shape) e ∙ line_is_read c.args.shape n session request reply f g h) c.read_line.ensures
