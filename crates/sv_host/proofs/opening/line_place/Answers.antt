-- A place is spelled.
use Rattle.std.proofs.Common.{sym, ◌∙◌}
use Rattle.std.specs.Fmt.{decimal}
use Rattle.sv_host.proofs.Top2.{line_spelled, ok_as}
use Rattle.sv_host.proofs.opening.line_place.Goals as goal

pub returns : goal.returns
returns c = ok_as c.format.result (λ s e. e ∙ sym (line_spelled c.args.file.now (decimal c.args.line) c.args.word.now)) c.format.ensures.ok
