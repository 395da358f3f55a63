-- A place is spelled.
use Rattle.std.proofs.Common.{sym, ◌∙◌}
use Rattle.sv_host.proofs.Top2.{file_spelled, ok_as}
use Rattle.sv_host.proofs.opening.file_place.Goals as goal

pub returns-then-line-eq0 : goal.returns-then-line-eq0
returns-then-line-eq0 c = ok_as c.format.result (λ s e. e ∙ sym (file_spelled c.args.file.now c.args.word.now c.args.line c.if-line-eq0.true)) c.format.ensures.ok
