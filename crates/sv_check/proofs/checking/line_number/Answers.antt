-- What is proved by hand of `line_number`.
use Rattle.std.proofs.Common.{◌+◌, ◌^◌, ◌%◌, refl}
use Rattle.sv_check.proofs.Numbering.{first_wrong}
use Rattle.sv_check.proofs.checking.line_number.Goals as goal

pub returns : goal.returns
returns c =
    first_wrong c.args.scenario.now c.args.text.now c.args.left c.front.result.now c.line_ends.result ((c.line_ends.result + 1) % 2 ^ 32)
    c.requires.short c.requires.stop c.front.ensures c.line_ends.ensures refl
