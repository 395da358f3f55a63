-- What the check leaves to prove of `plain_answer`.
use Rattle.sv_core.proofs.Quiet.{some-plain}
use Rattle.sv_core.proofs.carry.plain_answer.Goals as goal

pub unreachable-requires : goal.unreachable-requires
unreachable-requires c =
    let other = c.in_default in
    some-plain c.args.decision c.requires other.not-Refuse other.not-Repeat other.not-RepeatDenied other.not-Settle other.not-Idle other.not-Leave
