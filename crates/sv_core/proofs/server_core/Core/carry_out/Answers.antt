-- What the check leaves to prove of `Core::carry_out`.
use Rattle.sv_core.proofs.Quiet.{nothing-changes}
use Rattle.sv_core.proofs.server_core.Core.carry_out.Goals as goal

pub answer_plainly-requires : goal.answer_plainly-requires
answer_plainly-requires g c =
    let other = c.in_default in
    let plain = nothing-changes c.args.decision other.not-Welcome other.not-Drop other.not-Deny other.not-Relay other.not-Accept other.not-See other.not-Note in
    (c.requires.0, (c.requires.1.0, (c.requires.1.1.0, (c.requires.1.1.1, plain))))
