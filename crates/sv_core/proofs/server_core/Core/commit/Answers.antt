-- What the check leaves to prove of `Core::commit`.
use Rattle.std.proofs.Common.{◌∙◌}
use Rattle.sv_core.proofs.server_core.Core.commit.Goals as goal

pub returns : goal.returns
returns c = λ h k. c.commit.ensures ∙ k.commit
