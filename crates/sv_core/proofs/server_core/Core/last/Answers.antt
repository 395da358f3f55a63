-- What the check leaves to prove of `Core::last`.
use Rattle.std.proofs.Common.{◌∙◌}
use Rattle.sv_core.proofs.server_core.Core.last.Goals as goal

pub returns : goal.returns
returns c = λ h k. c.last.ensures ∙ k.fits.last
