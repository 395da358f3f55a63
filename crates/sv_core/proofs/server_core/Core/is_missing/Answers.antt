-- What the check leaves to prove of `Core::is_missing`.
use Rattle.std.proofs.Common.{◌∙◌, arith}
use Rattle.sv_core.specs.Cores.{core_rules}
use Rattle.sv_core.proofs.AgreeSteps.{sent_seats, named_seats}
use Rattle.sv_core.proofs.Missing.{missing-is}
use Rattle.sv_core.proofs.server_core.Core.is_missing.Goals as goal

pub is_missing-requires-clause-last : goal.is_missing-requires-clause-last
is_missing-requires-clause-last c = omega (arith, c.requires.1.1, c.requires.1.0.fits.last)

pub returns : goal.returns
returns c = λ h k.
    c.is_missing.ensures
    ∙ missing-is (core_rules c.args.self.now) h c.args.self.now.queue (sent_seats h c.args.self.now.sessions.items) (named_seats h c.args.self.now.sessions.items) c.args.pos k.commit (omega (arith, c.requires.1.1, c.requires.1.0.fits.last, k.fits.last)) k.fits
