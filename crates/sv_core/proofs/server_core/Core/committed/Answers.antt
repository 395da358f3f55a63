-- What the check leaves to prove of `Core::committed`.
use Rattle.std.proofs.Common.{◌<◌, [], slice_index_or, sym, ◌∙◌, ap, subst}
use Rattle.sv_world.specs.declared.world.Shape.{Shape}
use Rattle.sv_journal.specs.History.{accepted}
use Rattle.sv_core.specs.Cores.{core_rules}
use Rattle.sv_core.proofs.AgreeSteps.{sent_seats, named_seats}
use Rattle.sv_core.proofs.Replies.{committed-is}
use Rattle.sv_core.proofs.server_core.Core.committed.Goals as goal

pub committed-requires : goal.committed-requires
committed-requires c = subst (λ (d : Shape). c.args.object.0 < d.objects) (sym c.requires.kept.1.fits.shape) c.requires.object

pub returns : goal.returns
returns c = λ h k.
    c.committed.ensures.value
    ∙ ap (λ values. slice_index_or values c.args.object.0 [])
    (committed-is (core_rules c.args.self.now) h (accepted h) (sent_seats h c.args.self.now.sessions.items) (named_seats h c.args.self.now.sessions.items) c.args.self.now.queue k.commit k.fits)
