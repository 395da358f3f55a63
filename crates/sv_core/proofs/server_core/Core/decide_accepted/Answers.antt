-- What the check leaves to prove of `Core::decide_accepted`.
use Rattle.std.proofs.Common.{◌<◌, sym, ◌∙◌}
use Rattle.std.proofs.lemmas.Bool.{leb-false}
use Rattle.sv_journal.specs.History.{commit_of}
use Rattle.sv_core.proofs.Kept.{old-submit}
use Rattle.sv_core.proofs.server_core.Core.decide_accepted.Goals as goal

pub returns-else-is_committed-clause-holds : goal.returns-else-is_committed-clause-holds
returns-else-is_committed-clause-holds g c =
    let low : commit_of g.h < c.args.pos = leb-false c.args.pos (commit_of g.h) (sym c.is_committed.ensures ∙ c.if-is_committed.false) in
    (old-submit g.h c.args.seat.session c.args.id.client c.args.id.seq c.args.action.now c.requires.1.0 c.requires.1.1.0, (low, c.requires.1.1.1))
