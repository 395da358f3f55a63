-- What the check leaves to prove of `is_abandoned`.
use Rattle.std.proofs.Common.{not, sym, ◌∙◌, ap, subst, IfSome}
use Rattle.sv_core.specs.Orphans.{HasLive}
use Rattle.sv_core.proofs.Live.{abandoned-by-set}
use Rattle.sv_core.proofs.orphans.is_abandoned.Goals as goal

pub returns-in-Some : goal.returns-in-Some
returns-in-Some g c =
    ap not c.is_marked_for_any.ensures.marked
    ∙ abandoned-by-set c.args.queue.now c.args.sessions.now c.in-Some.live c.args.pos (subst (λ o. IfSome o (HasLive c.args.sessions.now)) c.in-Some.is c.requires.live)
