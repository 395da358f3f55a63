-- Nobody is there, and no session is open.
use Rattle.std.proofs.Common.{sym, subst}
use Rattle.sv_office.specs.Renewing.{AreHeldFor}
use Rattle.sv_host.proofs.Ends.{trusted_at_first}
use Rattle.sv_host.proofs.Through.{broke_of}
use Rattle.sv_host.proofs.top.serve_kept.Goals as goal

pub host_of-host-requires-clause-trusted : goal.host_of-host-requires-clause-trusted
host_of-host-requires-clause-trusted g c = trusted_at_first c.args.keeper c.args.staff.steward c.is_lawful.ensures.order c.requires.ended c.requires.staff.told

pub returns-clause-broke : goal.returns-clause-broke
returns-clause-broke g c named held =
    broke_of _ _ c.args.keeper _ _ c.host_of-host.ensures.keeper c.serve_host-served.ensures.goes
    (c.serve_host-served.ensures.joins.added named (subst (AreHeldFor (g.L.Files.contents c.args.parts.now.files.now) named) (sym c.host_of-host.ensures.keys) held))
    c.is_lawful-2.ensures.legal c.is_lawful-2.ensures.order c.serve_host-served.ensures.sent c.is_lawful.ensures.order c.requires.ended
