-- What is proved by hand of `Desk::release`.
use Rattle.std.proofs.Common.{rules}
use Rattle.sv_lock.proofs.Keeps.{returns}
use Rattle.sv_lock.proofs.desk.Desk.release.Goals as goal

pub swap-requires : goal.swap-requires
swap-requires g c =
    let o = g.O.Object in
    (search rules, search rules, returns o.base o.history o.lawful o.number_of _ _ _ _ c.requires.may)
