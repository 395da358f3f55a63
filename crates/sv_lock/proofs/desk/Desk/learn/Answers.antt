-- What is proved by hand of `Desk::learn`.
use Rattle.std.proofs.Common.{rules}
use Rattle.sv_lock.proofs.Keeps.{learns}
use Rattle.sv_lock.proofs.desk.Desk.learn.Goals as goal

pub load-requires : goal.load-requires
load-requires g c =
    let o = g.O.Object in
    (search rules, search rules, learns o.base o.history o.lawful o.number_of _ _ _ _ c.requires.idle)
