-- What is proved by hand of `Desk::glue`.
use Rattle.std.proofs.Common.{rules}
use Rattle.sv_lock.proofs.Keeps.{joins}
use Rattle.sv_lock.proofs.desk.Desk.glue.Goals as goal

pub join_seat-requires : goal.join_seat-requires
join_seat-requires g c =
    let o = g.O.Object in let r = c.requires in
    (search rules, search rules, search rules, search rules, joins o.base o.history o.lawful o.number_of _ _ _ _ _ r.keeper r.other.0)
