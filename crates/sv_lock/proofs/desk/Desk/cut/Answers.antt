-- What is proved by hand of `Desk::cut`.
use Rattle.std.proofs.Common.{rules}
use Rattle.sv_lock.proofs.Keeps.{splits}
use Rattle.sv_lock.proofs.desk.Desk.cut.Goals as goal

pub split_seat-requires : goal.split_seat-requires
split_seat-requires g c =
    let o = g.O.Object in let r = c.requires in
    (search rules, search rules, splits o.base o.history o.lawful o.number_of _ _ _ r.keeper.0 r.keeper.1)
