-- What is proved by hand of `Desk::try_take`.
use Rattle.std.proofs.Common.{rules}
use Rattle.sv_lock.proofs.Keeps.{tries, exchange_takes}
use Rattle.sv_lock.proofs.desk.Desk.try_take.Goals as goal

pub compare_exchange-requires : goal.compare_exchange-requires
compare_exchange-requires g c =
    let o = g.O.Object in let may = c.requires.may in let n = may.number in let b = may.based in
    (search rules, search rules, tries o.base o.history o.lawful o.number_of _ _ _ _ _ n.0 b.0 exchange_takes may.idle n.1 b.1)
