-- What is proved by hand of `Desk::take_or_ask`.
use Rattle.std.proofs.Common.{rules}
use Rattle.sv_lock.proofs.Keeps.{tries, swap_takes}
use Rattle.sv_lock.proofs.desk.Desk.take_or_ask.Goals as goal

pub swap-requires : goal.swap-requires
swap-requires g c =
    let o = g.O.Object in let may = c.requires.may in let n = may.number in let b = may.based in
    (search rules, search rules, tries o.base o.history o.lawful o.number_of _ _ _ _ _ n.0 b.0 swap_takes may.idle n.1 b.1)
