-- What is proved by hand of `Desk::close`.
use Rattle.sv_lock.specs.Rest.{the}
use Rattle.sv_lock.proofs.Calls.{some_the}
use Rattle.sv_lock.proofs.Keeps.{closes}
use Rattle.sv_lock.proofs.desk.Desk.close.Goals as goal

pub returns : goal.returns
returns g c =
    let o = g.O.Object in let r = c.requires in
    closes o.base o.history o.lawful o.number_of _ _ _ (the _ r.based) _ _ _ r.keeper.0 r.keeper.1 (some_the _ r.based) r.all
    c.close_with-closed.ensures.values.2 c.take-object.ensures.value
