-- The numbers stay.
use Rattle.std.proofs.Common.{◌∙◌, sym, ap, subst, arith, Some}
use Rattle.std.proofs.lemmas.List.{with_items_is}
use Rattle.sv_ports.specs.Numbered.{IsByNumber, with_item}
use Rattle.sv_ports.proofs.Tables.{with-ascending}
use Rattle.sv_ports.proofs.numbered.Numbered.put.Goals as goal

pub invariant_of-self : goal.invariant_of-self
invariant_of-self g c =
    let old = c.self.inside.places in let long = c.put_in.auto.places in let lent = c.deref_mut.ensures in
    subst IsByNumber (sym (with_items_is old c.put_in.new.places (omega arith) ∙ c.put_in.ensures ∙ ap (with_item _ (Some c.args.item)) lent.value))
    (with-ascending _ (Some c.args.item) old.items c.self.invariant)
