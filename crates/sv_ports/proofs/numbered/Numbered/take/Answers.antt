-- The numbers stay.
use Rattle.std.proofs.Common.{◌∙◌, sym, ap, subst, arith, None}
use Rattle.std.proofs.lemmas.List.{with_items_is}
use Rattle.sv_ports.specs.Numbered.{IsByNumber, with_item}
use Rattle.sv_ports.proofs.Tables.{with-ascending}
use Rattle.sv_ports.proofs.numbered.Numbered.take.Goals as goal

pub invariant_of-self : goal.invariant_of-self
invariant_of-self g c =
    let old = c.self.inside.places in let long = c.take_out.auto.places in let lent = c.deref_mut.ensures in
    subst IsByNumber (sym (with_items_is old c.take_out.new.places (omega arith) ∙ c.take_out.ensures.left ∙ ap (with_item _ None) lent.value))
    (with-ascending _ None old.items c.self.invariant)
