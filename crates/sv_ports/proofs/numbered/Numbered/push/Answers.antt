-- It is above all, or nothing is new.
use Rattle.std.proofs.Common.{List, Some, refl, sym, subst}
use Rattle.sv_ports.specs.declared.numbered.NumberedPlace.{NumberedPlace}
use Rattle.sv_ports.specs.Numbered.{IsByNumber, IsAbove}
use Rattle.sv_ports.proofs.Tables.{push-ascending}
use Rattle.sv_ports.proofs.numbered.Numbered.push.Goals as goal
use Rattle.sv_ports.proofs.numbered.Numbered.push.Goals.{in-Ok, in-Err}

pub invariant_of-self : goal.invariant_of-self
invariant_of-self g c =
    let xs = c.self.inside.places.items in
    elim c.match-append.branch [
      | in-Ok w ↦ subst IsByNumber (sym w.in-Ok.ensures.ok)
          (push-ascending xs (record { number = c.args.number; item = Some c.args.item }) c.self.invariant
          (subst (λ (ys : List (NumberedPlace _)). IsAbove c.args.number ys) c.deref.ensures.value (c.if-not-is_above.ensures.yes refl)))
      | in-Err w ↦ subst IsByNumber (sym w.in-Err.ensures.err) c.self.invariant
    ]
