-- By the last.
use Rattle.std.proofs.Common.{◌-◌, length, sym, refl, ltb-true}
use Rattle.sv_ports.proofs.Tables.{above-last}
use Rattle.sv_ports.proofs.numbered.is_above.Goals as goal

pub returns-in-Some-clause-yes : goal.returns-in-Some-clause-yes
returns-in-Some-clause-yes g c below =
    let xs = c.args.places.now in
    above-last c.args.number xs (length xs - 1) c.in-Some.last.now c.requires refl (sym c.in-Some.ensures.value) (ltb-true c.in-Some.last.now.number c.args.number below)
