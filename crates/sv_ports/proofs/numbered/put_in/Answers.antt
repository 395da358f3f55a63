-- By the number's place.
use Rattle.std.proofs.Common.{sym, Some}
use Rattle.sv_ports.proofs.Tables.{with-none, with-at}
use Rattle.sv_ports.proofs.numbered.put_in.Goals as goal

pub returns-in-Some : goal.returns-in-Some
returns-in-Some g c =
    let d = c.index-places-place.result in
    with-at c.args.number (Some c.args.item) c.args.places.now c.in-Some.place d c.requires c.in-Some.ensures.0 (c.in-Some.ensures.1 d)

pub returns-in_default : goal.returns-in_default
returns-in_default g c = sym (with-none c.args.number (Some c.args.item) c.args.places.now c.in_default.ensures)
