-- What is proved by hand of `kind_of`.
use Rattle.sv_site.proofs.Dots.{kind_told, kind_other}
use Rattle.sv_site.proofs.kinds.kind_of.Goals as goal

pub returns-in-Some : goal.returns-in-Some
returns-in-Some c =
    let cut = c.in-Some.ensures.cases in
    kind_told c.args.name.now c.in-Some.ending.now cut.0 cut.1 c.kind_by.result cut.2.0 cut.2.1 cut.4 c.kind_by.ensures

pub returns-in-None : goal.returns-in-None
returns-in-None c = kind_other c.args.name.now c.in-None.ensures.cases
