-- What is printed of a literal.
use Rattle.std.proofs.Common.{SFits, rules}
use Rattle.std.proofs.lemmas.Int.{to_z-of_z}
use Rattle.std.specs.Int.{w64}
use Rattle.sv_text.proofs.Printed.{lit_part}
use Rattle.sv_text.proofs.printer.+expression.Goals as goal

pub put_head-returns-in-Lit-clause-text : goal.put_head-returns-in-Lit-clause-text
put_head-returns-in-Lit-clause-text t c =
    let fits : SFits w64 c.in-Lit.number = search rules in
    rw (c.in-Lit.is, lit_part c.args.reads.now c.in-Lit.number) (rw (to_z-of_z w64 c.in-Lit.number fits) at c.put_number.ensures)
