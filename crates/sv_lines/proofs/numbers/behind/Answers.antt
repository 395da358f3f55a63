-- What is proved by hand of `behind`.
use Rattle.std.proofs.lemmas.Bool.Decides.{Decides-eqb}
use Rattle.std.proofs.lemmas.Slice.Eq.{strip_prefix_is}
use Rattle.sv_lines.proofs.Numerals.{front_found}
use Rattle.sv_lines.proofs.numbers.behind.Goals as goal

pub returns : goal.returns
returns c =
    let told = strip_prefix_is Decides-eqb c.args.text.now c.args.front.now c.strip_prefix.result c.strip_prefix.ensures.cases in
    record { read = front_found c.args.text.now c.args.front.now c.strip_prefix.result told; told = told }
