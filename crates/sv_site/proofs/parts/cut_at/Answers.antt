-- What is proved by hand of `cut_at`.
use Rattle.std.proofs.Common.{sym, ◌∙◌}
use Rattle.sv_site.proofs.Cuts.{cut_some, cut_none}
use Rattle.sv_site.proofs.parts.cut_at.Goals as goal

pub returns-in-Some-clause-parts : goal.returns-in-Some-clause-parts
returns-in-Some-clause-parts c = cut_some c.args.byte c.args.text.now c.in-Some.at (sym c.place_of.ensures ∙ c.in-Some.is)

pub returns-in-None-clause-parts : goal.returns-in-None-clause-parts
returns-in-None-clause-parts c = cut_none c.args.byte c.args.text.now (sym c.place_of.ensures ∙ c.in-None.is)
