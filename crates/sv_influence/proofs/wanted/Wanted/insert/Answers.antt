-- What the check leaves to prove of `Wanted::insert`.
use Rattle.std.proofs.Common.{◌∷◌, [], ◌∙◌, ap}
use Rattle.sv_world.specs.Control.{is_in}
use Rattle.sv_influence.proofs.Takes.{is_in-swap}
use Rattle.sv_influence.proofs.wanted.Wanted.insert.Goals as goal

pub returns-then-is_below-clause-added : goal.returns-then-is_below-clause-added
returns-then-is_below-clause-added c = λ j. ap (is_in j) c.push.ensures ∙ is_in-swap j c.args.self.now (c.args.pos ∷ [])
