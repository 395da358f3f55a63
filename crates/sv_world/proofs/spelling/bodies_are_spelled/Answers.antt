-- The nodes of a body spell it, and no other nodes do.
use Rattle.sv_world.proofs.Back.{body_back}
use Rattle.sv_world.proofs.Spells.{body_spells}
use Rattle.sv_world.proofs.spelling.bodies_are_spelled.Goals as goal

pub returns : goal.returns
returns c = record { spelled = body_spells; alone = λ body nodes e. body_back nodes body e }
