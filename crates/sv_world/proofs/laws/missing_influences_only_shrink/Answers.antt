-- What a session lacks later is among what it lacked before.
use Rattle.std.proofs.Common.{refl, add-one}
use Rattle.sv_world.proofs.Needs.{needed-into, needed-shorter}
use Rattle.sv_world.proofs.Influences.{needed-chain}
use Rattle.sv_world.proofs.laws.missing_influences_only_shrink.Goals as goal

pub returns-clause-members : goal.returns-clause-members
returns-clause-members c A d e s t i j le l more h = needed-into A A d e s t i le l (λ k low high. refl) more j h

pub returns-clause-shorter : goal.returns-clause-shorter
returns-clause-shorter c A d e s t i le l more = needed-shorter A A d e s t i le l (λ k low high. refl) more

pub returns-clause-size : goal.returns-clause-size
returns-clause-size c A B d e a s le l = rw (add-one, add-one) (needed-chain A B d e a s le l)
