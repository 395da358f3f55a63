-- What is proved by hand of `Versions::unlist`.
use Rattle.sv_versions.proofs.Prunings.{crowded_listed}
use Rattle.sv_versions.proofs.store.Versions.unlist.Goals as goal

pub invariant_of-self : goal.invariant_of-self
invariant_of-self c = (c.self.invariant.0, rw (rw c.deref.ensures.value at c.keep_crowded.ensures) (crowded_listed _ _ c.self.invariant.1))
