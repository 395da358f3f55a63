-- What the check leaves to prove of `read_on`.
use Rattle.std.proofs.Common.{inl, inr, refl}
use Rattle.sv_session.proofs.Posted.{unsent}
use Rattle.sv_session.proofs.reading.read_on.Goals as goal

pub returns-in-Failed-clause-reads : goal.returns-in-Failed-clause-reads
returns-in-Failed-clause-reads g c = unsent _ _ _ _ _ c.in-Failed.ensures.sends (inl refl)

pub returns-in-Memory-clause-reads : goal.returns-in-Memory-clause-reads
returns-in-Memory-clause-reads g c = unsent _ _ _ _ _ c.in-Memory.ensures.sends (inr refl)
