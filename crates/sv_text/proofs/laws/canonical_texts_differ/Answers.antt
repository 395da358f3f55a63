-- Actions with one canonical text are one action.
use Rattle.sv_text.proofs.StandingAction.{canonical_injective}
use Rattle.sv_text.proofs.laws.canonical_texts_differ.Goals as goal

pub returns : goal.returns
returns c = canonical_injective
