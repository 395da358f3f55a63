-- The canonical text of an action is a text of it, and is read as it.
use Rattle.sv_text.proofs.StandingAction.{canonical_stands, canonical_again}
use Rattle.sv_text.proofs.laws.each_canonical_text_is_read.Goals as goal

pub returns-clause-text : goal.returns-clause-text
returns-clause-text c = canonical_stands

pub returns-clause-read : goal.returns-clause-read
returns-clause-read c = canonical_again
