-- A text that is read is a text of what is read.
use Rattle.sv_text.specs.Tokens.{tokens_of}
use Rattle.sv_text.proofs.FoundAction.{action_found}
use Rattle.sv_text.proofs.laws.what_is_read_is_a_text_of_it.Goals as goal

pub returns : goal.returns
returns c = λ text action e. action_found (tokens_of text) action e
