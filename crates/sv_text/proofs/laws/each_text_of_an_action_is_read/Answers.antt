-- A text of an action is read as that action.
use Rattle.sv_text.specs.Tokens.{tokens_of}
use Rattle.sv_text.proofs.AgainAction.{action_again}
use Rattle.sv_text.proofs.laws.each_text_of_an_action_is_read.Goals as goal

pub returns : goal.returns
returns c = λ text action i. action_again action (tokens_of text) i
