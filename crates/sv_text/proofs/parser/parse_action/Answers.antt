-- What is read is what the grammar has.
use Rattle.sv_text.specs.Tokens.{tokens_of}
use Rattle.sv_text.proofs.Both.{is_found, is_read}
use Rattle.sv_text.proofs.parser.parse_action.Goals as goal

pub returns-clause-found : goal.returns-clause-found
returns-clause-found c = is_found (tokens_of c.args.text.now) c.read_action.result c.read_action.ensures

pub returns-clause-only : goal.returns-clause-only
returns-clause-only c = is_read (tokens_of c.args.text.now) c.read_action.result c.read_action.ensures
