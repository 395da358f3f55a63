-- A word is told by its first letter.
use Rattle.std.proofs.Common.{rules}
use Rattle.sv_text.proofs.Words.{word_by_no_first}
use Rattle.sv_text.proofs.lexer.word_of.Goals as goal

pub returns-in_default : goal.returns-in_default
returns-in_default c =
    word_by_no_first c.args.run.now c.byte_at.result c.byte_at.ensures (search rules) (search rules) (search rules) (search rules) (search rules) (search rules) (search rules) (search rules) (search rules)
