-- What stands ahead are the tokens that are left.
use Rattle.std.proofs.Common.{◌∙◌, arith}
use Rattle.sv_text.proofs.Lexing.{ahead_is, end_is}
use Rattle.sv_text.proofs.lexer.go_ahead.Goals as goal

pub returns-then-at-bytes-clause-held : goal.returns-then-at-bytes-clause-held
returns-then-at-bytes-clause-held c =
    let at = c.behind_blanks-at.result.0 in
    rw (← c.is_joint.ensures) (end_is c.args.bytes.now at at c.behind_blanks-at.result.1 (omega arith) ∙ c.behind_blanks-at.ensures.same)

pub returns-clause-held : goal.returns-clause-held
returns-clause-held c =
    let at = c.behind_blanks-at.result.0 in
    rw (← c.is_joint.ensures) (ahead_is c.args.bytes.now at 0 c.behind_blanks-at.result.1 c.token_behind-token.result (omega arith) c.behind_blanks-at.ensures.stands c.token_behind-token.ensures.value ∙ c.behind_blanks-at.ensures.same)
