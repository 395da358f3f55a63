-- What is proved by hand of `before_arrow`.
use Rattle.std.proofs.Common.{◌-◌, arith}
use Rattle.std.specs.List.{prefix_len}
use Rattle.std.proofs.lemmas.List.Sums.{prefix_len-le-length}
use Rattle.sv_lines.specs.Asking.{is_plain}
use Rattle.sv_lines.proofs.ReadRequests.{plain_is_text}
use Rattle.sv_lines.proofs.request.before_arrow.Goals as goal

pub split_at-requires : goal.split_at-requires
split_at-requires c = omega (arith, c.plain_width-count.ensures, prefix_len-le-length is_plain c.args.text.now)

pub returns-in-Err : goal.returns-in-Err
returns-in-Err c =
    absurd (c.in-Err.ensures.cases.0 (rw (c.split_at.ensures.front, c.plain_width-count.ensures) (plain_is_text c.args.text.now (prefix_len is_plain c.args.text.now - 2) (omega arith))))
