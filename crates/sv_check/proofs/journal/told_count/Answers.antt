-- What is proved by hand of `told_count`.
use Rattle.std.proofs.Common.{sym}
use Rattle.sv_check.proofs.JournalLines.{header_missing, header_told, header_unread}
use Rattle.sv_check.proofs.journal.told_count.Goals as goal

pub returns-in_default : goal.returns-in_default
returns-in_default c count rest low is = absurd (header_missing c.args.text.now c.in_default.ensures count rest is)

pub returns-in-Ok-number_at : goal.returns-in-Ok-number_at
returns-in-Ok-number_at c count rest low is =
    header_told c.args.text.now c.in-Ok.rest.now c.in-Ok.ensures c.in-Ok-number_at.count c.in-Ok-number_at.field-0-1.now (sym c.in-Ok-number_at.ensures) count rest low is

pub returns-in-Err : goal.returns-in-Err
returns-in-Err c count rest low is = absurd (header_unread c.args.text.now c.in-Ok.rest.now c.in-Ok.ensures c.in-Err.ensures count rest low is)
