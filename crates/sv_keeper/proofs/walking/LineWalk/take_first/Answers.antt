-- A line that is not taken is none that may stand there.
use Rattle.std.proofs.Common.{◌≡◌, Err, subst}
use Rattle.sv_lines.specs.declared.stop.LineFault.{LineFault}
use Rattle.sv_keeper.specs.Walks.{WhyNotThis, WhyNone}
use Rattle.sv_keeper.proofs.Judged.{LineLaw, unread, judged, map_err}
use Rattle.sv_keeper.proofs.walking.LineWalk.take_first.Goals as goal

pub returns-in-Err-Wrong-clause-why : goal.returns-in-Err-Wrong-clause-why
returns-in-Err-Wrong-clause-why c =
    let walk = c.args.self.now in
    unread c.replies_have_one_text.ensures.lines c.causes_are_told.ensures.told c.causes_are_told.ensures.numbers c.replies_go_by_faults.ensures walk.core walk.shape walk.next
    c.requires.walk.shape c.requires.walk.next c.requires.walk.few c.args.text.now
    (subst (λ (e : LineFault). LineLaw walk.shape c.args.text.now (Err e)) c.in-Err-Wrong.field-0-is c.in-Err-Wrong.ensures)

pub returns-in-Ok-request_of-clause-why : goal.returns-in-Ok-request_of-clause-why
returns-in-Ok-request_of-clause-why c =
    let walk = c.args.self.now in
    let l = c.in-Ok.asked in
    let request = c.in-Ok-request_of.request in
    map_err (WhyNotThis walk.core l.session request c.args.text.now) (WhyNone walk.core c.args.text.now)
    (judged c.replies_have_one_text.ensures.lines c.causes_are_told.ensures.told c.causes_are_told.ensures.numbers c.replies_go_by_faults.ensures walk.core walk.shape walk.next
    c.requires.walk.shape c.requires.walk.next c.requires.walk.few c.args.text.now l c.in-Ok.ensures request c.in-Ok-request_of.ensures)
    c.step.result c.step.ensures.why
