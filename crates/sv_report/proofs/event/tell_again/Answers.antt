-- What is proved by hand of `tell_again`.
use Rattle.std.proofs.Common.{[], ◌∷◌, ◌++◌, string_bytes}
use Rattle.sv_report.specs.Again.{text_of}
use Rattle.sv_report.proofs.Telling.{ended, told_whole}
use Rattle.sv_report.proofs.event.tell_again.Goals as goal

pub returns-clause-line : goal.returns-clause-line
returns-clause-line c =
    let t = c.args.client.now.events in
    let e = c.args.event.now in
    let out = string_bytes c.args.out.now in
    ended c.push_str.result (string_bytes c.push_str.new.self) (string_bytes c.append_after.new.out) (out ++ text_of c.args.number t e) (10 ∷ [])
    (told_whole c.args.number t c.do_again.new.client.events e out (string_bytes c.append_before.new.out) (string_bytes c.append_after.new.out)
    c.in_ok-do_again.ensures.events c.in_ok-append_before.ensures c.in_ok-append_after.ensures)
    c.push_str.ensures.bytes
