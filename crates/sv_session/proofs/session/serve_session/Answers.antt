-- What the check leaves to prove of `serve_session`.
use Rattle.sv_session.proofs.Ending.{served}
use Rattle.sv_session.proofs.Joined.{may_go_on}
use Rattle.sv_session.proofs.session.serve_session.Goals as goal

pub call-requires-clause-can : goal.call-requires-clause-can
call-requires-clause-can g c =
    let halts = c.serve_all-out.ensures.halts in
    let may = may_go_on c.args.lock.now c.args.pass.now c.serve_all-out.new.pass halts.answered c.requires.may halts.steps halts.no_end in
    record { session = may.number; first = λ _. may.unended }

pub returns-clause-served : goal.returns-clause-served
returns-clause-served g c =
    let same = c.in-Ok.ensures.same in
    served c.full_replies_stay.ensures _ _ _ _ _ _ _ c.in-Ok.field-0 c.serve_all-out.ensures.halts (record { lock = same.0; session = same.1; base = same.2; made = same.3; ended = same.4 })
    c.in-Ok.ensures.seen c.in-Ok.ensures.lawful c.close.ensures.told c.in-Ok.ensures.mine c.in-Ok.ensures.just
