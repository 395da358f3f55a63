-- What is proved by hand of `step`.
use Rattle.std.proofs.Common.{◌≡◌, true, inr, refl, subst, arith}
use Rattle.sv_keeper.specs.Views.{KeeperView}
use Rattle.sv_keeper.specs.Keeping.{Stepped, IsStuck}
use Rattle.sv_keeper.specs.Invariant.{view_of}
use Rattle.sv_keeper.proofs.Kept.{stepped_on, stepped_is}
use Rattle.sv_keeper.proofs.keeper.Keeper.step.Goals as goal

pub invariant_of-self-in-Ok-append_line : goal.invariant_of-self-in-Ok-append_line
invariant_of-self-in-Ok-append_line g c =
    stepped_on g.F.Folder.disk g.F.Folder.is_honest c.self.inside c.self.invariant c.args.session c.args.request.now c.step.new.self c.append_line.new.self c.in-Some.next c.in-Ok.answer.reply
    c.in-Ok.ensures.ok.world c.if-self.false c.replies_have_one_text.ensures.lines (omega (arith, c.in-Some.ensures)) c.in-Ok.ensures.ok.whole c.in-Ok-append_line.ensures.ok

pub returns-in-Ok-append_line-clause-ok : goal.returns-in-Ok-append_line-clause-ok
returns-in-Ok-append_line-clause-ok g c =
    let k = c.self.inside in
    let new = record k { core = c.step.new.self; group = c.append_line.new.self; next = c.in-Some.next } in
    subst (λ (v : KeeperView g.row.F.Denot). Stepped v (view_of new) c.args.session c.args.request.now c.in-Ok.answer.reply) c.self.view_is
    (stepped_is g.F.Folder.disk g.F.Folder.is_honest k c.self.invariant c.args.session c.args.request.now c.step.new.self c.append_line.new.self c.in-Some.next c.in-Ok.answer.reply
    c.in-Ok.ensures.ok.world c.if-self.false c.replies_have_one_text.ensures.lines (omega (arith, c.in-Some.ensures)) c.in-Ok.ensures.ok.whole c.in-Ok-append_line.ensures.ok c.in-Ok.ensures.cause)

pub returns-in-Err-clause-err : goal.returns-in-Err-clause-err
returns-in-Err-clause-err g c =
    let k = c.self.inside in
    let new = record k { core = c.step.new.self; group = c.append_line.new.self; is_broken = true } in
    inr (inr (subst (λ (v : KeeperView g.row.F.Denot). IsStuck v (view_of new) c.args.session c.args.request.now) c.self.view_is
    (record { world = c.in-Ok.ensures.ok.world; log = refl; broken = refl })))
