-- The line that is taken is that of the request.
use Rattle.std.proofs.Common.{◌≡◌, ◌++◌, List, ℕ, ap, subst, ◌∙◌}
use Rattle.sv_living.specs.World.{IsStepFault}
use Rattle.sv_living.specs.declared.fault.StepFault.{StepFault}
use Rattle.sv_keeper.proofs.Asking.{no_room}
use Rattle.sv_keeper.proofs.Judged.{line_printed}
use Rattle.sv_keeper.proofs.walking.LineWalk.step.Goals as goal

pub returns-in-Ok-take_line-clause-taken : goal.returns-in-Ok-take_line-clause-taken
returns-in-Ok-take_line-clause-taken c =
    let walk = c.args.self.now in
    let s = c.args.session in
    let request = c.args.request.now in
    let rest = c.in-Ok-take_line.rest.now in
    let line = line_printed c.replies_have_one_text.ensures.lines walk.core s request walk.shape walk.next c.requires.walk.shape c.requires.walk.next
    c.in-Ok.answer.reply c.in-Ok.ensures.ok.whole c.clear.new.self c.append_line.new.self c.clear.ensures c.in-Ok-append_line.ensures.ok in
    record {
      session = s;
      request = request;
      asks = c.in-Ok.ensures.cause;
      world = c.in-Ok.ensures.ok.world;
      line = c.in-Ok-take_line.ensures.taken ∙ ap (λ (l : List ℕ). l ++ rest) (c.as_bytes.ensures ∙ line);
    }

pub returns-in-Err-NoRoom-clause-why : goal.returns-in-Err-NoRoom-clause-why
returns-in-Err-NoRoom-clause-why c = λ asks rest begins.
    let h = c.args.self.now.core.history in
    no_room h c.is_lawful.ensures.begun c.args.session (subst (λ (e : StepFault). IsStepFault h c.args.session e) c.in-Err-NoRoom.field-0-is c.in-Err-NoRoom.ensures.cause) asks
