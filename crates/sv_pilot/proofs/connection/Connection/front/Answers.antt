-- What is proved by hand of `Connection::front`.
use Rattle.std.proofs.Common.{Some, None, Err, inr, subst}
use Rattle.sv_pilot.specs.declared.trouble.Trouble.TheVariants as troubles
use Rattle.sv_pilot.specs.Lines.{Line}
use Rattle.sv_pilot.specs.Sending.{IsFrontOf}
use Rattle.sv_pilot.proofs.Moved.{front_by}
use Rattle.sv_pilot.proofs.connection.Connection.front.Goals as goal

pub returns-in-Frame : goal.returns-in-Frame
returns-in-Frame g c =
    subst (λ (l : Line). IsFrontOf l.came (Some c.reply_of.result)) c.self.view_is (front_by c.self.inside.reader c.in-Frame.payload.now c.reply_of.result c.in-Frame.ensures.answer c.reply_of.ensures)

pub returns-in-NotYet : goal.returns-in-NotYet
returns-in-NotYet g c = subst (λ (l : Line). IsFrontOf l.came None) c.self.view_is (c.in-NotYet.ensures.room, c.in-NotYet.ensures.answer)

pub returns-in-TooLong : goal.returns-in-TooLong
returns-in-TooLong g c =
    subst (λ (l : Line). IsFrontOf l.came (Some (Err troubles.Reply))) c.self.view_is (inr (c.in-TooLong.field-0, c.in-TooLong.ensures.answer))
