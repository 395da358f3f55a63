-- The answer of the call, from what was decided.
use Rattle.sv_serve.proofs.Endings.{answers_is}
use Rattle.sv_serve.proofs.top.run_serve.Goals as goal

pub returns-clause-answers : goal.returns-clause-answers
returns-clause-answers g c =
    rw c.status_of.ensures
    (answers_is _ _ _ (λ p. g.D.Door.sure c.args.door.now p) _ _ _ _ (rw c.command_of-command.ensures at c.decide-ending.ensures.words)
    (rw c.command_of-command.ensures at c.decide-ending.ensures.ends) c.decide-ending.ensures.raises (rw c.command_of-command.ensures at c.decide-ending.ensures.sure)
    (rw c.command_of-command.ensures at c.decide-ending.ensures.certain) (rw c.command_of-command.ensures at (rw c.file_of.ensures at c.tell.ensures)))

pub returns-clause-apart : goal.returns-clause-apart
returns-clause-apart g c = rw c.status_of.ensures c.decide-ending.ensures.apart

pub returns-clause-back : goal.returns-clause-back
returns-clause-back g c = rw c.status_of.ensures c.decide-ending.ensures.back
