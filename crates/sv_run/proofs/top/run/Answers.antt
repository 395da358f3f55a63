-- The answer of the call, from what was decided.
use Rattle.sv_ending.proofs.Statuses.{link_is}
use Rattle.sv_run.proofs.Endings.{answers_is}
use Rattle.sv_run.proofs.top.run.Goals as goal

pub returns-clause-answers : goal.returns-clause-answers
returns-clause-answers g c =
    rw c.status_of.ensures
    (answers_is _ _ _ _ _ _ _ _ _ _ _ _ _ (rw c.command_of-command.ensures.asked at c.decide-ending.ensures.words) (rw c.command_of-command.ensures.asked at c.decide-ending.ensures.ends)
    (rw c.command_of-command.ensures.asked at c.decide-ending.ensures.apart) c.decide-ending.ensures.raises (rw c.command_of-command.ensures.asked at c.decide-ending.ensures.sure)
    (rw c.command_of-command.ensures.asked at (rw c.file_of.ensures at c.tell.ensures)))

pub returns-clause-apart : goal.returns-clause-apart
returns-clause-apart g c = rw c.status_of.ensures (rw c.command_of-command.ensures.asked at c.decide-ending.ensures.apart)

pub returns-clause-pairs : goal.returns-clause-pairs
returns-clause-pairs g c = rw c.status_of.ensures (record { pairs = c.decide-ending.ensures.pairs; calm = λ calm six. c.decide-ending.ensures.calm calm (link_is _ six) })
