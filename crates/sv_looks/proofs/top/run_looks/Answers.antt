-- The answer of the call, from what was decided.
use Rattle.sv_looks.proofs.Endings.{answers_is, apart_is}
use Rattle.sv_looks.proofs.top.run_looks.Goals as goal

pub returns-clause-answers : goal.returns-clause-answers
returns-clause-answers g c =
    rw c.status_of.ensures
    (answers_is _ _ _ _ _ _ (rw c.file_in-file.ensures at c.decide-ending.ensures.words) (rw c.file_in-file.ensures at c.decide-ending.ensures.ends) c.decide-ending.ensures.raises
    (rw c.file_in-file.ensures at c.decide-ending.ensures.sure) (rw c.file_in-file.ensures at c.tell.ensures))

pub returns-clause-apart : goal.returns-clause-apart
returns-clause-apart g c = rw c.status_of.ensures (apart_is _ _ c.decide-ending.ensures.apart)
