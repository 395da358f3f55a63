-- The answer of the call, from what was decided.
use Rattle.std.proofs.Common.{◌∙◌}
use Rattle.sv_ending.proofs.Statuses.{words_is}
use Rattle.sv_witness.proofs.Endings.{answers_is}
use Rattle.sv_witness.proofs.top.run_witness.Goals as goal

pub returns-clause-answers : goal.returns-clause-answers
returns-clause-answers g c =
    rw c.status_of.ensures
    (answers_is _ _ _ _ _ _ (rw c.witnessing_of-asked.ensures at c.decide-ending.ensures.words) (rw c.witnessing_of-asked.ensures at c.decide-ending.ensures.ends)
    (λ none. (c.decide-ending.ensures.apart (c.witnessing_of-asked.ensures ∙ none)).1) c.decide-ending.ensures.raises
    (rw c.witnessing_of-asked.ensures at c.decide-ending.ensures.sure) (rw c.witnessing_of-asked.ensures at (rw c.file_of.ensures at c.tell.ensures)))

pub returns-clause-apart : goal.returns-clause-apart
returns-clause-apart g c = rw c.status_of.ensures (λ two. (c.decide-ending.ensures.apart ((words_is _ c.decide-ending.ensures.words).0 two)).0)
