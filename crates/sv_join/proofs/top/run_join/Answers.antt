-- The answer of the call, from what was decided.
use Rattle.std.proofs.Common.{◌∙◌}
use Rattle.sv_join.proofs.Endings.{answers_is, words_is}
use Rattle.sv_join.proofs.top.run_join.Goals as goal

pub returns-clause-answers : goal.returns-clause-answers
returns-clause-answers g c =
    rw c.status_of.ensures
    (answers_is _ _ _ _ _ _ _ _ _ _ _ (rw c.join_of-join.ensures at c.decide-ending.ensures.words) (rw c.join_of-join.ensures at c.decide-ending.ensures.ends)
    (λ none. (c.decide-ending.ensures.apart (c.join_of-join.ensures ∙ none)).2) c.decide-ending.ensures.raises (rw c.join_of-join.ensures at c.decide-ending.ensures.sure_file)
    (rw c.join_of-join.ensures at c.decide-ending.ensures.sure_door) (rw c.join_of-join.ensures at (rw c.file_of.ensures at c.tell.ensures)))

pub returns-clause-apart : goal.returns-clause-apart
returns-clause-apart g c =
    rw c.status_of.ensures (λ two. let apart = c.decide-ending.ensures.apart ((words_is _ c.decide-ending.ensures.words).0 two) in (apart.0, apart.1))
