-- A client goes on to have got what its session was told.
use Rattle.std.proofs.Common.{List, ◌++◌, sym, ap, ◌∙◌, append-nil}
use Rattle.law_system.specs.Delivery.{Telling}
use Rattle.law_system.specs.Told.{telling_by, told_to}
use Rattle.law_system.proofs.GotTold.{told-more, told-same, untold, only_joins-got}
use Rattle.law_system.proofs.told.sessions_are_told_their_replies.Goals as goal

pub returns-clause-taken : goal.returns-clause-taken
returns-clause-taken c h e n t told = ap (λ (l : List Telling). l ++ telling_by h e) told ∙ sym (told-more h e)

pub returns-clause-silent : goal.returns-clause-silent
returns-clause-silent c h e t nothing told =
    told ∙ sym (append-nil (told_to h e.session)) ∙ ap (λ (l : List Telling). told_to h e.session ++ l) (sym nothing) ∙ sym (told-more h e)

pub returns-clause-others : goal.returns-clause-others
returns-clause-others c h e s t other told = told ∙ sym (told-same h e s other)

pub returns-clause-first : goal.returns-clause-first
returns-clause-first c h s t none told = told ∙ sym (untold h s none)

pub returns-clause-anew : goal.returns-clause-anew
returns-clause-anew c h session t n nothing told = only_joins-got n ∙ sym nothing ∙ told

pub returns-clause-begun : goal.returns-clause-begun
returns-clause-begun c n = only_joins-got n
