-- Marks up to the commit, and later actions, change nothing of cuts.
use Rattle.std.proofs.Common.{◌++◌, arith, length-append, refl}
use Rattle.sv_world.proofs.Writers.{action_at-append}
use Rattle.sv_world.proofs.Growing.{see-agree, see_head-agree}
use Rattle.sv_world.proofs.Greatest.{cut-agree}
use Rattle.sv_world.proofs.cuts.only_marks_above_the_commit_count_to_see.Goals as goal

pub returns-clause-needed : goal.returns-clause-needed
returns-clause-needed c A B d s t xs n le l alike =
    let long = length-append A B in
    see-agree (A ++ B) A d s t xs n le (omega arith) l (λ k low high. action_at-append A B k (omega arith)) alike

pub returns-clause-head : goal.returns-clause-head
returns-clause-head c objects A B d s t g xs n le l alike =
    let long = length-append A B in
    see_head-agree objects (A ++ B) A d s t g xs n le (omega arith) l (λ k low high. action_at-append A B k (omega arith)) alike

pub returns-clause-cut : goal.returns-clause-cut
returns-clause-cut c A d s t xs alike = cut-agree A A d s t xs refl (λ k low high. refl) alike
