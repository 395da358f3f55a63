-- Marks up to the commit, and later actions, change nothing.
use Rattle.std.proofs.Common.{◌++◌, arith}
use Rattle.sv_world.proofs.Writers.{action_at-append}
use Rattle.sv_world.proofs.Needs.{needed-agree}
use Rattle.sv_world.proofs.Bases.{head_for-agree}
use Rattle.sv_world.proofs.laws.only_marks_above_the_commit_count.Goals as goal

pub returns-clause-needed : goal.returns-clause-needed
returns-clause-needed c A B d s t i l m alike = needed-agree (A ++ B) A d s t i l (λ k low high. action_at-append A B k (omega arith)) alike

pub returns-clause-head : goal.returns-clause-head
returns-clause-head c objects A B d s t g i l m alike = head_for-agree objects (A ++ B) A d s t g i l (λ k low high. action_at-append A B k (omega arith)) alike
