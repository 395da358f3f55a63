-- What is answered is what the call over the door says.
use Rattle.sv_main.proofs.join_here.Goals as goal

pub returns-clause-words : goal.returns-clause-words
returns-clause-words g c = c.run_join.ensures.answers.words

pub returns-clause-faults : goal.returns-clause-faults
returns-clause-faults g c = (c.run_join.ensures.answers.faults.file, c.run_join.ensures.answers.faults.out)

pub returns-clause-output : goal.returns-clause-output
returns-clause-output g c = (_, _, _, c.run_join.ensures.answers.left, c.run_join.ensures.answers.number, c.run_join.ensures.answers.play)

pub returns-clause-nothing : goal.returns-clause-nothing
returns-clause-nothing g c = c.run_join.ensures.answers.left.nothing

pub returns-clause-line : goal.returns-clause-line
returns-clause-line g c = (_, c.run_join.ensures.answers.told)
