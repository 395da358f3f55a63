-- What is answered is what the call says.
use Rattle.sv_main.proofs.witness_here.Goals as goal

pub returns-clause-words : goal.returns-clause-words
returns-clause-words g c = c.run_witness.ensures.answers.words

pub returns-clause-faults : goal.returns-clause-faults
returns-clause-faults g c = (c.run_witness.ensures.answers.faults.file, c.run_witness.ensures.answers.faults.out)

pub returns-clause-output : goal.returns-clause-output
returns-clause-output g c = (c.run_witness.ensures.answers.left, c.run_witness.ensures.answers.number)

pub returns-clause-nothing : goal.returns-clause-nothing
returns-clause-nothing g c = c.run_witness.ensures.answers.left.nothing

pub returns-clause-line : goal.returns-clause-line
returns-clause-line g c = c.run_witness.ensures.answers.told
