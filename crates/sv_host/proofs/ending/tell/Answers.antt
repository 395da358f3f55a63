-- The words' line.
use Rattle.sv_host.proofs.ending.tell.Goals as goal

pub returns-in-Words : goal.returns-in-Words
returns-in-Words g c = rw c.in-Words.is c.write_pieces.ensures.told
