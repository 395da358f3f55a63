-- More was heard of it twice.
use Rattle.sv_office.proofs.office.Office.read_and_take.Goals as goal

pub returns-clause-served : goal.returns-clause-served
returns-clause-served g c = λ v is. c.take_piece.ensures.served v (c.read_piece-count.ensures.served v is)
