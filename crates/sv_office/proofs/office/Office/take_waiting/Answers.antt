-- It stands where it stood.
use Rattle.std.proofs.Common.{refl}
use Rattle.sv_office.proofs.Leaving.{served_still}
use Rattle.sv_office.proofs.office.Office.take_waiting.Goals as goal

pub returns-then-is_open-clause-served : goal.returns-then-is_open-clause-served
returns-then-is_open-clause-served g c = λ v is.
    served_still v c.take_piece.new.guest _ refl refl refl (c.take_piece.ensures.served v (served_still v c.args.guest.now _ refl refl refl is))

pub returns-else-is_open-clause-served : goal.returns-else-is_open-clause-served
returns-else-is_open-clause-served g c = λ v is.
    served_still v c.take_piece.new.guest _ refl refl refl (c.take_piece.ensures.served v (served_still v c.args.guest.now _ refl refl refl is))
