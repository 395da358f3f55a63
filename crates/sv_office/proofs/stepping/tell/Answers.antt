-- A connection that could not be told is gone.
use Rattle.std.proofs.Common.{arith}
use Rattle.sv_office.proofs.Served.{served_gone}
use Rattle.sv_office.proofs.stepping.tell.Goals as goal

pub returns-then-is_err-clause-served : goal.returns-then-is_err-clause-served
returns-then-is_err-clause-served c = λ v owed. served_gone v c.args.guest.now _ c.args.reply.now (grind arith) (grind arith) (grind arith) owed
