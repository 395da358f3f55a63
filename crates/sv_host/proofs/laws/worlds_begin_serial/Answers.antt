-- The laws of `worlds_begin_serial`.
use Rattle.std.proofs.Common.{refl}
use Rattle.sv_host.specs.Causes.{start_in}
use Rattle.sv_host.proofs.laws.worlds_begin_serial.Goals as goal

pub returns-clause-authority : goal.returns-clause-authority
returns-clause-authority c = λ file is. record { alone = is; named = refl }

pub returns-clause-serial : goal.returns-clause-serial
returns-clause-serial c = λ file. c.new_worlds_are_serial.ensures (start_in file).rules (start_in file).stewardship
