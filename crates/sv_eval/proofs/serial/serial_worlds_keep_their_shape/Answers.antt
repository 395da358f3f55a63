-- Serial execution keeps the number of the objects and the length of their values.
use Rattle.sv_eval.proofs.Serials.{serial_length, serial_shaped}
use Rattle.sv_eval.proofs.serial.serial_worlds_keep_their_shape.Goals as goal

pub returns-clause-counted : goal.returns-clause-counted
returns-clause-counted c = serial_length

pub returns-clause-shaped : goal.returns-clause-shaped
returns-clause-shaped c = serial_shaped
