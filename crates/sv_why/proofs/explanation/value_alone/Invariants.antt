-- The world is that of the actions so far.
use Rattle.std.proofs.Common.{◌≡◌, map, reverse}
use Rattle.sv_world.specs.Control.{action_at}
use Rattle.sv_eval.specs.Serial.{serial_world}
use Rattle.sv_journal.specs.History.{actions_of}
use Rattle.sv_why.proofs.explanation.value_alone.Given as goal

abbrev pub invariant-loop-pos : goal.invariant-loop-pos
invariant-loop-pos l = l.world ≡ serial_world l.opening (map (action_at (actions_of (reverse l.journal.entries))) l.positions) l.pos-index
