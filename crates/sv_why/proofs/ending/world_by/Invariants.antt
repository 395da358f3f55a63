-- The world is that of the actions so far.
use Rattle.std.proofs.Common.{◌≡◌, ◌≤◌, ◌-◌, reverse}
use Rattle.sv_eval.specs.Serial.{serial_world}
use Rattle.sv_journal.specs.History.{actions_of}
use Rattle.sv_why.proofs.ending.world_by.Given as goal

abbrev pub invariant-loop-at : goal.invariant-loop-at
invariant-loop-at l = record {
  high : l.at ≤ l.fn.last;
  world : l.world ≡ serial_world l.opening (actions_of (reverse l.journal.entries)) l.at;
}

abbrev pub decreases-loop-at : goal.decreases-loop-at
decreases-loop-at l = l.fn.last - l.at
