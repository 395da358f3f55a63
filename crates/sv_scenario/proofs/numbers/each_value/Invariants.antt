-- What is left, behind what was read, gives what all gives.
use Rattle.std.proofs.Common.{◌≡◌, ◌+◌, [], length, vec_len}
use Rattle.serde_json.specs.View.{items_view}
use Rattle.sv_scenario.specs.Faults.{each}
use Rattle.sv_scenario.specs.Numbers.{value_of}
use Rattle.sv_scenario.proofs.numbers.each_value.Given as goal

abbrev pub invariant-loop-rest : goal.invariant-loop-rest
invariant-loop-rest l = record {
  reads : each (value_of l.attrs) l.all.items (items_view l.rest) ≡ each (value_of l.attrs) [] (items_view l.values);
  count : vec_len l.all + length l.rest ≡ length l.values;
}

abbrev pub decreases-loop-rest : goal.decreases-loop-rest
decreases-loop-rest l = length l.rest
