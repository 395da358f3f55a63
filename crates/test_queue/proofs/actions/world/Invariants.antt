-- So many values of one number each stand there.
use Rattle.std.proofs.Common.{◌≡◌, All, length}
use Rattle.test_queue.proofs.actions.world.Given as goal

abbrev pub invariant-loop : goal.invariant-loop
invariant-loop l = record {
  count : length l.values ≡ l.counter;
  attrs : All (λ value. length value ≡ 1) l.values;
}
