-- So many values of one number each stand there.
use Rattle.std.proofs.Common.{◌≡◌, All, length}
use Rattle.test_asked.proofs.worlds.values_of.Given as goal

abbrev pub invariant-loop-number : goal.invariant-loop-number
invariant-loop-number l = record {
  count : length l.values ≡ l.number-index;
  attrs : All (λ value. length value ≡ 1) l.values;
}
