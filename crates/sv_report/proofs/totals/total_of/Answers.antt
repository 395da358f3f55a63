-- What is proved by hand of `total_of`.
use Rattle.std.proofs.Common.{◌≡◌, ℕ, ◌+◌, ◌<◌, ℤ, pos, ◌+ℤ◌, List, drop, length, get_or, sym, ap, ◌∙◌, arith}
use Rattle.std.proofs.lemmas.Int.{ints, to_z-of_z}
use Rattle.std.proofs.lemmas.List.{at_drop_more}
use Rattle.sv_report.specs.Summary.{total_of}
use Rattle.sv_report.proofs.totals.total_of.Goals as goal

regroup : (t x rest whole : ℤ) → t +ℤ (x +ℤ rest) ≡ whole → (t +ℤ x) +ℤ rest ≡ whole
regroup t x rest whole e = omega (arith, ints, e)

-- one more value
added : (attr : ℕ) (vs : List (List ℤ)) (i : ℕ) (v : List ℤ) (t x : ℤ) → i < length vs → v ≡ get_or vs i v → x ≡ get_or v attr (pos 0)
    → t +ℤ total_of attr (drop i vs) ≡ total_of attr vs → (t +ℤ x) +ℤ total_of attr (drop (i + 1) vs) ≡ total_of attr vs
added attr vs i v t x l here is e = regroup t x (total_of attr (drop (i + 1) vs)) (total_of attr vs)
    (ap (λ (y : ℤ). t +ℤ (y +ℤ total_of attr (drop (i + 1) vs))) (is ∙ ap (λ (w : List ℤ). get_or w attr (pos 0)) here)
    ∙ sym (ap (λ (y : ℤ). t +ℤ y) (at_drop_more (total_of attr) vs i v l)) ∙ e)

pub loop-value-preserved : goal.loop-value-preserved
loop-value-preserved c = record {
  sum = grind (arith, to_z-of_z, added, c.number_at.ensures, c.value-item.is, c.as_slice.ensures, c.from-total.ensures, c.loop-value.invariant.sum);
  low = omega (arith, ints);
  high = omega (arith, ints);
}
