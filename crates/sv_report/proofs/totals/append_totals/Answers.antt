-- What is proved by hand of `append_totals`.
use Rattle.std.proofs.Common.{◌≡◌, ℕ, suc, ◌+◌, ◌-◌, ℤ, List, ◌++◌, ap, arith}
use Rattle.sv_report.specs.Summary.{total_line, total_lines}
use Rattle.sv_report.proofs.Lines.{one_more}
use Rattle.sv_report.proofs.totals.append_totals.Goals as goal

-- the lines of the attributes left, of which there is one more
next_line : (attr n m : ℕ) (values : List (List ℤ)) → n ≡ suc m → total_lines attr n values ≡ total_line attr values ++ total_lines (attr + 1) m values
next_line attr n m values e = ap (λ (k : ℕ). total_lines attr k values) e

pub loop-attr-preserved : goal.loop-attr-preserved
loop-attr-preserved c =
    let vs = c.args.values.now in
    let a = c.loop-attr.attr in
    let left : c.args.attrs - a ≡ suc (c.args.attrs - (a + 1)) = omega arith in
    one_more _ _ (total_line a vs) _ (total_lines (a + 1) (c.args.attrs - (a + 1)) vs) _ c.in_ok-append_total.ensures
    (next_line a (c.args.attrs - a) (c.args.attrs - (a + 1)) vs left) c.loop-attr.invariant
