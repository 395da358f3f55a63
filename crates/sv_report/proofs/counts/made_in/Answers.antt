-- What is proved by hand of `made_in`.
use Rattle.std.proofs.Common.{◌≡◌, ℕ, ◌<◌, ◌≤◌, List, length, get_or, reverse, sym, ap, subst, ◌∙◌, arith}
use Rattle.std.specs.Prelude.{All}
use Rattle.std.proofs.lemmas.List.{at_drop_more}
use Rattle.sv_client.specs.declared.trace.Trace.{Trace}
use Rattle.sv_client.specs.Proper.{most_made}
use Rattle.sv_client.specs.Traces.{makes}
use Rattle.sv_report.specs.Summary.{made_count}
use Rattle.sv_report.proofs.counts.made_in.Goals as goal

-- what the next trace makes
made_here : (Ls : List Trace) (i n : ℕ) (L : Trace) → L ≡ get_or Ls i L → n ≡ makes (reverse L.events) → n ≡ makes (reverse (get_or Ls i L).events)
made_here Ls i n L here is = is ∙ ap (λ (M : Trace). makes (reverse M.events)) here

few_here : (Ls : List Trace) (i n : ℕ) (L : Trace) → i < length Ls → All (λ (M : Trace). makes (reverse M.events) ≤ most_made) Ls
    → n ≡ makes (reverse (get_or Ls i L).events) → n ≤ most_made
few_here Ls i n L l small is = subst (λ (m : ℕ). m ≤ most_made) (sym is) (small i L l)

pub overflow_add-count : goal.overflow_add-count
overflow_add-count c =
    let Ls = c.args.traces.now in
    let l = c.loop-trace in
    let made = made_here Ls l.trace-index c.made_by-count.result c.trace-item.result c.trace-item.is c.made_by-count.ensures in
    let few = few_here Ls l.trace-index c.made_by-count.result c.trace-item.result c.loop-trace-test.true c.requires.small made in
    omega (arith, few, l.invariant.0, c.loop-trace-test.true, c.requires.few)

pub loop-trace-preserved : goal.loop-trace-preserved
loop-trace-preserved c =
    let Ls = c.args.traces.now in
    let l = c.loop-trace in
    let made = made_here Ls l.trace-index c.made_by-count.result c.trace-item.result c.trace-item.is c.made_by-count.ensures in
    let few = few_here Ls l.trace-index c.made_by-count.result c.trace-item.result c.loop-trace-test.true c.requires.small made in (
      omega (arith, few, l.invariant.0),
      omega (arith, made, l.invariant.1, at_drop_more made_count Ls l.trace-index c.trace-item.result c.loop-trace-test.true),
    )
