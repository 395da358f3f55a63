-- The lines so far are those of the first clients.
use Rattle.std.proofs.Common.{◌≡◌, ◌++◌}
use Rattle.std.specs.List.{flat_map}
use Rattle.sv_threads.proofs.play.all_lines.Given as goal

abbrev pub invariant-loop-own : goal.invariant-loop-own
invariant-loop-own l = l.all.items ++ flat_map (λ v. v.items) l.own-iterator.rest.items ≡ flat_map (λ v. v.items) l.fn.lines.items

abbrev pub invariant-loop-line : goal.invariant-loop-line
invariant-loop-line l = (l.all.items ++ l.line-iterator.rest.items) ++ flat_map (λ v. v.items) l.own-iterator.rest.items ≡ flat_map (λ v. v.items) l.fn.lines.items
