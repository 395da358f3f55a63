-- What stays true while parts are looked at, and what is left of them.
use Rattle.std.proofs.Common.{◌≡◌}
use Rattle.std.specs.Prelude.{option_copied}
use Rattle.std.specs.List.{list_all}
use Rattle.sv_site.specs.Paths.{slash, is_plain}
use Rattle.sv_site.specs.Parts.{parts_of, parts_behind}
use Rattle.sv_site.proofs.Cuts.{left_size}
use Rattle.sv_site.proofs.paths.are_plain.Given as goal

abbrev pub invariant-loop-left : goal.invariant-loop-left
invariant-loop-left l = list_all is_plain (parts_behind slash (option_copied l.left)) ≡ list_all is_plain (parts_of slash l.below)

abbrev pub decreases-loop-left : goal.decreases-loop-left
decreases-loop-left l = left_size l.left
