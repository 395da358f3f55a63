-- What stays true while parts are looked at, and what is left of them.
use Rattle.std.proofs.Common.{◌≡◌}
use Rattle.std.specs.Prelude.{option_copied}
use Rattle.sv_site.specs.Parts.{parts_of, parts_behind}
use Rattle.sv_site.specs.Keys.{ampersand, key_among}
use Rattle.sv_site.proofs.Cuts.{left_size}
use Rattle.sv_site.proofs.keys.key_part.Given as goal

abbrev pub invariant-loop-left : goal.invariant-loop-left
invariant-loop-left l = key_among (parts_behind ampersand (option_copied l.left)) ≡ key_among (parts_of ampersand l.query)

abbrev pub decreases-loop-left : goal.decreases-loop-left
decreases-loop-left l = left_size l.left
