-- What stays true while names are compared.
use Rattle.std.proofs.Common.{◌≡◌, map, drop}
use Rattle.std.specs.Prelude.{string_bytes}
use Rattle.sv_site.specs.Origins.{is_named}
use Rattle.sv_site.proofs.origins.is_named.Given as goal

abbrev pub invariant-loop-name : goal.invariant-loop-name
invariant-loop-name l = is_named l.origin (map string_bytes (drop l.name-index l.named)) ≡ is_named l.origin (map string_bytes l.named)
