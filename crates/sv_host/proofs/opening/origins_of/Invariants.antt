-- So many origins are owned.
use Rattle.std.proofs.Common.{◌≡◌, ℕ, List, map, take, string_bytes}
use Rattle.std.specs.Borrow.{Bor}
use Rattle.sv_host.proofs.opening.origins_of.Given as goal

abbrev pub invariant-loop-origin : goal.invariant-loop-origin
invariant-loop-origin l = map string_bytes l.origins.items ≡ map (λ (text : Bor (List ℕ)). text.now) (take l.origin-index l.origin-items)
