-- All are owned at the end.
use Rattle.std.proofs.Common.{ℕ, List, map, string_bytes, ap, ◌∙◌}
use Rattle.std.proofs.lemmas.List.{take_all}
use Rattle.std.specs.Borrow.{Bor}
use Rattle.sv_host.proofs.Staff.{more_mapped}
use Rattle.sv_host.proofs.opening.origins_of.Goals as goal

pub loop-origin-preserved : goal.loop-origin-preserved
loop-origin-preserved c =
    ap (map string_bytes) c.in_ok-push.ensures.items
    ∙ more_mapped string_bytes (λ (text : Bor (List ℕ)). text.now) c.loop-origin.origins.items c.in_ok-owned.field-0 c.deref-origin-items.result.now
    c.loop-origin.origin-index _ c.loop-origin-test.true c.in_ok-owned.ensures c.loop-origin.invariant

pub returns : goal.returns
returns c =
    c.loop-origin.invariant ∙ ap (map (λ (text : Bor (List ℕ)). text.now)) (take_all _ _ c.loop-origin-test.false ∙ c.deref-origin-items.ensures.value)
