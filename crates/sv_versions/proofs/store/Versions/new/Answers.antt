-- What is proved by hand of `Versions::new`.
use Rattle.std.proofs.Common.{◌≡◌, [], List, replicate, ap, ◌∙◌, arith}
use Rattle.std.proofs.lemmas.List.{length-replicate}
use Rattle.sv_versions.specs.declared.history.Version.{Version}
use Rattle.sv_versions.specs.Held.{Held, Store}
use Rattle.sv_versions.specs.Histories.{flat}
use Rattle.sv_versions.proofs.Prunings.{new_listed}
use Rattle.sv_versions.proofs.Flats.{flat_nothing}
use Rattle.sv_versions.proofs.store.Versions.new.Goals as goal

pub invariant_of-result : goal.invariant_of-result
invariant_of-result c =
    let rows : c.loop.histories.items ≡ replicate c.loop.counter [] = c.loop.invariant in
    rw (rows, c.new-2.ensures.items) (omega (arith, length-replicate {A = List Version} c.loop.counter []), new_listed c.loop.counter)

pub returns : goal.returns
returns c =
    let rows : c.loop.histories.items ≡ replicate c.loop.counter [] = c.loop.invariant in
    let make : List Held → Store = λ hs. record { shape = c.args.shape; held = hs } in
    ap make (ap flat rows ∙ flat_nothing 0 c.loop.counter)
