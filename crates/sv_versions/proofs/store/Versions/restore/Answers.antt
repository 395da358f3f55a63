-- What is proved by hand of `Versions::restore`.
use Rattle.std.proofs.Common.{◌≡◌, ◌<◌, List, length, get_or, [], ap, ◌∙◌, sym, arith}
use Rattle.std.proofs.lemmas.List.{get_or_read}
use Rattle.sv_versions.specs.declared.history.Version.{Version}
use Rattle.sv_versions.specs.Held.{Held, Store}
use Rattle.sv_versions.specs.Histories.{row_restored}
use Rattle.sv_versions.proofs.Restores.{took_back, none_stays}
use Rattle.sv_versions.proofs.store.Versions.restore.Goals as goal

pub returns-then-index-len : goal.returns-then-index-len
returns-then-index-len c =
    let rows = c.self.inside.histories.items in
    let x = c.args.change.object.0 in
    let make : List Held → Store = λ hs. record { shape = c.self.inside.shape; held = hs } in
    let within : x < length rows = omega arith in
    let row : c.index_mut-history.result.now ≡ get_or rows x [] = get_or_read rows x _ within c.index_mut-history.ensures.value [] in
    rw (← c.self.view_is) (ap make (took_back x c.args.change.pos c.args.change.was rows c.restore.new.self within (c.restore.ensures.kept ∙ ap (λ (r : List Version). row_restored c.args.change.pos c.args.change.was r) row)))

pub returns-else-index-len : goal.returns-else-index-len
returns-else-index-len c =
    let make : List Held → Store = λ hs. record { shape = c.self.inside.shape; held = hs } in
    rw (← c.self.view_is) (ap make (sym (none_stays c.args.change.object.0 0 c.args.change.pos c.args.change.was c.self.inside.histories.items (omega arith))))
