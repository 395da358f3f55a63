-- What is proved by hand of `Versions::replace`.
use Rattle.std.proofs.Common.{◌≡◌, ◌<◌, List, length, get_or, [], ap, ◌∙◌, sym, subst, arith}
use Rattle.std.proofs.lemmas.List.{get_or_read}
use Rattle.std.proofs.lemmas.Result.{on_ok_weaker, IfOk-weaker}
use Rattle.sv_versions.specs.declared.history.Version.{Version}
use Rattle.sv_versions.specs.Held.{Held, Store, put_in, AnswersAbove}
use Rattle.sv_versions.proofs.Laws.{put_answers}
use Rattle.sv_versions.specs.Histories.{tagged, as_held, flat}
use Rattle.sv_versions.proofs.Flats.{put_flat}
use Rattle.sv_versions.proofs.Restores.{put_back}
use Rattle.sv_versions.proofs.store.Versions.replace.Goals as goal

pub returns-clause-ok : goal.returns-clause-ok
returns-clause-ok c =
    let rows = c.self.inside.histories.items in
    let x = c.args.object.0 in
    let w : Version = record { pos = c.args.pos; value = c.args.value } in
    let short : x < c.self.inside.shape.objects = subst (λ (s : Store). x < s.shape.objects) (sym c.self.view_is) c.requires in
    let within : x < length rows = omega (arith, c.self.invariant.0) in
    let row : c.index_mut-history.result.now ≡ get_or rows x [] = get_or_read rows x _ within c.index_mut-history.ensures.value [] in
    let make : List Held → Store = λ hs. record { shape = c.self.inside.shape; held = hs } in
    rw (← c.self.view_is) (on_ok_weaker c.put.result
    (λ each. ap make (put_flat rows (as_held x w) c.put.new.self within (each x ∙ ap (λ (r : List Version). put_in (tagged x r) (as_held x w)) row)))
    c.put.ensures.ok)

pub returns-clause-answers : goal.returns-clause-answers
returns-clause-answers c =
    let rows = c.self.inside.histories.items in
    let x = c.args.object.0 in
    let w : Version = record { pos = c.args.pos; value = c.args.value } in
    let short : x < c.self.inside.shape.objects = subst (λ (s : Store). x < s.shape.objects) (sym c.self.view_is) c.requires in
    let within : x < length rows = omega (arith, c.self.invariant.0) in
    let row : c.index_mut-history.result.now ≡ get_or rows x [] = get_or_read rows x _ within c.index_mut-history.ensures.value [] in
    on_ok_weaker c.put.result
    (λ each told all a.
    let was : AnswersAbove told (flat rows) all = subst (λ (s : Store). AnswersAbove told s.held all) (sym c.self.view_is) a in
    rw (put_flat rows (as_held x w) c.put.new.self within (each x ∙ ap (λ (r : List Version). put_in (tagged x r) (as_held x w)) row)) (put_answers told (as_held x w) (flat rows) all was))
    c.put.ensures.ok

pub returns-clause-undone : goal.returns-clause-undone
returns-clause-undone c =
    let rows = c.self.inside.histories.items in
    let x = c.args.object.0 in
    let short : x < c.self.inside.shape.objects = subst (λ (s : Store). x < s.shape.objects) (sym c.self.view_is) c.requires in
    let within : x < length rows = omega (arith, c.self.invariant.0) in
    let row : c.index_mut-history.result.now ≡ get_or rows x [] = get_or_read rows x _ within c.index_mut-history.ensures.value [] in
    rw (← c.self.view_is) (IfOk-weaker c.put.result _ _ (λ was e. put_back x c.args.pos was rows c.put.new.self within (e ∙ row)) c.put.ensures.undone)
