-- What is proved by hand of `tell_changes`.
use Rattle.std.proofs.Common.{◌≡◌, ◌<◌, List, length, get_or, set, sym, ap, subst, ◌∙◌, arith}
use Rattle.std.specs.Prelude.{All}
use Rattle.sv_watch.specs.Told.{IsChangeIn}
use Rattle.sv_player.specs.Seen.{change_since, seen_of}
use Rattle.sv_player.specs.declared.telling.Seen.{Seen}
use Rattle.sv_player.proofs.Mapped.{mapped_all, mapped_next, mapped_more, all_at}
use Rattle.sv_player.proofs.Seeing.{lines_more, lines_all}
use Rattle.sv_player.proofs.telling.tell_changes.Goals as goal

pub tell_change-requires : goal.tell_change-requires
tell_change-requires g c =
    let d = c.one-item.result in
    let f = λ (s : Seen). seen_of c.args.client.now.events s.object in
    let i = c.loop-one.one-index in
    let old = c.args.seen.now in
    let l : i < length old = omega arith in
    let here : get_or c.loop-one.seen i d ≡ get_or old i d = ap (λ (xs : List Seen). get_or xs i d) c.loop-one.invariant.seen ∙ mapped_next f i old d l in
    let change = change_since c.args.client.now c.args.event in
    subst (λ (s : Seen). All (IsChangeIn c.args.watch.now.shape) (change s)) (sym here) (all_at change (IsChangeIn c.args.watch.now.shape) i old d l c.requires)

pub loop-one-preserved : goal.loop-one-preserved
loop-one-preserved g c =
    let d = c.one-item.result in
    let f = λ (s : Seen). seen_of c.args.client.now.events s.object in
    let i = c.loop-one.one-index in
    let old = c.args.seen.now in
    let inv = c.loop-one.invariant in
    let l : i < length old = omega arith in
    let here : get_or c.loop-one.seen i d ≡ get_or old i d = ap (λ (xs : List Seen). get_or xs i d) inv.seen ∙ mapped_next f i old d l in
    record {
      seen = ap (λ (xs : List Seen). set xs i c.tell_change.new.seen) inv.seen ∙ mapped_more f i old d c.tell_change.new.seen l (c.in_ok-tell_change.ensures.seen ∙ ap f here);
      told = lines_more c.args.client.now c.args.event i old d (get_or c.loop-one.seen i d) c.args.lines.now.items c.loop-one.lines.items c.tell_change.new.lines.items l here inv.told c.in_ok-tell_change.ensures.told;
    }

pub returns-clause-told : goal.returns-clause-told
returns-clause-told g c = lines_all c.args.client.now c.args.event c.loop-one.one-index c.args.seen.now c.args.lines.now.items c.loop-one.lines.items (omega arith) c.loop-one.invariant.told

pub returns-clause-seen : goal.returns-clause-seen
returns-clause-seen g c = c.loop-one.invariant.seen ∙ mapped_all (λ (s : Seen). seen_of c.args.client.now.events s.object) c.loop-one.one-index c.args.seen.now (omega arith)
