-- What is proved by hand of `overlay_before`.
use Rattle.std.proofs.Common.{rules, ◌≡◌, ◌<◌, ◌-◌, length, get_or, subst, sym, arith}
use Rattle.sv_pending.specs.Made.{IsWholeResult}
use Rattle.sv_pending.proofs.Overlays.{whole_at}
use Rattle.sv_pending.proofs.redo.+overlay_before.Goals as goal

pub overlay_by-requires : goal.overlay_by-requires
overlay_by-requires t c =
    let made : c.args.count - 1 < length c.args.made.now = omega arith in
    let kept : c.args.count - 1 < length c.args.kept.now = omega arith in
    subst (λ m. IsWholeResult m.action c.index-kept-last.result) (sym c.index-made-last.is)
    (subst (λ k. IsWholeResult (get_or c.args.made.now (c.args.count - 1) c.index-made-last.result).action k) (sym c.index-kept-last.is)
    (whole_at c.args.made.now c.args.kept.now (c.args.count - 1) c.index-made-last.result c.index-kept-last.result made kept c.requires.whole))
