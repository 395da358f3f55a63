-- What is proved by hand of `Versions::read_below`.
use Rattle.std.proofs.Common.{◌<◌, ◌∙◌, sym, subst, arith}
use Rattle.sv_versions.specs.Held.{Store}
use Rattle.sv_versions.proofs.Flats.{read_row}
use Rattle.sv_versions.proofs.store.Versions.read_below.Goals as goal

pub returns : goal.returns
returns c =
    let short : c.args.object.0 < c.self.inside.shape.objects = subst (λ (s : Store). c.args.object.0 < s.shape.objects) (sym c.self.view_is) c.requires in
    rw (← c.self.view_is) (c.below.ensures c.args.object.0 ∙ read_row _ _ _ _ (omega (arith, c.self.invariant.0)) c.index-history.ensures)
