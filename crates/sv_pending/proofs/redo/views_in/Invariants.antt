-- The loop invariant of `views_in`.
use Rattle.std.proofs.Common.{◌≡◌, length, map, drop}
use Rattle.sv_world.specs.declared.world.ObjectId.{ObjectId}
use Rattle.sv_pending.specs.Pending.{views_over}
use Rattle.sv_pending.specs.Made.{paired}
use Rattle.sv_pending.proofs.Overlays.{with_views}
use Rattle.sv_pending.proofs.redo.views_in.Given as goal

abbrev pub invariant-loop-object : goal.invariant-loop-object
invariant-loop-object l =
    (length l.views.items ≡ l.object-index)
    × (with_views l.views.items (views_over l.versions.held (paired l.made l.kept) (map (λ (o : ObjectId). o.0) (drop l.object-index l.objects)))
    ≡ views_over l.versions.held (paired l.made l.kept) (map (λ (o : ObjectId). o.0) l.objects))
