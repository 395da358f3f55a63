-- The text so far and that of the objects left are the whole.
use Rattle.std.proofs.Common.{◌≡◌, ◌∷◌, ◌++◌, string_bytes, drop}
use Rattle.std.specs.List.{flat_map}
use Rattle.sv_world.specs.declared.world.ObjectId.{ObjectId}
use Rattle.sv_client.specs.Traces.{view_of}
use Rattle.sv_report.specs.Report.{shown_text}
use Rattle.sv_report.proofs.shown.append_more.Given as goal

abbrev pub invariant-loop-object : goal.invariant-loop-object
invariant-loop-object l = string_bytes l.out ++ flat_map (λ (o : ObjectId). 32 ∷ shown_text o.0 (view_of l.client.events o.0)) (drop l.object-index l.objects)
    ≡ string_bytes l.fn.out ++ flat_map (λ (o : ObjectId). 32 ∷ shown_text o.0 (view_of l.client.events o.0)) l.objects
