-- The loop invariant of `put_more_objects`.
use mathlib.Core.List.{IsPrefix}
use Rattle.std.proofs.Common.{◌≡◌, ◌∷◌, ◌++◌, string_bytes, drop}
use Rattle.std.specs.List.{flat_map}
use Rattle.std.specs.Fmt.{decimal}
use Rattle.sv_world.specs.declared.world.ObjectId.{ObjectId}
use Rattle.sv_journal.proofs.text.put_more_objects.Given as goal

-- the text so far and that of the objects left are the whole
abbrev pub invariant-loop-object : goal.invariant-loop-object
invariant-loop-object l = record {
  whole : string_bytes l.out ++ flat_map (λ (o : ObjectId). 32 ∷ decimal o.0) (drop l.object-index l.objects)
      ≡ string_bytes l.fn.out ++ flat_map (λ (o : ObjectId). 32 ∷ decimal o.0) l.objects;
  front : IsPrefix (string_bytes l.fn.out) (string_bytes l.out);
}
