-- The loop invariant of `append_more_head_values`.
use Rattle.std.proofs.Common.{◌≡◌, ◌∷◌, ◌++◌, string_bytes, drop}
use Rattle.std.specs.List.{flat_map}
use Rattle.sv_wire.specs.declared.message.ObjectValue.{ObjectValue}
use Rattle.sv_journal.specs.Pieces.{held_text}
use Rattle.sv_journal.proofs.pieces.append_more_head_values.Given as goal

-- the text so far and that of the values left are the whole
abbrev pub invariant-loop-held : goal.invariant-loop-held
invariant-loop-held l = string_bytes l.out ++ flat_map (λ (h : ObjectValue). 32 ∷ held_text h.object.0 h.value) (drop l.held-index l.head)
    ≡ string_bytes l.fn.out ++ flat_map (λ (h : ObjectValue). 32 ∷ held_text h.object.0 h.value) l.head
