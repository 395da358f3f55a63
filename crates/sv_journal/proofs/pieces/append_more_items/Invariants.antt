-- The loop invariant of `append_more_items`.
use Rattle.std.proofs.Common.{◌≡◌, ◌∷◌, ◌++◌, reverse, string_bytes, drop}
use Rattle.std.specs.List.{flat_map}
use Rattle.sv_journal.specs.History.{accepted}
use Rattle.sv_journal.specs.Text.{item_text}
use Rattle.sv_journal.proofs.pieces.append_more_items.Given as goal

-- the text so far and that of the items left are the whole
abbrev pub invariant-loop-pos : goal.invariant-loop-pos
invariant-loop-pos l = string_bytes l.out ++ flat_map (λ p. 32 ∷ item_text (accepted (reverse l.journal.entries)) p) (drop l.pos-index l.positions)
    ≡ string_bytes l.fn.out ++ flat_map (λ p. 32 ∷ item_text (accepted (reverse l.journal.entries)) p) l.positions
