-- Puts taken back, the latest first.
use Rattle.std.specs.Prelude.{List, [], ◌∷◌}
use Rattle.sv_versions.specs.declared.undo.Replaced.{Replaced}
use Rattle.sv_versions.specs.Held.{Held, restored}

-- the values held before these changes
abbrev pub undone : List Replaced → List Held → List Held
undone [] held = held
undone (c ∷ cs) held = undone cs (restored c.object.0 c.pos c.was held)
