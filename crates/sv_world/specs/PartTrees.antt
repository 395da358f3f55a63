-- The measures and tests of trees, at the parts that nodes spell. Where there is no tree they are least.
use Rattle.std.specs.Prelude.{◌≡◌, ℕ, ◌≤◌, Bool, true, nat_lt, ◌&&◌}
use Rattle.sv_world.specs.Parts.{Part, Expression, Condition, Statement, Block, Bad}
use Rattle.sv_world.specs.Sets.{is_in_mask}
use Rattle.sv_world.specs.Trees.{expr_nodes, cond_nodes, stmt_nodes, body_nodes, expr_depth, cond_depth, stmt_depth, body_depth, expr_passes, cond_passes, stmt_passes, body_passes}
use Rattle.sv_world.specs.declared.fits.Limits.{Limits}

abbrev pub part_nodes : Part → ℕ
part_nodes (Expression e) = expr_nodes e
part_nodes (Condition c) = cond_nodes c
part_nodes (Statement s) = stmt_nodes s
part_nodes (Block xs) = body_nodes xs
part_nodes Bad = 0

abbrev pub part_depth : Part → ℕ
part_depth (Expression e) = expr_depth e
part_depth (Condition c) = cond_depth c
part_depth (Statement s) = stmt_depth s
part_depth (Block xs) = body_depth xs
part_depth Bad = 0

abbrev pub part_passes : (ℕ → ℕ → Bool) → (ℕ → ℕ → Bool) → Part → Bool
part_passes set get (Expression e) = expr_passes get e
part_passes set get (Condition c) = cond_passes get c
part_passes set get (Statement s) = stmt_passes set get s
part_passes set get (Block xs) = body_passes set get xs
part_passes set get Bad = true

-- What may be got, and what may be set.
abbrev pub may_get : Limits → ℕ → ℕ → Bool
may_get limits slot attr = nat_lt slot limits.reads && nat_lt attr limits.attrs

abbrev pub may_set : Limits → ℕ → ℕ → Bool
may_set limits slot attr = is_in_mask limits.mask slot && (nat_lt slot limits.reads && nat_lt attr limits.attrs)

abbrev pub fits : Limits → Part → Bool
fits limits p = part_passes (may_set limits) (may_get limits) p

-- It does not fit, or has more nodes than are left, or is nested deeper than it may be.
abbrev pub IsUnfit : Limits → ℕ → ℕ → Part → Type 0
IsUnfit limits depth left p = fits limits p ≡ true → part_nodes p ≤ left → part_depth p ≤ depth → ⊥
