-- Great replies: as many values, items, reads and statements as a relay may have, and as what was seen.
use Rattle.std.specs.Prelude.{ℕ, zero, suc, ℤ, pos, List, [], ◌∷◌, ◌++◌}
use Rattle.sv_world.specs.declared.world.ObjectId.{ObjectId}
use Rattle.sv_world.specs.declared.action.Action.{Action}
use Rattle.sv_world.specs.declared.action.Expr.TheVariants as exprs
use Rattle.sv_world.specs.declared.action.Stmt.{Stmt}
use Rattle.sv_world.specs.declared.action.Stmt.TheVariants as stmts
use Rattle.sv_wire.specs.declared.message.ObjectValue.{ObjectValue}
use Rattle.sv_wire.specs.declared.message.Item.{Item}

abbrev pub greatest_number : ℤ
greatest_number = pos 9223372036854775807

abbrev pub great_held : ℕ → ObjectValue
great_held n = record { object = record { 0 = n }; value = greatest_number ∷ greatest_number ∷ greatest_number ∷ greatest_number ∷ [] }

unfoldable pub great_heads : ℕ → List ObjectValue
great_heads zero = []
great_heads (suc n) = great_heads n ++ great_held n ∷ []

unfoldable pub great_reads : ℕ → List ObjectId
great_reads zero = []
great_reads (suc n) = great_reads n ++ record { 0 = n } ∷ []

abbrev pub great_stmt : Stmt
great_stmt = stmts.Set 0 0 (exprs.Lit greatest_number)

unfoldable pub great_body : ℕ → List Stmt
great_body zero = []
great_body (suc n) = great_body n ++ great_stmt ∷ []

abbrev pub great_action : Action
great_action = record { reads = great_reads 16; mask = 65535; origin = record { x = pos 0; y = pos 0 }; body = great_body 32 }

abbrev pub great_item : Item
great_item = record { pos = 1; client = record { 0 = 31 }; seq = 1; action = great_action }

unfoldable pub great_items : ℕ → List Item
great_items zero = []
great_items (suc n) = great_items n ++ great_item ∷ []
