-- Requests whose lines tell them.
use Rattle.std.specs.Prelude.{◌≡◌, ℕ, List, ◌++◌, None, codes}
use Rattle.std.specs.Fmt.{decimal}
use Rattle.sv_world.specs.declared.world.Shape.{Shape}
use Rattle.sv_world.specs.Faults.{first_fault_of_action}
use Rattle.sv_journal.specs.Text.{request_text}
use Rattle.sv_wire.specs.Ranges.{RequestFits}
use Rattle.sv_wire.specs.declared.message.Request.{Request}
use Rattle.sv_wire.specs.declared.message.Request.TheVariants as requests

-- A request that the line of an entry may have: its numbers are those of their types, and it is neither a malformed payload nor an action that
-- is refused in the shape, whose texts do not tell what they were.
abbrev pub IsTold : Shape → Request → Type 0
IsTold shape (requests.Submit seq action) = RequestFits (requests.Submit seq action) × (first_fault_of_action shape action ≡ None)
IsTold shape requests.Bad = ⊥
IsTold shape request = RequestFits request

-- The line of entry n up to its reply.
abbrev pub asking_text : Shape → ℕ → ℕ → Request → List ℕ
asking_text shape n session request = decimal n ++ codes " s" ++ decimal session ++ codes " " ++ request_text shape request ++ codes " -> "
