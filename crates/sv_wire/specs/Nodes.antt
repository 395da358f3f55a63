-- The nodes of an action's body: their bytes, and where a node may stand.
use Rattle.std.specs.Prelude.{ℕ, List, [], ◌∷◌, Result, Ok, Option, Some, None, ◌==◌, nat_lt, if◌then◌else◌}
use Rattle.sv_world.specs.Limits.{most_nodes}
use Rattle.sv_wire.specs.declared.fault.Stop.{Stop}
use Rattle.sv_wire.specs.declared.fault.WireCause.TheVariants.{Kind, Large, Deep}
use Rattle.sv_world.specs.declared.node.Operator.TheVariants.{Add, Sub, Mul, Div, Rem, Min, Max}
use Rattle.sv_wire.specs.declared.nodes.ExprKind.{ExprKind}
use Rattle.sv_wire.specs.declared.nodes.ExprKind.TheVariants as expr_kind
use Rattle.sv_world.specs.declared.node.Comparison.TheVariants.{Eq, Lt, Le}
use Rattle.sv_world.specs.declared.node.Connective.TheVariants.{And, Or}
use Rattle.sv_wire.specs.declared.nodes.CondKind.{CondKind}
use Rattle.sv_wire.specs.declared.nodes.CondKind.TheVariants as cond_kind
use Rattle.sv_wire.specs.declared.nodes.StmtKind.{StmtKind}
use Rattle.sv_wire.specs.declared.nodes.StmtKind.TheVariants as stmt_kind
use Rattle.sv_wire.specs.Steps.{Read, ◌>>=◌, stop}
use Rattle.sv_wire.specs.Fields.{byte_from}

-- what stands behind a key in a table
abbrev pub among : {K : Type 0} → List (ℕ × K) → ℕ → Option K
among [] b = None
among (e ∷ es) b = if b == e.0 then Some e.1 else among es b

unfoldable pub expr_kind_of : ℕ → Option ExprKind
expr_kind_of = among
    ((0x20, expr_kind.Lit)
    ∷ (0x21, expr_kind.Attr)
    ∷ (0x22, expr_kind.Both Add)
    ∷ (0x23, expr_kind.Both Sub)
    ∷ (0x24, expr_kind.Both Mul)
    ∷ (0x25, expr_kind.Both Div)
    ∷ (0x26, expr_kind.Both Rem)
    ∷ (0x27, expr_kind.Both Min)
    ∷ (0x28, expr_kind.Both Max)
    ∷ [])

unfoldable pub cond_kind_of : ℕ → Option CondKind
cond_kind_of = among
    ((0x30, cond_kind.Compare Eq)
    ∷ (0x31, cond_kind.Compare Lt)
    ∷ (0x32, cond_kind.Compare Le)
    ∷ (0x33, cond_kind.Both And)
    ∷ (0x34, cond_kind.Both Or)
    ∷ (0x35, cond_kind.Not)
    ∷ [])

unfoldable pub stmt_kind_of : ℕ → Option StmtKind
stmt_kind_of = among ((0x10, stmt_kind.Set) ∷ (0x11, stmt_kind.If) ∷ [])

-- Whether a node may begin these bytes: it is not one too many, and there is a level left for it.
unfoldable pub room_at : ℕ → ℕ → List ℕ → Result (Unit {0}) Stop
room_at depth nodes bytes = if nat_lt nodes most_nodes then (if nat_lt 0 depth then Ok tt else stop bytes Deep) else stop bytes Large

abbrev pub kind_in : {K : Type 0} → Option K → List ℕ → Result K Stop
kind_in None bytes = stop bytes Kind
kind_in (Some kind) bytes = Ok kind

-- The kind of the node that begins these bytes, with so many levels left for it and so many nodes before it.
unfoldable pub node_from : {K : Type 0} → (ℕ → Option K) → ℕ → ℕ → List ℕ → Read K
node_from kind_of depth nodes bytes = do
  b ← byte_from bytes
  kind ← kind_in (kind_of b.0) bytes
  _ ← room_at depth nodes bytes
  Ok (kind, b.1)
