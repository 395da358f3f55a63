-- What a session on a thread of its own captures may go there.
use mir.Syntax.{Sym}
use denote.RattleType.{RattleType}
use denote.Struct.Field.{row_field}
use denote.Struct.Tuple.{TupleAt, type_at}
use denote.Param.Send.{IsSend, IsSync, sendable}
use denote.Param.SendFields.{as_row_send, declared_send}
use Rattle.std.proofs.Common.{[], ◌∷◌}
use Rattle.std.proofs.Crossing.{crosses}
use Rattle.sv_link.specs.contracts.gates.HoldGate as gate

pub gate-syncs : IsSync gate.the_row
gate-syncs = search (sendable, crosses) depth 20

-- A closure that captures six values may go to another thread where each of them may.
pub six-send : (ν : Sym) (A B C D E F : RattleType) → IsSend A → IsSend B → IsSend C → IsSend D → IsSend E → IsSend F → IsSend (TupleAt ν (A ∷ B ∷ C ∷ D ∷ E ∷ F ∷ []))
six-send ν A B C D E F a b c d e f =
    declared_send (type_at ν (A ∷ B ∷ C ∷ D ∷ E ∷ F ∷ []))
    (as_row_send (row_field A) a, (as_row_send (row_field B) b, (as_row_send (row_field C) c, (as_row_send (row_field D) d, (as_row_send (row_field E) e, (as_row_send (row_field F) f, tt))))))
