-- A good action can be sent, and it writes no more objects than it reads.
use Rattle.std.proofs.Common.{ℕ, suc, ◌+◌, ◌≤◌, Bool, true, false, cond, List, [], ◌∷◌, length, arith}
use Rattle.sv_world.specs.declared.action.Action.{Action}
use Rattle.sv_world.specs.declared.world.Shape.{Shape}
use Rattle.sv_world.specs.Faults.{IsGoodAction}
use Rattle.sv_world.specs.Sets.{is_in_mask, at_mask}
use Rattle.sv_wire.specs.Grammar.{IsWireAction}

pub wire_action : (shape : Shape) (a : Action) → IsGoodAction shape a → IsWireAction a
wire_action shape a good =
    record {
      some_reads = good.some_reads;
      few_reads = good.few_reads;
      ascending = good.ascending;
      mask = good.mask;
      few_nodes = good.few_nodes;
      shallow = good.shallow;
    }

pub masked_fewer : {X : Type 0} (mask k : ℕ) (xs : List X) → length (at_mask mask k xs) ≤ length xs
masked_fewer mask k [] = omega arith
masked_fewer mask k (x ∷ xs) = go (is_in_mask mask k) (masked_fewer mask (k + 1) xs)
  where
    go : (b : Bool) → length (at_mask mask (k + 1) xs) ≤ length xs → length (cond b (x ∷ at_mask mask (k + 1) xs) (at_mask mask (k + 1) xs)) ≤ suc (length xs)
    go true less = omega (arith, less)
    go false less = omega (arith, less)
