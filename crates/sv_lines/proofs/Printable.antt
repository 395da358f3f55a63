-- An action of a request that its line tells is one whose canonical text is an action text.
use Rattle.std.proofs.Common.{◌≡◌, None}
use Rattle.sv_world.specs.declared.world.Shape.{Shape}
use Rattle.sv_world.specs.declared.action.Action.{Action}
use Rattle.sv_world.specs.Faults.{first_fault_of_action}
use Rattle.sv_world.proofs.Good.{good_of_none}
use Rattle.sv_wire.specs.Ranges.{ActionFits}
use Rattle.sv_text.specs.Printable.{IsWithinGrammar, IsPrintable}

within : (shape : Shape) (a : Action) → first_fault_of_action shape a ≡ None → IsWithinGrammar a
within shape a none =
    let good = good_of_none shape a none in
    record {
      some_reads = good.some_reads;
      few_reads = good.few_reads;
      ascending = good.ascending;
      mask = good.mask;
      slots = good.slots;
      few_nodes = good.few_nodes;
      shallow = good.shallow;
      origin = good.origin;
    }

pub printable : (shape : Shape) (a : Action) → ActionFits a → first_fault_of_action shape a ≡ None → IsPrintable a
printable shape a f none = record { within = within shape a none; objects = f.reads; numbers = f.body }
