-- What the check leaves to prove of `Slots::has`.
use Rattle.std.proofs.Common.{◌≡◌, ℕ, List, ◌∙◌, ap}
use Rattle.sv_world.specs.Control.{is_in}
use Rattle.sv_queue.specs.Slots.{SlotSet, has_bit}
use Rattle.sv_queue.proofs.SlotWords.{has_bit_is}
use Rattle.sv_queue.proofs.slots.Slots.has.Goals as goal

pub returns : goal.returns
returns c = c.has_bit.ensures ∙ ap (λ (ws : List ℕ). has_bit ws c.args.slot) c.as_slice.ensures
    ∙ has_bit_is c.self.inside.words.items c.args.slot c.self.invariant
    ∙ ap (λ (r : SlotSet). is_in c.args.slot r.slots) c.self.view_is
