-- What the check leaves to prove of `Slots::meets`.
use Rattle.std.proofs.Common.{◌≡◌, ℕ, true, false, List, ◌∙◌, ap, sym, subst}
use Rattle.std.specs.List.{list_any}
use Rattle.sv_world.specs.Control.{is_in}
use Rattle.sv_queue.specs.Slots.{SlotSet, slots_where, has_bit}
use Rattle.sv_queue.proofs.SlotWords.{meet_is}
use Rattle.sv_queue.proofs.slots.Slots.meets.Goals as goal

pub returns : goal.returns
returns c =
    let ws = c.self.inside.words.items in
    let others = c.other.inside.words.items in
    meet_is ws others c.have_common_bit.result c.self.invariant
    (rw (← c.as_slice.ensures, ← c.as_slice-2.ensures) c.have_common_bit.ensures.has)
    (rw (← c.as_slice.ensures, ← c.as_slice-2.ensures) c.have_common_bit.ensures.none)
    ∙ ap (λ (r : SlotSet). list_any (λ s. is_in s (slots_where (has_bit others))) r.slots) c.self.view_is
    ∙ ap (λ (r : SlotSet). list_any (λ s. is_in s r.slots) c.args.self.now.slots) c.other.view_is
