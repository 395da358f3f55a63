-- What the check leaves to prove of `Slots::remove`.
use Rattle.std.proofs.Common.{ℕ, ◌&&◌, not, nat_eq, List, ◌∙◌, ap, ◌≡◌, length}
use Rattle.sv_queue.specs.Slots.{has_bit, set_of, set_but}
use Rattle.sv_queue.proofs.SlotWords.{refilled, same_room, slots-remove}
use Rattle.sv_queue.proofs.slots.Slots.remove.Goals as goal

pub returns : goal.returns
returns c =
    let ws = c.self.inside.words.items in
    let new' = c.clear_bit.new.words in
    let count : length new' ≡ length ws = c.clear_bit.ensures.count ∙ ap length c.as_mut_slice.ensures.value in
    ap set_of (refilled ws new' count)
    ∙ same_room ws new' _ count (slots-remove ws new' c.args.slot (λ s. c.clear_bit.ensures.bits s ∙ ap (λ (vs : List ℕ). has_bit vs s && not (nat_eq s c.args.slot)) c.as_mut_slice.ensures.value))
    ∙ ap (set_but c.args.slot) c.self.view_is
