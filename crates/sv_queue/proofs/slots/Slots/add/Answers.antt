-- What the check leaves to prove of `Slots::add`.
use Rattle.std.proofs.Common.{ℕ, Bool, ◌||◌, nat_eq, List, ◌∙◌, ap, ◌≡◌, length}
use Rattle.sv_queue.specs.Slots.{has_bit, set_of, set_with}
use Rattle.sv_queue.proofs.SlotWords.{refilled, same_room, slots-add}
use Rattle.sv_queue.proofs.slots.Slots.add.Goals as goal

pub returns : goal.returns
returns c =
    let ws = c.self.inside.words.items in
    let new' = c.set_bit.new.words in
    let count : length new' ≡ length ws = c.set_bit.ensures.count ∙ ap length c.as_mut_slice.ensures.value in
    ap set_of (refilled ws new' count)
    ∙ same_room ws new' _ count (slots-add ws new' c.args.slot (λ s. c.set_bit.ensures.bits s ∙ ap (λ (vs : List ℕ). nat_eq s c.args.slot || has_bit vs s) c.as_mut_slice.ensures.value))
    ∙ ap (set_with c.args.slot) c.self.view_is
