-- What the check leaves to prove of `Slots::copy_from`.
use Rattle.std.proofs.Common.{◌≡◌, ℕ, ◌*◌, ◌<◌, true, List, ◌∙◌, ap, ap₂, sym, subst, length, slice_index}
use Rattle.sv_world.specs.Control.{is_in}
use Rattle.sv_queue.specs.Slots.{SlotSet, set_of}
use Rattle.sv_queue.proofs.SlotWords.{refilled, same_room, slots-copied}
use Rattle.sv_queue.proofs.slots.Slots.copy_from.Goals as goal

pub returns : goal.returns
returns c =
    let ws = c.self.inside.words.items in
    let others = c.other.inside.words.items in
    let new' = c.copy_words.new.words in
    let value = c.as_mut_slice.ensures.value in
    let count : length new' ≡ length ws = c.copy_words.ensures.count ∙ ap length value in
    ap set_of (refilled ws new' count)
    ∙ same_room ws new' _ count (slots-copied new' others
    (λ i low. c.copy_words.ensures.words i (subst (λ n. i < n) c.copy_words.ensures.count low) ∙ ap (λ (vs : List ℕ). slice_index vs i) c.as_slice.ensures)
    (λ s has. subst (λ n. s < 64 * n) (sym count) (subst (λ (r : SlotSet). s < r.room) (sym c.self.view_is) (c.requires s (ap (λ (r : SlotSet). is_in s r.slots) (sym c.other.view_is) ∙ has)))))
    ∙ ap₂ (λ (r o : SlotSet). record r { slots = o.slots }) c.self.view_is c.other.view_is
