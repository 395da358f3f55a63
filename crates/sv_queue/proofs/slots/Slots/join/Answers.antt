-- What the check leaves to prove of `Slots::join`.
use Rattle.std.proofs.Common.{◌≡◌, ℕ, ◌<◌, List, ◌∙◌, ap, ap₂, sym, subst, length, slice_index, bit_or}
use Rattle.sv_world.specs.Control.{is_in}
use Rattle.sv_queue.specs.Slots.{SlotSet, set_of, set_joined}
use Rattle.sv_queue.proofs.SlotWords.{refilled, same_room, slots-joined}
use Rattle.sv_queue.proofs.slots.Slots.join.Goals as goal

pub returns : goal.returns
returns c =
    let ws = c.self.inside.words.items in
    let others = c.other.inside.words.items in
    let new' = c.join_words.new.words in
    let value = c.as_mut_slice.ensures.value in
    let count : length new' ≡ length ws = c.join_words.ensures.count ∙ ap length value in
    ap set_of (refilled ws new' count)
    ∙ same_room ws new' _ count (slots-joined new' ws others count
    (λ i low. c.join_words.ensures.words i (subst (λ n. i < n) (sym (ap length value)) low) ∙ ap₂ (λ (us vs : List ℕ). bit_or (slice_index us i) (slice_index vs i)) value c.as_slice.ensures)
    (λ s has. subst (λ (r : SlotSet). s < r.room) (sym c.self.view_is) (c.requires s (ap (λ (r : SlotSet). is_in s r.slots) (sym c.other.view_is) ∙ has))))
    ∙ ap₂ (λ (r o : SlotSet). set_joined o.slots r) c.self.view_is c.other.view_is
