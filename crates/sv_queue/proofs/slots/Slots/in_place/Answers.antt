-- What the check leaves to prove of `Slots::in_place`.
use Rattle.std.proofs.Common.{◌≡◌, ◌∙◌, ap, false}
use Rattle.sv_queue.specs.Slots.{slots_where, has_bit}
use Rattle.sv_queue.proofs.SlotSets.{slots_where-ext, slots_where-none}
use Rattle.sv_queue.proofs.SlotWords.{has_bit-zeros}
use Rattle.sv_queue.proofs.slots.Slots.in_place.Goals as goal

pub returns-clause-slots : goal.returns-clause-slots
returns-clause-slots c =
    ap (λ ws. slots_where (has_bit ws)) c.from_buf_and_len.ensures.items
    ∙ slots_where-ext _ (λ _. false) (λ s low. has_bit-zeros c.args.words 8 s) ∙ slots_where-none
