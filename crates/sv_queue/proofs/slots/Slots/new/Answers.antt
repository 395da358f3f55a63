-- What the check leaves to prove of `Slots::new`.
use Rattle.std.proofs.Common.{◌≡◌, ◌*◌, false, ◌∙◌, ap, ap₂, length, List, ℕ, [], ◌∷◌, ◌++◌}
use Rattle.sv_queue.specs.Slots.{slots_where, has_bit, set_of}
use Rattle.sv_queue.proofs.SlotSets.{slots_where-ext, slots_where-none}
use Rattle.sv_queue.proofs.SlotWords.{has_bit-none, set_is}
use Rattle.sv_queue.proofs.slots.Slots.new.Goals as goal

pub returns : goal.returns
returns c =
    ap set_of (c.push_reserved.ensures.items ∙ ap (λ (ws : List ℕ). ws ++ 0 ∷ []) c.new-words.ensures.items)
    ∙ set_is (0 ∷ []) (slots_where-ext _ (λ _. false) (λ s low. has_bit-none s) ∙ slots_where-none)
