-- What is in a set of slots.
use Rattle.std.proofs.Common.{◌≡◌, ℕ, ◌<◌, ◌≤◌, Bool, true, false, ◌||◌, nat_eq, List, [], ◌∷◌, filter, refl, sym, ◌∙◌}
use Rattle.std.proofs.lemmas.Bool.{lt-ltb, le-ltb, ltb-true}
use Rattle.sv_world.specs.Control.{is_in, below}
use Rattle.sv_world.proofs.Members.{filter-ext}
use Rattle.sv_queue.specs.Slots.{slots_where, with_slot}
use Rattle.sv_queue.proofs.Members.{is_in-filtered, is_in-below}

pub in_slots : (p : ℕ → Bool) (s : ℕ) → s < 1024 → is_in s (slots_where p) ≡ p s
unfolding slots_where
in_slots p s low = is_in-filtered p s (below 1024) ∙ rw (is_in-below s 1024, lt-ltb s 1024 low) refl

pub out_of_slots : (p : ℕ → Bool) (s : ℕ) → 1024 ≤ s → is_in s (slots_where p) ≡ false
unfolding slots_where
out_of_slots p s high = is_in-filtered p s (below 1024) ∙ rw (is_in-below s 1024, le-ltb s 1024 high) refl

pub slots_where-ext : (p q : ℕ → Bool) → ((s : ℕ) → s < 1024 → p s ≡ q s) → slots_where p ≡ slots_where q
unfolding slots_where
slots_where-ext p q h = filter-ext p q (below 1024) (λ s e. h s (ltb-true s 1024 (sym (is_in-below s 1024) ∙ e)))

filter-none : (xs : List ℕ) → filter (λ _. false) xs ≡ []
filter-none [] = refl
filter-none (x ∷ xs) = filter-none xs

pub slots_where-none : slots_where (λ _. false) ≡ []
unfolding slots_where
slots_where-none = filter-none (below 1024)
