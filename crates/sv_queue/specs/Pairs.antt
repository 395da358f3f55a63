-- Sets of pairs of an object and a slot, as ascending lists with each pair once.
use Rattle.std.specs.Prelude.{ℕ, zero, suc, Bool, false, ◌&&◌, ◌||◌, not, nat_eq, List, [], ◌∷◌, ◌++◌, map, filter, slice_index_or}
use Rattle.sv_world.specs.Control.{is_in}
use Rattle.sv_queue.specs.Slots.{slots_where}

abbrev pub is_pair : ℕ → ℕ → List (ℕ × ℕ) → Bool
is_pair x s [] = false
is_pair x s (p ∷ ps) = (nat_eq x p.0 && nat_eq s p.1) || is_pair x s ps

-- The pairs of an object below the number and a slot that pass a test.
unfoldable pub pairs_where : ℕ → (ℕ → ℕ → Bool) → List (ℕ × ℕ)
pairs_where zero p = []
pairs_where (suc n) p = pairs_where n p ++ map (λ s. (n, s)) (slots_where (p n))

-- The pairs of each object with the slots that its row has.
abbrev pub pairs_of : ℕ → List (List ℕ) → List (ℕ × ℕ)
pairs_of objects rows = pairs_where objects (λ x s. is_in s (slice_index_or rows x []))

-- The pairs of a list, and one more.
abbrev pub with_pair : ℕ → ℕ → ℕ → List (ℕ × ℕ) → List (ℕ × ℕ)
with_pair objects object slot pairs =
    pairs_where objects (λ x s. (nat_eq x object && nat_eq s slot) || is_pair x s pairs)

-- The pairs of a list but for those of a slot.
abbrev pub pairs_but : ℕ → List (ℕ × ℕ) → List (ℕ × ℕ)
pairs_but slot pairs = filter (λ p. not (nat_eq p.1 slot)) pairs
