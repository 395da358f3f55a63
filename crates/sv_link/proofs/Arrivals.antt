-- How the comparison of two lists of bytes decides that one has arrived.
use Rattle.std.proofs.Common.{◌≡◌, ℕ, Bool, List, length, drop, ◌++◌, arith, ap, sym, ◌∙◌}
use Rattle.std.specs.Bool.{Decides}
use Rattle.std.specs.List.{starts_with}
use Rattle.std.proofs.lemmas.Slice.Eq.{starts_is}
use Rattle.std.proofs.lemmas.Bool.Decides.{Decides-eqb}
use Rattle.std.proofs.lemmas.List.{append-nil, nil_from_length, length-append}
use lib.Dec.{eqb}
use mathlib.Core.List.{IsPrefix}

pub prefix_decided : (sent received : List ℕ) (r : Bool) → r ≡ starts_with eqb sent received → Decides r (IsPrefix received sent)
prefix_decided sent received r e =
    let h = starts_is Decides-eqb sent received r e in
    ((λ is. (drop (length received) sent, sym (h.0 is))), λ p. h.1 p.0 (sym p.1))

-- a beginning of the same length is the whole
pub whole_by_length : (sent received : List ℕ) → IsPrefix received sent → length received ≡ length sent → received ≡ sent
whole_by_length sent received part same =
    let none : length part.0 ≡ 0 = omega (arith, sym (length-append received part.0) ∙ ap (λ (xs : List ℕ). length xs) part.1, same) in
    sym (append-nil received) ∙ ap (λ (xs : List ℕ). received ++ xs) (sym (nil_from_length part.0 none)) ∙ part.1
