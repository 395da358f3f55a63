-- What an action writes it reads.
use Rattle.std.proofs.Common.{◌≡◌, ℕ, ◌+◌, true, inl, inr, List, [], ◌∷◌, subst}
use Rattle.std.proofs.lemmas.Bool.{cond_both}
use Rattle.sv_world.specs.declared.action.Action.{Action}
use Rattle.sv_world.specs.Sets.{read_set, write_set, at_mask, is_in_mask}
use Rattle.sv_world.specs.Control.{is_in}
use Rattle.sv_world.proofs.Members.{is_in-head, is_in-tail, is_in-cons_cases}

masked_in : (mask k x : ℕ) (xs : List ℕ) → is_in x (at_mask mask k xs) ≡ true → is_in x xs ≡ true
masked_in mask k x [] h = h
masked_in mask k x (y ∷ ys) h =
    let rest = masked_in mask (k + 1) x ys in
    cond_both (is_in_mask mask k) (y ∷ at_mask mask (k + 1) ys) (at_mask mask (k + 1) ys) (λ (zs : List ℕ). is_in x zs ≡ true → is_in x (y ∷ ys) ≡ true)
    (λ e g. elim (is_in-cons_cases x y (at_mask mask (k + 1) ys) g) [
      | inl s ↦ subst (λ (z : ℕ). is_in x (z ∷ ys) ≡ true) s (is_in-head x ys)
      | inr r ↦ is_in-tail x y ys (rest r)
    ])
    (λ e g. is_in-tail x y ys (rest g))
    h

pub written_is_read : (a : Action) (x : ℕ) → is_in x (write_set a) ≡ true → is_in x (read_set a) ≡ true
written_is_read a x h = masked_in a.mask 0 x (read_set a) h
