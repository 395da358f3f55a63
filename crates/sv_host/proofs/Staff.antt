-- What a server has beside its world.
use Rattle.std.proofs.Common.{◌≡◌, ℕ, ◌+◌, ◌<◌, List, [], ◌∷◌, ◌++◌, length, take, get_or, map, is_some, Option, Some, None, refl, sym, ap, ap₂, ◌∙◌}
use Rattle.std.proofs.lemmas.List.{map-append, take_more}
use Rattle.sv_keys.specs.Keeping.{KeysView}
use Rattle.sv_host.specs.Staffing.{AreKeysFor}

-- One more is owned.
pub more_mapped : {A B C : Type 0} (f : A → C) (g : B → C) (done : List A) (one : A) (items : List B) (i : ℕ) (d : B) → i < length items → f one ≡ g (get_or items i d)
    → map f done ≡ map g (take i items) → map f (done ++ one ∷ []) ≡ map g (take (i + 1) items)
more_mapped {C = C} f g done one items i d low is before =
    map-append f done (one ∷ []) ∙ ap₂ (λ (xs ys : List C). xs ++ ys) before (ap (λ (x : C). x ∷ []) is)
    ∙ sym (ap (map g) (take_more items i d low) ∙ map-append g (take i items) (get_or items i d ∷ []))

pub some_keys : (contents : List ℕ → Option (List ℕ)) (named : Option (List ℕ)) (keys : Option KeysView) → AreKeysFor contents named keys → is_some keys ≡ is_some named
some_keys contents None None are = refl
some_keys contents None (Some keys) are = absurd are
some_keys contents (Some name) None are = absurd are
some_keys contents (Some name) (Some keys) are = refl
