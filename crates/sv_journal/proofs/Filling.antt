-- A list that is filled up to a length with its default keeps what it has at each place.
use Rattle.std.proofs.Common.{◌≡◌, ℕ, ◌<◌, ◌≤◌, List, length, get_or, ◌⊎◌, inl, inr, refl, sym, ap, ◌∙◌}
use Rattle.std.specs.Prelude.{if◌then◌else◌}
use Rattle.std.specs.Prelude.{Result, Ok, Err}
use Rattle.std.specs.Result.{IsOk, is_ok}
use Rattle.std.proofs.lemmas.Bool.{cases_lt}
use Rattle.std.proofs.lemmas.List.{get_or_past}

pub filled : {A E : Type 0} (r : Result (Unit {0}) E) (old new more : List A) (n s : ℕ) (d : A) →
    new ≡ (if is_ok r then more else old) →
    (s < length old → get_or new s d ≡ get_or old s d) →
    (IsOk r → length old ≤ s → get_or new s d ≡ d) →
    get_or new s d ≡ get_or old s d
filled (Ok x) old new more n s d e low high = go (cases_lt s (length old))
  where
    go : (s < length old) ⊎ (length old ≤ s) → get_or new s d ≡ get_or old s d
    go (inl l) = low l
    go (inr h) = high refl h ∙ sym (get_or_past old s d h)
filled (Err x) old new more n s d e low high = ap (λ (xs : List _). get_or xs s d) e
