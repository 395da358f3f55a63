-- What is asked for behind an option that was taken.
use Rattle.std.proofs.Common.{◌≡◌, ℕ, List, [], ◌∷◌, Option, Some, None, option_and_then, ap, ap₂}
use Rattle.sv_host.specs.Words.{Asked, flagged, measured, named, or_else, passed, taken}

pub flag_taken : (word : List ℕ) (rest : List (List ℕ)) (a b : Asked) → flagged word a ≡ Some b → taken (word ∷ rest) a ≡ taken rest b
flag_taken word [] a b e = e
flag_taken word (value ∷ rest) a b e =
    ap (λ (o : Option Asked). passed o (taken (value ∷ rest)) (option_and_then (taken rest) (or_else (named word value a) (measured word value a)))) e

pub value_taken : (word value : List ℕ) (rest : List (List ℕ)) (a b : Asked) → flagged word a ≡ None → or_else (named word value a) (measured word value a) ≡ Some b
    → taken (word ∷ value ∷ rest) a ≡ taken rest b
value_taken word value rest a b none e =
    ap₂ (λ (o p : Option Asked). passed o (taken (value ∷ rest)) (option_and_then (taken rest) p)) none e
