-- The bytes of one connection among pieces.
use Rattle.std.proofs.Common.{◌≡◌, ℕ, Bool, true, false, cond, List, [], ◌∷◌, ◌++◌, nat_eq, refl, sym, ◌∙◌, ap, append_assoc, eq-eqb}
use Rattle.std.proofs.lemmas.Bool.{cond-true}
use Rattle.std.proofs.lemmas.List.{append-nil}
use Rattle.sv_ports.specs.Traffic.{bytes_of}

-- One piece more, of this connection or another.
pub bytes-more : (n m : ℕ) (ps : List (ℕ × List ℕ)) (bytes : List ℕ) → bytes_of n (ps ++ (m, bytes) ∷ []) ≡ cond (nat_eq n m) (bytes_of n ps ++ bytes) (bytes_of n ps)
bytes-more n m [] bytes = own (nat_eq n m)
  where
    own : (b : Bool) → cond b (bytes ++ []) [] ≡ cond b ([] ++ bytes) []
    own true = append-nil bytes
    own false = refl
bytes-more n m (p ∷ ps) bytes =
    ap (λ (rest : List ℕ). cond (nat_eq n p.0) (p.1 ++ rest) rest) (bytes-more n m ps bytes) ∙ both (nat_eq n p.0) (nat_eq n m)
  where
    both : (a b : Bool) → cond a (p.1 ++ cond b (bytes_of n ps ++ bytes) (bytes_of n ps)) (cond b (bytes_of n ps ++ bytes) (bytes_of n ps))
        ≡ cond b (cond a (p.1 ++ bytes_of n ps) (bytes_of n ps) ++ bytes) (cond a (p.1 ++ bytes_of n ps) (bytes_of n ps))
    both true true = sym (append_assoc p.1 (bytes_of n ps) bytes)
    both true false = refl
    both false true = refl
    both false false = refl

pub own_more : (n : ℕ) (ps : List (ℕ × List ℕ)) (bytes : List ℕ) → bytes_of n (ps ++ (n, bytes) ∷ []) ≡ bytes_of n ps ++ bytes
own_more n ps bytes = bytes-more n n ps bytes ∙ cond-true (nat_eq n n) (bytes_of n ps ++ bytes) (bytes_of n ps) (eq-eqb n n refl)
