-- Reading fields one after the other, as a loop does: what it has read, and what reading the rest gives, is what reading all gives.
use Rattle.std.proofs.Common.{◌≡◌, ℕ, suc, ◌-◌, ◌+◌, ◌≤◌, ◌<◌, List, [], ◌∷◌, ◌++◌, Result, Ok, Err, refl, sym, ap, ◌∙◌, append_assoc, arith}
use Rattle.std.proofs.lemmas.List.{append-nil}
use Rattle.sv_wire.specs.declared.fault.Stop.{Stop}
use Rattle.sv_wire.specs.declared.fault.DecodeFault.{DecodeFault}
use Rattle.sv_wire.specs.declared.fault.DecodeFault.TheVariants as faults
use Rattle.sv_wire.specs.Steps.{◌>>=◌, Read, Turn, Fails, several, in_turn}

-- what was read before, and what is still read
abbrev pub with_front : {A : Type 0} → List A → Read (List A) → Read (List A)
with_front front read = read >>= λ x. Ok (front ++ x.0, x.1)

regroup : {A : Type 0} (front : List A) (n : A) (read : Read (List A)) → with_front front (read >>= λ x. Ok (n ∷ x.0, x.1)) ≡ with_front (front ++ n ∷ []) read
regroup {A = A} front n (Ok x) = ap (λ (ns : List A). Ok (ns, x.1)) (simp append_assoc)
regroup front n (Err f) = refl

pub goes_on : {A : Type 0} (reader : List ℕ → Read A) (front : List A) (count i : ℕ) (bytes : List ℕ) (n : A) (after : List ℕ) (total : Read (List A)) → i < count → reader bytes ≡ Ok (n, after)
    → with_front front (several reader (count - i) bytes) ≡ total → with_front (front ++ n ∷ []) (several reader (count - (i + 1)) after) ≡ total
unfolding several
goes_on reader front count i bytes n after total lt h so_far =
    let k : count - i ≡ suc (count - (i + 1)) = omega arith in
    let one : with_front front (several reader (count - i) bytes) ≡ with_front (front ++ n ∷ []) (several reader (count - (i + 1)) after) = rw (k, h) (regroup front n (several reader (count - (i + 1)) after)) in
    sym one ∙ so_far

pub ends : {A : Type 0} (reader : List ℕ → Read A) (e : DecodeFault) (front : List A) (count i : ℕ) (bytes : List ℕ) (total : Read (List A)) → i < count → Fails e (reader bytes)
    → with_front front (several reader (count - i) bytes) ≡ total → Fails e total
unfolding several
ends reader faults.Memory front count i bytes total lt h so_far = tt
ends reader (faults.Stop f) front count i bytes total lt h so_far =
    let k : count - i ≡ suc (count - (i + 1)) = omega arith in
    let one : with_front front (several reader (count - i) bytes) ≡ Err f = rw (k, h) refl in
    sym so_far ∙ one

pub is_done : {A : Type 0} (reader : List ℕ → Read A) (front : List A) (count i : ℕ) (bytes : List ℕ) (total : Read (List A)) → count ≤ i → with_front front (several reader (count - i) bytes) ≡ total → total ≡ Ok (front, bytes)
unfolding several
is_done {A = A} reader front count i bytes total le so_far =
    let k : count - i ≡ 0 = omega arith in
    let one : with_front front (several reader (count - i) bytes) ≡ Ok (front, bytes) = rw k (ap (λ (ns : List A). Ok (ns, bytes)) (append-nil front)) in
    sym so_far ∙ one

-- The same in turn.
abbrev pub turn_front : {A : Type 0} → List A → Turn (List A) → Turn (List A)
turn_front front read = read >>= λ x. Ok (front ++ x.0, x.1, x.2)

turn_regroup : {A : Type 0} (front : List A) (n : A) (read : Turn (List A)) → turn_front front (read >>= λ x. Ok (n ∷ x.0, x.1, x.2)) ≡ turn_front (front ++ n ∷ []) read
turn_regroup {A = A} front n (Ok x) = ap (λ (ns : List A). Ok (ns, x.1, x.2)) (simp append_assoc)
turn_regroup front n (Err f) = refl

pub turn_goes_on : {A : Type 0} (reader : ℕ → List ℕ → Turn A) (front : List A) (count i from : ℕ) (bytes : List ℕ) (n : A) (next : ℕ) (after : List ℕ) (total : Turn (List A)) → i < count → reader from bytes ≡ Ok (n, next, after)
    → turn_front front (in_turn reader (count - i) from bytes) ≡ total → turn_front (front ++ n ∷ []) (in_turn reader (count - (i + 1)) next after) ≡ total
unfolding in_turn
turn_goes_on reader front count i from bytes n next after total lt h so_far =
    let k : count - i ≡ suc (count - (i + 1)) = omega arith in
    let one : turn_front front (in_turn reader (count - i) from bytes) ≡ turn_front (front ++ n ∷ []) (in_turn reader (count - (i + 1)) next after) = rw (k, h) (turn_regroup front n (in_turn reader (count - (i + 1)) next after)) in
    sym one ∙ so_far

pub turn_ends : {A : Type 0} (reader : ℕ → List ℕ → Turn A) (e : DecodeFault) (front : List A) (count i from : ℕ) (bytes : List ℕ) (total : Turn (List A)) → i < count → Fails e (reader from bytes)
    → turn_front front (in_turn reader (count - i) from bytes) ≡ total → Fails e total
unfolding in_turn
turn_ends reader faults.Memory front count i from bytes total lt h so_far = tt
turn_ends reader (faults.Stop f) front count i from bytes total lt h so_far =
    let k : count - i ≡ suc (count - (i + 1)) = omega arith in
    let one : turn_front front (in_turn reader (count - i) from bytes) ≡ Err f = rw (k, h) refl in
    sym so_far ∙ one

pub turn_is_done : {A : Type 0} (reader : ℕ → List ℕ → Turn A) (front : List A) (count i from : ℕ) (bytes : List ℕ) (total : Turn (List A)) → count ≤ i → turn_front front (in_turn reader (count - i) from bytes) ≡ total → total ≡ Ok (front, from, bytes)
unfolding in_turn
turn_is_done {A = A} reader front count i from bytes total le so_far =
    let k : count - i ≡ 0 = omega arith in
    let one : turn_front front (in_turn reader (count - i) from bytes) ≡ Ok (front, from, bytes) = rw k (ap (λ (ns : List A). Ok (ns, from, bytes)) (append-nil front)) in
    sym so_far ∙ one

-- what Fails says of a step, of the steps that begin with it
pub fails_first : {A B : Type 0} (e : DecodeFault) (read : Result A Stop) (f : A → Result B Stop) → Fails e read → Fails e (read >>= f)
fails_first faults.Memory read f h = tt
fails_first (faults.Stop s) read f h = rw h refl
