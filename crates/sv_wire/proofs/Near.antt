-- How far reading goes: no message, and no refused beginning of one, has more than 40,000 bytes.
use Rattle.std.proofs.Common.{◌≡◌, ℕ, zero, suc, ◌+◌, ◌*◌, ◌≤◌, Bool, true, false, cond, List, [], ◌∷◌, length, Result, Ok, Err, refl, ap, subst, arith}
use Rattle.sv_wire.specs.declared.fault.Stop.{Stop}
use Rattle.sv_wire.specs.Steps.{◌>>=◌, Read, Turn, several, in_turn}

-- the number of bytes left
abbrev pub left2 : {A : Type 0} → A × List ℕ → ℕ
left2 x = length x.1

abbrev pub left3 : {A : Type 0} → A × ℕ × List ℕ → ℕ
left3 x = length x.2

-- Of n bytes reading leaves no more than n, and at most c fewer.
pub record Near {X : Type 0} (left : X → ℕ) (c n : ℕ) (read : Result X Stop) : Type 0 where
  pub ok : (x : X) → read ≡ Ok x → (left x ≤ n) × (n ≤ left x + c)
  pub err : (s : Stop) → read ≡ Err s → (s.left ≤ n) × (n ≤ s.left + c)

abbrev pub done : {X : Type 0} → X → Result X Stop
done x = Ok x

abbrev pub failed : {X : Type 0} → Stop → Result X Stop
failed s = Err s

pub ok_is : {X : Type 0} (x y : X) → done x ≡ done y → x ≡ y
ok_is x y e = cc

pub err_is : {X : Type 0} (s t : Stop) → failed {X = X} s ≡ failed t → s ≡ t
err_is s t e = cc

-- a refusal is the same whatever was to be read
pub failed_is : {X Y : Type 0} (s t : Stop) → failed {X = X} s ≡ failed t → failed {X = Y} s ≡ failed t
failed_is {X = X} {Y = Y} s t e = ap (λ (u : Stop). failed {X = Y} u) (err_is {X = X} s t e)

pub near_done : {X : Type 0} (left : X → ℕ) (c n : ℕ) (x : X) → left x ≤ n → n ≤ left x + c → Near left c n (Ok x)
near_done {X = X} left c n x low high =
    record {
      ok = λ y e. subst (λ (z : X). (left z ≤ n) × (n ≤ left z + c)) (ok_is x y e) (low, high);
      err = λ s e. absurd cc;
    }

pub near_stop : {X : Type 0} (left : X → ℕ) (c n : ℕ) (s : Stop) → s.left ≡ n → Near left c n (Err s)
near_stop {X = X} left c n s is =
    record {
      ok = λ y e. absurd cc;
      err = λ t e. subst (λ (z : Stop). (z.left ≤ n) × (n ≤ z.left + c)) (err_is {X = X} s t e) (omega arith, omega arith);
    }

pub near_more : {X : Type 0} (left : X → ℕ) (c d n : ℕ) (read : Result X Stop) → c ≤ d → Near left c n read → Near left d n read
near_more left c d n read le near =
    record {
      ok = λ x e. let a = near.ok x e in (a.0, omega arith);
      err = λ s e. let a = near.err s e in (a.0, omega arith);
    }

pub near_then : {X Y : Type 0} (p : X → ℕ) (q : Y → ℕ) (c d t n : ℕ) (read : Result X Stop) (f : X → Result Y Stop) → c + d ≤ t → Near p c n read → ((x : X) → read ≡ Ok x → Near q d (p x) (f x)) → Near q t n (read >>= f)
near_then p q c d t n (Ok x) f le near next =
    let a = near.ok x refl in
    record {
      ok = λ y e. let b = (next x refl).ok y e in (omega arith, omega arith);
      err = λ s e. let b = (next x refl).err s e in (omega arith, omega arith);
    }
near_then {X = X} {Y = Y} p q c d t n (Err s) f le near next =
    record {
      ok = λ y e. absurd cc;
      err = λ u e. let a = near.err u (failed_is {X = Y} {Y = X} s u e) in (a.0, omega arith);
    }

pub near_if : {X : Type 0} (left : X → ℕ) (c n : ℕ) (b : Bool) (x y : Result X Stop) → (b ≡ true → Near left c n x) → (b ≡ false → Near left c n y) → Near left c n (cond b x y)
near_if left c n true x y h k = h refl
near_if left c n false x y h k = k refl

pub several_near : {A : Type 0} (reader : List ℕ → Read A) (c : ℕ) → ((bytes : List ℕ) → Near left2 c (length bytes) (reader bytes)) → (n : ℕ) (bytes : List ℕ) → Near left2 (n * c) (length bytes) (several reader n bytes)
unfolding several
several_near reader c each zero bytes = near_done left2 (0 * c) (length bytes) ([], bytes) (omega arith) (omega arith)
several_near {A = A} reader c each (suc n) bytes =
    near_then left2 left2 c (n * c) (suc n * c) (length bytes) (reader bytes) (λ first. several reader n first.1 >>= λ others. Ok (first.0 ∷ others.0, others.1)) (omega arith) (each bytes)
    (λ first e. near_then left2 left2 (n * c) 0 (n * c) (length first.1) (several reader n first.1) (λ others. Ok (first.0 ∷ others.0, others.1)) (omega arith) (several_near reader c each n first.1)
    (λ others h. near_done left2 0 (length others.1) (first.0 ∷ others.0, others.1) (omega arith) (omega arith)))

pub in_turn_near : {A : Type 0} (reader : ℕ → List ℕ → Turn A) (c : ℕ) → ((from : ℕ) (bytes : List ℕ) → Near left3 c (length bytes) (reader from bytes)) → (n from : ℕ) (bytes : List ℕ) → Near left3 (n * c) (length bytes) (in_turn reader n from bytes)
unfolding in_turn
in_turn_near reader c each zero from bytes = near_done left3 (0 * c) (length bytes) ([], from, bytes) (omega arith) (omega arith)
in_turn_near reader c each (suc n) from bytes =
    near_then left3 left3 c (n * c) (suc n * c) (length bytes) (reader from bytes) (λ first. in_turn reader n first.1 first.2 >>= λ others. Ok (first.0 ∷ others.0, others.1, others.2)) (omega arith) (each from bytes)
    (λ first e. near_then left3 left3 (n * c) 0 (n * c) (length first.2) (in_turn reader n first.1 first.2) (λ others. Ok (first.0 ∷ others.0, others.1, others.2)) (omega arith) (in_turn_near reader c each n first.1 first.2)
    (λ others h. near_done left3 0 (length others.2) (first.0 ∷ others.0, others.1, others.2) (omega arith) (omega arith)))

-- A test of what was read: it is kept, or reading stops where it began.
pub record Checked {Y : Type 0} (q : Y → ℕ) (m n : ℕ) (read : Result Y Stop) : Type 0 where
  pub ok : (y : Y) → read ≡ Ok y → q y ≡ m
  pub err : (s : Stop) → read ≡ Err s → s.left ≡ n

pub checked_if : {Y : Type 0} (q : Y → ℕ) (m n : ℕ) (b : Bool) (y : Y) (s : Stop) → q y ≡ m → s.left ≡ n → Checked q m n (cond b (Ok y) (Err s))
checked_if {Y = Y} q m n true y s h k = record { ok = λ z e. subst (λ (v : Y). q v ≡ m) (ok_is y z e) h; err = λ t e. absurd cc }
checked_if {Y = Y} q m n false y s h k = record { ok = λ z e. absurd cc; err = λ t e. subst (λ (v : Stop). v.left ≡ n) (err_is {X = Y} s t e) k }

pub checked_unless : {Y : Type 0} (q : Y → ℕ) (m n : ℕ) (b : Bool) (y : Y) (s : Stop) → q y ≡ m → s.left ≡ n → Checked q m n (cond b (Err s) (Ok y))
checked_unless {Y = Y} q m n false y s h k = record { ok = λ z e. subst (λ (v : Y). q v ≡ m) (ok_is y z e) h; err = λ t e. absurd cc }
checked_unless {Y = Y} q m n true y s h k = record { ok = λ z e. absurd cc; err = λ t e. subst (λ (v : Stop). v.left ≡ n) (err_is {X = Y} s t e) k }

pub near_check : {X Y : Type 0} (p : X → ℕ) (q : Y → ℕ) (c n : ℕ) (read : Result X Stop) (f : X → Result Y Stop) → Near p c n read → ((x : X) → Checked q (p x) n (f x)) → Near q c n (read >>= f)
near_check p q c n (Ok x) f near check =
    let a = near.ok x refl in
    record {
      ok = λ y e. let b = (check x).ok y e in (omega arith, omega arith);
      err = λ s e. let b = (check x).err s e in (omega arith, omega arith);
    }
near_check {X = X} {Y = Y} p q c n (Err s) f near check =
    record {
      ok = λ y e. absurd cc;
      err = λ u e. near.err u (failed_is {X = Y} {Y = X} s u e);
    }
