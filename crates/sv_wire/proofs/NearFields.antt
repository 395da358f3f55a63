-- How many bytes each field has at most.
use Rattle.std.proofs.Common.{◌≡◌, ℕ, suc, ◌+◌, ◌*◌, ◌≤◌, Bool, true, false, cond, ltb, leb, ◌&&◌, List, [], ◌∷◌, length, Result, Ok, Err, refl, subst, arith}
use Rattle.std.specs.Int.{Width, w64, byte_len}
use Rattle.std.proofs.lemmas.List.{length-drop}
use Rattle.std.proofs.lemmas.Bool.{ltb-false}
use Rattle.std.proofs.lemmas.Bool.Decides.{nat_tests}
use Rattle.sv_wire.specs.declared.fault.Stop.{Stop}
use Rattle.sv_wire.specs.declared.fault.WireCause.TheVariants.{Short, Count}
use Rattle.sv_wire.specs.Steps.{◌>>=◌, stop, several, in_turn}
use Rattle.sv_wire.specs.Fields.{byte_from, number_from, int_from, count_from, head_count_from, object_from, objects_from, value_from, held_from, helds_from, head_from, result_from}
use Rattle.sv_wire.proofs.Near.{left2, left3, Near, near_done, near_stop, near_more, near_then, near_if, near_check, checked_if, checked_unless, several_near, in_turn_near}

pub byte_near : (bytes : List ℕ) → Near left2 1 (length bytes) (byte_from bytes)
unfolding byte_from
byte_near [] = near_stop left2 1 0 (record { left = 0; cause = Short }) refl
byte_near (b ∷ bytes) = near_done left2 1 (suc (length bytes)) (b, bytes) (omega arith) (omega arith)

pub number_near : (k : ℕ) (bytes : List ℕ) → Near left2 k (length bytes) (number_from k bytes)
unfolding number_from
number_near k bytes =
    near_if left2 k (length bytes) (ltb (length bytes) k) _ _
    (λ _. near_stop left2 k (length bytes) _ refl)
    (λ _. near_done left2 k (length bytes) _ (omega (arith, length-drop k bytes)) (omega (arith, length-drop k bytes)))

pub int_near : (w : Width) (bytes : List ℕ) → Near left2 (byte_len w) (length bytes) (int_from w bytes)
unfolding int_from
int_near w bytes =
    near_then left2 left2 (byte_len w) 0 (byte_len w) (length bytes) (number_from (byte_len w) bytes) _ (omega arith) (number_near (byte_len w) bytes)
    (λ n _. near_done left2 0 (length n.1) _ (omega arith) (omega arith))

pub count_near : (low high : ℕ) (bytes : List ℕ) → Near left2 1 (length bytes) (count_from low high bytes)
unfolding count_from
count_near low high bytes = near_check left2 left2 1 (length bytes) (byte_from bytes) _ (byte_near bytes) (λ n. checked_if left2 (length n.1) (length bytes) _ _ _ refl refl)

pub head_count_near : (most : ℕ) (bytes : List ℕ) → Near left2 2 (length bytes) (head_count_from most bytes)
unfolding head_count_from
head_count_near most bytes = near_check left2 left2 2 (length bytes) (number_from 2 bytes) _ (number_near 2 bytes) (λ n. checked_unless left2 (length n.1) (length bytes) _ _ _ refl refl)

pub object_near : (least : ℕ) (bytes : List ℕ) → Near left3 2 (length bytes) (object_from least bytes)
unfolding object_from
object_near least bytes = near_check left2 left3 2 (length bytes) (number_from 2 bytes) _ (number_near 2 bytes) (λ n. checked_unless left3 (length n.1) (length bytes) _ _ _ refl refl)

-- what passed a test
pub kept_if : {Y : Type 0} (b : Bool) (y z : Y) (s : Stop) → cond b (Ok y) (Err s) ≡ Ok z → (b ≡ true) × (y ≡ z)
kept_if true y z s e = (refl, cc)
kept_if false y z s e = absurd cc

pub kept_unless : {Y : Type 0} (b : Bool) (y z : Y) (s : Stop) → cond b (Err s) (Ok y) ≡ Ok z → (b ≡ false) × (y ≡ z)
kept_unless true y z s e = absurd cc
kept_unless false y z s e = (refl, cc)

pub bind_ok : {A B : Type 0} (r : Result A Stop) (f : A → Result B Stop) (y : B) → (r >>= f) ≡ Ok y → (x : A) × (r ≡ Ok x) × (f x ≡ Ok y)
bind_ok (Ok x) f y e = (x, refl, e)
bind_ok (Err d) f y e = absurd cc

pub within : (low high n : ℕ) → (leb low n && leb n high) ≡ true → (low ≤ n) × (n ≤ high)
within low high n e = (grind (arith, nat_tests), grind (arith, nat_tests))

-- a count that was read is within its range
pub count_is : (low high : ℕ) (bytes : List ℕ) (x : ℕ × List ℕ) → count_from low high bytes ≡ Ok x → (low ≤ x.0) × (x.0 ≤ high)
unfolding count_from
count_is low high bytes x e =
    let a = bind_ok (byte_from bytes) (λ n. cond (leb low n.0 && leb n.0 high) (Ok (n.0, n.1)) (stop bytes Count)) x e in
    let g = kept_if (leb low a.0.0 && leb a.0.0 high) (a.0.0, a.0.1) x _ a.2 in
    subst (λ (y : ℕ × List ℕ). (low ≤ y.0) × (y.0 ≤ high)) g.1 (within low high a.0.0 g.0)

pub head_count_is : (most : ℕ) (bytes : List ℕ) (x : ℕ × List ℕ) → head_count_from most bytes ≡ Ok x → x.0 ≤ most
unfolding head_count_from
head_count_is most bytes x e =
    let a = bind_ok (number_from 2 bytes) (λ n. cond (ltb most n.0) (stop bytes Count) (Ok (n.0, n.1))) x e in
    let g = kept_unless (ltb most a.0.0) (a.0.0, a.0.1) x _ a.2 in
    subst (λ (y : ℕ × List ℕ). y.0 ≤ most) g.1 (ltb-false most a.0.0 g.0)

pub objects_near : (n : ℕ) (bytes : List ℕ) → Near left2 (n * 2) (length bytes) (objects_from n bytes)
unfolding objects_from
objects_near n bytes =
    near_then left3 left2 (n * 2) 0 (n * 2) (length bytes) (in_turn object_from n 0 bytes) _ (omega arith) (in_turn_near object_from 2 object_near n 0 bytes)
    (λ objects _. near_done left2 0 (length objects.2) _ (omega arith) (omega arith))

pub value_near : (bytes : List ℕ) → Near left2 33 (length bytes) (value_from bytes)
unfolding value_from
value_near bytes =
    near_then left2 left2 1 32 33 (length bytes) (count_from 1 4 bytes) _ (omega arith) (count_near 1 4 bytes)
    (λ n e. let few = count_is 1 4 bytes n e in near_more left2 (n.0 * 8) 32 (length n.1) (several (int_from w64) n.0 n.1) (omega arith) (several_near (int_from w64) 8 (int_near w64) n.0 n.1))

pub held_near : (least : ℕ) (bytes : List ℕ) → Near left3 35 (length bytes) (held_from least bytes)
unfolding held_from
held_near least bytes =
    near_then left3 left3 2 33 35 (length bytes) (object_from least bytes) _ (omega arith) (object_near least bytes)
    (λ object _. near_then left2 left3 33 0 33 (length object.2) (value_from object.2) _ (omega arith) (value_near object.2)
    (λ value _. near_done left3 0 (length value.1) _ (omega arith) (omega arith)))

pub helds_near : (n : ℕ) (bytes : List ℕ) → Near left2 (n * 35) (length bytes) (helds_from n bytes)
unfolding helds_from
helds_near n bytes =
    near_then left3 left2 (n * 35) 0 (n * 35) (length bytes) (in_turn held_from n 0 bytes) _ (omega arith) (in_turn_near held_from 35 held_near n 0 bytes)
    (λ head _. near_done left2 0 (length head.2) _ (omega arith) (omega arith))

pub head_near : (most : ℕ) (bytes : List ℕ) → Near left2 (most * 35 + 2) (length bytes) (head_from most bytes)
unfolding head_from
head_near most bytes =
    near_then left2 left2 2 (most * 35) (most * 35 + 2) (length bytes) (head_count_from most bytes) _ (omega arith) (head_count_near most bytes)
    (λ n e. let few = head_count_is most bytes n e in near_more left2 (n.0 * 35) (most * 35) (length n.1) (helds_from n.0 n.1) (omega arith) (helds_near n.0 n.1))

pub result_near : (bytes : List ℕ) → Near left2 533 (length bytes) (result_from bytes)
unfolding result_from
result_near bytes =
    near_then left2 left2 4 529 533 (length bytes) (number_from 4 bytes) _ (omega arith) (number_near 4 bytes)
    (λ pos _. near_then left2 left2 1 528 529 (length pos.1) (count_from 0 16 pos.1) _ (omega arith) (count_near 0 16 pos.1)
    (λ n e. let few = count_is 0 16 pos.1 n e in
    near_then left2 left2 (n.0 * 33) 0 528 (length n.1) (several value_from n.0 n.1) _ (omega arith) (several_near value_from 33 value_near n.0 n.1)
    (λ values _. near_done left2 0 (length values.1) _ (omega arith) (omega arith))))
