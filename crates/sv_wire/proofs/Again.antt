-- What was written is read again, whatever follows it: numbers, objects and values.
use Rattle.std.proofs.Common.{◌≡◌, ℕ, suc, ◌+◌, ◌^◌, ◌<◌, ◌≤◌, Bool, true, false, ltb, ◌&&◌, ℤ, List, [], ◌∷◌, ◌++◌, length, map, Ok, SFits, refl, ap, ◌∙◌, append_assoc, arith}
use Rattle.std.specs.List.{flat_map, AllByRecursion}
use Rattle.std.specs.Int.{Width, w32, w64, byte_len, cast_unsigned}
use Rattle.std.proofs.Math.Facts.{Fits-of_z}
use Rattle.std.proofs.lemmas.Int.{to_z-of_z}
use Rattle.std.proofs.lemmas.Bool.{le-ltb, le-leb, ltb-true}
use Rattle.std.proofs.lemmas.List.{drop_at, length-append}
use Rattle.std.proofs.lemmas.List.Elements.{recursion_from_All}
use Rattle.byteorder.specs.Endian.{big_bytes}
use Rattle.byteorder.specs.Numbers.{big_number-reads_back, length-bytes_high_first}
use Rattle.sv_world.specs.Faults.{is_ascending}
use Rattle.sv_world.specs.declared.world.ObjectId.{ObjectId}
use Rattle.sv_wire.specs.declared.message.ObjectValue.{ObjectValue}
use Rattle.sv_wire.specs.declared.message.Done1.{Done1}
use Rattle.sv_wire.specs.Steps.{Read, Turn, several, in_turn}
use Rattle.sv_wire.specs.Fields.{byte_from, number_from, int_from, count_from, head_count_from, object_from, objects_from, value_from, held_from, helds_from, head_from, result_from}
use Rattle.sv_wire.specs.Spelling.{int_bytes, object_bytes, value_bytes, held_bytes, head_bytes, result_bytes}
use Rattle.sv_wire.specs.Grammar.{IsWireValue, IsWireHeadUpTo, IsWireResult}
use Rattle.sv_world.specs.Ranges.{ObjectFits}
use Rattle.sv_wire.specs.Ranges.{ValueFits, HeldFits, ResultFits}

pub number_again : (k n : ℕ) (rest : List ℕ) → n < 256 ^ k → number_from k (big_bytes k n ++ rest) ≡ Ok (n, rest)
unfolding number_from
number_again k n rest lt =
    let len = length-bytes_high_first k n in
    let long : ltb (length (big_bytes k n ++ rest)) k ≡ false = le-ltb _ _ (omega (arith, length-append (big_bytes k n) rest, len)) in
    rw (long, big_number-reads_back k n rest lt, drop_at (big_bytes k n) rest k len) refl

pub int_again : (w : Width) (z : ℤ) (rest : List ℕ) → cast_unsigned w z < 256 ^ byte_len w → SFits w z → int_from w (int_bytes w z ++ rest) ≡ Ok (z, rest)
unfolding int_from
int_again w z rest lt fits = rw (number_again (byte_len w) (cast_unsigned w z) rest lt, to_z-of_z w z fits) refl

pub int64_again : (z : ℤ) (rest : List ℕ) → SFits w64 z → int_from w64 (int_bytes w64 z ++ rest) ≡ Ok (z, rest)
int64_again z rest fits = int_again w64 z rest (omega (arith, (Fits-of_z fits).fits)) fits

pub int32_again : (z : ℤ) (rest : List ℕ) → SFits w32 z → int_from w32 (int_bytes w32 z ++ rest) ≡ Ok (z, rest)
int32_again z rest fits = int_again w32 z rest (omega (arith, (Fits-of_z fits).fits)) fits

pub count_again : (low high n : ℕ) (rest : List ℕ) → low ≤ n → n ≤ high → count_from low high (n ∷ rest) ≡ Ok (n, rest)
unfolding count_from byte_from
count_again low high n rest p q = rw (le-leb low n p, le-leb n high q) refl

pub several_again : {A : Type 0} (reader : List ℕ → Read A) (spell : A → List ℕ) (P : A → Type 0) → ((x : A) (rest : List ℕ) → P x → reader (spell x ++ rest) ≡ Ok (x, rest))
    → (xs : List A) (rest : List ℕ) → AllByRecursion P xs → several reader (length xs) (flat_map spell xs ++ rest) ≡ Ok (xs, rest)
unfolding several
several_again reader spell P each [] rest h = refl
several_again reader spell P each (x ∷ xs) rest h =
    let regrouped : flat_map spell (x ∷ xs) ++ rest ≡ spell x ++ (flat_map spell xs ++ rest) = append_assoc (spell x) (flat_map spell xs) rest in
    ap (several reader (suc (length xs))) regrouped ∙ rw (each x (flat_map spell xs ++ rest) h.0, several_again reader spell P each xs rest h.1) refl

-- Keys that ascend from least.
abbrev pub Climbs : {A : Type 0} → (A → ℕ) → ℕ → List A → Type 0
Climbs key least [] = Unit {0}
Climbs key least (x ∷ xs) = (least ≤ key x) × Climbs key (key x + 1) xs

abbrev pub least_after : {A : Type 0} → (A → ℕ) → ℕ → List A → ℕ
least_after key least [] = least
least_after key least (x ∷ xs) = least_after key (key x + 1) xs

pub and_left : (p q : Bool) → (p && q) ≡ true → p ≡ true
and_left true q e = refl
and_left false q e = absurd cc

pub and_right : (p q : Bool) → (p && q) ≡ true → q ≡ true
and_right true q e = e
and_right false q e = absurd cc

climbs_on : {A : Type 0} (key : A → ℕ) (least : ℕ) (x : A) (xs : List A) → least ≤ key x → is_ascending (map key (x ∷ xs)) ≡ true → Climbs key least (x ∷ xs)
climbs_on key least x [] le e = (le, tt)
climbs_on key least x (y ∷ ys) le e =
    let below = ltb-true (key x) (key y) (and_left (ltb (key x) (key y)) (is_ascending (map key (y ∷ ys))) e) in
    (le, climbs_on key (key x + 1) y ys (omega arith) (and_right (ltb (key x) (key y)) (is_ascending (map key (y ∷ ys))) e))

pub climbs : {A : Type 0} (key : A → ℕ) (xs : List A) → is_ascending (map key xs) ≡ true → Climbs key 0 xs
climbs key [] e = tt
climbs key (x ∷ xs) e = climbs_on key 0 x xs (omega arith) e

pub in_turn_again : {A : Type 0} (reader : ℕ → List ℕ → Turn A) (spell : A → List ℕ) (key : A → ℕ) (P : A → Type 0)
    → ((least : ℕ) (x : A) (rest : List ℕ) → least ≤ key x → P x → reader least (spell x ++ rest) ≡ Ok (x, key x + 1, rest))
    → (least : ℕ) (xs : List A) (rest : List ℕ) → Climbs key least xs → AllByRecursion P xs → in_turn reader (length xs) least (flat_map spell xs ++ rest) ≡ Ok (xs, least_after key least xs, rest)
unfolding in_turn
in_turn_again reader spell key P each least [] rest up h = refl
in_turn_again reader spell key P each least (x ∷ xs) rest up h =
    let regrouped : flat_map spell (x ∷ xs) ++ rest ≡ spell x ++ (flat_map spell xs ++ rest) = append_assoc (spell x) (flat_map spell xs) rest in
    ap (in_turn reader (suc (length xs)) least) regrouped ∙ rw (each least x (flat_map spell xs ++ rest) up.0 h.0, in_turn_again reader spell key P each (key x + 1) xs rest up.1 h.1) refl

pub object_again : (least : ℕ) (o : ObjectId) (rest : List ℕ) → least ≤ o.0 → ObjectFits o → object_from least (object_bytes o ++ rest) ≡ Ok (o, o.0 + 1, rest)
unfolding object_from
object_again least o rest le fits = rw (number_again 2 o.0 rest (omega (arith, fits)), le-ltb o.0 least le) refl

pub objects_again : (os : List ObjectId) (rest : List ℕ) → is_ascending (map (λ (o : ObjectId). o.0) os) ≡ true → AllByRecursion ObjectFits os → objects_from (length os) (flat_map object_bytes os ++ rest) ≡ Ok (os, rest)
unfolding objects_from
objects_again os rest up fits = rw (in_turn_again object_from object_bytes (λ (o : ObjectId). o.0) ObjectFits object_again 0 os rest (climbs (λ (o : ObjectId). o.0) os up) fits) refl

pub value_again : (v : List ℤ) (rest : List ℕ) → IsWireValue v → ValueFits v → value_from (value_bytes v ++ rest) ≡ Ok (v, rest)
unfolding value_from
value_again v rest is fits =
    rw (count_again 1 4 (length v) (flat_map (int_bytes w64) v ++ rest) is.0 is.1) (several_again (int_from w64) (int_bytes w64) (SFits w64) int64_again v rest fits)

pub held_again : (least : ℕ) (h : ObjectValue) (rest : List ℕ) → least ≤ h.object.0 → IsWireValue h.value × HeldFits h → held_from least (held_bytes h ++ rest) ≡ Ok (h, h.object.0 + 1, rest)
unfolding held_from
held_again least h rest le fits =
    let regrouped : held_bytes h ++ rest ≡ object_bytes h.object ++ (value_bytes h.value ++ rest) = append_assoc (object_bytes h.object) (value_bytes h.value) rest in
    ap (held_from least) regrouped ∙ rw (object_again least h.object (value_bytes h.value ++ rest) le fits.1.0, value_again h.value rest fits.0 fits.1.1) refl

-- both of two facts of each
pub both_of_each : {A : Type 0} (P Q : A → Type 0) (xs : List A) → AllByRecursion P xs → AllByRecursion Q xs → AllByRecursion (λ x. P x × Q x) xs
both_of_each P Q [] p q = tt
both_of_each P Q (x ∷ xs) p q = ((p.0, q.0), both_of_each P Q xs p.1 q.1)

pub head_again : (most : ℕ) (head : List ObjectValue) (rest : List ℕ) → most ≤ 65535 → IsWireHeadUpTo most head → AllByRecursion HeldFits head → head_from most (head_bytes head ++ rest) ≡ Ok (head, rest)
unfolding head_from helds_from head_count_from
head_again most head rest small is fits =
    let regrouped : head_bytes head ++ rest ≡ big_bytes 2 (length head) ++ (flat_map held_bytes head ++ rest) = append_assoc (big_bytes 2 (length head)) (flat_map held_bytes head) rest in
    let each = both_of_each (λ (h : ObjectValue). IsWireValue h.value) HeldFits head (recursion_from_All (λ (h : ObjectValue). IsWireValue h.value) head is.values) fits in
    let few : ltb most (length head) ≡ false = le-ltb most (length head) is.few in
    let turns = in_turn_again held_from held_bytes (λ (h : ObjectValue). h.object.0) (λ h. IsWireValue h.value × HeldFits h) held_again 0 head rest (climbs (λ (h : ObjectValue). h.object.0) head is.ascending) each in
    ap (head_from most) regrouped ∙ rw (number_again 2 (length head) (flat_map held_bytes head ++ rest) (omega (arith, is.few, small)), few, turns) refl

pub result_again : (r : Done1) (rest : List ℕ) → IsWireResult r × ResultFits r → result_from (result_bytes r ++ rest) ≡ Ok (r, rest)
unfolding result_from
result_again r rest fits =
    let regrouped : result_bytes r ++ rest ≡ big_bytes 4 r.pos ++ (length r.values ∷ (flat_map value_bytes r.values ++ rest)) = append_assoc (big_bytes 4 r.pos) (length r.values ∷ flat_map value_bytes r.values) rest in
    let each = both_of_each IsWireValue ValueFits r.values (recursion_from_All IsWireValue r.values fits.0.values) fits.1.1 in
    let values = several_again value_from value_bytes (λ v. IsWireValue v × ValueFits v) (λ v more h. value_again v more h.0 h.1) r.values rest each in
    ap result_from regrouped
    ∙ rw (number_again 4 r.pos (length r.values ∷ (flat_map value_bytes r.values ++ rest)) (omega (arith, fits.1.0)), count_again 0 16 (length r.values) (flat_map value_bytes r.values ++ rest) (omega arith) fits.0.few, values) refl
