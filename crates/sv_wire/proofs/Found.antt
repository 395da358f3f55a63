-- What is read is spelled so, each byte of it: numbers, objects and values.
use Rattle.std.proofs.Common.{◌≡◌, ℕ, zero, suc, ◌+◌, ◌^◌, ◌<◌, ◌≤◌, Bool, true, false, cond, ltb, leb, ◌&&◌, ℤ, List, [], ◌∷◌, ◌++◌, length, map, get_or, take, drop, Ok, refl, sym, ap, subst, ◌∙◌, append_assoc, arith}
use Rattle.std.specs.List.{flat_map, AllByRecursion}
use Rattle.std.specs.Int.{Width, w32, w64, byte_len, cast_signed, cast_unsigned}
use Rattle.std.proofs.lemmas.Int.{of_z-to_z}
use Rattle.std.proofs.lemmas.Bool.{lt-ltb, ltb-false}
use Rattle.std.proofs.lemmas.List.{take-append-drop, get_or-drop}
use Rattle.std.proofs.lemmas.List.Elements.{All-from_recursion}
use Rattle.std.proofs.lemmas.Nat.{be_bytes_2, be_bytes_4, be_bytes_8}
use Rattle.byteorder.specs.Endian.{big_bytes, big_number}
use Rattle.byteorder.specs.Numbers.{big_from-lt}
use Rattle.sv_world.specs.Faults.{is_ascending}
use Rattle.sv_world.specs.declared.world.ObjectId.{ObjectId}
use Rattle.sv_wire.specs.declared.fault.WireCause.TheVariants.{Count, Order}
use Rattle.sv_wire.specs.declared.message.ObjectValue.{ObjectValue}
use Rattle.sv_wire.specs.declared.message.Done1.{Done1}
use Rattle.sv_wire.specs.Steps.{◌>>=◌, Read, Turn, stop, several, in_turn}
use Rattle.sv_wire.specs.Fields.{byte_from, number_from, int_from, count_from, head_count_from, object_from, objects_from, value_from, held_from, helds_from, head_from, result_from}
use Rattle.sv_wire.specs.Spelling.{int_bytes, object_bytes, value_bytes, held_bytes, head_bytes, result_bytes}
use Rattle.sv_wire.specs.Grammar.{IsWireValue, IsWireHeadUpTo, IsWireResult}
use Rattle.sv_wire.proofs.Near.{ok_is}
use Rattle.sv_wire.proofs.NearFields.{bind_ok, kept_if, kept_unless, count_is}
use Rattle.sv_wire.proofs.Again.{Climbs}

abbrev pub IsBytes : List ℕ → Type 0
IsBytes bytes = (i : ℕ) → get_or bytes i 0 < 256

-- what a reader took from the front
pub record Takes (bytes text rest : List ℕ) : Type 0 where
  pub parts : bytes ≡ text ++ rest
  pub bytes_left : IsBytes rest

pub after : {a x b y c : List ℕ} → Takes a x b → Takes b y c → Takes a (x ++ y) c
after {x = x} {y = y} {c = c} p q = record { parts = p.parts ∙ ap (λ (t : List ℕ). x ++ t) q.parts ∙ sym (append_assoc x y c); bytes_left = q.bytes_left }

pub takes_nothing : (bytes : List ℕ) → IsBytes bytes → Takes bytes [] bytes
takes_nothing bytes fits = record { parts = refl; bytes_left = fits }

IsBytes-drop : (n : ℕ) (bytes : List ℕ) → IsBytes bytes → IsBytes (drop n bytes)
IsBytes-drop n bytes h i = rw get_or-drop (h (n + i))

pub byte_takes : (bytes : List ℕ) (x : ℕ × List ℕ) → IsBytes bytes → byte_from bytes ≡ Ok x → Takes bytes (x.0 ∷ []) x.1 × (x.0 < 256)
unfolding byte_from
byte_takes [] x fits e = absurd cc
byte_takes (b ∷ bytes) x fits e = subst (λ (y : ℕ × List ℕ). Takes (b ∷ bytes) (y.0 ∷ []) y.1 × (y.0 < 256)) (ok_is (b, bytes) x e) (record { parts = refl; bytes_left = λ i. fits (suc i) }, fits 0)

-- the bytes of a number that was read are those that it was read from
abbrev pub IsExact : ℕ → Type 0
IsExact k = (bytes : List ℕ) → k ≤ length bytes → IsBytes bytes → big_bytes k (big_number k bytes) ≡ take k bytes

first : (a : ℕ) (bytes : List ℕ) → IsBytes (a ∷ bytes) → IsBytes bytes
first a bytes h i = h (suc i)

short_bytes : (k : ℕ) (bytes : List ℕ) → IsBytes bytes → IsBytes (take k bytes)
short_bytes zero bytes h i = omega arith
short_bytes (suc k) [] h i = h i
short_bytes (suc k) (b ∷ bytes) h zero = h 0
short_bytes (suc k) (b ∷ bytes) h (suc i) = short_bytes k bytes (first b bytes h) i

pub exact2 : IsExact 2
exact2 [] long fits = absurd (omega arith)
exact2 (a ∷ []) long fits = absurd (omega arith)
exact2 (a ∷ b ∷ bytes) long fits = be_bytes_2 (a ∷ b ∷ []) (big_number 2 (a ∷ b ∷ bytes)) refl (short_bytes 2 (a ∷ b ∷ bytes) fits) (omega arith)

pub exact4 : IsExact 4
exact4 [] long fits = absurd (omega arith)
exact4 (a ∷ []) long fits = absurd (omega arith)
exact4 (a ∷ b ∷ []) long fits = absurd (omega arith)
exact4 (a ∷ b ∷ c ∷ []) long fits = absurd (omega arith)
exact4 (a ∷ b ∷ c ∷ d ∷ bytes) long fits = be_bytes_4 (a ∷ b ∷ c ∷ d ∷ []) (big_number 4 (a ∷ b ∷ c ∷ d ∷ bytes)) refl (short_bytes 4 (a ∷ b ∷ c ∷ d ∷ bytes) fits) (omega arith)

pub exact8 : IsExact 8
exact8 [] long fits = absurd (omega arith)
exact8 (a ∷ []) long fits = absurd (omega arith)
exact8 (a ∷ b ∷ []) long fits = absurd (omega arith)
exact8 (a ∷ b ∷ c ∷ []) long fits = absurd (omega arith)
exact8 (a ∷ b ∷ c ∷ d ∷ []) long fits = absurd (omega arith)
exact8 (a ∷ b ∷ c ∷ d ∷ e ∷ []) long fits = absurd (omega arith)
exact8 (a ∷ b ∷ c ∷ d ∷ e ∷ f ∷ []) long fits = absurd (omega arith)
exact8 (a ∷ b ∷ c ∷ d ∷ e ∷ f ∷ g ∷ []) long fits = absurd (omega arith)
exact8 (a ∷ b ∷ c ∷ d ∷ e ∷ f ∷ g ∷ h ∷ bytes) long fits =
    be_bytes_8 (a ∷ b ∷ c ∷ d ∷ e ∷ f ∷ g ∷ h ∷ []) (big_number 8 (a ∷ b ∷ c ∷ d ∷ e ∷ f ∷ g ∷ h ∷ bytes)) refl (short_bytes 8 (a ∷ b ∷ c ∷ d ∷ e ∷ f ∷ g ∷ h ∷ bytes) fits) (omega arith)

pub number_takes : (k : ℕ) → IsExact k → (bytes : List ℕ) (x : ℕ × List ℕ) → IsBytes bytes → number_from k bytes ≡ Ok x → Takes bytes (big_bytes k x.0) x.1 × (x.0 < 256 ^ k)
unfolding number_from
number_takes k exact bytes x fits e =
    let g = kept_unless (ltb (length bytes) k) (big_number k bytes, drop k bytes) x _ e in
    let long : k ≤ length bytes = ltb-false (length bytes) k g.0 in
    let parts : bytes ≡ big_bytes k (big_number k bytes) ++ drop k bytes = sym (take-append-drop k bytes) ∙ ap (λ (t : List ℕ). t ++ drop k bytes) (sym (exact bytes long fits)) in
    subst (λ (y : ℕ × List ℕ). Takes bytes (big_bytes k y.0) y.1 × (y.0 < 256 ^ k)) g.1 (record { parts = parts; bytes_left = IsBytes-drop k bytes fits }, big_from-lt 0 k bytes fits)

int_takes : (w : Width) → IsExact (byte_len w) → ((n : ℕ) → n < 256 ^ byte_len w → cast_unsigned w (cast_signed w n) ≡ n) → (bytes : List ℕ) (x : ℤ × List ℕ) → IsBytes bytes → int_from w bytes ≡ Ok x → Takes bytes (int_bytes w x.0) x.1
unfolding int_from
int_takes w exact back bytes x fits e =
    let n = bind_ok (number_from (byte_len w) bytes) (λ n. Ok (cast_signed w n.0, n.1)) x e in
    let t = number_takes (byte_len w) exact bytes n.0 fits n.1 in
    let whole : Takes bytes (int_bytes w (cast_signed w n.0.0)) n.0.1 = subst (λ (m : ℕ). Takes bytes (big_bytes (byte_len w) m) n.0.1) (sym (back n.0.0 t.1)) t.0 in
    subst (λ (y : ℤ × List ℕ). Takes bytes (int_bytes w y.0) y.1) (ok_is (cast_signed w n.0.0, n.0.1) x n.2) whole

pub int32_takes : (bytes : List ℕ) (x : ℤ × List ℕ) → IsBytes bytes → int_from w32 bytes ≡ Ok x → Takes bytes (int_bytes w32 x.0) x.1
int32_takes bytes x fits e = int_takes w32 exact4 (λ n lt. of_z-to_z w32 n (omega (arith, lt))) bytes x fits e

pub int64_takes : (bytes : List ℕ) (x : ℤ × List ℕ) → IsBytes bytes → int_from w64 bytes ≡ Ok x → Takes bytes (int_bytes w64 x.0) x.1
int64_takes bytes x fits e = int_takes w64 exact8 (λ n lt. of_z-to_z w64 n (omega (arith, lt))) bytes x fits e

pub count_takes : (low high : ℕ) (bytes : List ℕ) (x : ℕ × List ℕ) → IsBytes bytes → count_from low high bytes ≡ Ok x → Takes bytes (x.0 ∷ []) x.1
unfolding count_from
count_takes low high bytes x fits e =
    let n = bind_ok (byte_from bytes) (λ n. cond (leb low n.0 && leb n.0 high) (Ok (n.0, n.1)) (stop bytes Count)) x e in
    let g = kept_if (leb low n.0.0 && leb n.0.0 high) (n.0.0, n.0.1) x _ n.2 in
    subst (λ (y : ℕ × List ℕ). Takes bytes (y.0 ∷ []) y.1) g.1 (byte_takes bytes n.0 fits n.1).0

-- fields of one kind
pub several_takes : {A : Type 0} (reader : List ℕ → Read A) (spell : A → List ℕ) (P : A → Type 0)
    → ((bytes : List ℕ) (x : A × List ℕ) → IsBytes bytes → reader bytes ≡ Ok x → Takes bytes (spell x.0) x.1 × P x.0)
    → (n : ℕ) (bytes : List ℕ) (x : List A × List ℕ) → IsBytes bytes → several reader n bytes ≡ Ok x → Takes bytes (flat_map spell x.0) x.1 × (length x.0 ≡ n) × AllByRecursion P x.0
unfolding several
several_takes {A = A} reader spell P each zero bytes x fits e =
    subst (λ (y : List A × List ℕ). Takes bytes (flat_map spell y.0) y.1 × (length y.0 ≡ 0) × AllByRecursion P y.0) (ok_is ([], bytes) x e) (takes_nothing bytes fits, refl, tt)
several_takes {A = A} reader spell P each (suc n) bytes x fits e =
    let a = bind_ok (reader bytes) (λ first. several reader n first.1 >>= λ others. Ok (first.0 ∷ others.0, others.1)) x e in
    let b = bind_ok (several reader n a.0.1) (λ others. Ok (a.0.0 ∷ others.0, others.1)) x a.2 in
    let s = each bytes a.0 fits a.1 in
    let t = several_takes reader spell P each n a.0.1 b.0 s.0.bytes_left b.1 in
    subst (λ (y : List A × List ℕ). Takes bytes (flat_map spell y.0) y.1 × (length y.0 ≡ suc n) × AllByRecursion P y.0) (ok_is (a.0.0 ∷ b.0.0, b.0.1) x b.2) (after s.0 t.0, ap suc t.1, (s.1, t.2))

-- objects that ascend, alone or with their values
pub in_turn_takes : {A : Type 0} (reader : ℕ → List ℕ → Turn A) (spell : A → List ℕ) (key : A → ℕ) (P : A → Type 0)
    → ((least : ℕ) (bytes : List ℕ) (x : A × ℕ × List ℕ) → IsBytes bytes → reader least bytes ≡ Ok x → Takes bytes (spell x.0) x.2 × (least ≤ key x.0) × (x.1 ≡ key x.0 + 1) × P x.0)
    → (n least : ℕ) (bytes : List ℕ) (x : List A × ℕ × List ℕ) → IsBytes bytes → in_turn reader n least bytes ≡ Ok x → Takes bytes (flat_map spell x.0) x.2 × (length x.0 ≡ n) × Climbs key least x.0 × AllByRecursion P x.0
unfolding in_turn
in_turn_takes {A = A} reader spell key P each zero least bytes x fits e =
    subst (λ (y : List A × ℕ × List ℕ). Takes bytes (flat_map spell y.0) y.2 × (length y.0 ≡ 0) × Climbs key least y.0 × AllByRecursion P y.0) (ok_is ([], least, bytes) x e) (takes_nothing bytes fits, refl, tt, tt)
in_turn_takes {A = A} reader spell key P each (suc n) least bytes x fits e =
    let a = bind_ok (reader least bytes) (λ first. in_turn reader n first.1 first.2 >>= λ others. Ok (first.0 ∷ others.0, others.1, others.2)) x e in
    let b = bind_ok (in_turn reader n a.0.1 a.0.2) (λ others. Ok (a.0.0 ∷ others.0, others.1, others.2)) x a.2 in
    let s = each least bytes a.0 fits a.1 in
    let t = in_turn_takes reader spell key P each n a.0.1 a.0.2 b.0 s.0.bytes_left b.1 in
    let up : Climbs key (key a.0.0 + 1) b.0.0 = subst (λ (m : ℕ). Climbs key m b.0.0) s.2 t.2 in
    subst (λ (y : List A × ℕ × List ℕ). Takes bytes (flat_map spell y.0) y.2 × (length y.0 ≡ suc n) × Climbs key least y.0 × AllByRecursion P y.0) (ok_is (a.0.0 ∷ b.0.0, b.0.1, b.0.2) x b.2) (after s.0 t.0, ap suc t.1, (s.1, up), (s.3, t.3))

-- keys that climb ascend
and_true : (p q : Bool) → p ≡ true → q ≡ true → (p && q) ≡ true
and_true true q e h = h
and_true false q e h = absurd cc

pub ascends : {A : Type 0} (key : A → ℕ) (least : ℕ) (xs : List A) → Climbs key least xs → is_ascending (map key xs) ≡ true
ascends key least [] up = refl
ascends key least (x ∷ []) up = refl
ascends key least (x ∷ y ∷ ys) up = and_true (ltb (key x) (key y)) (is_ascending (map key (y ∷ ys))) (lt-ltb (key x) (key y) (omega (arith, up.1.0))) (ascends key (key x + 1) (y ∷ ys) up.1)

object_takes : (least : ℕ) (bytes : List ℕ) (x : ObjectId × ℕ × List ℕ) → IsBytes bytes → object_from least bytes ≡ Ok x → Takes bytes (object_bytes x.0) x.2 × (least ≤ x.0.0) × (x.1 ≡ x.0.0 + 1) × Unit {0}
unfolding object_from
object_takes least bytes x fits e =
    let n = bind_ok (number_from 2 bytes) (λ n. cond (ltb n.0 least) (stop bytes Order) (Ok (record { 0 = n.0 }, n.0 + 1, n.1))) x e in
    let g = kept_unless (ltb n.0.0 least) (record { 0 = n.0.0 }, n.0.0 + 1, n.0.1) x _ n.2 in
    let t = number_takes 2 exact2 bytes n.0 fits n.1 in
    subst (λ (y : ObjectId × ℕ × List ℕ). Takes bytes (object_bytes y.0) y.2 × (least ≤ y.0.0) × (y.1 ≡ y.0.0 + 1) × Unit {0}) g.1 (t.0, ltb-false n.0.0 least g.0, refl, tt)

pub objects_takes : (n : ℕ) (bytes : List ℕ) (x : List ObjectId × List ℕ) → IsBytes bytes → objects_from n bytes ≡ Ok x → Takes bytes (flat_map object_bytes x.0) x.1 × (length x.0 ≡ n) × (is_ascending (map (λ (o : ObjectId). o.0) x.0) ≡ true)
unfolding objects_from
objects_takes n bytes x fits e =
    let a = bind_ok (in_turn object_from n 0 bytes) (λ objects. Ok (objects.0, objects.2)) x e in
    let t = in_turn_takes object_from object_bytes (λ (o : ObjectId). o.0) (λ _. Unit {0}) object_takes n 0 bytes a.0 fits a.1 in
    subst (λ (y : List ObjectId × List ℕ). Takes bytes (flat_map object_bytes y.0) y.1 × (length y.0 ≡ n) × (is_ascending (map (λ (o : ObjectId). o.0) y.0) ≡ true)) (ok_is (a.0.0, a.0.2) x a.2)
    (t.0, t.1, ascends (λ (o : ObjectId). o.0) 0 a.0.0 t.2)

pub value_takes : (bytes : List ℕ) (x : List ℤ × List ℕ) → IsBytes bytes → value_from bytes ≡ Ok x → Takes bytes (value_bytes x.0) x.1 × IsWireValue x.0
unfolding value_from
value_takes bytes x fits e =
    let n = bind_ok (count_from 1 4 bytes) (λ n. several (int_from w64) n.0 n.1) x e in
    let c = count_takes 1 4 bytes n.0 fits n.1 in
    let few = count_is 1 4 bytes n.0 n.1 in
    let t = several_takes (int_from w64) (int_bytes w64) (λ _. Unit {0}) (λ b y h k. (int64_takes b y h k, tt)) n.0.0 n.0.1 x c.bytes_left n.2 in
    (subst (λ (k : ℕ). Takes bytes (k ∷ flat_map (int_bytes w64) x.0) x.1) (sym t.1) (after c t.0), (omega (arith, few.0, t.1), omega (arith, few.1, t.1)))

held_takes : (least : ℕ) (bytes : List ℕ) (x : ObjectValue × ℕ × List ℕ) → IsBytes bytes → held_from least bytes ≡ Ok x → Takes bytes (held_bytes x.0) x.2 × (least ≤ x.0.object.0) × (x.1 ≡ x.0.object.0 + 1) × IsWireValue x.0.value
unfolding held_from
held_takes least bytes x fits e =
    let o = bind_ok (object_from least bytes) (λ object. value_from object.2 >>= λ value. Ok (record { object = object.0; value = value.0 }, object.1, value.1)) x e in
    let v = bind_ok (value_from o.0.2) (λ value. Ok (record { object = o.0.0; value = value.0 }, o.0.1, value.1)) x o.2 in
    let s = object_takes least bytes o.0 fits o.1 in
    let t = value_takes o.0.2 v.0 s.0.bytes_left v.1 in
    subst (λ (y : ObjectValue × ℕ × List ℕ). Takes bytes (held_bytes y.0) y.2 × (least ≤ y.0.object.0) × (y.1 ≡ y.0.object.0 + 1) × IsWireValue y.0.value) (ok_is (record { object = o.0.0; value = v.0.0 }, o.0.1, v.0.1) x v.2) (after s.0 t.0, s.1, s.2, t.1)

pub head_takes : (most : ℕ) (bytes : List ℕ) (x : List ObjectValue × List ℕ) → IsBytes bytes → head_from most bytes ≡ Ok x → Takes bytes (head_bytes x.0) x.1 × IsWireHeadUpTo most x.0
unfolding head_from helds_from head_count_from
head_takes most bytes x fits e =
    let n = bind_ok (number_from 2 bytes >>= λ n. cond (ltb most n.0) (stop bytes Count) (Ok (n.0, n.1))) (λ n. in_turn held_from n.0 0 n.1 >>= λ head. Ok (head.0, head.2)) x e in
    let m = bind_ok (number_from 2 bytes) (λ n. cond (ltb most n.0) (stop bytes Count) (Ok (n.0, n.1))) n.0 n.1 in
    let g = kept_unless (ltb most m.0.0) (m.0.0, m.0.1) n.0 _ m.2 in
    let few : m.0.0 ≤ most = ltb-false most m.0.0 g.0 in
    let s = number_takes 2 exact2 bytes m.0 fits m.1 in
    let c : Takes bytes (big_bytes 2 n.0.0) n.0.1 × (n.0.0 ≤ most) = subst (λ (y : ℕ × List ℕ). Takes bytes (big_bytes 2 y.0) y.1 × (y.0 ≤ most)) g.1 (s.0, few) in
    let h = bind_ok (in_turn held_from n.0.0 0 n.0.1) (λ head. Ok (head.0, head.2)) x n.2 in
    let t = in_turn_takes held_from held_bytes (λ (h : ObjectValue). h.object.0) (λ (h : ObjectValue). IsWireValue h.value) held_takes n.0.0 0 n.0.1 h.0 c.0.bytes_left h.1 in
    let whole : Takes bytes (head_bytes h.0.0) h.0.2 = subst (λ (k : ℕ). Takes bytes (big_bytes 2 k ++ flat_map held_bytes h.0.0) h.0.2) (sym t.1) (after c.0 t.0) in
    subst (λ (y : List ObjectValue × List ℕ). Takes bytes (head_bytes y.0) y.1 × IsWireHeadUpTo most y.0) (ok_is (h.0.0, h.0.2) x h.2) (
      whole,
      record {
        few = omega (arith, c.1, t.1);
        ascending = ascends (λ (h : ObjectValue). h.object.0) 0 h.0.0 t.2;
        values = All-from_recursion (λ (h : ObjectValue). IsWireValue h.value) h.0.0 t.3;
      },
    )

pub result_takes : (bytes : List ℕ) (x : Done1 × List ℕ) → IsBytes bytes → result_from bytes ≡ Ok x → Takes bytes (result_bytes x.0) x.1 × IsWireResult x.0
unfolding result_from
result_takes bytes x fits e =
    let p = bind_ok (number_from 4 bytes) (λ pos. count_from 0 16 pos.1 >>= λ n. several value_from n.0 n.1 >>= λ values. Ok (record { pos = pos.0; values = values.0 }, values.1)) x e in
    let n = bind_ok (count_from 0 16 p.0.1) (λ n. several value_from n.0 n.1 >>= λ values. Ok (record { pos = p.0.0; values = values.0 }, values.1)) x p.2 in
    let v = bind_ok (several value_from n.0.0 n.0.1) (λ values. Ok (record { pos = p.0.0; values = values.0 }, values.1)) x n.2 in
    let s = number_takes 4 exact4 bytes p.0 fits p.1 in
    let c = count_takes 0 16 p.0.1 n.0 s.0.bytes_left n.1 in
    let few = count_is 0 16 p.0.1 n.0 n.1 in
    let t = several_takes value_from value_bytes IsWireValue value_takes n.0.0 n.0.1 v.0 c.bytes_left v.1 in
    let list : Takes p.0.1 (length v.0.0 ∷ flat_map value_bytes v.0.0) v.0.1 = subst (λ (k : ℕ). Takes p.0.1 (k ∷ flat_map value_bytes v.0.0) v.0.1) (sym t.1) (after c t.0) in
    subst (λ (y : Done1 × List ℕ). Takes bytes (result_bytes y.0) y.1 × IsWireResult y.0) (ok_is (record { pos = p.0.0; values = v.0.0 }, v.0.1) x v.2)
    (after s.0 list, record { few = omega (arith, few.1, t.1); values = All-from_recursion IsWireValue v.0.0 t.2 })
