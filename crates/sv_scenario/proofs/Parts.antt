-- What a read that succeeded tells of its parts.
use Rattle.std.proofs.Common.{◌≡◌, ℕ, ◌≤◌, Bool, true, false, ◌&&◌, cond, nat_le, ℤ, pos, negsuc, List, [], ◌∷◌, ◌++◌, length, Option, Some, None, Ok, Err, refl, sym, ap, ◌∙◌, subst, append_assoc, decimal, suc}
use Rattle.std.proofs.lemmas.Bool.{and_parts, leb-true}
use Rattle.std.proofs.lemmas.List.{append-nil}
use Rattle.std.specs.List.{AllByRecursion}
use Rattle.serde_json.specs.Data.{Data, Items, no_items, item}
use Rattle.serde_json.specs.Find.{as_array}
use Rattle.sv_scenario.specs.declared.fault.ScenarioCause.{ScenarioCause}
use Rattle.sv_scenario.specs.declared.fault.ScenarioCause.TheVariants as causes
use Rattle.sv_scenario.specs.Faults.{Read, ◌>>=◌, refuse, given, at_key, at_place, each}
use Rattle.sv_scenario.specs.Keys.{needed, value_at, wanted_by}
use Rattle.sv_scenario.specs.Numbers.{whole_number, number_within, in_range, list_within, items_within, count_items}

module _ {A B : Type 0} where
  pub bound : (r : Read A) (f : A → Read B) (y : B) → (r >>= f) ≡ Ok y → (x : A) × (r ≡ Ok x) × (f x ≡ Ok y)
  bound (Ok x) f y e = (x, refl, e)
  bound (Err fault) f y e = cc

module _ {A : Type 0} where
  pub keyed_ok : (key : List ℕ) (r : Read A) (x : A) → at_key key r ≡ Ok x → r ≡ Ok x
  keyed_ok key (Ok y) x e = e
  keyed_ok key (Err fault) x e = cc

  pub given_ok : (cause : ScenarioCause) (o : Option A) (x : A) → given cause o ≡ Ok x → o ≡ Some x
  given_ok cause (Some y) x e = cc
  given_ok cause None x e = cc

  pub chosen : (b : Bool) (cause : ScenarioCause) (x y : A) → cond b (Ok x) (refuse cause) ≡ Ok y → (b ≡ true) × (x ≡ y)
  chosen true cause x y e = (refl, cc)
  chosen false cause x y e = cc

  pub at_key_of : (key : List ℕ) (read : Data → Read A) (d : Data) (x : A) → value_at key read d ≡ Ok x → (e : Data) × (read e ≡ Ok x)
  at_key_of key read d x is = let p = bound (needed key d) (λ e. at_key key (read e)) x is in (p.0, keyed_ok key (read p.0) x p.2)

  pub at_key_if : (key : List ℕ) (otherwise : A) (read : Data → Read A) (o : Option Data) (x : A) (P : A → Type 0) → P otherwise → ((e : Data) → read e ≡ Ok x → P x)
      → wanted_by key otherwise read o ≡ Ok x → P x
  at_key_if key otherwise read (Some d) x P first found is = found d (keyed_ok key (read d) x is)
  at_key_if key otherwise read None x P first found is = let e : otherwise ≡ x = cc in subst P e first

-- ---- numbers and lists

in_range_ok : (low high : ℕ) (z : ℤ) (n : ℕ) → in_range low high z ≡ Ok n → (low ≤ n) × (n ≤ high)
in_range_ok low high (pos m) n is =
    let p = chosen (nat_le low m && nat_le m high) causes.Range m n is in
    let both = and_parts (nat_le low m) (nat_le m high) p.0 in
    subst (λ k. (low ≤ k) × (k ≤ high)) p.1 (leb-true low m both.0, leb-true m high both.1)
in_range_ok low high (negsuc m) n is = cc

pub number_ok : (low high : ℕ) (d : Data) (n : ℕ) → number_within low high d ≡ Ok n → (low ≤ n) × (n ≤ high)
unfolding number_within
number_ok low high d n is = let p = bound (whole_number d) (in_range low high) n is in in_range_ok low high p.0 n p.2

pub list_ok : (low high : ℕ) (d : Data) (ds : Items) → list_within low high d ≡ Ok ds → (low ≤ count_items ds) × (count_items ds ≤ high)
unfolding list_within
list_ok low high d ds is =
    let p = bound (given causes.Kind (as_array d)) (items_within low high) ds is in
    let q = chosen (nat_le low (count_items p.0) && nat_le (count_items p.0) high) causes.Range p.0 ds p.2 in
    let both = and_parts (nat_le low (count_items p.0)) (nat_le (count_items p.0) high) q.0 in
    subst (λ es. (low ≤ count_items es) × (count_items es ≤ high)) q.1 (leb-true low (count_items p.0) both.0, leb-true (count_items p.0) high both.1)

-- ---- lists of what is read

-- Behind what was read before stand so many elements, of each of which P holds.
pub record IsRead {A : Type 0} (P : A → Type 0) (before xs : List A) (n : ℕ) : Type 0 where
  pub new : List A
  pub is : xs ≡ before ++ new
  pub all : AllByRecursion P new
  pub count : length new ≡ n

module _ {A : Type 0} (read : Data → Read A) (P : A → Type 0) (keeps : (d : Data) (x : A) → read d ≡ Ok x → P x) where
  pub each_ok : (before : List A) (ds : Items) (xs : List A) → each read before ds ≡ Ok xs → IsRead P before xs (count_items ds)
  each_ok before no_items xs is = let e : before ≡ xs = cc in record { new = []; is = sym e ∙ sym (append-nil before); all = tt; count = refl }
  each_ok before (item d ds) xs is =
      let p = bound (at_place (length before) (read d)) (λ x. each read (before ++ x ∷ []) ds) xs is in
      let rest = each_ok (before ++ p.0 ∷ []) ds xs p.2 in
      record {
        new = p.0 ∷ rest.new;
        is = rest.is ∙ append_assoc before (p.0 ∷ []) rest.new;
        all = (keeps d p.0 (keyed_ok (decimal (length before)) (read d) p.0 p.1), rest.all);
        count = ap suc rest.count;
      }

  -- of a whole list
  pub all_ok : (ds : Items) (xs : List A) → each read [] ds ≡ Ok xs → AllByRecursion P xs × (length xs ≡ count_items ds)
  all_ok ds xs is =
      let r = each_ok [] ds xs is in
      subst (λ ys. AllByRecursion P ys × (length ys ≡ count_items ds)) (sym r.is) (r.all, r.count)
