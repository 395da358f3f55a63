-- The base values of a reply, and how many they are.
use Rattle.std.proofs.Common.{◌≡◌, ℕ, suc, ◌+◌, ◌*◌, ◌<◌, ◌≤◌, Bool, true, ◌&&◌, ℤ, List, [], ◌∷◌, map, length, refl, sym, ap, subst, ◌∙◌, arith}
use Rattle.std.specs.Prelude.{nat_le, nat_lt, slice_index_or}
use Rattle.std.specs.List.{AllByRecursion, list_all}
use Rattle.std.proofs.lemmas.Bool.{ltb-true, leb-true, and_parts}
use Rattle.std.proofs.lemmas.List.{length-map}
use Rattle.std.proofs.lemmas.List.Elements.{All-from_recursion, recursion_from_All}
use Rattle.sv_world.specs.declared.action.Action.{Action}
use Rattle.sv_world.specs.Control.{is_in, needed_for, head_for, with_reading, up_to, needed_to_see, head_to_see}
use Rattle.sv_world.specs.Faults.{is_ascending, may_be_observed}
use Rattle.sv_wire.specs.declared.message.ObjectValue.{ObjectValue}
use Rattle.sv_wire.specs.Grammar.{IsWireValue, IsWireHeadUpTo}
use Rattle.sv_journal.specs.declared.entry.Entry.{Entry}
use Rattle.sv_journal.specs.History.{commit_of, committed_of}
use Rattle.sv_journal.specs.Sessions.{sent_to, already_given}
use Rattle.sv_journal.specs.Answer.{Rules, committed_held, is_good_interest}
use Rattle.sv_journal.specs.Laws.{AreWithinLimits}
use Rattle.sv_journal.proofs.Named.{in_list}
use Rattle.sv_journal.proofs.Counts.{FewReads, head_count, seen_count}
use Rattle.sv_journal.proofs.Results.{HaveNumbers, AreResults, committed_kept, committed_count}

-- Laws of sv_world: the objects of base values ascend, and are objects of the world.
abbrev pub HeadAscends : Type 0
HeadAscends = (objects : ℕ) (A : List Action) (commit : ℕ) (sent given : List ℕ) (i : ℕ) → is_ascending (head_for objects A commit sent given i) ≡ true

abbrev pub HeadWithin : Type 0
HeadWithin = (objects : ℕ) (A : List Action) (commit : ℕ) (sent given : List ℕ) (i x : ℕ) → is_in x (head_for objects A commit sent given i) ≡ true → x < objects

-- At most so many objects, ascending, with values within the grammar.
pub record IsHead (most : ℕ) (head : List ObjectValue) : Type 0 where
  pub few : length head ≤ most
  pub ascending : is_ascending (map (λ (v : ObjectValue). v.object.0) head) ≡ true
  pub values : AllByRecursion (λ (v : ObjectValue). IsWireValue v.value) head

pub wire_head : (most top : ℕ) (head : List ObjectValue) → most ≤ top → IsHead most head → IsWireHeadUpTo top head
wire_head most top head le h = record {
  few = omega (arith, h.few, le);
  ascending = h.ascending;
  values = All-from_recursion (λ (v : ObjectValue). IsWireValue v.value) head h.values;
}

abbrev held : List (List ℤ) → ℕ → ObjectValue
held world x = record { object = record { 0 = x }; value = slice_index_or world x [] }

objects_of : (world : List (List ℤ)) (xs : List ℕ) → map (λ (v : ObjectValue). v.object.0) (map (held world) xs) ≡ xs
objects_of world [] = refl
objects_of world (x ∷ xs) = ap (λ (ys : List ℕ). x ∷ ys) (objects_of world xs)

values_of : (n : ℕ) (world : List (List ℤ)) (xs : List ℕ) → 1 ≤ n → n ≤ 4 → HaveNumbers n world → AllByRecursion (λ x. x < length world) xs →
    AllByRecursion (λ (v : ObjectValue). IsWireValue v.value) (map (held world) xs)
values_of n world [] some few all low = tt
values_of n world (x ∷ xs) some few all low =
    let count = All-from_recursion (λ (v : List ℤ). length v ≡ n) world all x [] low.0 in
    ((omega (arith, count, some), omega (arith, count, few)), values_of n world xs some few all low.1)

head_in : (n most : ℕ) (world : List (List ℤ)) (xs : List ℕ) → 1 ≤ n → n ≤ 4 → HaveNumbers n world → AllByRecursion (λ x. x < length world) xs →
    length xs ≤ most → is_ascending xs ≡ true → IsHead most (map (held world) xs)
head_in n most world xs some few all low short ascending = record {
  few = omega (arith, length-map xs (held world), short);
  ascending = ap is_ascending (objects_of world xs) ∙ ascending;
  values = values_of n world xs some few all low;
}

pub committed_head : (r : Rules) (h : List Entry) (most : ℕ) (xs : List ℕ) → AreWithinLimits r → AreResults r.world.shape.attrs h →
    AllByRecursion (λ x. x < r.world.shape.objects) xs → length xs ≤ most → is_ascending xs ≡ true → IsHead most (committed_held r h xs)
committed_head r h most xs limits results low short ascending =
    let all = recursion_from_All (λ (v : List ℤ). length v ≡ r.world.shape.attrs) r.world.values limits.attrs in
    head_in r.world.shape.attrs most (committed_of r.world.values h) xs limits.some_attrs limits.few_attrs
    (committed_kept r.world.shape.attrs r.world.values h results all)
    (subst (λ n. AllByRecursion (λ x. x < n) xs) (sym (committed_count r.world.values h ∙ limits.objects)) low) short ascending

-- ---- The heads of replies

pub relay_head : HeadAscends → HeadWithin → (r : Rules) (h : List Entry) (A : List Action) (s i : ℕ) → AreWithinLimits r → AreResults r.world.shape.attrs h → FewReads A →
    IsHead (16 * length (needed_for A (commit_of h) (sent_to h s) i))
    (committed_held r h (head_for r.world.shape.objects A (commit_of h) (sent_to h s) (already_given r.world.shape.objects h s) i))
relay_head ascends within r h A s i limits results few =
    let objects = r.world.shape.objects in
    let xs = head_for objects A (commit_of h) (sent_to h s) (already_given objects h s) i in
    committed_head r h (16 * length (needed_for A (commit_of h) (sent_to h s) i)) xs limits results
    (recursion_from_All (λ x. x < objects) xs
    (λ k d low. within objects A (commit_of h) (sent_to h s) (already_given objects h s) i _ (in_list xs k d low)))
    (head_count objects A (commit_of h) (sent_to h s) (already_given objects h s) i few)
    (ascends objects A (commit_of h) (sent_to h s) (already_given objects h s) i)

pub seen_head : HeadAscends → HeadWithin → (r : Rules) (h : List Entry) (A : List Action) (s : ℕ) (observed : List ℕ) (n : ℕ) → AreWithinLimits r →
    AreResults r.world.shape.attrs h → FewReads A → length observed ≤ 16 → commit_of h ≤ n →
    IsHead (16 * (length (needed_to_see A (commit_of h) (sent_to h s) observed n) + 1))
    (committed_held r h (head_to_see r.world.shape.objects A (commit_of h) (sent_to h s) (already_given r.world.shape.objects h s) observed n))
seen_head ascends within r h A s observed n limits results few short low =
    let objects = r.world.shape.objects in
    let given = already_given objects h s in
    let xs = head_to_see objects A (commit_of h) (sent_to h s) given observed n in
    committed_head r h (16 * (length (needed_to_see A (commit_of h) (sent_to h s) observed n) + 1)) xs limits results
    (recursion_from_All (λ x. x < objects) xs
    (λ k d less. within objects (with_reading A n observed) (commit_of h) (up_to n (sent_to h s)) given (suc n) _ (in_list xs k d less)))
    (seen_count objects A (commit_of h) (sent_to h s) given observed n few short low)
    (ascends objects (with_reading A n observed) (commit_of h) (up_to n (sent_to h s)) given (suc n))

all_below : (objects : ℕ) (xs : List ℕ) → list_all (λ x. nat_lt x objects) xs ≡ true → AllByRecursion (λ x. x < objects) xs
all_below objects [] e = tt
all_below objects (x ∷ xs) e =
    let parts = and_parts (nat_lt x objects) (list_all (λ y. nat_lt y objects) xs) e in
    (ltb-true x objects parts.0, all_below objects xs parts.1)

pub welcome_head : (r : Rules) (h : List Entry) (xs : List ℕ) → AreWithinLimits r → AreResults r.world.shape.attrs h →
    is_good_interest r.world.shape.objects xs ≡ true → IsHead 64 (committed_held r h xs)
welcome_head r h xs limits results good =
    let parts = and_parts (nat_le (length xs) 64 && is_ascending xs) (list_all (λ x. nat_lt x r.world.shape.objects) xs) good in
    let front = and_parts (nat_le (length xs) 64) (is_ascending xs) parts.0 in
    committed_head r h 64 xs limits results (all_below r.world.shape.objects xs parts.1) (leb-true (length xs) 64 front.0) front.1

pub observed_few : (objects : ℕ) (xs : List ℕ) → may_be_observed objects xs ≡ true → length xs ≤ 16
observed_few objects xs good =
    let most : Bool = nat_le (length xs) 16 in
    let parts = and_parts (nat_lt 0 (length xs) && most && is_ascending xs) (list_all (λ x. nat_lt x objects) xs) good in
    let front = and_parts (nat_lt 0 (length xs) && most) (is_ascending xs) parts.0 in
    leb-true (length xs) 16 (and_parts (nat_lt 0 (length xs)) most front.0).1
