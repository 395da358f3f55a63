-- How many objects the base values of a reply have.
use Rattle.std.proofs.Common.{◌≡◌, ℕ, zero, suc, ◌+◌, ◌*◌, ◌≤◌, Bool, true, false, not, ◌&&◌, ◌||◌, nat_eq, nat_le, ◌⊎◌, inl, inr, List, [], ◌∷◌, ◌++◌, filter, length, take, refl, ap, arith, length-append}
use Rattle.std.specs.Prelude.{if◌then◌else◌}
use Rattle.std.specs.List.{AllByRecursion}
use Rattle.std.proofs.lemmas.Bool.{cases_eq, ne_eqb, and_parts}
use Rattle.std.proofs.lemmas.List.{length-map}
use Rattle.sv_world.specs.declared.action.Action.{Action}
use Rattle.sv_world.specs.declared.world.ObjectId.{ObjectId}
use Rattle.sv_world.specs.Sets.{object_numbered, read_set}
use Rattle.sv_world.specs.Control.{is_in, below, action_at, last_writer, reads_committed, needed_for, head_for, reading, with_reading, up_to, needed_to_see, head_to_see}
use Rattle.sv_world.proofs.Seeing.{see-ends}

-- ---- What passes a test

passes_either : (p q : ℕ → Bool) (xs : List ℕ) → length (filter (λ x. p x || q x) xs) ≤ length (filter p xs) + length (filter q xs)
passes_either p q [] = omega arith
passes_either p q (x ∷ xs) = go (p x) (q x) (filter (λ y. p y || q y) xs) (filter p xs) (filter q xs) (passes_either p q xs)
  where
    go : (a b : Bool) (both left right : List ℕ) → length both ≤ length left + length right →
        length (if a || b then x ∷ both else both) ≤ length (if a then x ∷ left else left) + length (if b then x ∷ right else right)
    go true true both left right ih = omega (arith, ih)
    go true false both left right ih = omega (arith, ih)
    go false true both left right ih = omega (arith, ih)
    go false false both left right ih = omega (arith, ih)

passes_more : (p q : ℕ → Bool) → ((x : ℕ) → p x ≡ true → q x ≡ true) → (xs : List ℕ) → length (filter p xs) ≤ length (filter q xs)
passes_more p q so [] = omega arith
passes_more p q so (x ∷ xs) = go (p x) (q x) (so x) (filter p xs) (filter q xs) (passes_more p q so xs)
  where
    go : (a b : Bool) → (a ≡ true → b ≡ true) → (few more : List ℕ) → length few ≤ length more →
        length (if a then x ∷ few else few) ≤ length (if b then x ∷ more else more)
    go true true imp few more ih = omega (arith, ih)
    go true false imp few more ih = (let e : false ≡ true = imp refl in cc)
    go false true imp few more ih = omega (arith, ih)
    go false false imp few more ih = ih

passes_last : (p : ℕ → Bool) (xs : List ℕ) (y : ℕ) → length (filter p (xs ++ y ∷ [])) ≡ length (filter p xs) + length (filter p (y ∷ []))
passes_last p [] y = omega arith
passes_last p (x ∷ xs) y = go (p x) (filter p (xs ++ y ∷ [])) (filter p xs) (passes_last p xs y)
  where
    go : (a : Bool) (all front : List ℕ) → length all ≡ length front + length (filter p (y ∷ [])) →
        length (if a then x ∷ all else all) ≡ length (if a then x ∷ front else front) + length (filter p (y ∷ []))
    go true all front ih = omega (arith, ih)
    go false all front ih = ih

passes_none : (p : ℕ → Bool) → ((x : ℕ) → p x ≡ false) → (xs : List ℕ) → length (filter p xs) ≡ 0
passes_none p never [] = refl
passes_none p never (x ∷ xs) = rw (never x) (passes_none p never xs)

one_fails : (p : ℕ → Bool) (y : ℕ) → p y ≡ false → length (filter p (y ∷ [])) ≡ 0
one_fails p y e = rw e refl

one_at_most : (p : ℕ → Bool) (y : ℕ) → length (filter p (y ∷ [])) ≤ 1
one_at_most p y = go (p y)
  where
    go : (a : Bool) → length (if a then y ∷ [] else []) ≤ 1
    go true = omega arith
    go false = omega arith

-- ---- Objects of a list

none_equal : (y n : ℕ) → n ≤ y → length (filter (λ x. nat_eq x y) (below n)) ≡ 0
none_equal y zero le = refl
none_equal y (suc n) le =
    omega (arith, passes_last (λ x. nat_eq x y) (below n) n, none_equal y n (omega (arith, le)), one_fails (λ x. nat_eq x y) n (ne_eqb n y (λ e. omega (arith, le, e))))

one_equal : (y n : ℕ) → length (filter (λ x. nat_eq x y) (below n)) ≤ 1
one_equal y zero = omega arith
one_equal y (suc n) = go (cases_eq n y) (one_equal y n)
  where
    go : (n ≡ y) ⊎ (n ≡ y → ⊥) → length (filter (λ x. nat_eq x y) (below n)) ≤ 1 → length (filter (λ x. nat_eq x y) (below (suc n))) ≤ 1
    go (inl e) ih = omega (arith, passes_last (λ x. nat_eq x y) (below n) n, none_equal y n (omega (arith, e)), one_at_most (λ x. nat_eq x y) n)
    go (inr ne) ih = omega (arith, passes_last (λ x. nat_eq x y) (below n) n, ih, one_fails (λ x. nat_eq x y) n (ne_eqb n y ne))

some_members : (ys : List ℕ) (n : ℕ) → length (filter (λ x. is_in x ys) (below n)) ≤ length ys
some_members [] n = omega (arith, passes_none (λ x. is_in x []) (λ x. refl) (below n))
some_members (y ∷ ys) n = omega (arith, passes_either (λ x. nat_eq x y) (λ x. is_in x ys) (below n), one_equal y n, some_members ys n)

-- ---- Objects that some positions read as committed

abbrev pub FewReads : List Action → Type 0
FewReads A = AllByRecursion (λ (a : Action). length a.reads ≤ 16) A

few_at : (A : List Action) (k : ℕ) → FewReads A → length (read_set (action_at A k)) ≤ 16
few_at A zero few = omega arith
few_at [] (suc k) few = omega arith
few_at (a ∷ A) (suc zero) few = omega (arith, length-map a.reads (λ (o : ObjectId). o.0), few.0)
few_at (a ∷ A) (suc (suc k)) few = few_at A (suc k) few.1

some_read : (A : List Action) (commit n : ℕ) (ks : List ℕ) → FewReads A → length (filter (λ x. reads_committed A commit x ks) (below n)) ≤ 16 * length ks
some_read A commit n [] few = omega (arith, passes_none (λ x. reads_committed A commit x []) (λ x. refl) (below n))
some_read A commit n (k ∷ ks) few =
    let here = λ (x : ℕ). is_in x (read_set (action_at A k)) && nat_le (last_writer A x k) commit in
    omega (
      arith,
      passes_either here (λ x. reads_committed A commit x ks) (below n),
      passes_more here (λ x. is_in x (read_set (action_at A k))) (λ x e. (and_parts (is_in x (read_set (action_at A k))) (nat_le (last_writer A x k) commit) e).0) (below n),
      some_members (read_set (action_at A k)) n,
      few_at A k few,
      some_read A commit n ks few,
    )

not_given : (A : List Action) (commit n : ℕ) (given ks : List ℕ) → FewReads A →
    length (filter (λ x. reads_committed A commit x ks && not (is_in x given)) (below n)) ≤ 16 * length ks
not_given A commit n given ks few =
    omega (
      arith,
      passes_more (λ x. reads_committed A commit x ks && not (is_in x given)) (λ x. reads_committed A commit x ks)
          (λ x e. (and_parts (reads_committed A commit x ks) (not (is_in x given)) e).0) (below n),
      some_read A commit n ks few,
    )

pub head_count : (objects : ℕ) (A : List Action) (commit : ℕ) (sent given : List ℕ) (i : ℕ) → FewReads A →
    length (head_for objects A commit sent given i) ≤ 16 * length (needed_for A commit sent i)
head_count objects A commit sent given i few = not_given A commit objects given (needed_for A commit sent i) few

-- ---- What is seen

pub one_more : (A : List Action) (a : Action) → FewReads A → length a.reads ≤ 16 → FewReads (A ++ a ∷ [])
one_more [] a few last = (last, tt)
one_more (x ∷ A) a few last = (few.0, one_more A a few.1 last)

few_front : (n : ℕ) (A : List Action) → FewReads A → FewReads (take n A)
few_front zero A few = tt
few_front (suc n) [] few = tt
few_front (suc n) (a ∷ A) few = (few.0, few_front n A few.1)

few_with_reading : (A : List Action) (n : ℕ) (xs : List ℕ) → FewReads A → length xs ≤ 16 → FewReads (with_reading A n xs)
few_with_reading A n xs few short = one_more (take n A) (reading xs) (few_front n A few) (omega (arith, length-map xs object_numbered, short))

pub seen_count : (objects : ℕ) (A : List Action) (commit : ℕ) (sent given xs : List ℕ) (n : ℕ) → FewReads A → length xs ≤ 16 → commit ≤ n →
    length (head_to_see objects A commit sent given xs n) ≤ 16 * (length (needed_to_see A commit sent xs n) + 1)
seen_count objects A commit sent given xs n few short low =
    let count = head_count objects (with_reading A n xs) commit (up_to n sent) given (suc n) (few_with_reading A n xs few short) in
    let needed = ap (λ (ps : List ℕ). length ps) (see-ends A commit sent xs n low) in
    omega (arith, count, needed, length-append (needed_to_see A commit sent xs n) (suc n ∷ []))
