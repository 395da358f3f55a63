-- The greatest number that passes a test, and the greatest cut.
use Rattle.std.proofs.Common.{◌≡◌, ℕ, zero, suc, ◌<◌, ◌≤◌, ◌+◌, ◌-◌, Bool, true, inl, inr, List, [], ◌++◌, length, refl, ◌∙◌, ap, subst, arith, nat_le, le-leb, leb-true, length-append, ◌≢◌}
use Rattle.std.specs.Prelude.{if◌then◌else◌}
use Rattle.std.proofs.lemmas.Bool.{cond_both, cases_eq, cases_lt}
use Rattle.sv_world.specs.declared.action.Action.{Action}
use Rattle.sv_world.specs.Control.{is_in, action_at, needed_for, needed_to_see, greatest_from, greatest_cut, SentIsClosed}
use Rattle.sv_world.specs.Limits.{most_items}
use Rattle.sv_world.proofs.Seeing.{see-none}
use Rattle.sv_world.proofs.Growing.{see-longer, see-shorter, see-agree, see_next-shorter}

-- ---- the greatest number that passes a test

pub greatest_from-low : (test : ℕ → Bool) (low n : ℕ) → low ≤ greatest_from test low n
greatest_from-low test low zero = omega arith
greatest_from-low test low (suc n) =
    let less = greatest_from-low test low n in
    cond_both (test (low + suc n)) (low + suc n) (greatest_from test low n) (λ (m : ℕ). low ≤ m) (λ e. omega arith) (λ e. less)

pub greatest_from-high : (test : ℕ → Bool) (low n : ℕ) → greatest_from test low n ≤ low + n
greatest_from-high test low zero = omega arith
greatest_from-high test low (suc n) =
    let less = greatest_from-high test low n in
    cond_both (test (low + suc n)) (low + suc n) (greatest_from test low n) (λ (m : ℕ). m ≤ low + suc n) (λ e. omega arith) (λ e. omega arith)

pub greatest_from-passes : (test : ℕ → Bool) (low n : ℕ) → test low ≡ true → test (greatest_from test low n) ≡ true
greatest_from-passes test low zero h = h
greatest_from-passes test low (suc n) h =
    let less = greatest_from-passes test low n h in
    cond_both (test (low + suc n)) (low + suc n) (greatest_from test low n) (λ (m : ℕ). test m ≡ true) (λ e. e) (λ e. less)

pub greatest_from-greatest : (test : ℕ → Bool) (low n m : ℕ) → m ≤ low + n → test m ≡ true → m ≤ greatest_from test low n
greatest_from-greatest test low zero m l h = omega arith
greatest_from-greatest test low (suc n) m l h =
    let less = greatest_from-greatest test low n m in
    cond_both (test (low + suc n)) (low + suc n) (greatest_from test low n) (λ (i : ℕ). m ≤ i) (λ e. omega arith)
    (λ e. elim (cases_eq m (low + suc n)) [
      | inl s ↦ (let y : test (low + suc n) ≡ true = subst (λ (i : ℕ). test i ≡ true) s h in cc)
      | inr s ↦ less (omega arith) h
    ])

pub greatest_from-agree : (p q : ℕ → Bool) (low n : ℕ) → ((m : ℕ) → low < m → m ≤ low + n → p m ≡ q m) → greatest_from p low n ≡ greatest_from q low n
greatest_from-agree p q low zero same = refl
greatest_from-agree p q low (suc n) same =
    ap (λ (b : Bool). if b then low + suc n else greatest_from p low n) (same (low + suc n) (omega arith) (omega arith))
    ∙ ap (λ (m : ℕ). if q (low + suc n) then low + suc n else m) (greatest_from-agree p q low n (λ m a b. same m a (omega arith)))

-- ---- the greatest cut

abbrev pub few_to_see : List Action → ℕ → List ℕ → List ℕ → ℕ → Bool
few_to_see A c s xs n = nat_le (length (needed_to_see A c s xs n)) most_items

few_at_commit : (A : List Action) (c : ℕ) (s xs : List ℕ) → few_to_see A c s xs c ≡ true
few_at_commit A c s xs =
    let none : length (needed_to_see A c s xs c) ≡ 0 = ap length (see-none A c s xs c (omega arith)) in
    le-leb (length (needed_to_see A c s xs c)) most_items (omega arith)

pub cut-low : (A : List Action) (c : ℕ) (s xs : List ℕ) → c ≤ greatest_cut A c s xs
cut-low A c s xs = greatest_from-low (few_to_see A c s xs) c (length A - c)

pub cut-high : (A : List Action) (c : ℕ) (s xs : List ℕ) → c ≤ length A → greatest_cut A c s xs ≤ length A
cut-high A c s xs l = let high = greatest_from-high (few_to_see A c s xs) c (length A - c) in omega arith

pub cut-few : (A : List Action) (c : ℕ) (s xs : List ℕ) → length (needed_to_see A c s xs (greatest_cut A c s xs)) ≤ most_items
cut-few A c s xs =
    leb-true (length (needed_to_see A c s xs (greatest_cut A c s xs))) most_items
    (greatest_from-passes (few_to_see A c s xs) c (length A - c) (few_at_commit A c s xs))

pub cut-greatest : (A : List Action) (c : ℕ) (s xs : List ℕ) (n : ℕ) → n ≤ length A → length (needed_to_see A c s xs n) ≤ most_items → n ≤ greatest_cut A c s xs
cut-greatest A c s xs n l few =
    greatest_from-greatest (few_to_see A c s xs) c (length A - c) n (omega arith) (le-leb (length (needed_to_see A c s xs n)) most_items few)

pub cut-few_below : (A : List Action) (c : ℕ) (s xs : List ℕ) (n : ℕ) → c ≤ length A → SentIsClosed A c s → n ≤ greatest_cut A c s xs →
    length (needed_to_see A c s xs n) ≤ most_items
cut-few_below A c s xs n l closed le =
    let few = cut-few A c s xs in
    let more = see-longer A c s xs n (greatest_cut A c s xs) closed le (cut-high A c s xs l) in
    omega arith

-- It is a position at which few enough are needed, where at none above it are.
pub cut-is : (A : List Action) (c : ℕ) (s xs : List ℕ) (n : ℕ) → c ≤ length A → n ≤ length A → length (needed_to_see A c s xs n) ≤ most_items →
    ((k : ℕ) → n < k → k ≤ length A → most_items < length (needed_to_see A c s xs k)) → n ≡ greatest_cut A c s xs
cut-is A c s xs n low l few none =
    let g = greatest_cut A c s xs in
    let up : n ≤ g = cut-greatest A c s xs n l few in
    elim (cases_lt n g) [
      | inl over' ↦ (let many = none g over' (cut-high A c s xs low) in let less = cut-few A c s xs in absurd (omega arith))
      | inr under ↦ omega arith
    ]

-- Marks up to the commit do not count, nor what the committed actions are.
pub cut-agree : (A B : List Action) (c : ℕ) (s t xs : List ℕ) → length A ≡ length B →
    ((k : ℕ) → c < k → k ≤ length A → action_at A k ≡ action_at B k) → ((j : ℕ) → c < j → is_in j s ≡ is_in j t) →
    greatest_cut A c s xs ≡ greatest_cut B c t xs
cut-agree A B c s t xs e same alike =
    greatest_from-agree (few_to_see A c s xs) (few_to_see B c t xs) c (length A - c)
    (λ m low high.
    ap (λ (ks : List ℕ). nat_le (length ks) most_items)
    (see-agree A B c s t xs m (omega arith) (omega arith) (omega arith) (λ k a b. same k a (omega arith)) alike))
    ∙ ap (λ (n : ℕ). greatest_from (few_to_see B c t xs) c (n - c)) e

-- With a later commit, more sent and more actions behind, it is no lower.
pub cut-later : (A later : List Action) (early late : ℕ) (s t xs : List ℕ) → early ≤ length A → early ≤ late →
    ((k : ℕ) → late < k → is_in k s ≡ true → is_in k t ≡ true) → greatest_cut A early s xs ≤ greatest_cut (A ++ later) late t xs
cut-later A later early late s t xs l le more =
    let g = greatest_cut A early s xs in
    let high : g ≤ length A = cut-high A early s xs l in
    let few : length (needed_to_see A early s xs g) ≤ most_items = cut-few A early s xs in
    let less : length (needed_to_see (A ++ later) late t xs g) ≤ length (needed_to_see A early s xs g) = see-shorter A later early late s t xs g le high more in
    let long = length-append A later in
    cut-greatest (A ++ later) late t xs g (omega arith) (omega arith)

-- A cut below the last position has an item.
pub cut-news : (A : List Action) (c : ℕ) (s xs : List ℕ) → greatest_cut A c s xs < length A →
    length (needed_for A c s (suc (greatest_cut A c s xs))) ≤ most_items → needed_to_see A c s xs (greatest_cut A c s xs) ≢ []
cut-news A c s xs l few none =
    let g = greatest_cut A c s xs in
    let less : length (needed_to_see A c s xs (suc g)) ≤ length (needed_for A c s (suc g)) = see_next-shorter A c s xs g l none in
    let over' : suc g ≤ g = cut-greatest A c s xs (suc g) (omega arith) (omega arith) in
    omega arith
