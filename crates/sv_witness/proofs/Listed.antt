-- Disputes by their positions: a list of them, ascending, with more of them.
use Rattle.std.proofs.Common.{◌≡◌, ℕ, zero, suc, ◌<◌, ◌≤◌, Bool, true, false, ◌==◌, nat_lt, inl, inr, List, [], ◌∷◌, ◌++◌, Option, Some, None, option_to_list, refl, sym, ap, ap₂, ◌∙◌, subst, arith, append-nil, eqb-true}
use Rattle.std.specs.Prelude.{if◌then◌else◌}
use Rattle.std.specs.List.{flat_map, AllByRecursion}
use Rattle.std.proofs.lemmas.Bool.{cases_eq, cond-true, cond-false, lt-ltb, le-ltb, eq-eqb, ne_eqb}
use Rattle.std.proofs.lemmas.Grind.{flat_map-append}
use Rattle.std.proofs.lemmas.Option.{none-some, same_Some}
use Rattle.sv_world.specs.Control.{below}
use Rattle.sv_journal.specs.History.{either}
use Rattle.sv_witness.specs.declared.report.Dispute.{Dispute}
use Rattle.sv_witness.specs.Disputes.{with_dispute, with_disputes}

abbrev Maybe : Type 0
Maybe = Option Dispute

-- The disputes that f has about the positions below n.
abbrev pub listing : (ℕ → Option Dispute) → ℕ → List Dispute
listing f zero = []
listing f (suc n) = listing f n ++ option_to_list (f n)

pub listing-is : (f : ℕ → Option Dispute) (n : ℕ) → flat_map (λ p. option_to_list (f p)) (below n) ≡ listing f n
listing-is f zero = refl
listing-is f (suc n) =
    flat_map-append (λ p. option_to_list (f p)) (below n) (n ∷ [])
    ∙ ap₂ (λ (xs ys : List Dispute). xs ++ ys) (listing-is f n) (append-nil (option_to_list (f n)))

pub listing-same : (f g : ℕ → Option Dispute) (n : ℕ) → ((p : ℕ) → p < n → f p ≡ g p) → listing f n ≡ listing g n
listing-same f g zero same = refl
listing-same f g (suc n) same =
    ap₂ (λ (xs ys : List Dispute). xs ++ ys) (listing-same f g n (λ p low. same p (omega arith))) (ap (λ (o : Maybe). option_to_list o) (same n (omega arith)))

-- Each dispute has its position.
abbrev pub ArePlaced : (ℕ → Option Dispute) → Type 0
ArePlaced f = (p : ℕ) (d : Dispute) → f p ≡ Some d → d.pos ≡ p

each-joined : (P : Dispute → Type 0) (xs ys : List Dispute) → AllByRecursion P xs → AllByRecursion P ys → AllByRecursion P (xs ++ ys)
each-joined P [] ys a b = b
each-joined P (x ∷ xs) ys a b = (a.0, each-joined P xs ys a.1 b)

each-below : (m n : ℕ) → m ≤ n → (xs : List Dispute) → AllByRecursion (λ (x : Dispute). x.pos < m) xs → AllByRecursion (λ (x : Dispute). x.pos < n) xs
each-below m n more [] a = tt
each-below m n more (x ∷ xs) a = let low : x.pos < m = a.0 in (omega arith, each-below m n more xs a.1)

listing-below : (f : ℕ → Option Dispute) → ArePlaced f → (n : ℕ) → AllByRecursion (λ (x : Dispute). x.pos < n) (listing f n)
listing-below f placed zero = tt
listing-below f placed (suc n) =
    each-joined (λ (x : Dispute). x.pos < suc n) (listing f n) (option_to_list (f n)) (each-below n (suc n) (omega arith) (listing f n) (listing-below f placed n)) (go (f n) refl)
  where
    go : (o : Maybe) → f n ≡ o → AllByRecursion (λ (x : Dispute). x.pos < suc n) (option_to_list o)
    go None e = tt
    go (Some x) e = let at : x.pos ≡ n = placed n x e in (omega arith, tt)

-- ---- One more

with-behind : (d : Dispute) (xs ys : List Dispute) → AllByRecursion (λ (x : Dispute). x.pos < d.pos) xs → with_dispute d (xs ++ ys) ≡ xs ++ with_dispute d ys
with-behind d [] ys low = refl
with-behind d (x ∷ xs) ys low =
    cond-true (nat_lt x.pos d.pos) _ _ (lt-ltb x.pos d.pos low.0) ∙ ap (λ (l : List Dispute). x ∷ l) (with-behind d xs ys low.1)

with-first : (d : Dispute) (ys : List Dispute) → AllByRecursion (λ (y : Dispute). d.pos < y.pos) ys → with_dispute d ys ≡ d ∷ ys
with-first d [] high = refl
with-first d (y ∷ ys) high =
    let above : d.pos < y.pos = high.0 in
    cond-false (nat_lt y.pos d.pos) _ _ (le-ltb y.pos d.pos (omega arith))
    ∙ cond-false (y.pos == d.pos) (y ∷ ys) (d ∷ y ∷ ys) (ne_eqb y.pos d.pos (λ same. omega arith))

with-front : (d : Dispute) (xs ys : List Dispute) → AllByRecursion (λ (y : Dispute). d.pos < y.pos) ys → with_dispute d (xs ++ ys) ≡ with_dispute d xs ++ ys
with-front d [] ys high = with-first d ys high
with-front d (x ∷ xs) ys high = go (nat_lt x.pos d.pos) (x.pos == d.pos) (with-front d xs ys high)
  where
    go : (a b : Bool) → with_dispute d (xs ++ ys) ≡ with_dispute d xs ++ ys →
        (if a then x ∷ with_dispute d (xs ++ ys) else if b then x ∷ (xs ++ ys) else d ∷ x ∷ (xs ++ ys))
        ≡ (if a then x ∷ with_dispute d xs else if b then x ∷ xs else d ∷ x ∷ xs) ++ ys
    go true b ih = ap (λ (l : List Dispute). x ∷ l) ih
    go false true ih = refl
    go false false ih = refl

-- What f has, and where it has nothing, the dispute at its position.
abbrev also : Dispute → (ℕ → Option Dispute) → ℕ → Option Dispute
also d f p = either (f p) (if d.pos == p then Some d else None)

either-nothing : (o : Maybe) → o ≡ either o None
either-nothing (Some x) = refl
either-nothing None = refl

also-other : (d : Dispute) (f : ℕ → Option Dispute) (p : ℕ) → (d.pos ≡ p → ⊥) → f p ≡ also d f p
also-other d f p ne = either-nothing (f p) ∙ ap (λ (o : Maybe). either (f p) o) (sym (cond-false (d.pos == p) (Some d) None (ne_eqb d.pos p ne)))

also-here : (d : Dispute) (p : ℕ) (o : Maybe) → d.pos ≡ p → ((x : Dispute) → o ≡ Some x → x.pos ≡ p) →
    with_dispute d (option_to_list o) ≡ option_to_list (either o (if d.pos == p then Some d else None))
also-here d p None e placed = ap (λ (o : Maybe). option_to_list o) (sym (cond-true (d.pos == p) (Some d) None (eq-eqb d.pos p e)))
also-here d p (Some x) e placed =
    let at : x.pos ≡ p = placed x refl in
    cond-false (nat_lt x.pos d.pos) _ _ (le-ltb x.pos d.pos (omega arith)) ∙ cond-true (x.pos == d.pos) (x ∷ []) (d ∷ x ∷ []) (eq-eqb x.pos d.pos (at ∙ sym e))

listing-with : (d : Dispute) (f : ℕ → Option Dispute) → ArePlaced f → (n : ℕ) → d.pos < n → with_dispute d (listing f n) ≡ listing (also d f) n
listing-with d f placed zero low = absurd (omega arith)
listing-with d f placed (suc n) low = elim (cases_eq d.pos n) [
  | inl e ↦
      with-behind d (listing f n) (option_to_list (f n)) (subst (λ m. AllByRecursion (λ (x : Dispute). x.pos < m) (listing f n)) (sym e) (listing-below f placed n))
      ∙ ap₂ (λ (xs ys : List Dispute). xs ++ ys) (listing-same f (also d f) n (λ p l. also-other d f p (λ same. omega arith))) (also-here d n (f n) e (placed n))
  | inr ne ↦
      with-front d (listing f n) (option_to_list (f n)) (above ne (f n) refl)
      ∙ ap₂ (λ (xs ys : List Dispute). xs ++ ys) (listing-with d f placed n (omega arith)) (ap (λ (o : Maybe). option_to_list o) (also-other d f n ne))
]
  where
    above : (d.pos ≡ n → ⊥) → (o : Maybe) → f n ≡ o → AllByRecursion (λ (y : Dispute). d.pos < y.pos) (option_to_list o)
    above ne None e = tt
    above ne (Some x) e = let at : x.pos ≡ n = placed n x e in (omega arith, tt)

-- ---- More

-- The first of disputes about a position.
abbrev pub about : ℕ → List Dispute → Option Dispute
about p [] = None
about p (d ∷ ds) = if d.pos == p then Some d else about p ds

also-placed : (d : Dispute) (f : ℕ → Option Dispute) → ArePlaced f → ArePlaced (also d f)
also-placed d f placed p x is = go (f p) refl is
  where
    last : (b : Bool) → (d.pos == p) ≡ b → (if b then Some d else None) ≡ Some x → x.pos ≡ p
    last true e same = ap (λ (y : Dispute). y.pos) (sym (same_Some d x same)) ∙ eqb-true d.pos p e
    last false e same = absurd (none-some x same)

    go : (o : Maybe) → f p ≡ o → either o (if d.pos == p then Some d else None) ≡ Some x → x.pos ≡ p
    go (Some w) e same = placed p x (e ∙ same)
    go None e same = last (d.pos == p) refl same

pub listing-all : (new : List Dispute) (f : ℕ → Option Dispute) → ArePlaced f → (n : ℕ) → AllByRecursion (λ (d : Dispute). d.pos < n) new →
    with_disputes new (listing f n) ≡ listing (λ p. either (f p) (about p new)) n
listing-all [] f placed n low = listing-same f (λ p. either (f p) None) n (λ p l. either-nothing (f p))
listing-all (d ∷ ds) f placed n low =
    ap (λ (xs : List Dispute). with_disputes ds xs) (listing-with d f placed n low.0)
    ∙ listing-all ds (also d f) (also-placed d f placed) n low.1
    ∙ listing-same (λ p. either (also d f p) (about p ds)) (λ p. either (f p) (about p (d ∷ ds))) n (λ p l. go (f p) (d.pos == p) (about p ds))
  where
    go : (o : Maybe) (b : Bool) (rest : Maybe) → either (either o (if b then Some d else None)) rest ≡ either o (if b then Some d else rest)
    go (Some w) b rest = refl
    go None true rest = refl
    go None false rest = refl
