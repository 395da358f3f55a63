-- The newest of a list of values: of two lists, and with an element put in at its place.
use Rattle.std.proofs.Common.{◌≡◌, ℕ, ◌<◌, ◌≤◌, ◌⊎◌, inl, inr, Bool, true, false, cond, ◌&&◌, eqb, ltb, List, [], ◌∷◌, ◌++◌, Option, Some, None, refl, sym, ap, ◌∙◌, subst, arith}
use Rattle.std.specs.List.{filter}
use Rattle.std.proofs.lemmas.Bool.{cond-true, cond-false, lt-ltb, le-ltb, eq-eqb, eqb-true, or_left, or_right, or_from, and_left, and_right, and_from, cases_lt, cases_order, cases_Bool, both_ways}
use Rattle.std.proofs.lemmas.List.Elements.{filter-append}
use Rattle.sv_versions.specs.Held.{Held, later_of, newest, comes_before, put_in}

abbrev pub joined : Option Held → Option Held → Option Held
joined None o = o
joined (Some h) o = Some (later_of h o)

pub first_later : (h k : Held) → k.pos < h.pos → later_of h (Some k) ≡ h
first_later h k l = cond-true (ltb k.pos h.pos) h k (lt-ltb k.pos h.pos l)

pub second_later : (h k : Held) → h.pos ≤ k.pos → later_of h (Some k) ≡ k
second_later h k l = cond-false (ltb k.pos h.pos) h k (le-ltb k.pos h.pos l)

assoc_cases : (h k m : Held) → (k.pos < h.pos) ⊎ (h.pos ≤ k.pos) → (m.pos < k.pos) ⊎ (k.pos ≤ m.pos) → later_of (later_of h (Some k)) (Some m) ≡ later_of h (Some (later_of k (Some m)))
assoc_cases h k m (inl a) (inl b) =
    ap (λ g. later_of g (Some m)) (first_later h k a) ∙ first_later h m (omega arith)
    ∙ sym (ap (λ g. later_of h (Some g)) (first_later k m b) ∙ first_later h k a)
assoc_cases h k m (inl a) (inr b) =
    ap (λ g. later_of g (Some m)) (first_later h k a)
    ∙ sym (ap (λ g. later_of h (Some g)) (second_later k m b))
assoc_cases h k m (inr a) (inl b) =
    ap (λ g. later_of g (Some m)) (second_later h k a) ∙ first_later k m b
    ∙ sym (ap (λ g. later_of h (Some g)) (first_later k m b) ∙ second_later h k a)
assoc_cases h k m (inr a) (inr b) =
    ap (λ g. later_of g (Some m)) (second_later h k a) ∙ second_later k m b
    ∙ sym (ap (λ g. later_of h (Some g)) (second_later k m b) ∙ second_later h m (omega arith))

pub joined_assoc : (a b c : Option Held) → joined (joined a b) c ≡ joined a (joined b c)
joined_assoc None b c = refl
joined_assoc (Some h) None c = refl
joined_assoc (Some h) (Some k) None = refl
joined_assoc (Some h) (Some k) (Some m) = ap (λ g. Some g) (assoc_cases h k m (cases_lt k.pos h.pos) (cases_lt m.pos k.pos))

pub greatest-append : (hs ks : List Held) → newest (hs ++ ks) ≡ joined (newest hs) (newest ks)
greatest-append [] ks = refl
greatest-append (h ∷ hs) ks = ap (λ o. Some (later_of h o)) (greatest-append hs ks) ∙ sym (joined_assoc (Some h) (newest hs) (newest ks))

-- none, or one that stands below a position
abbrev pub IsBelow : Option Held → ℕ → Type 0
IsBelow None pos = Unit {0}
IsBelow (Some h) pos = h.pos < pos

pub later_below : (h : Held) (o : Option Held) (pos : ℕ) → h.pos < pos → IsBelow o pos → (later_of h o).pos < pos
later_below h None pos l b = l
later_below h (Some k) pos l b = go (cases_lt k.pos h.pos)
  where
    go : (k.pos < h.pos) ⊎ (h.pos ≤ k.pos) → (later_of h (Some k)).pos < pos
    go (inl a) = subst (λ (g : Held). g.pos < pos) (sym (first_later h k a)) l
    go (inr a) = subst (λ (g : Held). g.pos < pos) (sym (second_later h k a)) b

swap_cases : (b k a : Held) → b.pos < k.pos → (a.pos < k.pos) ⊎ (k.pos ≤ a.pos) → (a.pos < b.pos) ⊎ (b.pos ≤ a.pos) → later_of b (Some (later_of k (Some a))) ≡ later_of k (Some (later_of b (Some a)))
swap_cases b k a l (inl x) (inl y) =
    ap (λ g. later_of b (Some g)) (first_later k a x) ∙ second_later b k (omega arith)
    ∙ sym (ap (λ g. later_of k (Some g)) (first_later b a y) ∙ first_later k b l)
swap_cases b k a l (inl x) (inr y) =
    ap (λ g. later_of b (Some g)) (first_later k a x) ∙ second_later b k (omega arith)
    ∙ sym (ap (λ g. later_of k (Some g)) (second_later b a y) ∙ first_later k a x)
swap_cases b k a l (inr x) y =
    ap (λ g. later_of b (Some g)) (second_later k a x) ∙ second_later b a (omega arith)
    ∙ sym (ap (λ g. later_of k (Some g)) (second_later b a (omega arith)) ∙ second_later k a x)

-- one that stands behind another may be joined first
swapped : (b a : Option Held) (k : Held) → IsBelow b k.pos → joined b (joined (Some k) a) ≡ joined (Some k) (joined b a)
swapped None a k l = refl
swapped (Some b) None k l = ap (λ g. Some g) (second_later b k (omega arith) ∙ sym (first_later k b l))
swapped (Some b) (Some a) k l = ap (λ g. Some g) (swap_cases b k a l (cases_lt a.pos k.pos) (cases_lt a.pos b.pos))

-- one that does not stand behind another is left out before it
absorb_cases : (k g h : Held) → k.pos ≤ h.pos → (h.pos < g.pos) ⊎ (g.pos ≤ h.pos) → later_of k (Some (later_of g (Some h))) ≡ later_of g (Some h)
absorb_cases k g h l (inl a) = ap (λ m. later_of k (Some m)) (first_later g h a) ∙ second_later k g (omega arith) ∙ sym (first_later g h a)
absorb_cases k g h l (inr a) = ap (λ m. later_of k (Some m)) (second_later g h a) ∙ second_later k h l ∙ sym (second_later g h a)

absorbed : (k h : Held) (g : Option Held) → k.pos ≤ h.pos → joined (Some k) (joined g (Some h)) ≡ joined g (Some h)
absorbed k h None l = ap (λ m. Some m) (second_later k h l)
absorbed k h (Some g) l = ap (λ m. Some m) (absorb_cases k g h l (cases_lt h.pos g.pos))

-- how two values stand to each other
pub data Order (k h : Held) : Type 0 where
  before : comes_before k h ≡ true → comes_before h k ≡ false → (k.object ≡ h.object → k.pos < h.pos) → Order k h
  behind : comes_before k h ≡ false → comes_before h k ≡ true → (k.object ≡ h.object → h.pos < k.pos) → Order k h
  same : comes_before k h ≡ false → comes_before h k ≡ false → k.object ≡ h.object → k.pos ≡ h.pos → Order k h

is_before : (k h : Held) → (k.object < h.object) ⊎ ((k.object ≡ h.object) × (k.pos < h.pos)) → comes_before k h ≡ true
is_before k h (inl a) = or_left _ _ (lt-ltb k.object h.object a)
is_before k h (inr a) = or_right (ltb k.object h.object) _ (and_from _ _ (eq-eqb k.object h.object a.0) (lt-ltb k.pos h.pos a.1))

not_before : (k h : Held) → h.object ≤ k.object → (k.object ≡ h.object → h.pos ≤ k.pos) → comes_before k h ≡ false
not_before k h a b = or_from (ltb k.object h.object) _ (le-ltb k.object h.object a) (go (cases_Bool (eqb k.object h.object)))
  where
    go : (eqb k.object h.object ≡ true) ⊎ (eqb k.object h.object ≡ false) → (eqb k.object h.object && ltb k.pos h.pos) ≡ false
    go (inl e) = and_right _ _ (le-ltb k.pos h.pos (b (eqb-true k.object h.object e)))
    go (inr e) = and_left _ _ e

pub order : (k h : Held) → Order k h
order k h = by_object (cases_order k.object h.object)
  where
    by_pos : k.object ≡ h.object → (k.pos ≡ h.pos) ⊎ ((k.pos < h.pos) ⊎ (h.pos < k.pos)) → Order k h
    by_pos e (inl p) = same (not_before k h (omega arith) (λ _. omega arith)) (not_before h k (omega arith) (λ _. omega arith)) e p
    by_pos e (inr (inl p)) = before (is_before k h (inr (e, p))) (not_before h k (omega arith) (λ _. omega arith)) (λ _. p)
    by_pos e (inr (inr p)) = behind (not_before k h (omega arith) (λ _. omega arith)) (is_before h k (inr (sym e, p))) (λ _. p)

    by_object : (k.object ≡ h.object) ⊎ ((k.object < h.object) ⊎ (h.object < k.object)) → Order k h
    by_object (inl e) = by_pos e (cases_order k.pos h.pos)
    by_object (inr (inl l)) = before (is_before k h (inl l)) (not_before h k (omega arith) (λ f. absurd (omega arith))) (λ f. absurd (omega arith))
    by_object (inr (inr l)) = behind (not_before k h (omega arith) (λ f. absurd (omega arith))) (is_before h k (inl l)) (λ f. absurd (omega arith))

pub cond_taken : (t : Held → Bool) (k : Held) (b : Bool) (hs : List Held) → b ≡ true → t k ≡ true → newest (filter t (cond b (k ∷ hs) hs)) ≡ joined (Some k) (newest (filter t hs))
cond_taken t k b hs e f = ap (λ l. newest (filter t l)) (cond-true b _ _ e) ∙ ap newest (cond-true (t k) _ _ f)

pub cond_left : (t : Held → Bool) (k : Held) (b : Bool) (hs : List Held) → b ≡ false → newest (filter t (cond b (k ∷ hs) hs)) ≡ newest (filter t hs)
cond_left t k b hs e = ap (λ l. newest (filter t l)) (cond-false b _ _ e)

pub cond_passed : (t : Held → Bool) (k : Held) (b : Bool) (hs : List Held) → t k ≡ false → newest (filter t (cond b (k ∷ hs) hs)) ≡ newest (filter t hs)
cond_passed t k true hs e = ap newest (cond-false (t k) _ _ e)
cond_passed t k false hs e = refl

-- a test that asks for an object, and for no more than the position
pub record AsksFor (x : ℕ) (t : Held → Bool) : Type 0 where
  pub of : (h : Held) → t h ≡ true → h.object ≡ x
  pub by_place : (h k : Held) → h.object ≡ k.object → h.pos ≡ k.pos → t h ≡ t k

-- what the element that is put in adds
abbrev pub added : (Held → Bool) → Held → Option Held
added t h = cond (t h) (Some h) None

module _ (x : ℕ) (t : Held → Bool) (asks : AsksFor x t) (h : Held) where
  abbrev front_of : List Held → Option Held
  front_of hs = newest (filter t (filter (λ k. comes_before k h) hs))

  abbrev back_of : List Held → Option Held
  back_of hs = newest (filter t (filter (λ k. comes_before h k) hs))

  front_below : (hs : List Held) (pos : ℕ) → ((g : Held) → t g ≡ true → comes_before g h ≡ true → g.pos < pos) → IsBelow (front_of hs) pos
  front_below [] pos l = tt
  front_below (k ∷ hs) pos l = go (t k) (comes_before k h) refl refl (front_below hs pos l)
    where
      go : (a b : Bool) → t k ≡ a → comes_before k h ≡ b → IsBelow (front_of hs) pos → IsBelow (front_of (k ∷ hs)) pos
      go true true e f r = subst (λ o. IsBelow o pos) (sym (cond_taken t k _ _ f e)) (later_below k (front_of hs) pos (l k e f) r)
      go true false e f r = subst (λ o. IsBelow o pos) (sym (cond_left t k _ _ f)) r
      go false b e f r = subst (λ o. IsBelow o pos) (sym (cond_passed t k _ _ e)) r

  added_below : (k : Held) → t k ≡ true → (k.object ≡ h.object → h.pos < k.pos) → IsBelow (added t h) k.pos
  added_below k e l = go (t h) refl
    where
      go : (b : Bool) → t h ≡ b → IsBelow (cond b (Some h) None) k.pos
      go true f = l (asks.of k e ∙ sym (asks.of h f))
      go false f = tt

  joined_none : (o : Option Held) → joined o None ≡ o
  joined_none None = refl
  joined_none (Some g) = refl

  framed : (k : Held) (hs : List Held) (f b g : Option Held) → front_of (k ∷ hs) ≡ f → back_of (k ∷ hs) ≡ b → newest (filter t (k ∷ hs)) ≡ g → joined f (joined (added t h) b) ≡ joined g (added t h) → joined (front_of (k ∷ hs)) (joined (added t h) (back_of (k ∷ hs))) ≡ joined (newest (filter t (k ∷ hs))) (added t h)
  framed k hs f b g fe be ge core =
      ap (λ o. joined o (joined (added t h) (back_of (k ∷ hs)))) fe ∙ ap (λ o. joined f (joined (added t h) o)) be ∙ core
      ∙ ap (λ o. joined o (added t h)) (sym ge)

  -- what stands before the element stands before what stands behind it
  between : (k g : Held) → t k ≡ true → t g ≡ true → comes_before g h ≡ true → comes_before k h ≡ false → (k.object ≡ h.object → h.pos < k.pos) → Order g h → g.pos < k.pos
  between k g e p q n l (behind u v w) = absurd (both_ways _ u q)
  between k g e p q n l (same u v w y) = absurd (both_ways _ u q)
  between k g e p q n l (before u v w) = go (cases_order k.object h.object)
    where
      go : (k.object ≡ h.object) ⊎ ((k.object < h.object) ⊎ (h.object < k.object)) → g.pos < k.pos
      go (inl z) = omega (arith, w (asks.of g p ∙ sym (asks.of k e) ∙ z), l z)
      go (inr (inl z)) = absurd (both_ways _ n (is_before k h (inl z)))
      go (inr (inr z)) = absurd (both_ways _ (not_before g h (omega (arith, asks.of g p, asks.of k e)) (λ f. absurd (omega (arith, asks.of g p, asks.of k e)))) q)

  one_more : (k : Held) (hs : List Held) → (t k ≡ true) ⊎ (t k ≡ false) → Order k h → joined (front_of hs) (joined (added t h) (back_of hs)) ≡ joined (newest (filter t hs)) (added t h) → joined (front_of (k ∷ hs)) (joined (added t h) (back_of (k ∷ hs))) ≡ joined (newest (filter t (k ∷ hs))) (added t h)
  one_more k hs (inr e) o rest =
      framed k hs (front_of hs) (back_of hs) (newest (filter t hs)) (cond_passed t k _ _ e) (cond_passed t k _ _ e) (ap newest (cond-false (t k) _ _ e)) rest
  one_more k hs (inl e) (before f n l) rest =
      framed k hs (joined (Some k) (front_of hs)) (back_of hs) (joined (Some k) (newest (filter t hs))) (cond_taken t k _ _ f e) (cond_left t k _ _ n) (ap newest (cond-true (t k) _ _ e))
      (joined_assoc (Some k) (front_of hs) (joined (added t h) (back_of hs)) ∙ ap (λ o. joined (Some k) o) rest
      ∙ sym (joined_assoc (Some k) (newest (filter t hs)) (added t h)))
  one_more k hs (inl e) (behind n f l) rest =
      framed k hs (front_of hs) (joined (Some k) (back_of hs)) (joined (Some k) (newest (filter t hs))) (cond_left t k _ _ n) (cond_taken t k _ _ f e) (ap newest (cond-true (t k) _ _ e))
      (ap (λ o. joined (front_of hs) o) (swapped (added t h) (back_of hs) k (added_below k e l))
      ∙ swapped (front_of hs) (joined (added t h) (back_of hs)) k (front_below hs k.pos (λ g p q. between k g e p q n l (order g h)))
      ∙ ap (λ o. joined (Some k) o) rest
      ∙ sym (joined_assoc (Some k) (newest (filter t hs)) (added t h)))
  one_more k hs (inl e) (same n m ob po) rest =
      framed k hs (front_of hs) (back_of hs) (joined (Some k) (newest (filter t hs))) (cond_left t k _ _ n) (cond_left t k _ _ m) (ap newest (cond-true (t k) _ _ e))
      (rest ∙ sym (joined_assoc (Some k) (newest (filter t hs)) (added t h) ∙ keeps (t h) (sym (asks.by_place k h ob po) ∙ e)))
    where
      keeps : (b : Bool) → b ≡ true → joined (Some k) (joined (newest (filter t hs)) (cond b (Some h) None)) ≡ joined (newest (filter t hs)) (cond b (Some h) None)
      keeps true z = absorbed k h (newest (filter t hs)) (omega arith)
      keeps false z = absurd (both_ways _ refl z)

  put_core : (hs : List Held) → joined (front_of hs) (joined (added t h) (back_of hs)) ≡ joined (newest (filter t hs)) (added t h)
  put_core [] = joined_none (added t h)
  put_core (k ∷ hs) = one_more k hs (cases_Bool (t k)) (order k h) (put_core hs)

  added_first : (b : Bool) (hs : List Held) → newest (cond b (h ∷ hs) hs) ≡ joined (cond b (Some h) None) (newest hs)
  added_first true hs = refl
  added_first false hs = refl

  added_alone : (b : Bool) → newest (cond b (h ∷ []) []) ≡ cond b (Some h) None
  added_alone true = refl
  added_alone false = refl

  pub found_put : (hs : List Held) → newest (filter t (put_in hs h)) ≡ joined (newest (filter t hs)) (added t h)
  found_put hs =
      let fronts = filter (λ k. comes_before k h) hs in
      let backs = filter (λ k. comes_before h k) hs in
      ap newest (filter-append t fronts (h ∷ backs))
      ∙ greatest-append (filter t fronts) (filter t (h ∷ backs))
      ∙ ap (λ o. joined (newest (filter t fronts)) o) (added_first (t h) (filter t backs))
      ∙ put_core hs

  pub found_end : (hs : List Held) → newest (filter t (hs ++ h ∷ [])) ≡ joined (newest (filter t hs)) (added t h)
  found_end hs =
      ap newest (filter-append t hs (h ∷ []))
      ∙ greatest-append (filter t hs) (filter t (h ∷ []))
      ∙ ap (λ o. joined (newest (filter t hs)) o) (added_alone (t h))
