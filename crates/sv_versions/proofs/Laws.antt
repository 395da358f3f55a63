-- A store that is put into and pruned answers as the list in which no value is ever dropped.
use Rattle.std.proofs.Common.{◌≡◌, ℕ, ◌+◌, ◌<◌, ◌≤◌, ◌⊎◌, inl, inr, Bool, true, false, cond, not, ◌&&◌, eqb, ltb, leb, List, [], ◌∷◌, ◌++◌, Option, Some, None, option_map, ℤ, refl, sym, ap, ◌∙◌, subst, arith}
use Rattle.std.specs.List.{filter, list_any, All}
use Rattle.std.specs.Option.{IfSome}
use Rattle.std.proofs.lemmas.Bool.{cond-true, lt-ltb, le-ltb, lt-leb, eq-eqb, eqb-true, or_from, and_left, and_right, and_from, and_parts, cases_lt, not_from_false}
use Rattle.std.proofs.lemmas.List.Elements.{filter_agree, filter_passes, All-head, All-tail, All-cons, All-append, All-filter}
use Rattle.std.proofs.lemmas.Option.{none-some, same_Some}
use Rattle.sv_versions.specs.Held.{Held, later_of, newest, versions_of, found_below, found_latest, read_below, latest, comes_before, put_in, is_outdated, pruned, AnswersAbove}
use Rattle.sv_versions.proofs.Greatest.{joined, AsksFor, added, IsBelow, later_below, found_put, found_end, first_later, second_later}

filter_filter : (p q : Held → Bool) (hs : List Held) → filter p (filter q hs) ≡ filter (λ h. q h && p h) hs
filter_filter p q [] = refl
filter_filter p q (h ∷ hs) = go (q h) (filter_filter p q hs)
  where
    go : (b : Bool) → filter p (filter q hs) ≡ filter (λ h. q h && p h) hs → filter p (cond b (h ∷ filter q hs) (filter q hs)) ≡ cond (b && p h) (h ∷ filter (λ h. q h && p h) hs) (filter (λ h. q h && p h) hs)
    go true e = ap (λ r. cond (p h) (h ∷ r) r) e
    go false e = e

and_comm : (a b : Bool) → (a && b) ≡ (b && a)
and_comm true true = refl
and_comm true false = refl
and_comm false true = refl
and_comm false false = refl

filter_comm : (p q : Held → Bool) (hs : List Held) → filter p (filter q hs) ≡ filter q (filter p hs)
filter_comm p q hs = filter_filter p q hs ∙ filter_agree _ _ (λ h. and_comm (q h) (p h)) hs ∙ sym (filter_filter q p hs)

abbrev stands_below : ℕ → ℕ → Held → Bool
stands_below x pos h = eqb h.object x && ltb h.pos pos

asks_below : (x pos : ℕ) → AsksFor x (stands_below x pos)
asks_below x pos = record {
  of = λ h e. eqb-true h.object x (and_parts _ _ e).0;
  by_place = λ h k e f. ap (λ o. eqb o x && ltb h.pos pos) e ∙ ap (λ p. eqb k.object x && ltb p pos) f;
}

abbrev is_any_of : ℕ → Held → Bool
is_any_of x h = eqb h.object x

asks_any : (x : ℕ) → AsksFor x (is_any_of x)
asks_any x = record { of = λ h e. eqb-true h.object x e; by_place = λ h k e f. ap (λ o. eqb o x) e }

below_as : (hs : List Held) (x pos : ℕ) → found_below hs x pos ≡ newest (filter (stands_below x pos) hs)
below_as hs x pos = ap newest (filter_filter (λ h. ltb h.pos pos) (λ h. eqb h.object x) hs)

put_same : (x : ℕ) (t : Held → Bool) → AsksFor x t → (h : Held) (kept all : List Held) → newest (filter t kept) ≡ newest (filter t all) → newest (filter t (put_in kept h)) ≡ newest (filter t (all ++ h ∷ []))
put_same x t asks h kept all e =
    found_put x t asks h kept ∙ ap (λ o. joined o (added t h)) e ∙ sym (found_end x t asks h all)

pub put_answers : (commit : ℕ) (h : Held) (kept all : List Held) → AnswersAbove commit kept all → AnswersAbove commit (put_in kept h) (all ++ h ∷ [])
put_answers commit h kept all a = record {
  below = λ x pos l. below_as (put_in kept h) x pos
      ∙ put_same x (stands_below x pos) (asks_below x pos) h kept all (sym (below_as kept x pos) ∙ a.below x pos l ∙ below_as all x pos)
      ∙ sym (below_as (all ++ h ∷ []) x pos);
  last = λ x. put_same x (is_any_of x) (asks_any x) h kept all (a.last x);
}

later_has : (P : Held → Type 0) (h : Held) (o : Option Held) → P h → IfSome o P → P (later_of h o)
later_has P h None p q = p
later_has P h (Some k) p q = go (cases_lt k.pos h.pos)
  where
    go : (k.pos < h.pos) ⊎ (h.pos ≤ k.pos) → P (later_of h (Some k))
    go (inl a) = subst P (sym (first_later h k a)) p
    go (inr a) = subst P (sym (second_later h k a)) q

-- what is found has each property that all held have
pub greatest_has : (P : Held → Type 0) (hs : List Held) → All P hs → IfSome (newest hs) P
greatest_has P [] a = tt
greatest_has P (h ∷ hs) a = later_has P h (newest hs) (All-head P h hs a) (greatest_has P hs (All-tail P h hs a))

later_parts : (h : Held) (o : Option Held) (pos : ℕ) → (later_of h o).pos < pos → (h.pos < pos) × IsBelow o pos
later_parts h None pos l = (l, tt)
later_parts h (Some k) pos l = go (cases_lt k.pos h.pos)
  where
    go : (k.pos < h.pos) ⊎ (h.pos ≤ k.pos) → (h.pos < pos) × (k.pos < pos)
    go (inl a) = let m : h.pos < pos = subst (λ (g : Held). g.pos < pos) (first_later h k a) l in (m, omega arith)
    go (inr a) = let m : k.pos < pos = subst (λ (g : Held). g.pos < pos) (second_later h k a) l in (omega arith, m)

kept_below : (keep : Held → Bool) (hs : List Held) (pos : ℕ) → IsBelow (newest hs) pos → IsBelow (newest (filter keep hs)) pos
kept_below keep [] pos l = tt
kept_below keep (h ∷ hs) pos l = go (keep h) (kept_below keep hs pos (later_parts h (newest hs) pos l).1)
  where
    go : (b : Bool) → IsBelow (newest (filter keep hs)) pos → IsBelow (newest (cond b (h ∷ filter keep hs) (filter keep hs))) pos
    go true r = later_below h (newest (filter keep hs)) pos (later_parts h (newest hs) pos l).0 r
    go false r = r

first_of_all : (h : Held) (o : Option Held) → IsBelow o h.pos → later_of h o ≡ h
first_of_all h None l = refl
first_of_all h (Some k) l = first_later h k l

pub greatest_none : (hs : List Held) → newest hs ≡ None → hs ≡ []
greatest_none [] e = refl
greatest_none (h ∷ hs) e = absurd (none-some _ (sym e))

-- one that is kept stays the newest
kept_greatest : (keep : Held → Bool) (hs : List Held) (g : Held) → newest hs ≡ Some g → keep g ≡ true → newest (filter keep hs) ≡ Some g
kept_greatest keep [] g e k = absurd (none-some g e)
kept_greatest keep (h ∷ hs) g e k = go (newest hs) refl (same_Some _ _ e) (λ f. kept_greatest keep hs g f k)
  where
    mine : later_of h (newest hs) ≡ g → h ≡ g → IsBelow (newest hs) h.pos → newest (filter keep (h ∷ hs)) ≡ Some g
    mine l here low =
        ap newest (cond-true (keep h) _ _ (ap keep here ∙ k))
        ∙ ap (λ m. Some m) (first_of_all h (newest (filter keep hs)) (kept_below keep hs h.pos low) ∙ here)

    skip : (b : Bool) → h.pos ≤ g.pos → newest (filter keep hs) ≡ Some g → newest (cond b (h ∷ filter keep hs) (filter keep hs)) ≡ Some g
    skip true l r = ap (λ o. Some (later_of h o)) r ∙ ap (λ m. Some m) (second_later h g l)
    skip false l r = r

    other : (j : Held) → newest hs ≡ Some j → (j.pos < h.pos) ⊎ (h.pos ≤ j.pos) → later_of h (newest hs) ≡ g → (newest hs ≡ Some g → newest (filter keep hs) ≡ Some g) → newest (filter keep (h ∷ hs)) ≡ Some g
    other j f (inl a) l rest =
        let here : h ≡ g = sym (ap (λ o. later_of h o) f ∙ first_later h j a) ∙ l in
        mine l here (subst (λ o. IsBelow o h.pos) (sym f) a)
    other j f (inr a) l rest =
        let there : j ≡ g = sym (ap (λ o. later_of h o) f ∙ second_later h j a) ∙ l in
        skip (keep h) (omega (arith, ap (λ (m : Held). m.pos) there)) (rest (f ∙ ap (λ m. Some m) there))

    go : (o : Option Held) → newest hs ≡ o → later_of h (newest hs) ≡ g → (newest hs ≡ Some g → newest (filter keep hs) ≡ Some g) → newest (filter keep (h ∷ hs)) ≡ Some g
    go None f l rest = mine l (sym (ap (λ o. later_of h o) f) ∙ l) (subst (λ o. IsBelow o h.pos) (sym f) tt)
    go (Some j) f l rest = other j f (cases_lt j.pos h.pos) l rest

swap_sides : {a b : ℕ} → (a < b) ⊎ (b ≤ a) → (b ≤ a) ⊎ (a < b)
swap_sides (inl l) = inr l
swap_sides (inr l) = inl l

just_below : (g : Held) → IsBelow (Some g) (g.pos + 1)
just_below g = omega arith

module _ (x commit : ℕ) (t : Held → Bool) (asks : AsksFor x t) (reach : (k : Held) → k.object ≡ x → k.pos ≤ commit → t k ≡ true) where
  tail_below : (k : Held) (hs : List Held) (pos : ℕ) (b : Bool) → IsBelow (newest (cond b (k ∷ filter t hs) (filter t hs))) pos → IsBelow (newest (filter t hs)) pos
  tail_below k hs pos true l = (later_parts k (newest (filter t hs)) pos l).1
  tail_below k hs pos false l = l

  passed_over : (g k : Held) (hs : List Held) → k.object ≡ x → IsBelow (newest (filter t (k ∷ hs))) (g.pos + 1) → (k.pos ≤ commit) ⊎ (commit < k.pos) → (ltb g.pos k.pos && leb k.pos commit) ≡ false
  passed_over g k hs e l (inl a) =
      let taken : IsBelow (newest (k ∷ filter t hs)) (g.pos + 1) = subst (λ o. IsBelow (newest o) (g.pos + 1)) (cond-true (t k) _ _ (reach k e a)) l in
      and_left _ _ (le-ltb g.pos k.pos (omega (arith, (later_parts k (newest (filter t hs)) (g.pos + 1) taken).0)))
  passed_over g k hs e l (inr a) = and_right _ _ (lt-leb k.pos commit a)

  none_outdated : (g : Held) (hs : List Held) → g.object ≡ x → IsBelow (newest (filter t hs)) (g.pos + 1) → is_outdated commit hs g ≡ false
  none_outdated g [] e l = refl
  none_outdated g (k ∷ hs) e l = go (eqb k.object g.object) refl (none_outdated g hs e (tail_below k hs (g.pos + 1) (t k) l))
    where
      go : (b : Bool) → eqb k.object g.object ≡ b → is_outdated commit hs g ≡ false → list_any (λ j. ltb g.pos j.pos && leb j.pos commit) (cond b (k ∷ versions_of g.object hs) (versions_of g.object hs)) ≡ false
      go true f r = or_from _ _ (passed_over g k hs (eqb-true k.object g.object f ∙ e) l (swap_sides (cases_lt commit k.pos))) r
      go false f r = r

  found_pruned_at : (hs : List Held) (o : Option Held) → newest (filter t hs) ≡ o → newest (filter t (pruned commit hs)) ≡ o
  found_pruned_at hs None e =
      ap newest (filter_comm t (λ h. not (is_outdated commit hs h)) hs ∙ ap (λ l. filter (λ h. not (is_outdated commit hs h)) l) (greatest_none (filter t hs) e))
  found_pruned_at hs (Some g) e =
      let passes : IfSome (newest (filter t hs)) (λ h. t h ≡ true) = greatest_has (λ h. t h ≡ true) (filter t hs) (filter_passes t hs) in
      let at_g : t g ≡ true = subst (λ o. IfSome o (λ h. t h ≡ true)) e passes in
      let low : IsBelow (newest (filter t hs)) (g.pos + 1) = subst (λ o. IsBelow o (g.pos + 1)) (sym e) (just_below g) in
      ap newest (filter_comm t (λ h. not (is_outdated commit hs h)) hs)
      ∙ kept_greatest (λ h. not (is_outdated commit hs h)) (filter t hs) g e (not_from_false _ (none_outdated g hs (asks.of g at_g) low))

  pub found_pruned : (hs : List Held) → newest (filter t (pruned commit hs)) ≡ newest (filter t hs)
  found_pruned hs = found_pruned_at hs (newest (filter t hs)) refl

pub prune_answers : (told commit : ℕ) (kept all : List Held) → told ≤ commit → AnswersAbove told kept all → AnswersAbove commit (pruned commit kept) all
prune_answers told commit kept all l a = record {
  below = λ x pos h. below_as (pruned commit kept) x pos
      ∙ found_pruned x commit (stands_below x pos) (asks_below x pos) (λ k e f. and_from _ _ (eq-eqb k.object x e) (lt-ltb k.pos pos (omega arith))) kept
      ∙ sym (below_as kept x pos) ∙ a.below x pos (omega arith);
  last = λ x. found_pruned x commit (is_any_of x) (asks_any x) (λ k e f. eq-eqb k.object x e) kept ∙ a.last x;
}

-- all that was got, put in and pruned stands for itself
pub answers_itself : (commit : ℕ) (hs : List Held) → AnswersAbove commit hs hs
answers_itself commit hs = record { below = λ x pos l. refl; last = λ x. refl }

value_has : (P : List ℤ → Type 0) (o : Option Held) → IfSome o (λ h. P h.value) → IfSome (option_map (λ h. h.value) o) P
value_has P None p = tt
value_has P (Some h) p = p

-- the values read, and those left, have each property that all values held have
pub read_below_has : (P : List ℤ → Type 0) (hs : List Held) (x pos : ℕ) → All (λ h. P h.value) hs → IfSome (read_below hs x pos) P
read_below_has P hs x pos a =
    value_has P (found_below hs x pos) (greatest_has (λ h. P h.value) _ (All-filter (λ h. ltb h.pos pos) (λ h. P h.value) _ (All-filter (λ h. eqb h.object x) (λ h. P h.value) hs a)))

pub latest_has : (P : List ℤ → Type 0) (hs : List Held) (x : ℕ) → All (λ h. P h.value) hs → IfSome (latest hs x) P
latest_has P hs x a =
    value_has P (found_latest hs x) (greatest_has (λ h. P h.value) _ (All-filter (λ h. eqb h.object x) (λ h. P h.value) hs a))

pub put_in_has : (P : Held → Type 0) (hs : List Held) (h : Held) → All P hs → P h → All P (put_in hs h)
put_in_has P hs h a p =
    All-append P _ _ (All-filter (λ k. comes_before k h) P hs a) (All-cons P h _ p (All-filter (λ k. comes_before h k) P hs a))

pub pruned_has : (P : Held → Type 0) (commit : ℕ) (hs : List Held) → All P hs → All P (pruned commit hs)
pruned_has P commit hs a = All-filter (λ h. not (is_outdated commit hs h)) P hs a
