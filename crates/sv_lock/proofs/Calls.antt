-- One call: from what its steps tell to what it has done.
use Rattle.std.proofs.Common.{◌≡◌, ℕ, ◌<◌, List, [], ◌∷◌, ◌++◌, map, All, Contains, Option, Some, None, IsSome, Result, Ok, Err, MatchResult, IfOk, OnErr, sym, refl, ap, ◌∙◌, subst, inl, inr, arith}
use mathlib.Core.Bool.{false≢true}
use mathlib.Core.List.{IsPrefix}
use Rattle.std.proofs.lemmas.List.Elements.{All-head}
use Rattle.atomic_table.specs.Table.{Me}
use Rattle.sv_lock.specs.declared.view.SeatView.{SeatView}
use Rattle.sv_lock.specs.declared.view.Stage.TheVariants.{Idle, Holds}
use Rattle.sv_lock.specs.Histories.{entries_of, GoesOnTo}
use Rattle.sv_lock.specs.Holding.{staged, renewed, Took, GrowsByStep, MayReturn, Called}
use Rattle.sv_lock.specs.Rest.{the, ended_in}
use Rattle.sv_lock.proofs.Histories.{one_more_entry}
use Rattle.sv_lock.proofs.Keeps.{held_or}

pub some_same : {B : Type 0} (o : Option B) (a b : B) → o ≡ Some a → o ≡ Some b → a ≡ b
some_same o a b p q = cc

module _ {S B E : Type 0} (base_of : S → B) (history_of : S → List E) (number_of : E → ℕ) where
  abbrev M : Type 0
  M = Me S (SeatView B E)

  -- the object in hand is the one that was taken
  same_object : (m m1 : M) (k : Took base_of history_of number_of m m1) (x : S) → m1.1 ≡ (0, x) ∷ [] → k.object ≡ x
  same_object m m1 k x hand = ap (held_or k.object) (ap (λ (q : M). q.1) (sym k.seat) ∙ hand)

  -- in it, the number has what its pass has
  same_list : (n : ℕ) (mine : List E) (m m1 : M) (k : Took base_of history_of number_of m m1) → m.0.lists ≡ (n, mine) ∷ [] → entries_of number_of n (history_of k.object) ≡ mine
  same_list n mine m m1 k own =
      let P : ℕ × List E → Type 0 = λ x. entries_of number_of x.0 (history_of k.object) ≡ x.1 in
      All-head P (n, mine) [] (subst (All P) own k.just)

  -- so the step may be made where the pass may make it
  pub held : (can : B → List E → Type 0) (n : ℕ) (mine : List E) (b : B) (m m1 : M) → Took base_of history_of number_of m m1 → m.1 ≡ [] → m.0.base ≡ Some b → m.0.lists ≡ (n, mine) ∷ [] → can b mine
      → (x : S) × (m1.1 ≡ (0, x) ∷ []) × can (base_of x) (entries_of number_of n (history_of x))
  held can n mine b m m1 k empty based own h = (
    k.object,
    ap (λ (q : M). q.1) k.seat ∙ ap (λ (l : List (ℕ × S)). (0, k.object) ∷ l) empty,
    subst (λ (q : B × List E). can q.0 q.1) (λ i. (some_same m.0.base b (base_of k.object) based k.base i, sym (same_list n mine m m1 k own) i)) h,
  )

module _ {S B E R X : Type 0} (base_of : S → B) (history_of : S → List E) (lawful : B → List E → Type 0) (number_of : E → ℕ) (entry : R → E) (whole : R → List E → Type 0) (result : Result R X) where
  abbrev Mine : Type 0
  Mine = Me S (SeatView B E)

  -- what the step made of the object in hand
  abbrev pub Stepped : Mine → Mine → Type 0
  Stepped m1 m2 = (x : S) × (y : S) × (m1.1 ≡ (0, x) ∷ []) × (m2 ≡ (m1.0, (0, y) ∷ [])) × (base_of y ≡ base_of x) × lawful (base_of y) (history_of y)
      × IfOk result (λ r. history_of y ≡ history_of x ++ entry r ∷ []) × IfOk result (λ r. whole r (history_of y)) × OnErr result (history_of y ≡ history_of x)

  follows : (n : ℕ) → ((r : R) → number_of (entry r) ≡ n) → (a b : List E) (o : Result R X) → IfOk o (λ r. b ≡ a ++ entry r ∷ []) → OnErr o (b ≡ a) → GrowsByStep number_of n a b
  follows n of_number a b (Ok r) ok err = inr (entry r, ok, of_number r)
  follows n of_number a b (Err e) ok err = inl err

  pub may_return : (n : ℕ) (mine : List E) (m m1 m2 : Mine) → ((r : R) → number_of (entry r) ≡ n) → Took base_of history_of number_of m m1 → m.0.lists ≡ (n, mine) ∷ [] → Stepped m1 m2
      → MayReturn base_of history_of lawful number_of m2
  may_return n mine m m1 m2 of_number k own f =
      let same = same_object base_of history_of number_of m m1 k f.0 f.2 in
      let back : m2.0 ≡ staged m.0 Holds (history_of k.object) m.0.lists = ap (λ (q : Mine). q.0) f.3 ∙ ap (λ (q : Mine). q.0) k.seat in record {
        number = n;
        mine = mine;
        object = f.1;
        holds = ap (λ (v : SeatView B E). v.stage) back;
        own = ap (λ (v : SeatView B E). v.lists) back ∙ own;
        based = ap (λ (v : SeatView B E). v.base) back ∙ (k.base ∙ ap Some (ap base_of same ∙ sym f.4));
        hand = ap (λ (q : Mine). q.1) f.3;
        legal = f.5;
        follows = subst (λ (h : List E). GrowsByStep number_of n h (history_of f.1)) (ap history_of (sym same) ∙ ap (λ (v : SeatView B E). v.seen) (sym back))
            (follows n of_number (history_of f.0) (history_of f.1) result f.6 f.8);
      }

  goes_on : (seen a b : List E) → IsPrefix seen a → (o : Result R X) → IfOk o (λ r. b ≡ a ++ entry r ∷ []) → OnErr o (b ≡ a) → MatchResult o (λ r. GoesOnTo seen (entry r) b) (λ _. IsPrefix seen b)
  goes_on seen a b begins (Ok r) ok err = (begins.0, ok ∙ ap (λ l. l ++ entry r ∷ []) (sym begins.1))
  goes_on seen a b begins (Err e) ok err = subst (IsPrefix seen) (sym err) begins

  has_now : (n : ℕ) (mine : List E) (a b : List E) → ((r : R) → number_of (entry r) ≡ n) → entries_of number_of n a ≡ mine → (o : Result R X) → IfOk o (λ r. b ≡ a ++ entry r ∷ []) → OnErr o (b ≡ a)
      → MatchResult o (λ r. entries_of number_of n b ≡ mine ++ entry r ∷ []) (λ _. entries_of number_of n b ≡ mine)
  has_now n mine a b of_number had (Ok r) ok err = ap (entries_of number_of n) ok ∙ (one_more_entry number_of n a (entry r) (of_number r) ∙ ap (λ l. l ++ entry r ∷ []) had)
  has_now n mine a b of_number had (Err e) ok err = ap (entries_of number_of n) err ∙ had

  pub ran : (n : ℕ) (mine : List E) (m m1 m2 m3 : Mine) → ((r : R) → number_of (entry r) ≡ n) → Took base_of history_of number_of m m1 → m.0.lists ≡ (n, mine) ∷ [] → Stepped m1 m2
      → ((y : S) → m2.1 ≡ (0, y) ∷ [] → m3 ≡ (staged m2.0 Idle (history_of y) (renewed number_of (history_of y) m2.0.lists), []))
      → Called lawful number_of n mine entry whole m m3 result
  ran n mine m m1 m2 m3 of_number k own f back =
      let h : List E = history_of f.1 in
      let same = same_object base_of history_of number_of m m1 k f.0 f.2 in
      let begins : IsPrefix m.0.seen (history_of f.0) = subst (λ (x : S). IsPrefix m.0.seen (history_of x)) same k.seen in
      let had : entries_of number_of n (history_of f.0) ≡ mine = subst (λ (x : S). entries_of number_of n (history_of x) ≡ mine) same (same_list base_of history_of number_of n mine m m1 k own) in
      let now : m2.0 ≡ staged m.0 Holds (history_of k.object) m.0.lists = ap (λ (q : Mine). q.0) f.3 ∙ ap (λ (q : Mine). q.0) k.seat in record {
        log = h;
        seat = back f.1 (ap (λ (q : Mine). q.1) f.3) ∙ ap (λ (v : SeatView B E). (staged v Idle h (renewed number_of h v.lists), [])) now;
        legal = λ b is. subst (λ (c : B). lawful c h) (f.4 ∙ (ap base_of (sym same) ∙ some_same m.0.base (base_of k.object) b k.base is)) f.5;
        seen = goes_on m.0.seen (history_of f.0) h begins result f.6 f.8;
        mine_now = has_now n mine (history_of f.0) h of_number had result f.6 f.8;
        whole_now = f.7;
      }

-- what the keeper took in, in its seat
pub all_in : {E : Type 0} (session : Option ℕ) (lists ended : List (ℕ × List E)) (made made' : ℕ) → session ≡ None → ended_in session lists ≡ ended → made ≡ made'
    → ((n : ℕ) → n < made' → Contains (map (λ (x : ℕ × List E). x.0) ended) n) → (n : ℕ) → n < made → Contains (map (λ (x : ℕ × List E). x.0) lists) n
all_in {E} session lists ended made made' none_is is same all n lt =
    subst (λ (l : List (ℕ × List E)). Contains (map (λ (x : ℕ × List E). x.0) l) n) (sym is ∙ ap (λ s. ended_in s lists) none_is) (all n (omega arith))

pub some_the : {B : Type 0} (o : Option B) (there : IsSome o) → o ≡ Some (the o there)
some_the (Some b) there = refl
some_the None there = absurd (false≢true there)
