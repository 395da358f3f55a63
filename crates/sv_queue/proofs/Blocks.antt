-- Rows of objects, and the blocks that cover them.
use Rattle.std.proofs.Common.{◌≡◌, ℕ, zero, suc, ◌+◌, ◌*◌, ◌/◌, ◌<◌, ◌≤◌, Bool, true, false, not, ◌&&◌, ◌||◌, nat_lt, nat_eq, cond, List, [], ◌∷◌, ◌++◌, map, length, set, All, get_or, replicate, ◌⊎◌, inl, inr, refl, sym, ◌∙◌, ap, ap₂, subst, arith}
use Rattle.std.proofs.lemmas.Bool.{cases_lt, cases_eq, lt-ltb, le-ltb, eqb-true, eq-eqb, ne_eqb, or_cases, or_parts, cond-true, cond-false}
use Rattle.std.proofs.lemmas.Bool.Decides.{nat_tests}
use Rattle.std.proofs.lemmas.List.{get_or_past, get_or-map, length-map, length-set, length-replicate, get_or-set_same, get_or-set_other, same_lists}
use Rattle.sv_world.specs.declared.action.Action.{Action}
use Rattle.sv_world.specs.Control.{is_in}
use Rattle.sv_queue.specs.Blocks.{HasAt, AreCovered, AreMarked, HaveBlocks}
use Rattle.sv_queue.specs.Invariant.{SetHasRoom}
use Rattle.sv_queue.specs.Rooms.{AreWithout, HaveGrown}
use Rattle.sv_queue.specs.Slots.{SlotSet, no_slots, all_but, set_but, set_with, set_joined}
use Rattle.sv_queue.specs.Written.{CanWrite, IsChangedAt}
use Rattle.sv_queue.proofs.Members.{is_in-append, is_in-filtered}
use Rattle.sv_queue.proofs.SlotSets.{in_slots, out_of_slots}

true_not_false : true ≡ false → ⊥
true_not_false e = cc

get_default : (a b : SlotSet) (xs : List SlotSet) (i : ℕ) → i < length xs → get_or xs i a ≡ get_or xs i b
get_default a b [] i low = absurd (omega arith)
get_default a b (x ∷ xs) zero low = refl
get_default a b (x ∷ xs) (suc i) low = get_default a b xs i (omega arith)

-- ---- A slot that is not there

all_but-none : (s : ℕ) (ts : List ℕ) → is_in s ts ≡ false → all_but s ts ≡ ts
all_but-none s [] h = refl
all_but-none s (t ∷ ts) h =
    let parts = or_parts (nat_eq s t) (is_in s ts) h in
    go (nat_eq t s) refl parts.0 (all_but-none s ts parts.1)
  where
    go : (b : Bool) → nat_eq t s ≡ b → nat_eq s t ≡ false → all_but s ts ≡ ts → cond (not b) (t ∷ all_but s ts) (all_but s ts) ≡ t ∷ ts
    go true e apart same = (let q : s ≡ t = sym (eqb-true t s e) in let yes : nat_eq s t ≡ true = eq-eqb s t q in absurd (true_not_false (sym yes ∙ apart)))
    go false e apart same = ap (λ (us : List ℕ). t ∷ us) same

-- A set without the slot is the same when it is taken out.
pub set_but-none : (s : ℕ) (r : SlotSet) → is_in s r.slots ≡ false → set_but s r ≡ r
set_but-none s r h = ap (λ (ts : List ℕ). record r { slots = ts }) (all_but-none s r.slots h)

pub not_true : (b : Bool) → (b ≡ true → ⊥) → b ≡ false
not_true true h = absurd (h refl)
not_true false h = refl

-- ---- Sets of which some are without the slot

pub without-none : (s : ℕ) (at : ℕ → Bool) (sets : List SlotSet) → ((k : ℕ) → k < length sets → at k ≡ false) → AreWithout s at sets sets
without-none s at sets none = record {
  count = refl;
  sets = λ k low. sym (cond-false (at k) (set_but s (get_or sets k no_slots)) (get_or sets k no_slots) (none k low));
}

-- The same, by another test that tells the sets that had the slot alike.
pub without-also : (s : ℕ) (at also : ℕ → Bool) (old new' : List SlotSet) → AreWithout s at old new' →
    ((k : ℕ) → k < length old → (also k ≡ at k) ⊎ ((at k ≡ false) × (is_in s (get_or old k no_slots).slots ≡ false))) → AreWithout s also old new'
without-also s at also old new' h same = record {
  count = h.count;
  sets = λ k low. h.sets k low ∙ go k (same k low);
}
  where
    unmoved : (b : Bool) (r : SlotSet) → is_in s r.slots ≡ false → r ≡ cond b (set_but s r) r
    unmoved true r none = sym (set_but-none s r none)
    unmoved false r none = refl

    go : (k : ℕ) → (also k ≡ at k) ⊎ ((at k ≡ false) × (is_in s (get_or old k no_slots).slots ≡ false)) →
        cond (at k) (set_but s (get_or old k no_slots)) (get_or old k no_slots) ≡ cond (also k) (set_but s (get_or old k no_slots)) (get_or old k no_slots)
    go k (inl e) = ap (λ (b : Bool). cond b (set_but s (get_or old k no_slots)) (get_or old k no_slots)) (sym e)
    go k (inr none) = cond-false (at k) (set_but s (get_or old k no_slots)) (get_or old k no_slots) none.0 ∙ unmoved (also k) (get_or old k no_slots) none.1

-- One set more.
pub without-set : (s : ℕ) (at also : ℕ → Bool) (old new' : List SlotSet) (i : ℕ) (r : SlotSet) → AreWithout s at old new' → i < length old →
    r ≡ set_but s (get_or new' i no_slots) → at i ≡ false → also i ≡ true → ((k : ℕ) → (k ≡ i → ⊥) → also k ≡ at k) →
    AreWithout s also old (set new' i r)
without-set s at also old new' i r h low is before after others = record {
  count = length-set new' i r ∙ h.count;
  sets = λ k small. go k small (cases_eq k i);
}
  where
    here : get_or (set new' i r) i no_slots ≡ cond (also i) (set_but s (get_or old i no_slots)) (get_or old i no_slots)
    here = get_or-set_same new' i r no_slots (omega (arith, low, h.count)) ∙ is
        ∙ ap (set_but s) (h.sets i low ∙ cond-false (at i) (set_but s (get_or old i no_slots)) (get_or old i no_slots) before)
        ∙ sym (cond-true (also i) (set_but s (get_or old i no_slots)) (get_or old i no_slots) after)

    go : (k : ℕ) → k < length old → (k ≡ i) ⊎ (k ≡ i → ⊥) →
        get_or (set new' i r) k no_slots ≡ cond (also k) (set_but s (get_or old k no_slots)) (get_or old k no_slots)
    go k small (inl e) = subst (λ n. get_or (set new' i r) n no_slots ≡ cond (also n) (set_but s (get_or old n no_slots)) (get_or old n no_slots)) (sym e) here
    go k small (inr ne) = get_or-set_other new' i k r no_slots ne ∙ h.sets k small
        ∙ ap (λ (b : Bool). cond b (set_but s (get_or old k no_slots)) (get_or old k no_slots)) (sym (others k ne))

-- Some and then others.
pub without-both : (s : ℕ) (at more also : ℕ → Bool) (old mid new' : List SlotSet) → AreWithout s at old mid → AreWithout s more mid new' →
    ((k : ℕ) → more k ≡ true → at k ≡ false) → ((k : ℕ) → also k ≡ (at k || more k)) → AreWithout s also old new'
without-both s at more also old mid new' h g apart is = record {
  count = g.count ∙ h.count;
  sets = λ k low. g.sets k (omega (arith, low, h.count)) ∙ go k low (more k) refl;
}
  where
    go : (k : ℕ) → k < length old → (b : Bool) → more k ≡ b →
        cond (more k) (set_but s (get_or mid k no_slots)) (get_or mid k no_slots) ≡ cond (also k) (set_but s (get_or old k no_slots)) (get_or old k no_slots)
    go k low true e =
        let none = apart k e in
        let yes : also k ≡ true = is k ∙ ap₂ (λ (b c : Bool). b || c) none e in
        cond-true (more k) _ _ e ∙ ap (set_but s) (h.sets k low ∙ cond-false (at k) _ _ none) ∙ sym (cond-true (also k) _ _ yes)
    go k low false e =
        let same : also k ≡ at k = is k ∙ ap (λ (c : Bool). at k || c) e ∙ or_false (at k) in
        cond-false (more k) _ _ e ∙ h.sets k low ∙ ap (λ (b : Bool). cond b (set_but s (get_or old k no_slots)) (get_or old k no_slots)) (sym same)
      where
        or_false : (b : Bool) → (b || false) ≡ b
        or_false true = refl
        or_false false = refl

pub without-all : (s : ℕ) (at : ℕ → Bool) (old new' : List SlotSet) → AreWithout s at old new' → ((k : ℕ) → k < length old → at k ≡ true) →
    new' ≡ map (set_but s) old
without-all s at old new' h all = same_lists new' (map (set_but s) old) (h.count ∙ sym (length-map old (set_but s))) (λ k d low.
    (let l : k < length old = omega (arith, low, h.count) in
    get_default d no_slots new' k low ∙ h.sets k l ∙ cond-true (at k) _ _ (all k l) ∙ sym (get_or-map (set_but s) old k no_slots d l)))

-- ---- The walk over blocks

lt_next : (k n : ℕ) → nat_lt k (n + 1) ≡ (nat_lt k n || nat_eq k n)
lt_next k n = grind (arith, nat_tests)

lt_next_other : (k n : ℕ) → (k ≡ n → ⊥) → nat_lt k (n + 1) ≡ nat_lt k n
lt_next_other k n ne = lt_next k n ∙ ap (λ (b : Bool). nat_lt k n || b) (ne_eqb k n ne) ∙ or_false (nat_lt k n)
  where
    or_false : (b : Bool) → (b || false) ≡ b
    or_false true = refl
    or_false false = refl

not_lt_same : (k n : ℕ) → k ≡ n → nat_lt k n ≡ false
not_lt_same k n e = le-ltb k n (omega (arith, e))

module _ (s n : ℕ) where
  pub rows-forgotten : (old mid new' : List SlotSet) → AreWithout s (λ x. nat_lt (x / 64) n) old mid → AreWithout s (λ x. nat_eq (x / 64) n) mid new' →
      AreWithout s (λ x. nat_lt (x / 64) (n + 1)) old new'
  rows-forgotten old mid new' h g =
      without-both s (λ x. nat_lt (x / 64) n) (λ x. nat_eq (x / 64) n) (λ x. nat_lt (x / 64) (n + 1)) old mid new' h g
      (λ k e. not_lt_same (k / 64) n (eqb-true (k / 64) n e)) (λ k. lt_next (k / 64) n)

  pub block-forgotten : (old new' : List SlotSet) (r : SlotSet) → AreWithout s (λ b. nat_lt b n) old new' → n < length old →
      r ≡ set_but s (get_or new' n no_slots) → AreWithout s (λ b. nat_lt b (n + 1)) old (set new' n r)
  block-forgotten old new' r h low is =
      without-set s (λ b. nat_lt b n) (λ b. nat_lt b (n + 1)) old new' n r h low is (not_lt_same n n refl) (lt-ltb n (n + 1) (omega arith)) (λ k ne. lt_next_other k n ne)

  pub rows-skipped : (old new' blocks : List SlotSet) → AreWithout s (λ x. nat_lt (x / 64) n) old new' → AreCovered old blocks →
      is_in s (get_or blocks n no_slots).slots ≡ false → AreWithout s (λ x. nat_lt (x / 64) (n + 1)) old new'
  rows-skipped old new' blocks h covered none =
      without-also s (λ x. nat_lt (x / 64) n) (λ x. nat_lt (x / 64) (n + 1)) old new' h (λ k low. go k (cases_eq (k / 64) n))
    where
      go : (k : ℕ) → (k / 64 ≡ n) ⊎ (k / 64 ≡ n → ⊥) →
          (nat_lt (k / 64) (n + 1) ≡ nat_lt (k / 64) n) ⊎ ((nat_lt (k / 64) n ≡ false) × (is_in s (get_or old k no_slots).slots ≡ false))
      go k (inl e) = inr (not_lt_same (k / 64) n e, not_true _ (λ has. true_not_false (sym (subst (λ m. HasAt blocks m s) e (covered k s has)) ∙ none)))
      go k (inr ne) = inl (lt_next_other (k / 64) n ne)

  pub block-skipped : (old new' : List SlotSet) → AreWithout s (λ b. nat_lt b n) old new' → is_in s (get_or old n no_slots).slots ≡ false →
      AreWithout s (λ b. nat_lt b (n + 1)) old new'
  block-skipped old new' h none =
      without-also s (λ b. nat_lt b n) (λ b. nat_lt b (n + 1)) old new' h (λ k low. go k (cases_eq k n))
    where
      go : (k : ℕ) → (k ≡ n) ⊎ (k ≡ n → ⊥) → (nat_lt k (n + 1) ≡ nat_lt k n) ⊎ ((nat_lt k n ≡ false) × (is_in s (get_or old k no_slots).slots ≡ false))
      go k (inl e) = inr (not_lt_same k n e, subst (λ m. is_in s (get_or old m no_slots).slots ≡ false) (sym e) none)
      go k (inr ne) = inl (lt_next_other k n ne)

  pub block-before : (old new' : List SlotSet) → AreWithout s (λ b. nat_lt b n) old new' → n < length old → get_or new' n no_slots ≡ get_or old n no_slots
  block-before old new' h low = h.sets n low ∙ cond-false (nat_lt n n) _ _ (not_lt_same n n refl)

  pub all-forgotten : (old new' blocks : List SlotSet) → AreWithout s (λ x. nat_lt (x / 64) n) old new' → AreCovered old blocks → length blocks ≤ n →
      new' ≡ map (set_but s) old
  all-forgotten old new' blocks h covered done =
      without-all s (λ _. true) old new' (without-also s (λ x. nat_lt (x / 64) n) (λ _. true) old new' h (λ k low. go k (cases_lt (k / 64) n))) (λ k low. refl)
    where
      go : (k : ℕ) → (k / 64 < n) ⊎ (n ≤ k / 64) → (true ≡ nat_lt (k / 64) n) ⊎ ((nat_lt (k / 64) n ≡ false) × (is_in s (get_or old k no_slots).slots ≡ false))
      go k (inl l) = inl (sym (lt-ltb (k / 64) n l))
      go k (inr l) = inr (
        le-ltb (k / 64) n l,
        not_true _ (λ has. true_not_false (sym (covered k s has)
            ∙ ap (λ (r : SlotSet). is_in s r.slots) (get_or_past blocks (k / 64) no_slots (omega (arith, done, l))))),
      )

  pub all-blocks-forgotten : (old new' : List SlotSet) → AreWithout s (λ b. nat_lt b n) old new' → length old ≤ n → new' ≡ map (set_but s) old
  all-blocks-forgotten old new' h done = without-all s (λ b. nat_lt b n) old new' h (λ k low. lt-ltb k n (omega (arith, low, done)))

-- ---- Blocks that are told of slots

pub told-none : (slots : List ℕ) (blocks : List SlotSet) → AreMarked [] slots blocks blocks
told-none slots blocks = record { count = refl; room = λ i low. refl; kept = λ i s small h. h; told = λ x s small h g. cc }

has_joined : (more : List ℕ) (r : SlotSet) (s : ℕ) → s < 1024 → is_in s (set_joined more r).slots ≡ (is_in s r.slots || is_in s more)
has_joined more r s small = in_slots (λ t. is_in t r.slots || is_in t more) s small

or_left : (b c : Bool) → b ≡ true → (b || c) ≡ true
or_left true c e = refl
or_left false c e = cc

or_right : (b c : Bool) → c ≡ true → (b || c) ≡ true
or_right true c e = refl
or_right false c e = e

-- One object more.
pub told-next : (objects slots : List ℕ) (old new' : List SlotSet) (x : ℕ) (r : SlotSet) → AreMarked objects slots old new' → x / 64 < length old →
    r ≡ set_joined slots (get_or new' (x / 64) no_slots) → AreMarked (objects ++ x ∷ []) slots old (set new' (x / 64) r)
told-next objects slots old new' x r h low is = record {
  count = length-set new' i r ∙ h.count;
  room = λ k small. room k small (cases_eq k i);
  kept = λ k s small has. stays k s small (h.kept k s small has) (cases_eq k i);
  told = λ y s small member has. told y s small member has (or_cases (is_in y objects) (nat_eq y x || false) (sym (is_in-append y objects (x ∷ [])) ∙ member));
}
  where
    i : ℕ
    i = x / 64

    here : get_or (set new' i r) i no_slots ≡ set_joined slots (get_or new' i no_slots)
    here = get_or-set_same new' i r no_slots (omega (arith, low, h.count)) ∙ is

    room : (k : ℕ) → k < length old → (k ≡ i) ⊎ (k ≡ i → ⊥) → (get_or (set new' i r) k no_slots).room ≡ (get_or old k no_slots).room
    room k small (inl e) = subst (λ n. (get_or (set new' i r) n no_slots).room ≡ (get_or old n no_slots).room) (sym e) (ap (λ (q : SlotSet). q.room) here ∙ h.room i low)
    room k small (inr ne) = ap (λ (q : SlotSet). q.room) (get_or-set_other new' i k r no_slots ne) ∙ h.room k small

    stays : (k s : ℕ) → s < 1024 → HasAt new' k s → (k ≡ i) ⊎ (k ≡ i → ⊥) → HasAt (set new' i r) k s
    stays k s small has (inl e) = subst (λ n. HasAt (set new' i r) n s) (sym e)
        (ap (λ (q : SlotSet). is_in s q.slots) here ∙ has_joined slots (get_or new' i no_slots) s small
        ∙ or_left _ (is_in s slots) (subst (λ n. HasAt new' n s) e has))
    stays k s small has (inr ne) = ap (λ (q : SlotSet). is_in s q.slots) (get_or-set_other new' i k r no_slots ne) ∙ has

    told : (y s : ℕ) → s < 1024 → is_in y (objects ++ x ∷ []) ≡ true → is_in s slots ≡ true →
        (is_in y objects ≡ true) ⊎ ((nat_eq y x || false) ≡ true) → HasAt (set new' i r) (y / 64) s
    told y s small member has (inl e) = stays (y / 64) s small (h.told y s small e has) (cases_eq (y / 64) i)
    told y s small member has (inr e) =
        let same : y ≡ x = eqb-true y x (sym (or_false (nat_eq y x)) ∙ e) in
        subst (λ n. HasAt (set new' i r) (n / 64) s) (sym same)
        (ap (λ (q : SlotSet). is_in s q.slots) here ∙ has_joined slots (get_or new' i no_slots) s small ∙ or_right (is_in s (get_or new' i no_slots).slots) _ has)
      where
        or_false : (b : Bool) → (b || false) ≡ b
        or_false true = refl
        or_false false = refl

pub can_write-more : (n m : ℕ) (a : Action) → CanWrite n a → n ≤ m → CanWrite m a
can_write-more n m a h more = record {
  few_reads = h.few_reads;
  ascending = h.ascending;
  objects = λ k d low. (let l = h.objects k d low in omega (arith, l, more));
}

-- ---- What covers stays so

get_or_mapped : (s : ℕ) (sets : List SlotSet) (i : ℕ) → get_or (map (set_but s) sets) i no_slots ≡ set_but s (get_or sets i no_slots)
get_or_mapped s [] i = refl
get_or_mapped s (r ∷ sets) zero = refl
get_or_mapped s (r ∷ sets) (suc i) = get_or_mapped s sets i

get_or_none : (n i : ℕ) → get_or (replicate n no_slots) i no_slots ≡ no_slots
get_or_none zero i = refl
get_or_none (suc n) zero = refl
get_or_none (suc n) (suc i) = get_or_none n i

pub blocks-none : (room n m : ℕ) → room ≤ 64 → n ≤ 64 * m → HaveBlocks room (replicate n no_slots) (replicate m no_slots)
blocks-none room n m low enough = record {
  count = omega (arith, enough, length-replicate n no_slots, length-replicate m no_slots);
  enough = λ k d l.
      (let small : k < length (replicate m no_slots) = l in
      let e = get_default d no_slots (replicate m no_slots) k small ∙ get_or_none m k in
      subst (λ (r : SlotSet). room ≤ r.room) (sym e) low);
  covered = λ x s has. (let no : is_in s (get_or (replicate n no_slots) x no_slots).slots ≡ false = ap (λ (r : SlotSet). is_in s r.slots) (get_or_none n x) in absurd (true_not_false (sym has ∙ no)));
}

-- Without a slot.
pub blocks-but : (room slot : ℕ) (rows blocks : List SlotSet) → HaveBlocks room rows blocks → HaveBlocks room (map (set_but slot) rows) (map (set_but slot) blocks)
blocks-but room slot rows blocks h = record {
  count = omega (arith, h.count, length-map rows (set_but slot), length-map blocks (set_but slot));
  enough = λ k d l.
      (let small : k < length blocks = omega (arith, l, length-map blocks (set_but slot)) in
      subst (λ (r : SlotSet). room ≤ r.room) (sym (get_or-map (set_but slot) blocks k no_slots d small)) (h.enough k no_slots small));
  covered = λ x s has.
      (let parts = both (is_in s (get_or rows x no_slots).slots) (not (nat_eq s slot)) (sym (in_but s (get_or rows x no_slots)) ∙ ap (λ (r : SlotSet). is_in s r.slots) (sym (get_or_mapped slot rows x)) ∙ has) in
      ap (λ (r : SlotSet). is_in s r.slots) (get_or_mapped slot blocks (x / 64)) ∙ in_but s (get_or blocks (x / 64) no_slots)
      ∙ ap₂ (λ (b c : Bool). b && c) (h.covered x s parts.0) parts.1);
}
  where
    in_but : (s : ℕ) (r : SlotSet) → is_in s (set_but slot r).slots ≡ (is_in s r.slots && not (nat_eq s slot))
    in_but s r = is_in-filtered (λ t. not (nat_eq t slot)) s r.slots

    both : (b c : Bool) → (b && c) ≡ true → (b ≡ true) × (c ≡ true)
    both true c e = (refl, e)
    both false c e = cc

-- With one slot more in a row and in its block.
pub blocks-with : (room slot x : ℕ) (rows blocks : List SlotSet) (row block : SlotSet) → HaveBlocks room rows blocks → All (SetHasRoom room) rows → room ≤ 1024 →
    x < length rows → row ≡ set_with slot (get_or rows x no_slots) → block ≡ set_with slot (get_or blocks (x / 64) no_slots) →
    HaveBlocks room (set rows x row) (set blocks (x / 64) block)
blocks-with room slot x rows blocks row block h rooms limit low is same = record {
  count = omega (arith, h.count, length-set rows x row, length-set blocks i block);
  enough = λ k d l. enough k d (omega (arith, l, length-set blocks i block)) (cases_eq k i);
  covered = λ y s has. covered y s has (cases_eq y x);
}
  where
    i : ℕ
    i = x / 64

    within : i < length blocks
    within = omega (arith, low, h.count)

    here : get_or (set blocks i block) i no_slots ≡ set_with slot (get_or blocks i no_slots)
    here = get_or-set_same blocks i block no_slots within ∙ same

    enough : (k : ℕ) (d : SlotSet) → k < length blocks → (k ≡ i) ⊎ (k ≡ i → ⊥) → room ≤ (get_or (set blocks i block) k d).room
    enough k d l (inl e) =
        let to = get_default d no_slots (set blocks i block) k (omega (arith, l, length-set blocks i block)) ∙ ap (λ n. get_or (set blocks i block) n no_slots) e ∙ here in
        subst (λ (r : SlotSet). room ≤ r.room) (sym to) (h.enough i no_slots within)
    enough k d l (inr ne) = subst (λ (r : SlotSet). room ≤ r.room) (sym (get_or-set_other blocks i k block d ne)) (h.enough k d l)

    has_with : (r : SlotSet) (s : ℕ) → s < 1024 → is_in s (set_with slot r).slots ≡ (nat_eq s slot || is_in s r.slots)
    has_with r s small = in_slots (λ t. nat_eq t slot || is_in t r.slots) s small

    small_of : (y s : ℕ) → HasAt rows y s → s < 1024
    small_of y s has = elim (cases_lt y (length rows)) [
      | inl l ↦ (let w = (rooms y no_slots l).within s has in omega (arith, w, limit))
      | inr l ↦ absurd (true_not_false (sym has ∙ ap (λ (r : SlotSet). is_in s r.slots) (get_or_past rows y no_slots l)))
    ]

    stays : (k s : ℕ) → s < 1024 → HasAt blocks k s → (k ≡ i) ⊎ (k ≡ i → ⊥) → HasAt (set blocks i block) k s
    stays k s small has (inl e) = subst (λ n. HasAt (set blocks i block) n s) (sym e)
        (ap (λ (r : SlotSet). is_in s r.slots) here ∙ has_with (get_or blocks i no_slots) s small ∙ or_right (nat_eq s slot) _ (subst (λ n. HasAt blocks n s) e has))
    stays k s small has (inr ne) = ap (λ (r : SlotSet). is_in s r.slots) (get_or-set_other blocks i k block no_slots ne) ∙ has

    covered : (y s : ℕ) → HasAt (set rows x row) y s → (y ≡ x) ⊎ (y ≡ x → ⊥) → HasAt (set blocks i block) (y / 64) s
    covered y s has (inr ne) =
        let had : HasAt rows y s = ap (λ (r : SlotSet). is_in s r.slots) (sym (get_or-set_other rows x y row no_slots ne)) ∙ has in
        stays (y / 64) s (small_of y s had) (h.covered y s had) (cases_eq (y / 64) i)
    covered y s has (inl e) = subst (λ n. HasAt (set blocks i block) (n / 64) s) (sym e) (at_x s (cases_lt s 1024) (subst (λ n. HasAt (set rows x row) n s) e has))
      where
        row_at : get_or (set rows x row) x no_slots ≡ set_with slot (get_or rows x no_slots)
        row_at = get_or-set_same rows x row no_slots low ∙ is

        at_x : (s : ℕ) → (s < 1024) ⊎ (1024 ≤ s) → HasAt (set rows x row) x s → HasAt (set blocks i block) i s
        at_x s (inr large) has = absurd (true_not_false (sym has ∙ ap (λ (r : SlotSet). is_in s r.slots) row_at ∙ out_of_slots (λ t. nat_eq t slot || is_in t (get_or rows x no_slots).slots) s large))
        at_x s (inl small) has = elim (or_cases (nat_eq s slot) (is_in s (get_or rows x no_slots).slots) (sym (ap (λ (r : SlotSet). is_in s r.slots) row_at ∙ has_with (get_or rows x no_slots) s small) ∙ has)) [
          | inl q ↦ ap (λ (r : SlotSet). is_in s r.slots) here ∙ has_with (get_or blocks i no_slots) s small ∙ or_left (nat_eq s slot) _ q
          | inr q ↦ stays i s small (h.covered x s q) (inl refl)
        ]

-- With the written objects' rows replaced, and their blocks told.
pub blocks-given : (room : ℕ) (objects : List ℕ) (m : SlotSet) (rows next blocks told : List SlotSet) → HaveBlocks room rows blocks → All (SetHasRoom room) rows → SetHasRoom room m → room ≤ 1024 →
    IsChangedAt no_slots (λ (r : SlotSet). record r { slots = m.slots }) objects rows next → AreMarked objects m.slots blocks told → HaveBlocks room next told
blocks-given room objects m rows next blocks told h rooms has limit changed told' = record {
  count = omega (arith, h.count, changed.count, told'.count);
  enough = λ k d l.
      (let small : k < length blocks = omega (arith, l, told'.count) in
      let same : (get_or told k d).room ≡ (get_or blocks k no_slots).room = ap (λ (r : SlotSet). r.room) (get_default d no_slots told k l) ∙ told'.room k small in
      let e = h.enough k no_slots small in omega (arith, same, e));
  covered = λ x s there. go x s there (cases_lt x (length rows));
}
  where
    at : (x s : ℕ) (b : Bool) → is_in x objects ≡ b → x < length rows → is_in s (cond b m.slots (get_or rows x no_slots).slots) ≡ true → HasAt told (x / 64) s
    at x s true e low there = (let w = has.within s there in told'.told x s (omega (arith, w, limit)) e there)
    at x s false e low there = (let w = (rooms x no_slots low).within s there in told'.kept (x / 64) s (omega (arith, w, limit)) (h.covered x s there))

    slots : (b : Bool) (r : SlotSet) → (cond b (record r { slots = m.slots }) r).slots ≡ cond b m.slots r.slots
    slots true r = refl
    slots false r = refl

    go : (x s : ℕ) → HasAt next x s → (x < length rows) ⊎ (length rows ≤ x) → HasAt told (x / 64) s
    go x s there (inl low) = at x s (is_in x objects) refl low
        (ap (is_in s) (sym (slots (is_in x objects) (get_or rows x no_slots))) ∙ ap (λ (r : SlotSet). is_in s r.slots) (sym (changed.elements x low)) ∙ there)
    go x s there (inr high) = absurd (true_not_false (sym there ∙ ap (λ (r : SlotSet). is_in s r.slots) (get_or_past next x no_slots (omega (arith, high, changed.count)))))

-- With more room.
grown_has : (old new' : List SlotSet) → HaveGrown old new' → (i : ℕ) → (get_or new' i no_slots).slots ≡ (get_or old i no_slots).slots
grown_has old new' g i = elim (cases_lt i (length old)) [
  | inl l ↦ g.slots i l
  | inr l ↦ ap (λ (r : SlotSet). r.slots) (get_or_past new' i no_slots (omega (arith, l, g.count)) ∙ sym (get_or_past old i no_slots l))
]

pub blocks-grown : (room more : ℕ) (rows next blocks roomy : List SlotSet) → HaveBlocks room rows blocks → HaveGrown rows next → HaveGrown blocks roomy →
    All (λ (r : SlotSet). more ≤ r.room) roomy → HaveBlocks more next roomy
blocks-grown room more rows next blocks roomy h g f enough = record {
  count = omega (arith, h.count, g.count, f.count);
  enough = enough;
  covered = λ x s has. ap (is_in s) (grown_has blocks roomy f (x / 64)) ∙ h.covered x s (ap (is_in s) (sym (grown_has rows next g x)) ∙ has);
}

-- Where the room of the queue stays.
pub blocks-kept : (room : ℕ) (rows next blocks roomy : List SlotSet) → HaveBlocks room rows blocks → HaveGrown rows next → HaveGrown blocks roomy → HaveBlocks room next roomy
blocks-kept room rows next blocks roomy h g f = blocks-grown room room rows next blocks roomy h g f (λ k d l.
    (let small : k < length blocks = omega (arith, l, f.count) in
    let same : (get_or roomy k d).room ≡ (get_or roomy k no_slots).room = ap (λ (r : SlotSet). r.room) (get_default d no_slots roomy k l) in
    let a = h.enough k no_slots small in let b = f.room k small in omega (arith, same, a, b)))
