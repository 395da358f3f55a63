-- The objects that an action writes, slot by slot, and lists that are changed at them.
use Rattle.std.proofs.Common.{◌≡◌, ℕ, zero, suc, ◌+◌, ◌<◌, Bool, true, false, ◌||◌, cond, nat_lt, nat_eq, List, [], ◌∷◌, ◌++◌, length, take, drop, set, get_or, ◌⊎◌, inl, inr, ℤ, refl, sym, ◌∙◌, ap, arith, add-one, length-append, append-nil}
use Rattle.std.proofs.lemmas.Bool.{cases_eq, eq-eqb, ne_eqb, ltb-true, and_parts, or_from, or_parts, cond-true, cond-false}
use Rattle.std.proofs.lemmas.List.{take_all, take_at, set-get_or, drop-drop, get_or-map, length-map, get_or_read, get_or-set_same, get_or-set_other, length-set}
use Rattle.sv_world.specs.declared.action.Action.{Action}
use Rattle.sv_world.specs.declared.world.ObjectId.{ObjectId}
use Rattle.sv_world.specs.Control.{is_in}
use Rattle.sv_world.specs.Faults.{is_ascending}
use Rattle.sv_world.specs.Sets.{is_in_mask, at_mask, read_set, write_set}
use Rattle.sv_world.proofs.Ascending.{ascending-tail}
use Rattle.sv_eval.specs.Serial.{put_all}
use Rattle.sv_queue.specs.Written.{CanWrite, IsChangedAt, writes_before, front_of}
use Rattle.sv_queue.proofs.Members.{is_in-append}

at_mask_next : (mask k n : ℕ) (xs : List ℕ) → n < length xs →
    at_mask mask k (take (suc n) xs) ≡ at_mask mask k (take n xs) ++ cond (is_in_mask mask (k + n)) (get_or xs n 0 ∷ []) []
at_mask_next mask k n [] low = absurd (omega arith)
at_mask_next mask k zero (x ∷ xs) low = rw (k_zero k) refl
  where
    k_zero : (k : ℕ) → k + 0 ≡ k
    k_zero k = omega arith
at_mask_next mask k (suc n) (x ∷ xs) low = go (is_in_mask mask k) (at_mask_next mask (k + 1) n xs (omega arith))
  where
    same : k + 1 + n ≡ k + suc n
    same = omega arith

    go : (b : Bool) → at_mask mask (k + 1) (take (suc n) xs) ≡ at_mask mask (k + 1) (take n xs) ++ cond (is_in_mask mask (k + 1 + n)) (get_or xs n 0 ∷ []) [] →
        cond b (x ∷ at_mask mask (k + 1) (take (suc n) xs)) (at_mask mask (k + 1) (take (suc n) xs))
        ≡ cond b (x ∷ at_mask mask (k + 1) (take n xs)) (at_mask mask (k + 1) (take n xs)) ++ cond (is_in_mask mask (k + suc n)) (get_or xs n 0 ∷ []) []
    go true h = rw (h, same) refl
    go false h = rw (← same) h

-- One slot more.
pub writes_before-next : (a : Action) (n : ℕ) → n < length a.reads →
    writes_before a (n + 1) ≡ writes_before a n ++ cond (is_in_mask a.mask n) (get_or (read_set a) n 0 ∷ []) []
unfolding writes_before
writes_before-next a n low = rw add-one (at_mask_next a.mask 0 n (read_set a) (omega (arith, length-map a.reads (λ (o : ObjectId). o.0)))
    ∙ ap (λ m. at_mask a.mask 0 (take n (read_set a)) ++ cond (is_in_mask a.mask m) (get_or (read_set a) n 0 ∷ []) []) (zero_add n))
  where
    zero_add : (n : ℕ) → 0 + n ≡ n
    zero_add n = omega arith

pub writes_before-zero : (a : Action) → writes_before a 0 ≡ []
unfolding writes_before
writes_before-zero a = refl

pub writes_before_all : (a : Action) → writes_before a (length a.reads) ≡ write_set a
unfolding writes_before
writes_before_all a = ap (at_mask a.mask 0) (take_all (length a.reads) (read_set a) (omega (arith, length-map a.reads (λ (o : ObjectId). o.0))))

not_in_mask : (mask k y : ℕ) (xs : List ℕ) → is_in y xs ≡ false → is_in y (at_mask mask k xs) ≡ false
not_in_mask mask k y [] h = refl
not_in_mask mask k y (x ∷ xs) h = go (is_in_mask mask k) (not_in_mask mask (k + 1) y xs (or_parts (nat_eq y x) (is_in y xs) h).1)
  where
    go : (b : Bool) → is_in y (at_mask mask (k + 1) xs) ≡ false → is_in y (cond b (x ∷ at_mask mask (k + 1) xs) (at_mask mask (k + 1) xs)) ≡ false
    go true g = or_from _ _ (or_parts (nat_eq y x) (is_in y xs) h).0 g
    go false g = g

head_lower : (x : ℕ) (xs : List ℕ) (k : ℕ) → is_ascending (x ∷ xs) ≡ true → k < length xs → x < get_or xs k 0
head_lower x [] k h low = absurd (omega arith)
head_lower x (y ∷ ys) zero h low = ltb-true x y (and_parts _ _ h).0
head_lower x (y ∷ ys) (suc k) h low =
    let p : x < y = ltb-true x y (and_parts (nat_lt x y) (is_ascending (y ∷ ys)) h).0 in
    let rest : is_ascending (y ∷ ys) ≡ true = (and_parts (nat_lt x y) (is_ascending (y ∷ ys)) h).1 in
    let q : y < get_or ys k 0 = head_lower y ys k rest (omega arith) in omega arith

not_before : (n : ℕ) (xs : List ℕ) → is_ascending xs ≡ true → n < length xs → is_in (get_or xs n 0) (take n xs) ≡ false
not_before zero xs h low = refl
not_before (suc n) [] h low = absurd (omega arith)
not_before (suc n) (x ∷ xs) h low =
    let p : x < get_or xs n 0 = head_lower x xs n h (omega arith) in
    or_from _ _ (ne_eqb (get_or xs n 0) x (λ e. omega arith)) (not_before n xs (ascending-tail x xs h) (omega arith))

-- A read is not among the objects written at earlier slots.
pub fresh_read : (a : Action) (n : ℕ) → is_ascending (read_set a) ≡ true → n < length a.reads →
    is_in (get_or (read_set a) n 0) (writes_before a n) ≡ false
unfolding writes_before
fresh_read a n h low = not_in_mask a.mask 0 _ (take n (read_set a)) (not_before n (read_set a) h (omega (arith, length-map a.reads (λ (o : ObjectId). o.0))))

pub read_at : (a : Action) (n : ℕ) (d : ObjectId) → n < length a.reads → get_or (read_set a) n 0 ≡ (get_or a.reads n d).0
read_at a n d low = get_or-map (λ (o : ObjectId). o.0) a.reads n d 0 low

-- The object that an action reads in a slot is one of the world's.
pub read_known : (a : Action) (n x count : ℕ) → CanWrite count a → n < length a.reads → x ≡ get_or (read_set a) n 0 → x < count
read_known a n x count can low e =
    rw e (can.objects n 0 (omega (arith, length-map a.reads (λ (o : ObjectId). o.0))))

module _ {X : Type 0} (d : X) (f : X → X) where
  pub unchanged : (xs : List X) → IsChangedAt d f [] xs xs
  unchanged xs = record { count = refl; elements = λ x low. refl }

  -- One place more.
  pub changed_next : (places : List ℕ) (old now : List X) (x : ℕ) (y : X) → IsChangedAt d f places old now → x < length old →
      is_in x places ≡ false → y ≡ f (get_or now x d) → IsChangedAt d f (places ++ x ∷ []) old (set now x y)
  changed_next places old now x y h low fresh e = record {
    count = length-set now x y ∙ h.count;
    elements = λ k small. go k small (cases_eq k x);
  }
    where
      now_low : x < length now
      now_low = omega (arith, h.count)

      last : (k : ℕ) → is_in k (places ++ x ∷ []) ≡ (is_in k places || (nat_eq k x || false))
      last k = is_in-append k places (x ∷ [])

      go : (k : ℕ) → k < length old → (k ≡ x) ⊎ (k ≡ x → ⊥) →
          get_or (set now x y) k d ≡ cond (is_in k (places ++ x ∷ [])) (f (get_or old k d)) (get_or old k d)
      go k small (inl q) = rw (last k, q, fresh, eq-eqb x x refl, get_or-set_same now x y d now_low, e)
          (ap f (h.elements x low ∙ cond-false _ _ _ fresh))
      go k small (inr ne) = rw (last k, ne_eqb k x ne, get_or-set_other now x k y d ne) (h.elements k small ∙ ap (λ b. cond b (f (get_or old k d)) (get_or old k d)) (sym (or-false (is_in k places))))
        where
          or-false : (b : Bool) → (b || false) ≡ b
          or-false true = refl
          or-false false = refl

  -- The same at the next slot of an action, which has an object that it writes, or has none.
  pub put_slot : (a : Action) (n : ℕ) (old now next : List X) (x : ℕ) (y : X) → CanWrite (length old) a → n < length a.reads →
      x ≡ get_or (read_set a) n 0 → is_in x (writes_before a n) ≡ false → writes_before a (n + 1) ≡ writes_before a n ++ x ∷ [] →
      IsChangedAt d f (writes_before a n) old now → y ≡ f (get_or now x d) → next ≡ set now x y →
      IsChangedAt d f (writes_before a (n + 1)) old next
  put_slot a n old now next x y can low is fresh more h made e =
      rw (more, e) (changed_next (writes_before a n) old now x y h (read_known a n x (length old) can low is) fresh made)

  pub changed_slot : (a : Action) (n : ℕ) (old now next : List X) (x : ℕ) (r y : X) → CanWrite (length old) a → n < length a.reads →
      x ≡ get_or (read_set a) n 0 → is_in x (writes_before a n) ≡ false → writes_before a (n + 1) ≡ writes_before a n ++ x ∷ [] →
      IsChangedAt d f (writes_before a n) old now → r ≡ get_or now x r → y ≡ f r → next ≡ set now x y →
      IsChangedAt d f (writes_before a (n + 1)) old next
  changed_slot a n old now next x r y can low is fresh more h read made e =
      put_slot a n old now next x y can low is fresh more h (made ∙ ap f (get_or_read now x r known read d)) e
    where
      known : x < length now
      known = omega (arith, read_known a n x (length old) can low is, h.count)

  pub kept_slot : (a : Action) (n : ℕ) (old now next : List X) → writes_before a (n + 1) ≡ writes_before a n ++ [] →
      IsChangedAt d f (writes_before a n) old now → next ≡ now → IsChangedAt d f (writes_before a (n + 1)) old next
  kept_slot a n old now next more h e = rw (more, append-nil (writes_before a n), e) h

pub front_of-push : {X : Type 0} (xs : List X) (y : X) → front_of (xs ++ y ∷ []) ≡ xs
front_of-push xs y = take_at xs (y ∷ []) _ (omega (arith, length-append xs (y ∷ [])))

-- Where the next list could take no more, taking off the last of those before leaves what was.
pub undone : (ws : List ℕ) (p x : ℕ) (old now then new : List (List ℕ)) (r y : List ℕ) → IsChangedAt [] (λ list. list ++ p ∷ []) ws old now →
    x < length now → r ≡ get_or now x r → y ≡ r → then ≡ set now x y → IsChangedAt [] front_of ws then new → IsChangedAt [] (λ list. list) [] old new
undone ws p x old now then new r y h low read same e g = record {
  count = g.count ∙ ap length stays ∙ h.count;
  elements = λ k small. go k small (is_in k ws) refl;
}
  where
    stays : then ≡ now
    stays = e ∙ ap (set now x) (same ∙ get_or_read now x r low read []) ∙ set-get_or now x []

    go : (k : ℕ) → k < length old → (b : Bool) → is_in k ws ≡ b → get_or new k [] ≡ get_or old k []
    go k small true q = g.elements k (omega (arith, ap length stays, h.count)) ∙ cond-true _ _ _ q
        ∙ ap (λ lists. front_of (get_or lists k [])) stays ∙ ap front_of (h.elements k small ∙ cond-true _ _ _ q) ∙ front_of-push (get_or old k []) p
    go k small false q = g.elements k (omega (arith, ap length stays, h.count)) ∙ cond-false _ _ _ q
        ∙ ap (λ lists. get_or lists k []) stays ∙ h.elements k small ∙ cond-false _ _ _ q

-- The next of the values goes to one object more.
pub put_all-next : (committed : List (List ℤ)) (xs : List ℕ) (x : ℕ) (values : List (List ℤ)) (v : List ℤ) (rest : List (List ℤ)) →
    drop (length xs) values ≡ v ∷ rest → put_all committed (xs ++ x ∷ []) values ≡ set (put_all committed xs values) x v
put_all-next committed [] x values v rest h = rw h refl
put_all-next committed (w ∷ xs) x [] v rest h = cc
put_all-next committed (w ∷ xs) x (value ∷ values) v rest h = put_all-next (set committed w value) xs x values v rest h

-- Where no value is left, no more is written.
pub put_values_end : (committed : List (List ℤ)) (xs : List ℕ) (x : ℕ) (values : List (List ℤ)) →
    drop (length xs) values ≡ [] → put_all committed (xs ++ x ∷ []) values ≡ put_all committed xs values
put_values_end committed [] x values h = rw h refl
put_values_end committed (w ∷ xs) x [] h = refl
put_values_end committed (w ∷ xs) x (value ∷ values) h = put_values_end (set committed w value) xs x values h

pub drop_push : {X : Type 0} (xs : List ℕ) (x : ℕ) (ys rest : List X) → drop 1 (drop (length xs) ys) ≡ rest → drop (length (xs ++ x ∷ [])) ys ≡ rest
drop_push xs x ys rest h = rw (length-append xs (x ∷ [])) (sym (drop-drop 1 (length xs) ys) ∙ h)
