-- The files that a folder in memory lists.
use Rattle.std.proofs.Common.{◌≡◌, ◌≢◌, ◌⊎◌, inl, inr, ⊎_elim, ℕ, suc, ◌+◌, ◌<◌, ◌≤◌, Bool, true, false, cond, List, [], ◌∷◌, ◌++◌, length, drop, take, map, Option, Some, None, option_map, Contains, IsSome, get_or, refl, sym, ◌∙◌, ap, subst, arith, drop-cons, drop_of_length-le}
use Rattle.std.specs.Str.{bytes_eq}
use Rattle.std.proofs.lemmas.Bool.{cases_Bool, cond-true, cond-false}
use Rattle.std.proofs.lemmas.Slice.Eq.{bytes_eq-Decides}
use Rattle.sv_bytes.specs.Stored.{contents_of}
use Rattle.sv_log.specs.Pictures.{Picture, Call, Make, Grow, Write, Truncate, Rename, Remove, Sync, SyncFolder, Made, zeros, over, put, after, seen_after}
use Rattle.sv_log.specs.Reads.{Lists}
use Rattle.sv_log.specs.Memory.{call_of, made_of, latest_first, target, StartsIn, NamedIn, Adds}
use Rattle.sv_log.specs.declared.calls.KeptCall.{KeptCall}

start_in : (files : List (List ℕ × List ℕ)) (n : List ℕ) → IsSome (contents_of files n) → StartsIn files n
start_in [] n is = absurd (cc is)
start_in (f ∷ fs) n is = elim (cases_Bool (bytes_eq f.0 n)) [
  | inl same ↦ inl ((bytes_eq-Decides f.0 n).0 same)
  | inr other ↦ inr (start_in fs n (subst (λ (o : Option (List ℕ)). IsSome o) (cond-false (bytes_eq f.0 n) (Some f.1) (contents_of fs n) other) is))
]

put_in : (name : List ℕ) (file : Option (List ℕ)) (p : Picture) (n : List ℕ) → IsSome (put name file p n) → ((n ≡ name) × IsSome file) ⊎ IsSome (p n)
put_in name file p n is = elim (cases_Bool (bytes_eq n name)) [
  | inl same ↦ inl ((bytes_eq-Decides n name).0 same, subst (λ (o : Option (List ℕ)). IsSome o) (cond-true (bytes_eq n name) file (p n) same) is)
  | inr other ↦ inr (subst (λ (o : Option (List ℕ)). IsSome o) (cond-false (bytes_eq n name) file (p n) other) is)
]

map_some : (f : List ℕ → List ℕ) (o : Option (List ℕ)) → IsSome (option_map f o) → IsSome o
map_some f None is = is
map_some f (Some b) is = refl

-- a file whose bytes were changed was there
changed_in : (name : List ℕ) (f : List ℕ → List ℕ) (p : Picture) (n : List ℕ) → IsSome (put name (option_map f (p name)) p n) → IsSome (p n)
changed_in name f p n is =
    ⊎_elim (λ (h : (n ≡ name) × IsSome (option_map f (p name))). subst (λ (m : List ℕ). IsSome (p m)) (sym h.0) (map_some f (p name) h.1)) (λ (h : IsSome (p n)). h)
    (put_in name (option_map f (p name)) p n is)

after_in : (call : Call) (p : Picture) (n : List ℕ) → IsSome (after call p n) → IsSome (p n) ⊎ (target call ≡ Some n)
after_in (Make name k) p n is =
    ⊎_elim (λ (h : (n ≡ name) × IsSome (Some (zeros k))). inr (ap (λ (m : List ℕ). Some m) (sym h.0))) (λ (h : IsSome (p n)). inl h) (put_in name (Some (zeros k)) p n is)
after_in (Grow name k) p n is = inl (changed_in name (λ b. b ++ zeros k) p n is)
after_in (Write name at bytes) p n is = inl (changed_in name (over at bytes) p n is)
after_in (Truncate name k) p n is = inl (changed_in name (take k) p n is)
after_in (Rename from to) p n is =
    ⊎_elim (λ (h : (n ≡ to) × IsSome (p from)). inr (ap (λ (m : List ℕ). Some m) (sym h.0)))
    (λ (h : IsSome (put from None p n)). ⊎_elim (λ (e : (n ≡ from) × IsSome {T = List ℕ} None). absurd (cc e.1)) (λ (e : IsSome (p n)). inl e) (put_in from None p n h))
    (put_in to (p from) (put from None p) n is)
after_in (Remove name) p n is = ⊎_elim (λ (e : (n ≡ name) × IsSome {T = List ℕ} None). absurd (cc e.1)) (λ (e : IsSome (p n)). inl e) (put_in name None p n is)
after_in (Sync name) p n is = inl is
after_in SyncFolder p n is = inl is

-- the first call comes last
seen_first : (p : Picture) (past : List Made) (m : Made) → seen_after p (past ++ m ∷ []) ≡ seen_after (cond m.1 (after m.0 p) p) past
seen_first p [] m = refl
seen_first p (x ∷ past) m = ap (λ (q : Picture). cond x.1 (after x.0 q) q) (seen_first p past m)

first_in : (done : Bool) (call : Call) (p : Picture) (n : List ℕ) → IsSome (cond done (after call p) p n) → IsSome (p n) ⊎ (target call ≡ Some n)
first_in true call p n is = after_in call p n is
first_in false call p n is = inl is

called_in : (p : Picture) (calls : List KeptCall) (n : List ℕ) → IsSome (seen_after p (latest_first calls) n) → IsSome (p n) ⊎ NamedIn calls n
called_in p [] n is = inl is
called_in p (k ∷ ks) n is =
    let made = made_of k in
    let moved : IsSome (seen_after (cond made.1 (after made.0 p) p) (latest_first ks) n) = subst (λ (q : Picture). IsSome (q n)) (seen_first p (latest_first ks) made) is in
    ⊎_elim (λ (some : IsSome (cond made.1 (after made.0 p) p n)). ⊎_elim (λ (h : IsSome (p n)). inl h) (λ (h : target made.0 ≡ Some n). inr (inl h)) (first_in made.1 made.0 p n some))
    (λ (later : NamedIn ks n). inr (inr later)) (called_in (cond made.1 (after made.0 p) p) ks n moved)

-- a file that is there was there at the start, or was named by a call
pub seen_in : (start : List (List ℕ × List ℕ)) (calls : List KeptCall) (n : List ℕ) → IsSome (seen_after (contents_of start) (latest_first calls) n) → StartsIn start n ⊎ NamedIn calls n
seen_in start calls n is =
    ⊎_elim (λ (h : IsSome (contents_of start n)). inl (start_in start n h)) (λ (h : NamedIn calls n). inr h) (called_in (contents_of start) calls n is)

-- ---- Steps of loops that list

starts_more : (start : List (List ℕ × List ℕ)) (i : ℕ) (d : List ℕ × List ℕ) (n : List ℕ) → i < length start → StartsIn (drop i start) n → ((get_or start i d).0 ≡ n) ⊎ StartsIn (drop (i + 1) start) n
starts_more start i d n within h =
    let parts : drop i start ≡ get_or start i d ∷ drop (i + 1) start =
    drop-cons start i d within ∙ ap (λ (k : ℕ). get_or start i d ∷ drop k start) (let e : suc i ≡ i + 1 = omega arith in e) in
    subst (λ (l : List (List ℕ × List ℕ)). StartsIn l n) parts h

named_more : (calls : List KeptCall) (i : ℕ) (d : KeptCall) (n : List ℕ) → i < length calls → NamedIn (drop i calls) n → (target (call_of (get_or calls i d).call) ≡ Some n) ⊎ NamedIn (drop (i + 1) calls) n
named_more calls i d n within h =
    let parts : drop i calls ≡ get_or calls i d ∷ drop (i + 1) calls =
    drop-cons calls i d within ∙ ap (λ (k : ℕ). get_or calls i d ∷ drop k calls) (let e : suc i ≡ i + 1 = omega arith in e) in
    subst (λ (l : List KeptCall). NamedIn l n) parts h

module _ (p : Picture) (first old new : List (List ℕ)) (name : Option (List ℕ)) (adds : Adds p name old new) where
  -- what is listed was there before, or has a file
  pub only_more : ((n : List ℕ) → Contains old n → Contains first n ⊎ IsSome (p n)) → (n : List ℕ) → Contains new n → Contains first n ⊎ IsSome (p n)
  only_more only n has = ⊎_elim (λ (h : Contains old n). only n h) (λ (h : IsSome (p n)). inr h) (adds.only n has)

  pub keeps_more : ((n : List ℕ) → Contains first n → Contains old n) → (n : List ℕ) → Contains first n → Contains new n
  keeps_more keeps n has = adds.keeps n (keeps n has)

  pub start_step : (start : List (List ℕ × List ℕ)) (i : ℕ) (d : List ℕ × List ℕ) → i < length start → name ≡ Some (get_or start i d).0
      → ((n : List ℕ) → IsSome (p n) → StartsIn start n → Contains old n ⊎ StartsIn (drop i start) n) → (n : List ℕ) → IsSome (p n) → StartsIn start n → Contains new n ⊎ StartsIn (drop (i + 1) start) n
  start_step start i d within is covers n some starts =
      ⊎_elim (λ (h : Contains old n). inl (adds.keeps n h))
      (λ (h : StartsIn (drop i start) n). ⊎_elim (λ (e : (get_or start i d).0 ≡ n). inl (adds.has n (is ∙ ap (λ (x : List ℕ). Some x) e) some)) (λ (r : StartsIn (drop (i + 1) start) n). inr r) (starts_more start i d n within h))
      (covers n some starts)

  pub call_step : (calls : List KeptCall) (i : ℕ) (d : KeptCall) → i < length calls → name ≡ target (call_of (get_or calls i d).call)
      → ((n : List ℕ) → IsSome (p n) → NamedIn calls n → Contains old n ⊎ NamedIn (drop i calls) n) → (n : List ℕ) → IsSome (p n) → NamedIn calls n → Contains new n ⊎ NamedIn (drop (i + 1) calls) n
  call_step calls i d within is covers n some named =
      ⊎_elim (λ (h : Contains old n). inl (adds.keeps n h))
      (λ (h : NamedIn (drop i calls) n). ⊎_elim (λ (e : target (call_of (get_or calls i d).call) ≡ Some n). inl (adds.has n (is ∙ e) some)) (λ (r : NamedIn (drop (i + 1) calls) n). inr r) (named_more calls i d n within h))
      (covers n some named)

pub starts_all : (start : List (List ℕ × List ℕ)) (i : ℕ) (n : List ℕ) (T : Type 0) → length start ≤ i → T ⊎ StartsIn (drop i start) n → T
starts_all start i n T le h = ⊎_elim (λ (t : T). t) (λ (s : StartsIn (drop i start) n). absurd (subst (λ (l : List (List ℕ × List ℕ)). StartsIn l n) (drop_of_length-le start le) s)) h

pub named_all : (calls : List KeptCall) (i : ℕ) (n : List ℕ) (T : Type 0) → length calls ≤ i → T ⊎ NamedIn (drop i calls) n → T
named_all calls i n T le h = ⊎_elim (λ (t : T). t) (λ (s : NamedIn (drop i calls) n). absurd (subst (λ (l : List KeptCall). NamedIn l n) (drop_of_length-le calls le) s)) h

-- nothing was added
pub adds_none : (p : Picture) (names : List (List ℕ)) → Adds p None names names
adds_none p names = record { keeps = λ n has. has; has = λ n e some. absurd (cc e); only = λ n has. inl has }

-- the names that were listed are those of the files
pub lists_all : (start : List (List ℕ × List ℕ)) (calls : List KeptCall) (mid names : List (List ℕ)) → ((n : List ℕ) → Contains mid n → IsSome (seen_after (contents_of start) (latest_first calls) n))
    → ((n : List ℕ) → IsSome (seen_after (contents_of start) (latest_first calls) n) → StartsIn start n → Contains mid n)
    → ((n : List ℕ) → Contains mid n → Contains names n) → ((n : List ℕ) → IsSome (seen_after (contents_of start) (latest_first calls) n) → NamedIn calls n → Contains names n)
    → ((n : List ℕ) → Contains names n → Contains mid n ⊎ IsSome (seen_after (contents_of start) (latest_first calls) n)) → Lists (seen_after (contents_of start) (latest_first calls)) names
lists_all start calls mid names from starts keeps named only n = (
  (λ has. ⊎_elim (λ (h : Contains mid n). from n h) (λ (some : IsSome (seen_after (contents_of start) (latest_first calls) n)). some) (only n has)),
  (λ some. ⊎_elim (λ (h : StartsIn start n). keeps n (starts n some h)) (λ (h : NamedIn calls n). named n some h) (seen_in start calls n some)),
)
