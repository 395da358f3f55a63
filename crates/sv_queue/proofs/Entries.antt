-- The writers and the marks of a list of entries.
use Rattle.std.proofs.Common.{◌≡◌, ℕ, zero, suc, ◌+◌, ◌-◌, ◌<◌, ◌≤◌, Bool, true, false, cond, List, [], ◌∷◌, ◌++◌, length, get_or, replicate, slice_get, Option, Some, None, IfSome, IfNone, ◌⊎◌, inl, inr, refl, sym, ◌∙◌, ap, arith}
use Rattle.std.proofs.lemmas.Bool.{cases_lt, eq-eqb, ne_eqb}
use Rattle.sv_world.specs.declared.action.Action.{Action}
use Rattle.sv_world.specs.Control.{is_in, blank, action_at, last_writer}
use Rattle.sv_world.specs.Sets.{write_set}
use Rattle.sv_queue.specs.Invariant.{writers_above}
use Rattle.sv_queue.specs.Positions.{greatest_below, AreAbove, IsAscending}
use Rattle.sv_queue.specs.Queue.{Queued, IsFirstWriter, IsUnwritten, entry_actions, marked_above, no_entry}
use Rattle.sv_queue.proofs.PositionLists.{greatest_below-zero, greatest_below-suc}

pub writers_above_bound : (n m : ℕ) (es : List Queued) (x : ℕ) → n ≤ m → AreAbove n (writers_above m es x)
writers_above_bound n m [] x low = tt
writers_above_bound n m (e ∷ es) x low = go (is_in x (write_set e.action)) (writers_above_bound n (suc m) es x (omega arith))
  where
    go : (b : Bool) → AreAbove n (writers_above (suc m) es x) → AreAbove n (cond b (suc m ∷ writers_above (suc m) es x) (writers_above (suc m) es x))
    go true h = (omega arith, h)
    go false h = h

pub writers_above_ascend : (n : ℕ) (es : List Queued) (x : ℕ) → IsAscending (writers_above n es x)
writers_above_ascend n [] x = tt
writers_above_ascend n (e ∷ es) x = go (is_in x (write_set e.action)) (writers_above_bound (suc n) (suc n) es x (omega arith)) (writers_above_ascend (suc n) es x)
  where
    go : (b : Bool) → AreAbove (suc n) (writers_above (suc n) es x) → IsAscending (writers_above (suc n) es x) → IsAscending (cond b (suc n ∷ writers_above (suc n) es x) (writers_above (suc n) es x))
    go true h s = (h, s)
    go false h s = s

-- One more entry at the end.
pub writers_above-push : (n : ℕ) (es : List Queued) (e : Queued) (x : ℕ) →
    writers_above n (es ++ e ∷ []) x ≡ writers_above n es x ++ cond (is_in x (write_set e.action)) (suc (n + length es) ∷ []) []
writers_above-push n [] e x = rw (add_zero n) refl
  where
    add_zero : (n : ℕ) → n + 0 ≡ n
    add_zero n = omega arith
writers_above-push n (d ∷ es) e x = go (is_in x (write_set d.action)) (writers_above-push (suc n) es e x)
  where
    same : suc (suc n + length es) ≡ suc (n + suc (length es))
    same = omega arith

    go : (b : Bool) → writers_above (suc n) (es ++ e ∷ []) x ≡ writers_above (suc n) es x ++ cond (is_in x (write_set e.action)) (suc (suc n + length es) ∷ []) [] →
        cond b (suc n ∷ writers_above (suc n) (es ++ e ∷ []) x) (writers_above (suc n) (es ++ e ∷ []) x)
        ≡ cond b (suc n ∷ writers_above (suc n) es x) (writers_above (suc n) es x) ++ cond (is_in x (write_set e.action)) (suc (n + suc (length es)) ∷ []) []
    go true h = rw (← same, h) refl
    go false h = rw (← same) h

-- The action at a place past the blanks.
pub action_past : (c : ℕ) (actions : List Action) (k : ℕ) → get_or (replicate c blank ++ actions) (c + k) blank ≡ get_or actions k blank
action_past zero actions k = ap (λ m. get_or actions m blank) (zero_add k)
  where
    zero_add : (k : ℕ) → 0 + k ≡ k
    zero_add k = omega arith
action_past (suc c) actions k = rw (suc_add c k) (action_past c actions k)
  where
    suc_add : (c k : ℕ) → suc c + k ≡ suc (c + k)
    suc_add c k = omega arith

action_before : (c : ℕ) (actions : List Action) (k : ℕ) → k < c → get_or (replicate c blank ++ actions) k blank ≡ blank
action_before zero actions k low = absurd (omega arith)
action_before (suc c) actions zero low = refl
action_before (suc c) actions (suc k) low = action_before c actions k (omega arith)

in_writers_below : (n : ℕ) (es : List Queued) (x p : ℕ) → p ≤ n → is_in p (writers_above n es x) ≡ false
in_writers_below n [] x p low = refl
in_writers_below n (e ∷ es) x p low = go (is_in x (write_set e.action)) (in_writers_below (suc n) es x p (omega arith))
  where
    go : (b : Bool) → is_in p (writers_above (suc n) es x) ≡ false → is_in p (cond b (suc n ∷ writers_above (suc n) es x) (writers_above (suc n) es x)) ≡ false
    go true h = rw (ne_eqb p (suc n) (λ q. omega arith), h) refl
    go false h = h

in_writers : (n : ℕ) (es : List Queued) (x k : ℕ) →
    is_in (suc (n + k)) (writers_above n es x) ≡ is_in x (write_set (get_or (entry_actions es) k blank))
in_writers n [] x k = refl
in_writers n (e ∷ es) x zero = go (is_in x (write_set e.action)) (in_writers_below (suc n) es x (suc (n + 0)) (omega arith))
  where
    go : (b : Bool) → is_in (suc (n + 0)) (writers_above (suc n) es x) ≡ false →
        is_in (suc (n + 0)) (cond b (suc n ∷ writers_above (suc n) es x) (writers_above (suc n) es x)) ≡ b
    go true h = rw (eq-eqb (suc (n + 0)) (suc n) (omega arith)) refl
    go false h = h
in_writers n (e ∷ es) x (suc k) = go (is_in x (write_set e.action)) (ap (λ m. is_in m (writers_above (suc n) es x)) same ∙ in_writers (suc n) es x k)
  where
    same : suc (n + suc k) ≡ suc (suc n + k)
    same = omega arith

    go : (b : Bool) → is_in (suc (n + suc k)) (writers_above (suc n) es x) ≡ is_in x (write_set (get_or (entry_actions es) k blank)) →
        is_in (suc (n + suc k)) (cond b (suc n ∷ writers_above (suc n) es x) (writers_above (suc n) es x)) ≡ is_in x (write_set (get_or (entry_actions es) k blank))
    go true h = rw (ne_eqb (suc (n + suc k)) (suc n) (λ q. omega arith)) h
    go false h = h

in_writers_at : (c : ℕ) (es : List Queued) (x p : ℕ) →
    is_in p (writers_above c es x) ≡ is_in x (write_set (action_at (replicate c blank ++ entry_actions es) p))
in_writers_at c es x zero = in_writers_below c es x zero (omega arith)
in_writers_at c es x (suc p) = go (cases_lt p c)
  where
    go : (p < c) ⊎ (c ≤ p) → is_in (suc p) (writers_above c es x) ≡ is_in x (write_set (get_or (replicate c blank ++ entry_actions es) p blank))
    go (inl low) = in_writers_below c es x (suc p) (omega arith) ∙ ap (λ a. is_in x (write_set a)) (sym (action_before c (entry_actions es) p low))
    go (inr high) = let q : p ≡ c + (p - c) = omega arith in
        ap (λ m. is_in (suc m) (writers_above c es x)) q ∙ in_writers c es x (p - c)
        ∙ ap (λ a. is_in x (write_set a)) (sym (action_past c (entry_actions es) (p - c)) ∙ ap (λ m. get_or (replicate c blank ++ entry_actions es) m blank) (sym q))

-- The greatest uncommitted writer below a position is the last writer.
pub greatest_below-writers : (c : ℕ) (es : List Queued) (x n : ℕ) →
    greatest_below (writers_above c es x) n ≡ last_writer (replicate c blank ++ entry_actions es) x n
greatest_below-writers c es x zero = greatest_below-zero (writers_above c es x)
greatest_below-writers c es x (suc n) =
    greatest_below-suc (writers_above c es x) n
    ∙ rw (in_writers_at c es x n) (ap (cond (is_in x (write_set (action_at (replicate c blank ++ entry_actions es) n))) n) (greatest_below-writers c es x n))

above_list : (n p : ℕ) (xs : List ℕ) → AreAbove n xs → p ≤ n → is_in p xs ≡ false
above_list n p [] h low = refl
above_list n p (x ∷ xs) h low = rw (ne_eqb p x (λ e. let l : n < x = h.0 in omega arith), above_list n p xs h.1 low) refl

-- What the first of the uncommitted writers is, and that there is none.
pub first_of_writers : (c : ℕ) (es : List Queued) (x : ℕ) (r : Option ℕ) → r ≡ slice_get (writers_above c es x) 0 →
    IfSome r (λ p. IsFirstWriter (replicate c blank ++ entry_actions es) x p)
first_of_writers c es x None at = tt
first_of_writers c es x (Some p) at = go (writers_above c es x) refl at (writers_above_ascend c es x)
  where
    go : (xs : List ℕ) → writers_above c es x ≡ xs → Some p ≡ slice_get xs 0 → IsAscending xs → IsFirstWriter (replicate c blank ++ entry_actions es) x p
    go [] e at s = cc
    go (y ∷ ys) e at s =
        let is : p ≡ y = cc in
        record {
          writes = sym (in_writers_at c es x p) ∙ ap (is_in p) e ∙ rw (eq-eqb p y is) refl;
          least = λ q low. sym (in_writers_at c es x q) ∙ ap (is_in q) e ∙ rw (ne_eqb q y (λ f. omega arith), above_list y q ys s.0 (omega arith)) refl;
        }

pub first_uncommitted : (c : ℕ) (es : List Queued) (x : ℕ) (r : Option ℕ) → r ≡ slice_get (writers_above c es x) 0 → IfSome r (λ p. c < p)
first_uncommitted c es x None at = tt
first_uncommitted c es x (Some p) at = go (writers_above c es x) (writers_above_bound c c es x (omega arith)) at
  where
    go : (xs : List ℕ) → AreAbove c xs → Some p ≡ slice_get xs 0 → c < p
    go [] h at = cc
    go (y ∷ ys) h at = let is : p ≡ y = cc in let l : c < y = h.0 in omega arith

pub none_of_writers : (c : ℕ) (es : List Queued) (x : ℕ) (r : Option ℕ) → r ≡ slice_get (writers_above c es x) 0 →
    IfNone r (IsUnwritten (replicate c blank ++ entry_actions es) x)
none_of_writers c es x (Some p) at = tt
none_of_writers c es x None at = λ p. sym (in_writers_at c es x p) ∙ go p (writers_above c es x) at
  where
    go : (p : ℕ) (xs : List ℕ) → None ≡ slice_get xs 0 → is_in p xs ≡ false
    go p [] h = refl
    go p (y ∷ ys) h = cc

in_marked_below : (n : ℕ) (es : List Queued) (s p : ℕ) → p ≤ n → is_in p (marked_above n es s) ≡ false
in_marked_below n [] s p low = refl
in_marked_below n (e ∷ es) s p low = go (is_in s e.marks) (in_marked_below (suc n) es s p (omega arith))
  where
    go : (b : Bool) → is_in p (marked_above (suc n) es s) ≡ false → is_in p (cond b (suc n ∷ marked_above (suc n) es s) (marked_above (suc n) es s)) ≡ false
    go true h = rw (ne_eqb p (suc n) (λ q. omega arith), h) refl
    go false h = h

in_marked_place : (n : ℕ) (es : List Queued) (s k : ℕ) → is_in (suc (n + k)) (marked_above n es s) ≡ is_in s (get_or es k no_entry).marks
in_marked_place n [] s k = refl
in_marked_place n (e ∷ es) s zero = go (is_in s e.marks) (in_marked_below (suc n) es s (suc (n + 0)) (omega arith))
  where
    go : (b : Bool) → is_in (suc (n + 0)) (marked_above (suc n) es s) ≡ false → is_in (suc (n + 0)) (cond b (suc n ∷ marked_above (suc n) es s) (marked_above (suc n) es s)) ≡ b
    go true h = rw (eq-eqb (suc (n + 0)) (suc n) (omega arith)) refl
    go false h = h
in_marked_place n (e ∷ es) s (suc k) = go (is_in s e.marks) (ap (λ m. is_in m (marked_above (suc n) es s)) same ∙ in_marked_place (suc n) es s k)
  where
    same : suc (n + suc k) ≡ suc (suc n + k)
    same = omega arith

    go : (b : Bool) → is_in (suc (n + suc k)) (marked_above (suc n) es s) ≡ is_in s (get_or es k no_entry).marks →
        is_in (suc (n + suc k)) (cond b (suc n ∷ marked_above (suc n) es s) (marked_above (suc n) es s)) ≡ is_in s (get_or es k no_entry).marks
    go true h = rw (ne_eqb (suc (n + suc k)) (suc n) (λ q. omega arith)) h
    go false h = h

-- A position above n is marked as its entry says.
pub in_marked : (n : ℕ) (es : List Queued) (s p : ℕ) → n < p → is_in p (marked_above n es s) ≡ is_in s (get_or es (p - n - 1) no_entry).marks
in_marked n es s p high = let q : p ≡ suc (n + (p - n - 1)) = omega arith in
    ap (λ m. is_in m (marked_above n es s)) q ∙ in_marked_place n es s (p - n - 1)
