-- The entries of a session beside the requests that were asked in it, entry by entry.
use Rattle.std.proofs.Common.{◌≡◌, ℕ, zero, suc, ◌+◌, ◌<◌, ◌≤◌, Bool, true, false, eqb, List, [], ◌∷◌, ◌++◌, length, take, drop, reverse, get_or, slice_get, Some, refl, sym, ap, subst, ◌∙◌, arith, true≢false}
use Rattle.std.proofs.lemmas.Bool.{eqb-true, eq-eqb}
use Rattle.std.proofs.lemmas.List.{take_more, reverse-append, take-append-drop}
use Rattle.std.proofs.lemmas.Option.{same_Some}
use Rattle.sv_wire.specs.declared.message.Request.{Request}
use Rattle.sv_journal.specs.declared.entry.Entry.{Entry}
use Rattle.sv_journal.specs.Sessions.{is_end, is_ended}
use Rattle.law_system.specs.Fits.{requests_in, IsEndLast}
use Rattle.law_system.specs.Fronts.{IsFront}
use Rattle.law_system.proofs.Fronts.{front-all, front-then, get-last}
use Rattle.law_system.proofs.Entered.{requests-one}
use Rattle.sv_check.specs.Acting.{IsSettled}

-- The first entries, turned.
pub turned_more : {X : Type 0} (xs : List X) (i : ℕ) (x : X) → i < length xs → x ≡ get_or xs i x → reverse (take (i + 1) xs) ≡ x ∷ reverse (take i xs)
turned_more xs i x l e =
    ap reverse (take_more xs i x l ∙ ap (λ y. take i xs ++ y ∷ []) (sym e)) ∙ reverse-append (take i xs) (x ∷ [])

-- ---- Places of lists

pub got_there : {X : Type 0} (xs : List X) (i : ℕ) (x : X) → slice_get xs i ≡ Some x → (i < length xs) × (x ≡ get_or xs i x)
got_there [] i x e = cc
got_there (y ∷ ys) zero x e = (omega arith, sym (same_Some y x e))
got_there (y ∷ ys) (suc i) x e = let h = got_there ys i x e in (omega (arith, h.0), h.1)

-- All entries, turned, are the later ones over the first ones.
pub split_turned : {X : Type 0} (n : ℕ) (xs : List X) → reverse (drop n xs) ++ reverse (take n xs) ≡ reverse xs
split_turned n xs = sym (reverse-append (take n xs) (drop n xs)) ∙ ap reverse (take-append-drop n xs)

-- A tactic names it.
pub there_got : {X : Type 0} (xs : List X) (i : ℕ) (x : X) → i < length xs → x ≡ get_or xs i x → slice_get xs i ≡ Some x
there_got [] i x l e = absurd (omega (arith, l))
there_got (y ∷ ys) zero x l e = ap (λ z. Some z) (sym e)
there_got (y ∷ ys) (suc i) x l e = there_got ys i x (omega (arith, l)) e

-- ---- Entry by entry

-- Of the entries h so far, the requests of session s are the first `next` of those asked.
pub record IsSettling (h : List Entry) (s : ℕ) (asked : List Request) (next : ℕ) (ended : Bool) : Type 0 where
  pub within : next ≤ length asked
  pub requests : requests_in h s ≡ take next asked
  pub ended_is : is_ended h s ≡ ended
  pub last : IsEndLast h s

pub begins : (s : ℕ) (asked : List Request) → IsSettling [] s asked 0 false
begins s asked = record { within = omega arith; requests = refl; ended_is = refl; last = tt }

module _ (h : List Entry) (s : ℕ) (asked : List Request) (next : ℕ) (ended : Bool) (e : Entry) (g : IsSettling h s asked next ended) where
  -- an entry of another session
  pub passes : eqb e.session s ≡ false → IsSettling (e ∷ h) s asked next ended
  passes other = record {
    within = g.within;
    requests = rw other g.requests;
    ended_is = rw other g.ended_is;
    last = (λ same. absurd (true≢false (sym (eq-eqb e.session s same) ∙ other)), g.last);
  }

  -- its End
  pub ends : eqb e.session s ≡ true → is_end e.request ≡ true → ended ≡ false → IsSettling (e ∷ h) s asked next true
  ends here end open_yet = record {
    within = g.within;
    requests = rw (here, end) g.requests;
    ended_is = rw (here, end) refl;
    last = (λ same. g.ended_is ∙ open_yet, g.last);
  }

  -- its next request
  pub asks : eqb e.session s ≡ true → is_end e.request ≡ false → ended ≡ false → next < length asked → e.request ≡ get_or asked next e.request → IsSettling (e ∷ h) s asked (next + 1) false
  asks here end open_yet l is = record {
    within = omega (arith, l);
    requests = rw (here, end) (ap (λ (rs : List Request). rs ++ e.request ∷ []) g.requests ∙ ap (λ (q : Request). take next asked ++ q ∷ []) is ∙ sym (take_more asked next e.request l));
    ended_is = rw (here, end) (g.ended_is ∙ open_yet);
    last = (λ same. g.ended_is ∙ open_yet, g.last);
  }

front_take : {X : Type 0} (n : ℕ) (xs : List X) → IsFront (take n xs) xs
front_take zero xs i x e = cc
front_take (suc n) [] i x e = e
front_take (suc n) (y ∷ ys) zero x e = e
front_take (suc n) (y ∷ ys) (suc i) x e = front_take n ys i x e

-- ---- Where it is not

last_less : (g h : List Entry) (s : ℕ) → IsEndLast (g ++ h) s → IsEndLast h s
last_less [] h s l = l
last_less (e ∷ g) h s l = last_less g h s l.1

requests_over : (g h : List Entry) (s : ℕ) → IsFront (requests_in h s) (requests_in (g ++ h) s)
requests_over [] h s = front-all (requests_in h s)
requests_over (e ∷ g) h s = front-then (requests_in h s) (requests_in (g ++ h) s) (requests_in (e ∷ g ++ h) s) (requests_over g h s) (requests-one e (g ++ h) s)

length_take : {X : Type 0} (n : ℕ) (xs : List X) → n ≤ length xs → length (take n xs) ≡ n
length_take zero xs l = refl
length_take (suc n) [] l = absurd (omega (arith, l))
length_take (suc n) (x ∷ xs) l = ap suc (length_take n xs (omega (arith, l)))

module _ (entries : List Entry) (i s : ℕ) (asked : List Request) (next : ℕ) (ended : Bool) (e : Entry) (l : i < length entries) (is : e ≡ get_or entries i e) where
  so_far : reverse (drop (i + 1) entries) ++ e ∷ reverse (take i entries) ≡ reverse entries
  so_far = ap (λ (h : List Entry). reverse (drop (i + 1) entries) ++ h) (sym (turned_more entries i e l is)) ∙ split_turned (i + 1) entries

  -- an entry after its End
  pub ended_before : IsSettling (reverse (take i entries)) s asked next ended → eqb e.session s ≡ true → ended ≡ true → IsSettled (reverse entries) asked s → ⊥
  ended_before g here end settled =
      let last = last_less (reverse (drop (i + 1) entries)) (e ∷ reverse (take i entries)) s (subst (λ (h : List Entry). IsEndLast h s) (sym so_far) settled.ended) in
      true≢false (sym (g.ended_is ∙ end) ∙ last.0 (eqb-true e.session s here))

  -- its next request
  asked_next : IsSettling (reverse (take i entries)) s asked next ended → eqb e.session s ≡ true → is_end e.request ≡ false → IsSettled (reverse entries) asked s → slice_get asked next ≡ Some e.request
  asked_next g here end settled =
      let front = subst (λ (h : List Entry). IsFront (requests_in (e ∷ reverse (take i entries)) s) (requests_in h s)) so_far
      (requests_over (reverse (drop (i + 1) entries)) (e ∷ reverse (take i entries)) s) in
      let more : requests_in (e ∷ reverse (take i entries)) s ≡ take next asked ++ e.request ∷ [] = rw (here, end) (ap (λ (rs : List Request). rs ++ e.request ∷ []) g.requests) in
      let there : slice_get (requests_in (e ∷ reverse (take i entries)) s) next ≡ Some e.request =
      ap (λ (rs : List Request). slice_get rs next) more
      ∙ ap (λ (n : ℕ). slice_get (take next asked ++ e.request ∷ []) n) (sym (length_take next asked g.within))
      ∙ get-last (take next asked) e.request in
      settled.front next e.request (front next e.request there)

  pub asks_other : IsSettling (reverse (take i entries)) s asked next ended → eqb e.session s ≡ true → is_end e.request ≡ false → (slice_get asked next ≡ Some e.request → ⊥) → IsSettled (reverse entries) asked s → ⊥
  asks_other g here end other settled = other (asked_next g here end settled)

-- ---- All entries

pub settles : (h : List Entry) (s : ℕ) (asked : List Request) (next : ℕ) (ended : Bool) → IsSettling h s asked next ended → IsSettled h asked s
settles h s asked next ended g = record {
  front = subst (λ (rs : List Request). IsFront rs asked) (sym g.requests) (front_take next asked);
  ended = g.last;
}
