-- Sessions at their slots, entry by entry.
use Rattle.std.proofs.Common.{◌≡◌, ℕ, zero, suc, ◌+◌, ◌-◌, ◌<◌, ◌≤◌, Bool, true, false, ◌&&◌, ◌||◌, not, cond, nat_eq, nat_le, inl, inr, List, [], ◌∷◌, ◌++◌, length, get_or, drop, nat_lt, Option, Some, None, is_some, option_map, refl, sym, ◌∙◌, ap, subst, arith}
use Rattle.std.proofs.lemmas.Bool.{cases_lt, cases_eq, eq-eqb, eqb-true, ne_eqb, and_right, or_parts, or_cases, lt-ltb, le-ltb, lt-leb, le-leb}
use Rattle.std.proofs.lemmas.List.{get_or_past, get_or_default, drop_more}
use Rattle.sv_journal.specs.declared.entry.Entry.{Entry}
use Rattle.sv_journal.specs.Answer.{Rules, is_spent}
use Rattle.sv_journal.specs.Sessions.{is_end, is_last, welcomes, is_over, asked_in, positions_in, named_in, sent_to, named_to}
use Rattle.sv_journal.specs.History.{client_of}
use Rattle.sv_core.specs.declared.sessions.SessionRow.{SessionRow}
use Rattle.sv_core.specs.Agreement.{sent_at, named_at, AreSeated}
use Rattle.sv_core.specs.Rows.{row_at, seat_in, session_after, has_entry, owes_end, is_seated, count_rows, no_session, requests_left, IsSessionRow}

-- ---- Rows

left-next : (b : Bool) (asked : ℕ) (most left : Option ℕ) → left ≡ option_map (λ m. m - asked) most →
    cond b (option_map (λ n. n - 1) left) left ≡ option_map (λ m. m - cond b (suc asked) asked) most
left-next false asked most left h = h
left-next true asked None left h = ap (option_map (λ n. n - 1)) h
left-next true asked (Some m) left h = ap (option_map (λ n. n - 1)) h ∙ ap Some (let e : m - asked - 1 ≡ m - suc asked = omega arith in e)

pub row-next : (r : Rules) (e : Entry) (h : List Entry) (s : ℕ) (own : Bool) (row : SessionRow) → own ≡ nat_eq e.session s → IsSessionRow r h s row →
    IsSessionRow r (e ∷ h) s (session_after own e row)
row-next r e h s own row same is = record {
  client = rw (is.client, same) refl;
  over = rw (is.over, is.client, same) refl;
  left = ap (λ b. cond (b && not (is_end e.request)) (option_map (λ n. n - 1) row.left) row.left) same
      ∙ left-next (nat_eq e.session s && not (is_end e.request)) (asked_in h s) r.requests row.left is.left;
  ended = rw (is.ended, same) refl;
}

-- The rows of the slots after an entry of the session at one of them.
pub record AreAfter (slot : ℕ) (e : Entry) (old next : List SessionRow) : Type 0 where
  pub count : length next ≡ length old
  pub rows : (i : ℕ) → i < length old → row_at next i ≡ session_after (nat_eq slot i) e (row_at old i)

-- A session sits at one of the slots that there are.
pub seat-low : (rows : List SessionRow) (i s : ℕ) → seat_in rows i ≡ Some s → i < length rows
seat-low rows i s at = elim (cases_lt i (length rows)) [
  | inl low ↦ low
  | inr high ↦ (let none : ◌≡◌ {A = Option ℕ} None (Some s) = sym (ap (λ (r : SessionRow). r.session) (get_or_past rows i no_session high)) ∙ at in cc)
]

pub seats-same : (slot : ℕ) (e : Entry) (old next : List SessionRow) → AreAfter slot e old next → (i : ℕ) → seat_in next i ≡ seat_in old i
seats-same slot e old next after i = elim (cases_lt i (length old)) [
  | inl low ↦ ap (λ (r : SessionRow). r.session) (after.rows i low)
  | inr high ↦ ap (λ (r : SessionRow). r.session) (get_or_past next i no_session (omega (arith, after.count)))
      ∙ sym (ap (λ (r : SessionRow). r.session) (get_or_past old i no_session high))
]

-- What is read at a slot where there is a row, whatever stands for others.
pub row-at : (rows : List SessionRow) (i : ℕ) (x : SessionRow) → i < length rows → x ≡ get_or rows i x → x ≡ row_at rows i
row-at rows i x low is = is ∙ get_or_default rows i x no_session low

pub row-read : (rows : List SessionRow) (i s : ℕ) (x : SessionRow) → seat_in rows i ≡ Some s → x ≡ get_or rows i x → x ≡ row_at rows i
row-read rows i s x at is = row-at rows i x (seat-low rows i s at) is

-- A session may ask more where requests are left to it, or there is no end of them.
pub more-some : (most : Option ℕ) (asked left : ℕ) → Some left ≡ option_map (λ m. m - asked) most → nat_lt 0 left ≡ not (is_spent most asked)
more-some None asked left is = cc
more-some (Some m) asked left is = elim (cases_lt asked m) [
  | inl low ↦ lt-ltb 0 left (omega (arith, low, same)) ∙ sym (ap not (lt-leb m asked low))
  | inr high ↦ le-ltb 0 left (omega (arith, high, same)) ∙ sym (ap not (le-leb m asked high))
]
  where
    same : left ≡ m - asked
    same = cc

pub more-none : (most : Option ℕ) (asked : ℕ) → ◌≡◌ {A = Option ℕ} None (option_map (λ m. m - asked) most) → true ≡ not (is_spent most asked)
more-none None asked is = refl
more-none (Some m) asked is = cc

some-same : (a b : ℕ) → ◌≡◌ {A = Option ℕ} (Some a) (Some b) → a ≡ b
some-same a b q = cc

-- A slot is a session's where the session is.
pub own-seat : (h : List Entry) (rows : List SessionRow) (slot s i t : ℕ) → AreSeated h rows → seat_in rows slot ≡ Some s → seat_in rows i ≡ Some t →
    nat_eq slot i ≡ nat_eq s t
own-seat h rows slot s i t seats at there = elim (cases_eq slot i) [
  | inl same ↦ eq-eqb slot i same ∙ sym (eq-eqb s t (some-same s t (sym at ∙ ap (seat_in rows) same ∙ there)))
  | inr ne ↦ ne_eqb slot i ne ∙ sym (ne_eqb s t (λ same. ne (seats.once slot i s at (there ∙ ap Some (sym same)))))
]

pub rows-next : (r : Rules) (e : Entry) (h : List Entry) (slot : ℕ) (old next : List SessionRow) → AreSeated h old → seat_in old slot ≡ Some e.session → AreAfter slot e old next →
    ((i s : ℕ) → seat_in old i ≡ Some s → IsSessionRow r h s (row_at old i)) → (i s : ℕ) → seat_in next i ≡ Some s → IsSessionRow r (e ∷ h) s (row_at next i)
rows-next r e h slot old next seats at after rows i s there =
    let was : seat_in old i ≡ Some s = sym (seats-same slot e old next after i) ∙ there in
    subst (IsSessionRow r (e ∷ h) s) (sym (after.rows i (seat-low old i s was)))
    (row-next r e h s (nat_eq slot i) (row_at old i) (own-seat h old slot e.session i s seats at was) (rows i s was))

-- ---- Seats

pub seated-next : (e : Entry) (h : List Entry) (slot : ℕ) (old next : List SessionRow) → AreSeated h old → seat_in old slot ≡ Some e.session →
    ((i : ℕ) → seat_in next i ≡ seat_in old i) → AreSeated (e ∷ h) next
seated-next e h slot old next seats at same = record {
  once = λ i j s a b. seats.once i j s (sym (same i) ∙ a) (sym (same j) ∙ b);
  all = λ s has live.
      let was : is_over h s ≡ false = (or_parts (is_over h s) (cond (nat_eq e.session s) (is_last e.reply) (welcomes e (client_of h s))) live).0 in
      elim (or_cases (nat_eq e.session s) (has_entry h s) has) [
        | inl own ↦ (slot, same slot ∙ at ∙ ap Some (eqb-true e.session s own))
        | inr old' ↦ (let found = seats.all s old' was in (found.0, same found.0 ∙ found.1))
      ];
}

-- A slot where no session sits is another than one where one does.
free-seat : (rows : List SessionRow) (slot s i : ℕ) → seat_in rows slot ≡ Some s → seat_in rows i ≡ None → nat_eq slot i ≡ false
free-seat rows slot s i at free = ne_eqb slot i (λ same. (let no' : ◌≡◌ {A = Option ℕ} (Some s) None = sym at ∙ ap (seat_in rows) same ∙ free in cc))

-- What was sent to the session of a slot, after an entry.
pub sent-next : (e : Entry) (h : List Entry) (rows : List SessionRow) (slot i : ℕ) → AreSeated h rows → seat_in rows slot ≡ Some e.session →
    cond (nat_eq slot i) (sent_at h (seat_in rows i) ++ positions_in e.reply) (sent_at h (seat_in rows i)) ≡ sent_at (e ∷ h) (seat_in rows i)
sent-next e h rows slot i seats at = go (seat_in rows i) refl
  where
    go : (o : Option ℕ) → seat_in rows i ≡ o → cond (nat_eq slot i) (sent_at h o ++ positions_in e.reply) (sent_at h o) ≡ sent_at (e ∷ h) o
    go None free = ap (λ b. cond b (positions_in e.reply) []) (free-seat rows slot e.session i at free)
    go (Some t) there = ap (λ b. cond b (sent_to h t ++ positions_in e.reply) (sent_to h t)) (own-seat h rows slot e.session i t seats at there)

pub named-next : (e : Entry) (h : List Entry) (rows : List SessionRow) (slot i x : ℕ) → AreSeated h rows → seat_in rows slot ≡ Some e.session →
    cond (nat_eq slot i) (named_at h (seat_in rows i) x ++ named_in e.reply x) (named_at h (seat_in rows i) x) ≡ named_at (e ∷ h) (seat_in rows i) x
named-next e h rows slot i x seats at = go (seat_in rows i) refl
  where
    go : (o : Option ℕ) → seat_in rows i ≡ o → cond (nat_eq slot i) (named_at h o x ++ named_in e.reply x) (named_at h o x) ≡ named_at (e ∷ h) o x
    go None free = ap (λ b. cond b (named_in e.reply x) []) (free-seat rows slot e.session i at free)
    go (Some t) there = ap (λ b. cond b (named_to h t x ++ named_in e.reply x) (named_to h t x)) (own-seat h rows slot e.session i t seats at there)

-- What holds of all that was sent to a session holds of all that was sent to the session of a slot.
pub sent-all : (P : List ℕ → Type 0) (h : List Entry) (o : Option ℕ) → P [] → ((s : ℕ) → P (sent_to h s)) → P (sent_at h o)
sent-all P h None none some = none
sent-all P h (Some s) none some = some s

pub named-all : (P : (ℕ → List ℕ) → Type 0) (h : List Entry) (o : Option ℕ) → P (λ x. []) → ((s : ℕ) → P (named_to h s)) → P (named_at h o)
named-all P h None none some = none
named-all P h (Some s) none some = some s

-- ---- How many rows pass a test

pub count-same : (test : SessionRow → Bool) (old next : List SessionRow) → length next ≡ length old →
    ((i : ℕ) → i < length old → test (row_at next i) ≡ test (row_at old i)) → count_rows test next ≡ count_rows test old
count-same test [] [] n same = refl
count-same test [] (y ∷ ys) n same = absurd (omega (arith, n))
count-same test (x ∷ xs) [] n same = absurd (omega (arith, n))
count-same test (x ∷ xs) (y ∷ ys) n same =
    rw (same 0 (omega arith), count-same test xs ys (let e : length ys ≡ length xs = omega (arith, n) in e) (λ i low. same (suc i) (omega arith))) refl

-- One of them changes.
pub count-set : (test : SessionRow → Bool) (old next : List SessionRow) (slot : ℕ) → length next ≡ length old → slot < length old →
    ((i : ℕ) → i < length old → (slot ≡ i → ⊥) → test (row_at next i) ≡ test (row_at old i)) →
    count_rows test next + cond (test (row_at old slot)) 1 0 ≡ count_rows test old + cond (test (row_at next slot)) 1 0
count-set test [] next slot n low same = absurd (omega arith)
count-set test (x ∷ xs) [] slot n low same = absurd (omega (arith, n))
count-set test (x ∷ xs) (y ∷ ys) zero n low same =
    let rest = count-same test xs ys (let e : length ys ≡ length xs = omega (arith, n) in e) (λ i l. same (suc i) (omega arith) (λ q. omega arith)) in
    omega (arith, rest)
count-set test (x ∷ xs) (y ∷ ys) (suc k) n low same =
    let rest = count-set test xs ys k (let e : length ys ≡ length xs = omega (arith, n) in e) (omega arith) (λ i l ne. same (suc i) (omega arith) (λ q. ne (omega (arith, q)))) in
    let first : ◌≡◌ {A = ℕ} (cond (test y) 1 0) (cond (test x) 1 0) = ap (λ b. cond b 1 0) (same 0 (omega arith) (λ q. omega (arith, q))) in
    omega (arith, rest, first)

pub count-most : (test : SessionRow → Bool) (rows : List SessionRow) → count_rows test rows ≤ length rows
count-most test [] = omega arith
count-most test (x ∷ xs) = go (test x) (count-most test xs)
  where
    go : (b : Bool) → count_rows test xs ≤ length xs → cond b 1 0 + count_rows test xs ≤ length (x ∷ xs)
    go true rest = omega (arith, rest)
    go false rest = omega (arith, rest)

pub count-some : (test : SessionRow → Bool) (rows : List SessionRow) (slot : ℕ) → slot < length rows → test (row_at rows slot) ≡ true → 1 ≤ count_rows test rows
count-some test [] slot low passes = absurd (omega arith)
count-some test (x ∷ xs) zero low passes = rw passes (omega arith)
count-some test (x ∷ xs) (suc k) low passes = omega (arith, count-some test xs k (omega arith) passes)

pub count-push : (test : SessionRow → Bool) (rows : List SessionRow) (row : SessionRow) → count_rows test (rows ++ row ∷ []) ≡ count_rows test rows + cond (test row) 1 0
count-push test [] row = omega arith
count-push test (x ∷ xs) row = omega (arith, count-push test xs row)

pub count-drop : (test : SessionRow → Bool) (rows : List SessionRow) (i : ℕ) → i < length rows →
    count_rows test (drop i rows) ≡ cond (test (row_at rows i)) 1 0 + count_rows test (drop (i + 1) rows)
count-drop test rows i low = ap (count_rows test) (drop_more rows i no_session low)

pub count-all : (test : SessionRow → Bool) (rows : List SessionRow) → ((i : ℕ) → i < length rows → test (row_at rows i) ≡ true) → count_rows test rows ≡ length rows
count-all test [] all = refl
count-all test (x ∷ xs) all = rw (all 0 (omega arith), count-all test xs (λ i low. all (suc i) (omega arith))) (omega arith)

pub none-seated : (row : SessionRow) → is_seated row ≡ false → row.session ≡ None
none-seated row q = go row.session q
  where
    go : (o : Option ℕ) → is_some o ≡ false → ◌≡◌ {A = Option ℕ} o None
    go None q = refl
    go (Some s) q = cc

owes-same : (own : Bool) (e : Entry) (row : SessionRow) → is_end e.request ≡ false → owes_end (session_after own e row) ≡ owes_end row
owes-same own e row more = ap (λ b. is_some row.session && not ((own && b) || row.ended)) more ∙ ap (λ b. is_some row.session && not (b || row.ended)) (and_right own false refl)

pub owed-same : (slot : ℕ) (e : Entry) (old next : List SessionRow) → AreAfter slot e old next → is_end e.request ≡ false → count_rows owes_end next ≡ count_rows owes_end old
owed-same slot e old next after more =
    count-same owes_end old next after.count (λ i low. ap owes_end (after.rows i low) ∙ owes-same (nat_eq slot i) e (row_at old i) more)

pub seated-same : (slot : ℕ) (e : Entry) (old next : List SessionRow) → AreAfter slot e old next → count_rows is_seated next ≡ count_rows is_seated old
seated-same slot e old next after = count-same is_seated old next after.count (λ i low. ap is_seated (after.rows i low))

-- The End of a session that had none.
pub owed-end : (slot s : ℕ) (e : Entry) (old next : List SessionRow) → AreAfter slot e old next → is_end e.request ≡ true → seat_in old slot ≡ Some s → (row_at old slot).ended ≡ false →
    count_rows owes_end next + 1 ≡ count_rows owes_end old
owed-end slot s e old next after ends at first =
    let low : slot < length old = seat-low old slot s at in
    let before : owes_end (row_at old slot) ≡ true = rw (at, first) refl in
    let now : owes_end (row_at next slot) ≡ false = ap owes_end (after.rows slot low) ∙ rw (eq-eqb slot slot refl, ends, at) refl in
    let all = count-set owes_end old next slot after.count low (λ i l ne. ap owes_end (after.rows i l) ∙ rw (ne_eqb slot i ne) refl) in
    sym (ap (λ b. count_rows owes_end next + cond b 1 0) before) ∙ all ∙ ap (λ b. count_rows owes_end old + cond b 1 0) now ∙ (let z : count_rows owes_end old + 0 ≡ count_rows owes_end old = omega arith in z)
