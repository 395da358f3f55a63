-- A core's fields once a session takes a slot, and once one leaves it.
use Rattle.std.proofs.Common.{◌≡◌, ℕ, suc, ◌+◌, ◌-◌, ◌<◌, ◌≤◌, Bool, true, false, ◌&&◌, ◌||◌, not, cond, nat_eq, nat_le, inl, inr, List, [], ◌∷◌, ◌++◌, map, length, get_or, slice_set, Option, Some, None, is_some, option_map, ℤ, refl, sym, ◌∙◌, ap, subst, arith, length-append}
use Rattle.std.proofs.lemmas.Bool.{both_ways, cases_lt, cases_eq, eq-eqb, eqb-true, ne_eqb, and_right, or_parts, not_from_true, not_from_false}
use Rattle.std.proofs.lemmas.List.{length-map, get_or-set_same, get_or-set_other, get_or_push, get_or_append_left, get_or_past}
use Rattle.std.proofs.Math.ListN.{get_or-map}
use Rattle.std.specs.List.{list_any}
use mathlib.Core.Bool.{and-true}
use Rattle.sv_world.specs.Control.{is_in}
use Rattle.sv_world.specs.declared.world.World.{World}
use Rattle.sv_clients.specs.declared.clients.Clients.{Clients}
use Rattle.sv_journal.specs.declared.entry.Entry.{Entry}
use Rattle.sv_journal.specs.History.{Authored, either, is_welcome, joining, client_of, accepted, result_at}
use Rattle.sv_journal.specs.Sessions.{is_end, is_last, welcomes, is_over, is_ended, asked_in, positions_in, named_in, sent_to, named_to}
use Rattle.sv_journal.specs.Answer.{Rules}
use Rattle.sv_queue.specs.Pairs.{is_pair, pairs_but}
use Rattle.sv_queue.specs.Queue.{Queued, QueueView, entry_at, no_entry, place_of, unmarked, without_slot}
use Rattle.sv_queue.specs.Slots.{all_but}
use Rattle.sv_queue.proofs.Members.{is_in-filtered}
use Rattle.sv_core.specs.declared.sessions.SessionRow.{SessionRow}
use Rattle.sv_core.specs.Agreement.{sent_at, named_at, FitsSeats, AreSeated, Agrees}
use Rattle.sv_core.specs.Cores.{MayClose}
use Rattle.sv_core.specs.Fits.{was_given, actions_in, IsQueueEntry, QueueFits}
use Rattle.sv_core.specs.Rows.{row_at, seat_in, no_session, new_session, has_entry, is_seated, owes_end, count_rows, IsSessionRow}
use Rattle.sv_core.proofs.FitMarks.{fits-same}
use Rattle.sv_core.proofs.Seating.{seat-low, count-set}

-- ---- A session without an entry

no-client : (h : List Entry) (s : ℕ) → has_entry h s ≡ false → client_of h s ≡ None
no-client [] s none = refl
no-client (e ∷ h) s none =
    let both = or_parts (nat_eq e.session s) (has_entry h s) none in
    ap (λ o. either o (cond (nat_eq e.session s && is_welcome e.reply) (joining e.request) None)) (no-client h s both.1)
    ∙ ap (λ b. cond (b && is_welcome e.reply) (joining e.request) None) both.0

no-over : (h : List Entry) (s : ℕ) → has_entry h s ≡ false → is_over h s ≡ false
no-over [] s none = refl
no-over (e ∷ h) s none =
    let both = or_parts (nat_eq e.session s) (has_entry h s) none in
    ap (λ b. b || cond (nat_eq e.session s) (is_last e.reply) (welcomes e (client_of h s))) (no-over h s both.1)
    ∙ ap (λ b. cond b (is_last e.reply) (welcomes e (client_of h s))) both.0
    ∙ ap (welcomes e) (no-client h s both.1)

none-asked : (h : List Entry) (s : ℕ) → has_entry h s ≡ false → asked_in h s ≡ 0
none-asked [] s none = refl
none-asked (e ∷ h) s none =
    let both = or_parts (nat_eq e.session s) (has_entry h s) none in
    ap (λ b. cond (b && not (is_end e.request)) (suc (asked_in h s)) (asked_in h s)) both.0 ∙ none-asked h s both.1

no-end : (h : List Entry) (s : ℕ) → has_entry h s ≡ false → is_ended h s ≡ false
no-end [] s none = refl
no-end (e ∷ h) s none =
    let both = or_parts (nat_eq e.session s) (has_entry h s) none in
    ap (λ b. (b && is_end e.request) || is_ended h s) both.0 ∙ no-end h s both.1

none-sent : (h : List Entry) (s : ℕ) → has_entry h s ≡ false → sent_to h s ≡ []
none-sent [] s none = refl
none-sent (e ∷ h) s none =
    let both = or_parts (nat_eq e.session s) (has_entry h s) none in
    ap (λ b. cond b (sent_to h s ++ positions_in e.reply) (sent_to h s)) both.0 ∙ none-sent h s both.1

none-named : (h : List Entry) (s x : ℕ) → has_entry h s ≡ false → named_to h s x ≡ []
none-named [] s x none = refl
none-named (e ∷ h) s x none =
    let both = or_parts (nat_eq e.session s) (has_entry h s) none in
    ap (λ b. cond b (named_to h s x ++ named_in e.reply x) (named_to h s x)) both.0 ∙ none-named h s x both.1

new-row : (r : Rules) (h : List Entry) (s : ℕ) → has_entry h s ≡ false → IsSessionRow r h s (new_session r.requests s)
new-row r h s none = record {
  client = sym (no-client h s none);
  over = sym (no-over h s none);
  left = go r.requests ∙ sym (ap (λ n. option_map (λ m. m - n) r.requests) (none-asked h s none));
  ended = sym (no-end h s none);
}
  where
    go : (o : Option ℕ) → o ≡ option_map (λ m. m - 0) o
    go None = refl
    go (Some m) = ap Some (let e : m ≡ m - 0 = omega arith in e)

-- ---- A session takes a slot

-- The rows with one of them at a slot.
abbrev pub AreSet : ℕ → SessionRow → List SessionRow → List SessionRow → Type 0
AreSet slot row old next = (i : ℕ) → row_at next i ≡ cond (nat_eq slot i) row (row_at old i)

pub seat-set : (slot : ℕ) (row : SessionRow) (old next : List SessionRow) → AreSet slot row old next → (i : ℕ) → seat_in next i ≡ cond (nat_eq slot i) row.session (seat_in old i)
seat-set slot row old next are i = ap (λ (r : SessionRow). r.session) (are i) ∙ go (nat_eq slot i)
  where
    go : (b : Bool) → (cond b row (row_at old i)).session ≡ cond b row.session (seat_in old i)
    go true = refl
    go false = refl

pub set-rows : (rows : List SessionRow) (slot : ℕ) (row : SessionRow) → slot < length rows → AreSet slot row rows (slice_set rows slot row)
set-rows rows slot row low i = elim (cases_eq i slot) [
  | inl same ↦ subst (λ j. row_at (slice_set rows slot row) j ≡ cond (nat_eq slot j) row (row_at rows j)) (sym same)
      (get_or-set_same rows slot row no_session low ∙ sym (ap (λ b. cond b row (row_at rows slot)) (eq-eqb slot slot refl)))
  | inr ne ↦ get_or-set_other rows slot i row no_session ne ∙ sym (ap (λ b. cond b row (row_at rows i)) (ne_eqb slot i (λ q. ne (sym q))))
]

pub push-rows : (rows : List SessionRow) (row : SessionRow) → AreSet (length rows) row rows (rows ++ row ∷ [])
push-rows rows row i = elim (cases_eq i (length rows)) [
  | inl same ↦ get_or_push rows row no_session i (sym same) ∙ sym (ap (λ b. cond b row (row_at rows i)) (eq-eqb (length rows) i (sym same)))
  | inr ne ↦ elim (cases_lt i (length rows)) [
    | inl low ↦ get_or_append_left rows (row ∷ []) no_session i low ∙ sym (ap (λ b. cond b row (row_at rows i)) (ne_eqb (length rows) i (λ q. ne (sym q))))
    | inr high ↦ get_or_past (rows ++ row ∷ []) i no_session (let long = length-append rows (row ∷ []) in omega (arith, long, high, ne))
        ∙ sym (get_or_past rows i no_session high)
        ∙ sym (ap (λ b. cond b row (row_at rows i)) (ne_eqb (length rows) i (λ q. ne (sym q))))
  ]
]

-- How many rows pass a test once one is set.
set-count : (test : SessionRow → Bool) (old next : List SessionRow) (slot : ℕ) (row : SessionRow) → AreSet slot row old next → length next ≡ length old → slot < length old →
    count_rows test next + cond (test (row_at old slot)) 1 0 ≡ count_rows test old + cond (test row) 1 0
set-count test old next slot row are count low =
    count-set test old next slot count low (λ i l ne. ap test (are i ∙ ap (λ b. cond b row (row_at old i)) (ne_eqb slot i ne)))
    ∙ ap (λ r. count_rows test old + cond (test r) 1 0) (are slot ∙ ap (λ b. cond b row (row_at old slot)) (eq-eqb slot slot refl))

pub seated-in : (requests : Option ℕ) (old next : List SessionRow) (slot s : ℕ) → seat_in old slot ≡ None → AreSet slot (new_session requests s) old next → length next ≡ length old →
    slot < length old → count_rows is_seated next ≡ count_rows is_seated old + 1
seated-in requests old next slot s free are count low =
    let all = set-count is_seated old next slot (new_session requests s) are count low in
    let none : ◌≡◌ {A = ℕ} (cond (is_seated (row_at old slot)) 1 0) 0 = ap (λ o. cond (is_some o) 1 0) free in
    omega (arith, all, none)

pub owed-in : (requests : Option ℕ) (old next : List SessionRow) (slot s : ℕ) → seat_in old slot ≡ None → AreSet slot (new_session requests s) old next → length next ≡ length old →
    slot < length old → count_rows owes_end next ≡ count_rows owes_end old + 1
owed-in requests old next slot s free are count low =
    let all = set-count owes_end old next slot (new_session requests s) are count low in
    let none : ◌≡◌ {A = ℕ} (cond (owes_end (row_at old slot)) 1 0) 0 = ap (λ o. cond (is_some o && not (row_at old slot).ended) 1 0) free in
    omega (arith, all, none)

pub seated-out : (old next : List SessionRow) (slot s : ℕ) → seat_in old slot ≡ Some s → AreSet slot no_session old next → length next ≡ length old →
    count_rows is_seated next + 1 ≡ count_rows is_seated old
seated-out old next slot s at are count =
    let all = set-count is_seated old next slot no_session are count (seat-low old slot s at) in
    let one : ◌≡◌ {A = ℕ} (cond (is_seated (row_at old slot)) 1 0) 1 = ap (λ o. cond (is_some o) 1 0) at in
    omega (arith, all, one)

pub owed-out : (old next : List SessionRow) (slot s : ℕ) (ended : Bool) → seat_in old slot ≡ Some s → (row_at old slot).ended ≡ ended → AreSet slot no_session old next →
    length next ≡ length old → cond ended (count_rows owes_end old) (count_rows owes_end old - 1) ≡ count_rows owes_end next
owed-out old next slot s ended at is are count = go ended here
  where
    all : count_rows owes_end next + cond (owes_end (row_at old slot)) 1 0 ≡ count_rows owes_end old + 0
    all = set-count owes_end old next slot no_session are count (seat-low old slot s at)

    here : ◌≡◌ {A = ℕ} (cond (owes_end (row_at old slot)) 1 0) (cond (not ended) 1 0)
    here = ap (λ o. cond (is_some o && not (row_at old slot).ended) 1 0) at ∙ ap (λ b. cond (not b) 1 0) is

    go : (b : Bool) → ◌≡◌ {A = ℕ} (cond (owes_end (row_at old slot)) 1 0) (cond (not b) 1 0) → cond b (count_rows owes_end old) (count_rows owes_end old - 1) ≡ count_rows owes_end next
    go true q = omega (arith, all, q)
    go false q = omega (arith, all, q)

-- Room makes no difference.
fits-room : (w : World) (A : List Authored) (R : ℕ → Option (List (List ℤ))) (S : ℕ → List ℕ) (N : ℕ → ℕ → List ℕ) (v : QueueView) (n : ℕ) →
    QueueFits w A R S N v → QueueFits w A R S N (record v { room = n })
fits-room w A R S N v n f = record { shape = f.shape; last = f.last; committed = f.committed; entries = f.entries; given = f.given }

module _ (r : Rules) (h : List Entry) (v : QueueView) (old : List SessionRow) (clients : Clients) (owed : ℕ) (a : Agrees r h v old clients owed) where
  pub agree-taken : (next : List SessionRow) (slot s n left : ℕ) → has_entry h s ≡ false → ((i : ℕ) → seat_in old i ≡ Some s → ⊥) → seat_in old slot ≡ None →
      AreSet slot (new_session r.requests s) old next → length next ≤ 1024 → length next ≤ n → left ≡ count_rows owes_end next →
      Agrees r h (record v { room = n }) next clients left
  agree-taken next slot s n left none unseated free are few enough ends = record {
    sound = a.sound;
    positions = a.positions;
    few = few;
    room = enough;
    fits = fits-same r.world (accepted h) (result_at h) (result_at h) (λ i. sent_at h (seat_in old i)) (λ i. sent_at h (seat_in next i))
        (λ i. named_at h (seat_in old i)) (λ i. named_at h (seat_in next i)) (record v { room = n }) (λ p some. refl)
        (λ i. sent i (nat_eq slot i) refl ∙ ap (sent_at h) (sym (seats i))) (λ i x. named i x (nat_eq slot i) refl ∙ ap (λ o. named_at h o x) (sym (seats i)))
        (fits-room r.world (accepted h) (result_at h) (λ i. sent_at h (seat_in old i)) (λ i. named_at h (seat_in old i)) v n a.fits);
    commit = a.commit;
    seats = record {
      once = λ i j t at there. once i j t (nat_eq slot i) refl (nat_eq slot j) refl (sym (seats i) ∙ at) (sym (seats j) ∙ there);
      all = λ t has live. (let found = a.seats.all t has live in
          (found.0, seats found.0 ∙ other found.0 t (nat_eq slot found.0) refl found.1));
    };
    session_rows = λ i t at. row i t (nat_eq slot i) refl (sym (seats i) ∙ at);
    client_rows = a.client_rows;
    ends = ends;
  }
    where
      seats : (i : ℕ) → seat_in next i ≡ cond (nat_eq slot i) (Some s) (seat_in old i)
      seats = seat-set slot (new_session r.requests s) old next are

      here : (i : ℕ) → nat_eq slot i ≡ true → seat_in old i ≡ None
      here i q = ap (seat_in old) (sym (eqb-true slot i q)) ∙ free

      sent : (i : ℕ) (b : Bool) → nat_eq slot i ≡ b → sent_at h (seat_in old i) ≡ sent_at h (cond b (Some s) (seat_in old i))
      sent i true q = ap (sent_at h) (here i q) ∙ sym (none-sent h s none)
      sent i false q = refl

      named : (i x : ℕ) (b : Bool) → nat_eq slot i ≡ b → named_at h (seat_in old i) x ≡ named_at h (cond b (Some s) (seat_in old i)) x
      named i x true q = ap (λ o. named_at h o x) (here i q) ∙ sym (none-named h s x none)
      named i x false q = refl

      some-same : (m n : ℕ) → ◌≡◌ {A = Option ℕ} (Some m) (Some n) → m ≡ n
      some-same m n q = cc

      once : (i j t : ℕ) (b : Bool) → nat_eq slot i ≡ b → (d : Bool) → nat_eq slot j ≡ d →
          cond b (Some s) (seat_in old i) ≡ Some t → cond d (Some s) (seat_in old j) ≡ Some t → i ≡ j
      once i j t true q true u at there = sym (eqb-true slot i q) ∙ eqb-true slot j u
      once i j t true q false u at there = absurd (unseated j (there ∙ sym at))
      once i j t false q true u at there = absurd (unseated i (at ∙ sym there))
      once i j t false q false u at there = a.seats.once i j t at there

      other : (i t : ℕ) (b : Bool) → nat_eq slot i ≡ b → seat_in old i ≡ Some t → cond b (Some s) (seat_in old i) ≡ Some t
      other i t true q at = (let no' : ◌≡◌ {A = Option ℕ} None (Some t) = sym (here i q) ∙ at in cc)
      other i t false q at = at

      row : (i t : ℕ) (b : Bool) → nat_eq slot i ≡ b → cond b (Some s) (seat_in old i) ≡ Some t → IsSessionRow r h t (row_at next i)
      row i t true q at = subst (IsSessionRow r h t) (sym (are i ∙ ap (λ b. cond b (new_session r.requests s) (row_at old i)) q))
          (subst (λ m. IsSessionRow r h m (new_session r.requests s)) (some-same s t at) (new-row r h s none))
      row i t false q at = subst (IsSessionRow r h t) (sym (are i ∙ ap (λ b. cond b (new_session r.requests s) (row_at old i)) q)) (a.session_rows i t at)

-- More room in the queue changes nothing.
pub agree-room : (r : Rules) (h : List Entry) (v : QueueView) (rows : List SessionRow) (clients : Clients) (owed n : ℕ) → Agrees r h v rows clients owed → length rows ≤ n →
    Agrees r h (record v { room = n }) rows clients owed
agree-room r h v rows clients owed n a enough = record {
  sound = a.sound;
  positions = a.positions;
  few = a.few;
  room = enough;
  fits = fits-room r.world (accepted h) (result_at h) (λ i. sent_at h (seat_in rows i)) (λ i. named_at h (seat_in rows i)) v n a.fits;
  commit = a.commit;
  seats = a.seats;
  session_rows = a.session_rows;
  client_rows = a.client_rows;
  ends = a.ends;
}

-- ---- A session leaves its slot

forgotten-pair : (x t slot : ℕ) (ps : List (ℕ × ℕ)) → is_pair x t (pairs_but slot ps) ≡ (is_pair x t ps && not (nat_eq t slot))
forgotten-pair x t slot [] = refl
forgotten-pair x t slot (p ∷ ps) = go (nat_eq p.1 slot) refl (forgotten-pair x t slot ps)
  where
    go : (b : Bool) → nat_eq p.1 slot ≡ b → is_pair x t (pairs_but slot ps) ≡ (is_pair x t ps && not (nat_eq t slot)) → is_pair x t (cond (not b) (p ∷ pairs_but slot ps) (pairs_but slot ps)) ≡ (((nat_eq x p.0 && nat_eq t p.1) || is_pair x t ps) && not (nat_eq t slot))
    go true q rest = rest ∙ gone (nat_eq t p.1) refl
      where
        gone : (c : Bool) → nat_eq t p.1 ≡ c → (is_pair x t ps && not (nat_eq t slot)) ≡ (((nat_eq x p.0 && c) || is_pair x t ps) && not (nat_eq t slot))
        gone true u = (let same : nat_eq t slot ≡ true = eq-eqb t slot (eqb-true t p.1 u ∙ eqb-true p.1 slot q) in
            ap (λ d. is_pair x t ps && not d) same ∙ and_right (is_pair x t ps) false refl
            ∙ sym (ap (λ d. ((nat_eq x p.0 && true) || is_pair x t ps) && not d) same ∙ and_right ((nat_eq x p.0 && true) || is_pair x t ps) false refl))
        gone false u = ap (λ d. (d || is_pair x t ps) && not (nat_eq t slot)) (sym (and_right (nat_eq x p.0) false refl))
    go false q rest = ap (λ d. (nat_eq x p.0 && nat_eq t p.1) || d) rest ∙ still (nat_eq t p.1) refl
      where
        still : (c : Bool) → nat_eq t p.1 ≡ c → ((nat_eq x p.0 && c) || (is_pair x t ps && not (nat_eq t slot))) ≡ (((nat_eq x p.0 && c) || is_pair x t ps) && not (nat_eq t slot))
        still true u = (let same : nat_eq t slot ≡ false = ap (λ n. nat_eq n slot) (eqb-true t p.1 u) ∙ q in
            ap (λ d. (nat_eq x p.0 && true) || (is_pair x t ps && not d)) same
            ∙ ap (λ d. (nat_eq x p.0 && true) || d) (and-true (is_pair x t ps))
            ∙ sym (ap (λ d. ((nat_eq x p.0 && true) || is_pair x t ps) && not d) same ∙ and-true ((nat_eq x p.0 && true) || is_pair x t ps)))
        still false u = ap (λ d. d || (is_pair x t ps && not (nat_eq t slot))) (and_right (nat_eq x p.0) false refl)
            ∙ ap (λ d. (d || is_pair x t ps) && not (nat_eq t slot)) (sym (and_right (nat_eq x p.0) false refl))

nat_eq_swap : (m n : ℕ) → nat_eq m n ≡ nat_eq n m
nat_eq_swap m n = elim (cases_eq m n) [ inl e ↦ eq-eqb m n e ∙ sym (eq-eqb n m (sym e)) | inr ne ↦ ne_eqb m n ne ∙ sym (ne_eqb n m (λ e. ne (sym e))) ]

entry-without : (v : QueueView) (slot p : ℕ) → entry_at (without_slot v slot) p ≡ unmarked slot (entry_at v p)
entry-without v slot p = get_or-map (unmarked slot) v.entries (place_of v p) no_entry

abbrev sent_but : ℕ → (ℕ → List ℕ) → ℕ → List ℕ
sent_but slot S t = cond (nat_eq slot t) [] (S t)

abbrev named_but : ℕ → (ℕ → ℕ → List ℕ) → ℕ → ℕ → List ℕ
named_but slot N t x = cond (nat_eq slot t) [] (N t x)

fits-forgotten : (w : World) (A : List Authored) (R : ℕ → Option (List (List ℤ))) (S : ℕ → List ℕ) (N : ℕ → ℕ → List ℕ) (v : QueueView) (slot : ℕ) →
    QueueFits w A R S N v → QueueFits w A R (sent_but slot S) (named_but slot N) (without_slot v slot)
fits-forgotten w A R S N v slot f = record {
  shape = f.shape;
  last = ap (λ n. v.commit + n) (length-map v.entries (unmarked slot)) ∙ f.last;
  committed = f.committed;
  entries = λ p low high. subst (IsQueueEntry A R (sent_but slot S) p) (sym (entry-without v slot p)) (entry p (entry_at v p) (f.entries p low high));
  given = λ x t low small. forgotten-pair x t slot v.given ∙ ap (λ b. is_pair x t v.given && not b) (nat_eq_swap t slot)
      ∙ ap (λ b. b && not (nat_eq slot t)) (f.given x t low small) ∙ gave (nat_eq slot t) x t;
}
  where
    gave : (b : Bool) (x t : ℕ) → (was_given (actions_in A) (S t) (N t x) x v.commit && not b) ≡ was_given (actions_in A) (cond b [] (S t)) (cond b [] (N t x)) x v.commit
    gave true x t = and_right (was_given (actions_in A) (S t) (N t x) x v.commit) false refl
    gave false x t = and-true (was_given (actions_in A) (S t) (N t x) x v.commit)

    marked : (b : Bool) (p t : ℕ) → (is_in p (S t) && not b) ≡ is_in p (cond b [] (S t))
    marked true p t = and_right (is_in p (S t)) false refl
    marked false p t = and-true (is_in p (S t))

    entry : (p : ℕ) (q : Queued) → IsQueueEntry A R S p q → IsQueueEntry A R (sent_but slot S) p (unmarked slot q)
    entry p q e = record {
      author = e.author;
      seq = e.seq;
      action = e.action;
      result = e.result;
      marks = λ t small. is_in-filtered (λ u. not (nat_eq u slot)) t q.marks ∙ ap (λ b. is_in t q.marks && not b) (nat_eq_swap t slot)
          ∙ ap (λ b. b && not (nat_eq slot t)) (e.marks t small) ∙ marked (nat_eq slot t) p t;
    }

module _ (r : Rules) (h : List Entry) (v : QueueView) (old : List SessionRow) (clients : Clients) (owed : ℕ) (a : Agrees r h v old clients owed) where
  pub agree-left : (next : List SessionRow) (slot s left : ℕ) → seat_in old slot ≡ Some s → MayClose h s → AreSet slot no_session old next → length next ≡ length old →
      left ≡ count_rows owes_end next → Agrees r h (without_slot v slot) next clients left
  agree-left next slot s left at may are count ends = record {
    sound = a.sound;
    positions = a.positions;
    few = omega (arith, a.few, count);
    room = omega (arith, a.room, count);
    fits = fits-same r.world (accepted h) (result_at h) (result_at h) (sent_but slot (λ i. sent_at h (seat_in old i))) (λ i. sent_at h (seat_in next i))
        (named_but slot (λ i. named_at h (seat_in old i))) (λ i. named_at h (seat_in next i)) (without_slot v slot) (λ p some. refl)
        (λ i. sent i (nat_eq slot i) ∙ ap (sent_at h) (sym (seats i))) (λ i x. named i x (nat_eq slot i) ∙ ap (λ o. named_at h o x) (sym (seats i)))
        (fits-forgotten r.world (accepted h) (result_at h) (λ i. sent_at h (seat_in old i)) (λ i. named_at h (seat_in old i)) v slot a.fits);
    commit = a.commit;
    seats = record {
      once = λ i j t here there. a.seats.once i j t (was i t (nat_eq slot i) (sym (seats i) ∙ here)) (was j t (nat_eq slot j) (sym (seats j) ∙ there));
      all = λ t has live. (let found = a.seats.all t has live in
          (found.0, seats found.0 ∙ still found.0 t has live (nat_eq slot found.0) refl found.1));
    };
    session_rows = λ i t here. row i t (nat_eq slot i) refl (sym (seats i) ∙ here);
    client_rows = a.client_rows;
    ends = ends;
  }
    where
      seats : (i : ℕ) → seat_in next i ≡ cond (nat_eq slot i) None (seat_in old i)
      seats = seat-set slot no_session old next are

      sent : (i : ℕ) (b : Bool) → cond b [] (sent_at h (seat_in old i)) ≡ sent_at h (cond b None (seat_in old i))
      sent i true = refl
      sent i false = refl

      named : (i x : ℕ) (b : Bool) → cond b [] (named_at h (seat_in old i) x) ≡ named_at h (cond b None (seat_in old i)) x
      named i x true = refl
      named i x false = refl

      was : (i t : ℕ) (b : Bool) → cond b None (seat_in old i) ≡ Some t → seat_in old i ≡ Some t
      was i t true q = cc
      was i t false q = q

      some-same : (m n : ℕ) → ◌≡◌ {A = Option ℕ} (Some m) (Some n) → m ≡ n
      some-same m n q = cc

      still : (i t : ℕ) → has_entry h t ≡ true → is_over h t ≡ false → (b : Bool) → nat_eq slot i ≡ b → seat_in old i ≡ Some t → cond b None (seat_in old i) ≡ Some t
      still i t has live true q here =
          let same : s ≡ t = some-same s t (sym at ∙ ap (seat_in old) (eqb-true slot i q) ∙ here) in
          absurd (both_ways (is_over h t) live (a.sound.ended t (subst (λ m. is_ended h m ≡ true) same (may (subst (λ m. has_entry h m ≡ true) (sym same) has)))))
      still i t has live false q here = here

      row : (i t : ℕ) (b : Bool) → nat_eq slot i ≡ b → cond b None (seat_in old i) ≡ Some t → IsSessionRow r h t (row_at next i)
      row i t true q here = cc
      row i t false q here = subst (IsSessionRow r h t) (sym (are i ∙ ap (λ b. cond b no_session (row_at old i)) q)) (a.session_rows i t here)
