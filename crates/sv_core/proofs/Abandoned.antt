-- Abandoned positions by the queue and the rows of sessions, against those of the history.
use Rattle.std.proofs.Common.{◌≡◌, ℕ, zero, suc, ◌<◌, ◌≤◌, Bool, true, false, ◌&&◌, ◌||◌, not, cond, nat_eq, nat_lt, inl, inr, List, [], ◌∷◌, ◌++◌, filter, length, Option, Some, None, is_none, is_some, refl, sym, ◌∙◌, ap, arith}
use Rattle.std.proofs.lemmas.Bool.{cases_Bool, cases_eq, cond_both, and_parts, and_from, or_cases, or_left, or_right, not_from_false, not-true, both_ways, eq-eqb, eqb-true, ltb-true}
use Rattle.std.proofs.lemmas.List.Elements.{filter-append}
use Rattle.std.proofs.lemmas.List.Folds.{list_all-append}
use Rattle.std.specs.List.{list_all}
use Rattle.sv_world.specs.Control.{is_in, below}
use Rattle.sv_world.proofs.Bases.{below-is_in}
use Rattle.sv_world.proofs.Members.{is_in-append_cases, is_in-append_left, is_in-append_right, same_test, filter-ext}
use Rattle.sv_journal.specs.declared.entry.Entry.{Entry}
use Rattle.sv_journal.specs.History.{accepted, result_at, commit_of}
use Rattle.sv_journal.specs.Sessions.{is_over, positions_in, sent_to}
use Rattle.sv_journal.specs.Answer.{Rules, is_abandoned, orphans}
use Rattle.sv_queue.specs.Queue.{QueueView, entry_at, sent_positions}
use Rattle.sv_clients.specs.declared.clients.Clients.{Clients}
use Rattle.sv_core.specs.declared.sessions.SessionRow.{SessionRow}
use Rattle.sv_core.specs.Agreement.{sent_at, Agrees}
use Rattle.sv_core.specs.Orphans.{is_live_row, is_abandoned_in, is_orphan_in, orphans_in}
use Rattle.sv_core.specs.Rows.{row_at, seat_in, has_entry}
use Rattle.sv_core.proofs.AgreeSteps.{sent_seats, named_seats, sent-within}
use Rattle.sv_core.proofs.FitRelays.{sent-is}
use Rattle.sv_core.proofs.Seating.{seat-low}

-- ---- All numbers below another

pub all-below-at : (T : ℕ → Bool) (n s : ℕ) → list_all T (below n) ≡ true → s < n → T s ≡ true
all-below-at T zero s h low = absurd (omega arith)
all-below-at T (suc n) s h low =
    let both = and_parts (list_all T (below n)) (list_all T (n ∷ [])) (sym (list_all-append T (below n) (n ∷ [])) ∙ h) in
    elim (cases_eq s n) [
      | inl same ↦ ap T same ∙ (and_parts (T n) true both.1).0
      | inr ne ↦ all-below-at T n s both.0 (omega arith)
    ]

pub all-below-from : (T : ℕ → Bool) (n : ℕ) → ((s : ℕ) → s < n → T s ≡ true) → list_all T (below n) ≡ true
all-below-from T zero h = refl
all-below-from T (suc n) h = list_all-append T (below n) (n ∷ [])
    ∙ and_from (list_all T (below n)) (list_all T (n ∷ [])) (all-below-from T n (λ s low. h s (omega arith))) (and_from (T n) true (h n (omega arith)) refl)

-- ---- The first number that passes a test

pub none-below : (T : ℕ → Bool) (n : ℕ) → ((p : ℕ) → p < n → T p ≡ false) → filter T (below n) ≡ []
none-below T zero h = refl
none-below T (suc n) h = filter-append T (below n) (n ∷ []) ∙ rw (none-below T n (λ p low. h p (omega arith)), h n (omega arith)) refl

pub first-below : (T : ℕ → Bool) (n p : ℕ) → p < n → T p ≡ true → ((q : ℕ) → q < p → T q ≡ false) → (rest : List ℕ) × (filter T (below n) ≡ p ∷ rest)
first-below T zero p low here before = absurd (omega arith)
first-below T (suc n) p low here before = elim (cases_eq p n) [
  | inl same ↦ ([], filter-append T (below n) (n ∷ []) ∙ rw (none-below T n (λ q l. before q (omega arith)), ap T (sym same) ∙ here) (ap (λ m. m ∷ []) (sym same)))
  | inr ne ↦ (let found = first-below T n p (omega arith) here before in
      (found.0 ++ filter T (n ∷ []), filter-append T (below n) (n ∷ []) ∙ ap (λ xs. xs ++ filter T (n ∷ [])) found.1))
]

-- ---- Abandoned positions

sent-over : (O : ℕ → Bool) (p : ℕ) (g : List Entry) → list_all (λ (e : Entry). not (is_in p (positions_in e.reply)) || O e.session) g ≡ true →
    (s : ℕ) → is_in p (sent_to g s) ≡ true → O s ≡ true
sent-over O p [] h s m = cc
sent-over O p (e ∷ g) h s m =
    let both = and_parts (not (is_in p (positions_in e.reply)) || O e.session) (list_all (λ (o : Entry). not (is_in p (positions_in o.reply)) || O o.session) g) h in
    go (nat_eq e.session s) refl both.0 m (sent-over O p g both.1 s)
  where
    go : (b : Bool) → nat_eq e.session s ≡ b → (not (is_in p (positions_in e.reply)) || O e.session) ≡ true →
        is_in p (cond b (sent_to g s ++ positions_in e.reply) (sent_to g s)) ≡ true → (is_in p (sent_to g s) ≡ true → O s ≡ true) → O s ≡ true
    go false q here k ih = ih k
    go true q here k ih = elim (is_in-append_cases p (sent_to g s) (positions_in e.reply) k) [
      | inl old ↦ ih old
      | inr now ↦ elim (or_cases (not (is_in p (positions_in e.reply))) (O e.session) here) [
        | inl none ↦ absurd (both_ways (is_in p (positions_in e.reply)) (not-true (is_in p (positions_in e.reply)) none) now)
        | inr over ↦ ap O (sym (eqb-true e.session s q)) ∙ over
      ]
    ]

over-sent : (O : ℕ → Bool) (p : ℕ) (g : List Entry) → ((s : ℕ) → is_in p (sent_to g s) ≡ true → O s ≡ true) →
    list_all (λ (e : Entry). not (is_in p (positions_in e.reply)) || O e.session) g ≡ true
over-sent O p [] h = refl
over-sent O p (e ∷ g) h =
    and_from (not (is_in p (positions_in e.reply)) || O e.session) (list_all (λ (o : Entry). not (is_in p (positions_in o.reply)) || O o.session) g)
    (elim (cases_Bool (is_in p (positions_in e.reply))) [
      | inl now ↦ or_right (not (is_in p (positions_in e.reply))) (O e.session) (h e.session (mine now))
      | inr none ↦ or_left (not (is_in p (positions_in e.reply))) (O e.session) (not_from_false (is_in p (positions_in e.reply)) none)
    ])
    (over-sent O p g (λ s m. h s (older s m)))
  where
    mine : is_in p (positions_in e.reply) ≡ true → is_in p (sent_to (e ∷ g) e.session) ≡ true
    mine now = rw (eq-eqb e.session e.session refl) (is_in-append_right p (sent_to g e.session) (positions_in e.reply) now)

    older : (s : ℕ) → is_in p (sent_to g s) ≡ true → is_in p (sent_to (e ∷ g) s) ≡ true
    older s m = cond_both (nat_eq e.session s) (sent_to g s ++ positions_in e.reply) (sent_to g s) (λ xs. is_in p xs ≡ true)
        (λ q. is_in-append_left p (sent_to g s) (positions_in e.reply) m) (λ q. m)

sent-has : (p : ℕ) (g : List Entry) (s : ℕ) → is_in p (sent_to g s) ≡ true → has_entry g s ≡ true
sent-has p [] s m = cc
sent-has p (e ∷ g) s m = go (nat_eq e.session s) m (sent-has p g s)
  where
    go : (b : Bool) → is_in p (cond b (sent_to g s ++ positions_in e.reply) (sent_to g s)) ≡ true → (is_in p (sent_to g s) ≡ true → has_entry g s ≡ true) → (b || has_entry g s) ≡ true
    go true k ih = refl
    go false k ih = ih k

module _ (r : Rules) (h : List Entry) (v : QueueView) (rows : List SessionRow) (clients : Clients) (owed : ℕ) (a : Agrees r h v rows clients owed) where
  -- A session was sent a position where its slot is marked.
  marked : (slot s p : ℕ) → seat_in rows slot ≡ Some s → v.commit < p → is_in p (sent_positions v slot) ≡ is_in p (sent_to h s)
  marked slot s p at low =
      sent-is r.world (accepted h) (result_at h) (sent_seats h rows) (named_seats h rows) v a.fits (sent-within r h rows a.sound) slot p
      (omega (arith, seat-low rows slot s at, a.few)) low
      ∙ ap (λ o. is_in p (sent_at h o)) at

  abbrev test : ℕ → ℕ → Bool
  test p slot = not (is_live_row (row_at rows slot)) || not (is_in p (sent_positions v slot))

  live-row : (slot s : ℕ) → seat_in rows slot ≡ Some s → is_live_row (row_at rows slot) ≡ not (is_over h s)
  live-row slot s at = ap (λ o. is_some o && not (row_at rows slot).over) at ∙ ap not (a.session_rows slot s at).over

  there : (p : ℕ) → v.commit < p → is_abandoned_in v rows p ≡ true → is_abandoned h p ≡ true
  there p low q = over-sent (is_over h) p h (λ s m. elim (cases_Bool (is_over h s)) [
    | inl over ↦ over
    | inr not-over ↦
        let found = a.seats.all s (sent-has p h s m) not-over in
        let at : seat_in rows found.0 ≡ Some s = found.1 in
        elim (or_cases (not (is_live_row (row_at rows found.0))) (not (is_in p (sent_positions v found.0)))
        (all-below-at (test p) (length rows) found.0 q (seat-low rows found.0 s at))) [
          | inl gone ↦ absurd (both_ways (is_live_row (row_at rows found.0)) (not-true (is_live_row (row_at rows found.0)) gone)
              (live-row found.0 s at ∙ not_from_false (is_over h s) not-over))
          | inr none ↦ absurd (both_ways (is_in p (sent_positions v found.0)) (not-true (is_in p (sent_positions v found.0)) none) (marked found.0 s p at low ∙ m))
        ]
  ])

  free : (p slot : ℕ) (o : Option ℕ) → seat_in rows slot ≡ o → v.commit < p → is_abandoned h p ≡ true → test p slot ≡ true
  free p slot None at low q =
      or_left (not (is_live_row (row_at rows slot))) (not (is_in p (sent_positions v slot))) (ap (λ o. not (is_some o && not (row_at rows slot).over)) at)
  free p slot (Some s) at low q = elim (cases_Bool (is_in p (sent_to h s))) [
    | inl m ↦ or_left (not (is_live_row (row_at rows slot))) (not (is_in p (sent_positions v slot)))
        (ap not (live-row slot s at) ∙ ap (λ b. not (not b)) (sent-over (is_over h) p h q s m))
    | inr none ↦ or_right (not (is_live_row (row_at rows slot))) (not (is_in p (sent_positions v slot)))
        (not_from_false (is_in p (sent_positions v slot)) (marked slot s p at low ∙ none))
  ]

  pub abandoned-is : (p : ℕ) → v.commit < p → is_abandoned_in v rows p ≡ is_abandoned h p
  abandoned-is p low = same_test (is_abandoned_in v rows p) (is_abandoned h p) (there p low)
      (λ q. all-below-from (test p) (length rows) (λ slot l. free p slot (seat_in rows slot) refl low q))

  pub orphans-are : orphans_in v rows ≡ orphans h
  orphans-are =
      ap (λ n. filter (is_orphan_in v rows) (below (suc n))) a.fits.last
      ∙ filter-ext (is_orphan_in v rows) (λ p. nat_lt (commit_of h) p && is_none (result_at h p) && is_abandoned h p) (below (suc (length (accepted h))))
      (λ p m. (let high : p < suc (length (accepted h)) = below-is_in (suc (length (accepted h))) p m in
      go p (omega arith) (nat_lt v.commit p) refl ∙ ap (λ c. nat_lt c p && is_none (result_at h p) && is_abandoned h p) a.commit))
    where
      go : (p : ℕ) → p ≤ length (accepted h) → (b : Bool) → nat_lt v.commit p ≡ b →
          (b && is_none (entry_at v p).result && is_abandoned_in v rows p) ≡ (b && is_none (result_at h p) && is_abandoned h p)
      go p high true q = (let low : v.commit < p = ltb-true v.commit p q in rw ((a.fits.entries p low high).result, abandoned-is p low) refl)
      go p high false q = refl
