-- Rows of reports, one of which is changed.
use Rattle.std.proofs.Common.{◌≡◌, ℕ, zero, suc, ◌<◌, ◌≤◌, Bool, true, false, not, ◌&&◌, ◌==◌, nat_lt, is_none, reverse, filter, option_to_list, All, inl, inr, List, [], ◌∷◌, ◌++◌, map, length, get_or, set, ℤ, Option, Some, None, refl, sym, ap, ◌∙◌, subst, arith}
use Rattle.std.specs.Prelude.{if◌then◌else◌}
use Rattle.std.specs.List.{list_any, AllByRecursion}
use Rattle.std.proofs.lemmas.Bool.{cases_lt, cases_eq, cond-true, cond-false, eq-eqb, ne_eqb, and_parts, ltb-true}
use Rattle.std.proofs.lemmas.List.{get_or_past, get_or-set_same, get_or-set_other}
use Rattle.std.proofs.lemmas.List.Elements.{All-from_recursion, recursion_from_All}
use Rattle.std.proofs.lemmas.Option.{none-some}
use Rattle.sv_world.specs.Faults.{is_ascending}
use Rattle.sv_wire.specs.declared.message.Done1.{Done1}
use Rattle.sv_queue.specs.Queue.{QueueView, IsUncommitted, last_position, entry_at}
use Rattle.sv_journal.specs.History.{reported}
use Rattle.sv_witness.specs.declared.report.Report.{Report}
use Rattle.sv_witness.specs.declared.report.Dispute.{Dispute}
use Rattle.sv_witness.specs.Reports.{is_by}
use Rattle.sv_witness.specs.Disputes.{dispute_in}
use Rattle.sv_witness.specs.Kept.{RowView, no_row, kept_at, HasRoomFor, AreOnce, report_by, counts_as_report, counted_results, with_values, agrees, brings, agreed_results, new_disputes}

-- An empty row at the end is as none.
pub grown : (xs : List RowView) (p : ℕ) → get_or (xs ++ no_row ∷ []) p no_row ≡ get_or xs p no_row
grown [] zero = refl
grown [] (suc p) = refl
grown (x ∷ xs) zero = refl
grown (x ∷ xs) (suc p) = grown xs p

pub room-within : (rows : List RowView) (p : ℕ) → HasRoomFor rows p → p < length rows
room-within rows p room = elim (cases_lt p (length rows)) [
  | inl low ↦ low
  | inr high ↦
      (let none : (get_or rows p no_row).spare ≡ 0 = ap (λ (r : RowView). r.spare) (get_or_past rows p no_row high) in
      let some' : 0 < (get_or rows p no_row).spare = room in
      absurd (omega arith))
]

-- ---- One row changed

module _ (rows : List RowView) (place : ℕ) (was now : RowView) (low : place < length rows) (is : was ≡ get_or rows place no_row) where
  at_place : get_or (set rows place now) place no_row ≡ now
  at_place = get_or-set_same rows place now no_row low

  pub set-others : (p : ℕ) → (p ≡ place → ⊥) → get_or (set rows place now) p no_row ≡ get_or rows p no_row
  set-others p ne = get_or-set_other rows place p now no_row ne

  pub set-kept : now.reports ≡ was.reports → (p : ℕ) → kept_at (set rows place now) p ≡ kept_at rows p
  set-kept same p = elim (cases_eq p place) [
    | inl e ↦
        ap (λ n. kept_at (set rows place now) n) e ∙ ap (λ (r : RowView). r.reports) at_place ∙ same
        ∙ ap (λ (r : RowView). r.reports) is ∙ ap (λ n. kept_at rows n) (sym e)
    | inr ne ↦ ap (λ (r : RowView). r.reports) (set-others p ne)
  ]

  pub set-room : was.spare ≤ now.spare → (p : ℕ) → HasRoomFor rows p → HasRoomFor (set rows place now) p
  set-room more p room = elim (cases_eq p place) [
    | inl e ↦
        (let had : 0 < was.spare = subst (λ (r : RowView). 0 < r.spare) (sym is) (subst (λ n. HasRoomFor rows n) e room) in
        let has : 0 < now.spare = omega arith in
        subst (λ n. HasRoomFor (set rows place now) n) (sym e) (subst (λ (r : RowView). 0 < r.spare) (sym at_place) has))
    | inr ne ↦ subst (λ (r : RowView). 0 < r.spare) (sym (set-others p ne)) room
  ]

  pub set-has : 0 < now.spare → HasRoomFor (set rows place now) place
  set-has has = subst (λ (r : RowView). 0 < r.spare) (sym at_place) has

  pub set-added : (r : Report) → now.reports ≡ r ∷ was.reports → kept_at (set rows place now) place ≡ r ∷ kept_at rows place
  set-added r more = ap (λ (row : RowView). row.reports) at_place ∙ more ∙ ap (λ (row : RowView). r ∷ row.reports) is

-- ---- Results of different positions

pub unreported : (p : ℕ) (d : Done1) (ds : List Done1) → reported p (d ∷ ds) ≡ None → (d.pos ≡ p → ⊥) × (reported p ds ≡ None)
unreported p d ds none = elim (cases_eq d.pos p) [
  | inl e ↦ absurd (none-some d.values (sym none ∙ cond-true (d.pos == p) (Some d.values) (reported p ds) (eq-eqb d.pos p e)))
  | inr ne ↦ (ne, sym (cond-false (d.pos == p) (Some d.values) (reported p ds) (ne_eqb d.pos p ne)) ∙ none)
]

-- Positions that ascend are different.
later-none : (p : ℕ) (d : Done1) (ds : List Done1) → p ≤ d.pos → is_ascending (map (λ (x : Done1). x.pos) (d ∷ ds)) ≡ true → reported p ds ≡ None
later-none p d [] low a = refl
later-none p d (x ∷ xs) low a =
    let both = and_parts (nat_lt d.pos x.pos) (is_ascending (map (λ (y : Done1). y.pos) (x ∷ xs))) a in
    let above : d.pos < x.pos = ltb-true d.pos x.pos both.0 in
    cond-false (x.pos == p) (Some x.values) (reported p xs) (ne_eqb x.pos p (λ same. omega arith)) ∙ later-none p x xs (omega arith) both.1

ascending-rest : (d : Done1) (ds : List Done1) → is_ascending (map (λ (x : Done1). x.pos) (d ∷ ds)) ≡ true → is_ascending (map (λ (x : Done1). x.pos) ds) ≡ true
ascending-rest d [] a = refl
ascending-rest d (x ∷ xs) a = (and_parts (nat_lt d.pos x.pos) (is_ascending (map (λ (y : Done1). y.pos) (x ∷ xs))) a).1

pub ascending-once : (ds : List Done1) → is_ascending (map (λ (x : Done1). x.pos) ds) ≡ true → AreOnce ds
ascending-once [] a = tt
ascending-once (d ∷ ds) a = (later-none d.pos d ds (omega arith) a, ascending-once ds (ascending-rest d ds a))

pub once-first : (d : Done1) (all rest : List Done1) → all ≡ d ∷ rest → AreOnce all → (reported d.pos rest ≡ None) × AreOnce rest
once-first d all rest is once = subst AreOnce is once

pub each-first : (P : Done1 → Type 0) (d : Done1) (all rest : List Done1) → all ≡ d ∷ rest → AllByRecursion P all → P d × AllByRecursion P rest
each-first P d all rest is each = subst (λ (ds : List Done1). AllByRecursion P ds) is each

abbrev pub AreOthersSame : ℕ → List RowView → List RowView → Type 0
AreOthersSame place old new = (p : ℕ) → (p ≡ place → ⊥) → get_or new p no_row ≡ get_or old p no_row

-- A position that has one report more has room no longer, but the others do.
pub room-others : (old new : List RowView) (place : ℕ) → AreOthersSame place old new → (ds : List Done1) → reported place ds ≡ None →
    AllByRecursion (λ (d : Done1). HasRoomFor old d.pos) ds → AllByRecursion (λ (d : Done1). HasRoomFor new d.pos) ds
room-others old new place others [] none each = tt
room-others old new place others (d ∷ ds) none each =
    let apart = unreported place d ds none in
    (subst (λ (r : RowView). 0 < r.spare) (sym (others d.pos apart.0)) each.0, room-others old new place others ds apart.1 each.1)

-- The reports with those of some results are the reports with the first result, and then with the rest.
pub values-next : (old new : List RowView) (k : ℕ) (d : Done1) (ds : List Done1) → reported d.pos ds ≡ None →
    kept_at new d.pos ≡ report_by k d.values ∷ kept_at old d.pos → AreOthersSame d.pos old new →
    (p : ℕ) → with_values k (reported p ds) (kept_at new p) ≡ with_values k (reported p (d ∷ ds)) (kept_at old p)
values-next old new k d ds once added others p = elim (cases_eq d.pos p) [
  | inl e ↦ subst (λ n. with_values k (reported n ds) (kept_at new n) ≡ with_values k (reported n (d ∷ ds)) (kept_at old n)) e here
  | inr ne ↦
      ap (λ (r : RowView). with_values k (reported p ds) r.reports) (others p (λ same. ne (sym same)))
      ∙ ap (λ (o : Option (List (List ℤ))). with_values k o (kept_at old p)) (sym (cond-false (d.pos == p) (Some d.values) (reported p ds) (ne_eqb d.pos p ne)))
]
  where
    here : with_values k (reported d.pos ds) (kept_at new d.pos) ≡ with_values k (reported d.pos (d ∷ ds)) (kept_at old d.pos)
    here =
        ap (λ (o : Option (List (List ℤ))). with_values k o (kept_at new d.pos)) once ∙ added
        ∙ ap (λ (o : Option (List (List ℤ))). with_values k o (kept_at old d.pos)) (sym (cond-true (d.pos == d.pos) (Some d.values) (reported d.pos ds) (eq-eqb d.pos d.pos refl)))

-- The results that count are of positions that are not committed.
pub counted-uncommitted : (v : QueueView) (rows : List RowView) (k : ℕ) (results : List Done1) → All (λ (d : Done1). d.pos ≤ last_position v) results →
    All (λ (d : Done1). IsUncommitted v d.pos) (counted_results v.commit rows k results)
counted-uncommitted v rows k results low = All-from_recursion (λ (d : Done1). IsUncommitted v d.pos) (counted_results v.commit rows k results)
    (go results (recursion_from_All (λ (d : Done1). d.pos ≤ last_position v) results low))
  where
    go : (ds : List Done1) → AllByRecursion (λ (d : Done1). d.pos ≤ last_position v) ds → AllByRecursion (λ (d : Done1). IsUncommitted v d.pos) (counted_results v.commit rows k ds)
    go [] low = tt
    go (d ∷ ds) low = one (counts_as_report v.commit rows k d.pos) refl (go ds low.1)
      where
        one : (b : Bool) → counts_as_report v.commit rows k d.pos ≡ b → AllByRecursion (λ (x : Done1). IsUncommitted v x.pos) (counted_results v.commit rows k ds) →
            AllByRecursion (λ (x : Done1). IsUncommitted v x.pos) (if b then d ∷ counted_results v.commit rows k ds else counted_results v.commit rows k ds)
        one true counted rest =
            let both = and_parts (nat_lt v.commit d.pos) (not (list_any (is_by k) (kept_at rows d.pos))) counted in
            ((ltb-true v.commit d.pos both.0, low.0), rest)
        one false counted rest = rest

-- ---- Rows that have the same reports

abbrev pub AreSame : List RowView → List RowView → Type 0
AreSame rows new = (p : ℕ) → kept_at new p ≡ kept_at rows p

filter-same : (P Q : Done1 → Bool) (ds : List Done1) → ((d : Done1) → P d ≡ Q d) → filter P ds ≡ filter Q ds
filter-same P Q [] same = refl
filter-same P Q (d ∷ ds) same =
    ap (λ (b : Bool). if b then d ∷ filter P ds else filter P ds) (same d) ∙ ap (λ (l : List Done1). if Q d then d ∷ l else l) (filter-same P Q ds same)

pub same-counted : (rows new : List RowView) → AreSame rows new → (c k : ℕ) (ds : List Done1) → counted_results c new k ds ≡ counted_results c rows k ds
same-counted rows new same c k ds =
    filter-same (λ (d : Done1). counts_as_report c new k d.pos) (λ (d : Done1). counts_as_report c rows k d.pos) ds
    (λ d. ap (λ (rs : List Report). nat_lt c d.pos && not (list_any (is_by k) rs)) (same d.pos))

pub same-agreed : (rows new : List RowView) → AreSame rows new → (v : QueueView) (ds : List Done1) → agreed_results v new ds ≡ agreed_results v rows ds
same-agreed rows new same v ds =
    filter-same (brings v new) (brings v rows) ds (λ d. ap (λ (rs : List Report). is_none (entry_at v d.pos).result && agrees rs d.values) (same d.pos))

pub same-disputes : (rows new : List RowView) → AreSame rows new → (k : ℕ) (ds : List Done1) → new_disputes new k ds ≡ new_disputes rows k ds
same-disputes rows new same k [] = refl
same-disputes rows new same k (d ∷ ds) =
    ap (λ (rs : List Report). option_to_list (dispute_in d.pos (reverse rs) (report_by k d.values)) ++ new_disputes new k ds) (same d.pos)
    ∙ ap (λ (xs : List Dispute). option_to_list (dispute_in d.pos (reverse (kept_at rows d.pos)) (report_by k d.values)) ++ xs) (same-disputes rows new same k ds)
