-- What installing makes of the pairs given, and of the queue.
use Rattle.std.proofs.Common.{◌≡◌, ℕ, suc, ◌+◌, ◌<◌, Bool, true, false, ◌&&◌, ◌||◌, cond, nat_eq, List, [], ◌∷◌, length, set, get_or, replicate, ◌⊎◌, inl, inr, ℤ, Some, is_some, refl, sym, ◌∙◌, ap, arith}
use Rattle.std.proofs.lemmas.Bool.{cases_eq, eq-eqb, ne_eqb, cond-true}
use Rattle.std.proofs.lemmas.List.{get_or-set_same, get_or-set_other, get_or-replicate, nil_from_length}
use Rattle.sv_world.specs.declared.world.Shape.{Shape}
use Rattle.sv_world.specs.Control.{is_in}
use Rattle.sv_world.specs.Sets.{write_set}
use Rattle.sv_eval.specs.Serial.{put_all}
use Rattle.sv_queue.specs.Pairs.{is_pair, pairs_of, with_pair}
use Rattle.sv_queue.specs.Queue.{Queued, QueueView, ready, ready_installed, first_installed, with_committed, given_by}
use Rattle.sv_queue.specs.Slots.{with_slot}
use Rattle.sv_queue.specs.Written.{IsChangedAt}
use Rattle.sv_queue.proofs.PairSets.{is_pair-where, pairs_where-ext, pairs_where-none}
use Rattle.sv_queue.proofs.SlotSets.{in_slots}

in_row : (n : ℕ) (rows : List (List ℕ)) (x s : ℕ) → x < n → s < 1024 → is_pair x s (pairs_of n rows) ≡ is_in s (get_or rows x [])
in_row n rows x s low small = is_pair-where (λ x s. is_in s (get_or rows x [])) x s n low small

-- A row with one session more.
pub pairs_of-add : (n : ℕ) (rows : List (List ℕ)) (x s : ℕ) (row : List ℕ) → length rows ≡ n → x < n → row ≡ with_slot s (get_or rows x []) →
    pairs_of n (set rows x row) ≡ with_pair n x s (pairs_of n rows)
pairs_of-add n rows x s row count low made = pairs_where-ext _ _ n (λ y t small below. rw (in_row n rows y t small below) (go y t below (cases_eq y x)))
  where
    within : x < length rows
    within = omega (arith, count)

    go : (y t : ℕ) → t < 1024 → (y ≡ x) ⊎ (y ≡ x → ⊥) → is_in t (get_or (set rows x row) y []) ≡ ((nat_eq y x && nat_eq t s) || is_in t (get_or rows y []))
    go y t below (inl e) = rw (e, eq-eqb x x refl, get_or-set_same rows x row [] within, made) (in_slots (λ u. nat_eq u s || is_in u (get_or rows x [])) t below)
    go y t below (inr ne) = rw (ne_eqb y x ne, get_or-set_other rows x y row [] ne) refl

-- The rows of the written objects replaced.
pub pairs_of-give : (n : ℕ) (rows next : List (List ℕ)) (e : Queued) → length rows ≡ n → IsChangedAt [] (λ _. e.marks) (write_set e.action) rows next →
    pairs_of n next ≡ given_by n (pairs_of n rows) e
pairs_of-give n rows next e count h = pairs_where-ext _ _ n (λ x s low below.
    rw (in_row n rows x s low below, h.elements x (omega (arith, count))) (go x s (is_in x (write_set e.action))))
  where
    go : (x s : ℕ) (b : Bool) → is_in s (cond b e.marks (get_or rows x [])) ≡ cond b (is_in s e.marks) (is_in s (get_or rows x []))
    go x s true = refl
    go x s false = refl

pub pairs_of-none : (n : ℕ) → pairs_of n (replicate n []) ≡ []
pairs_of-none n = pairs_where-ext (λ x s. is_in s (get_or (replicate n []) x [])) (λ _ _. false) n (λ x s low below. rw (get_or-replicate {A = List ℕ} n x [] [] low) refl) ∙ pairs_where-none n

-- Installing the first entry and then the others is installing all.
pub installed-first : (shape : Shape) (commit room : ℕ) (committed : List (List ℤ)) (e : Queued) (es : List Queued) (given : List (ℕ × ℕ)) → is_some e.result ≡ true →
    let v : QueueView = record { shape = shape; commit = commit; room = room; committed = committed; entries = e ∷ es; given = given } in
    ready_installed (first_installed v) ≡ ready_installed v
installed-first shape commit room committed e es given h =
    ap with_count count ∙ ap (with_committed v) (sym (cond-true (is_some e.result) (e ∷ ready es) [] h))
  where
    v : QueueView
    v = record { shape = shape; commit = commit; room = room; committed = committed; entries = e ∷ es; given = given }

    with_count : ℕ → QueueView
    with_count n = record (with_committed v (e ∷ ready es)) { commit = n }

    count : commit + 1 + length (ready es) ≡ commit + suc (length (ready es))
    count = omega arith

pub installed-none : (v : QueueView) → length (ready v.entries) ≡ 0 → ready_installed v ≡ v
installed-none v h = ap (with_committed v) (nil_from_length (ready v.entries) h) ∙ ap (λ n. record v { commit = n }) add_zero
  where
    add_zero : v.commit + 0 ≡ v.commit
    add_zero = omega arith

-- A first entry is ready where some entries are.
pub ready_first : (e : Queued) (es : List Queued) → 0 < length (ready (e ∷ es)) → is_some e.result ≡ true
ready_first e es h = go (is_some e.result) h
  where
    go : (b : Bool) → 0 < length (cond b (e ∷ ready es) []) → b ≡ true
    go true g = refl
    go false g = absurd (omega arith)

pub first_installed_is : (shape : Shape) (commit room : ℕ) (committed values : List (List ℤ)) (es rest : List Queued) (e : Queued) (given : List (ℕ × ℕ)) →
    es ≡ e ∷ rest → e.result ≡ Some values →
    first_installed (record { shape = shape; commit = commit; room = room; committed = committed; entries = es; given = given })
    ≡ record { shape = shape; commit = commit + 1; room = room; committed = put_all committed (write_set e.action) values; entries = rest; given = given_by shape.objects given e }
first_installed_is shape commit room committed values es rest e given q is = rw (q, is) refl
