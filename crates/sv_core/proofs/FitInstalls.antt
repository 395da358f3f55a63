-- A queue whose results are installed.
use Rattle.std.proofs.Common.{◌≡◌, ℕ, zero, suc, ◌+◌, ◌-◌, ◌<◌, ◌≤◌, Bool, true, false, ◌&&◌, ◌||◌, cond, nat_eq, nat_le, ◌⊎◌, inl, inr, List, [], ◌∷◌, ◌++◌, filter, length, get_or, Option, ℤ, is_some, unwrap_or, refl, sym, ◌∙◌, ap, subst, arith, add-one}
use Rattle.std.proofs.lemmas.Bool.{cases_eq, cases_Bool, eq-eqb, eqb-true, ne_eqb, cond-false, and_right, and_left, le-leb, lt-leb, leb-true, leb-false, or_left, or_right, or_cases, and_parts, cond_both, cases_lt}
use Rattle.std.proofs.lemmas.List.Folds.{list_any-append}
use Rattle.std.specs.List.{list_any}
use Rattle.sv_world.specs.declared.action.Action.{Action}
use Rattle.sv_world.specs.declared.world.Shape.{Shape}
use Rattle.sv_world.specs.declared.world.World.{World}
use Rattle.sv_world.specs.Control.{is_in, action_at, last_writer}
use Rattle.sv_world.specs.Sets.{write_set}
use Rattle.sv_eval.specs.Serial.{put_all}
use Rattle.sv_queue.specs.Pairs.{is_pair}
use Rattle.sv_queue.specs.Queue.{Queued, QueueView, entry_at, no_entry, given_by, ready, ready_installed, first_installed}
use Rattle.sv_queue.proofs.Installs.{installed-first, installed-none}
use Rattle.sv_queue.proofs.Members.{is_in-append, is_in-filtered}
use Rattle.sv_queue.proofs.PairSets.{is_pair-where}
use Rattle.sv_journal.specs.History.{Authored}
use Rattle.sv_core.specs.Fits.{actions_in, values_after, was_given, IsQueueEntry, QueueFits}
use Rattle.sv_core.proofs.FitPush.{authored-action}

any-same : (p q : ℕ → Bool) (xs : List ℕ) → ((k : ℕ) → is_in k xs ≡ true → p k ≡ q k) → list_any p xs ≡ list_any q xs
any-same p q [] same = refl
any-same p q (x ∷ xs) same =
    rw (same x (or_left (nat_eq x x) (is_in x xs) (eq-eqb x x refl)), any-same p q xs (λ k h. same k (or_right (nat_eq k x) (is_in k xs) h))) refl

pub any-none : (p : ℕ → Bool) (xs : List ℕ) → ((k : ℕ) → is_in k xs ≡ true → p k ≡ false) → list_any p xs ≡ false
any-none p [] none = refl
any-none p (x ∷ xs) none =
    rw (none x (or_left (nat_eq x x) (is_in x xs) (eq-eqb x x refl)), any-none p xs (λ k h. none k (or_right (nat_eq k x) (is_in k xs) h))) refl

-- Of the numbers that pass W, whether n, which does, is one.
any-is : (W T : ℕ → Bool) (n : ℕ) (xs : List ℕ) → W n ≡ true → ((q : ℕ) → T q ≡ nat_eq n q) → list_any T (filter W xs) ≡ is_in n xs
any-is W T n [] here is = refl
any-is W T n (x ∷ xs) here is = go (nat_eq n x) refl (W x) refl (any-is W T n xs here is)
  where
    go : (b : Bool) → nat_eq n x ≡ b → (d : Bool) → W x ≡ d → list_any T (filter W xs) ≡ is_in n xs → list_any T (cond d (x ∷ filter W xs) (filter W xs)) ≡ (b || is_in n xs)
    go b e true k ih = rw (is x, e, ih) refl
    go true e false k ih = let same : n ≡ x = eqb-true n x e in let not' : W n ≡ false = ap W same ∙ k in cc
    go false e false k ih = ih

between : (n q : ℕ) → (nat_le n q && nat_le q n) ≡ nat_eq n q
between n q = elim (cases_eq n q) [
  | inl e ↦ rw (le-leb n q (omega arith), le-leb q n (omega arith)) (sym (eq-eqb n q e))
  | inr ne ↦ go (cases_Bool (nat_le n q)) (cases_Bool (nat_le q n)) ne
]
  where
    go : (nat_le n q ≡ true) ⊎ (nat_le n q ≡ false) → (nat_le q n ≡ true) ⊎ (nat_le q n ≡ false) → (n ≡ q → ⊥) → (nat_le n q && nat_le q n) ≡ nat_eq n q
    go (inl a) (inl b) ne = absurd (ne (let x : n ≤ q = leb-true n q a in let y : q ≤ n = leb-true q n b in omega arith))
    go (inl a) (inr b) ne = and_right (nat_le n q) (nat_le q n) b ∙ sym (ne_eqb n q ne)
    go (inr a) b ne = and_left (nat_le n q) (nat_le q n) a ∙ sym (ne_eqb n q ne)

-- At the next commit an object that is written there is given where the position was sent, and other objects as before.
pub was_given-next : (acts : List Action) (sent named : List ℕ) (x c : ℕ) → ((q : ℕ) → is_in q named ≡ true → q ≤ c) →
    was_given acts sent named x (suc c) ≡ cond (is_in x (write_set (action_at acts (suc c)))) (is_in (suc c) sent) (was_given acts sent named x c)
was_given-next acts sent named x c early = go (W (suc c)) refl
  where
    W : ℕ → Bool
    W p = is_in x (write_set (action_at acts p))

    T : ℕ → ℕ → ℕ → Bool
    T w n q = nat_le w q && nat_le q n

    late : (w q : ℕ) → c < w → q ≤ c → T w (suc c) q ≡ false
    late w q high low = and_left (nat_le w q) (nat_le q (suc c)) (lt-leb w q (omega arith))

    one_more : (w q : ℕ) → (q ≡ suc c → ⊥) → T w (suc c) q ≡ T w c q
    one_more w q ne = ap (λ b. nat_le w q && b) (elim (cases_Bool (nat_le q c)) [
      | inl a ↦ (let low : q ≤ c = leb-true q c a in le-leb q (suc c) (omega arith) ∙ sym a)
      | inr a ↦ (let high : c < q = leb-false q c a in lt-leb q (suc c) (omega arith) ∙ sym a)
    ])

    unlike : (q : ℕ) → W (suc c) ≡ false → is_in q (named ++ filter W sent) ≡ true → q ≡ suc c → ⊥
    unlike q unwritten h same = elim (or_cases (is_in q named) (is_in q (filter W sent)) (sym (is_in-append q named (filter W sent)) ∙ h)) [
      | inl a ↦ (let low : q ≤ c = early q a in omega arith)
      | inr a ↦ (let both = and_parts (is_in q sent) (W q) (sym (is_in-filtered W q sent) ∙ a) in
          let at : W q ≡ true = both.1 in let not' : W q ≡ false = ap W same ∙ unwritten in cc)
    ]

    go : (b : Bool) → W (suc c) ≡ b → list_any (T (cond b (suc c) (last_writer acts x (suc c))) (suc c)) (named ++ filter W sent)
        ≡ cond b (is_in (suc c) sent) (was_given acts sent named x c)
    go true e =
        list_any-append (T (suc c) (suc c)) named (filter W sent)
        ∙ ap (λ b. b || list_any (T (suc c) (suc c)) (filter W sent)) (any-none (T (suc c) (suc c)) named (λ k h. late (suc c) k (omega arith) (early k h)))
        ∙ any-is W (T (suc c) (suc c)) (suc c) sent e (between (suc c))
    go false e = any-same (T (last_writer acts x (suc c)) (suc c)) (T (last_writer acts x (suc c)) c) (named ++ filter W sent) (λ q h. one_more (last_writer acts x (suc c)) q (unlike q e h))

abbrev pub view_by : Shape → ℕ → ℕ → List (List ℤ) → List Queued → List (ℕ × ℕ) → QueueView
view_by shape commit room committed entries given =
    record { shape = shape; commit = commit; room = room; committed = committed; entries = entries; given = given }

fits-first : (w : World) (A : List Authored) (R : ℕ → Option (List (List ℤ))) (S : ℕ → List ℕ) (N : ℕ → ℕ → List ℕ)
    (shape : Shape) (c room : ℕ) (committed : List (List ℤ)) (e : Queued) (es : List Queued) (given : List (ℕ × ℕ)) →
    ((t x q : ℕ) → is_in q (N t x) ≡ true → q ≤ c) → QueueFits w A R S N (view_by shape c room committed (e ∷ es) given) →
    QueueFits w A R S N (view_by shape (c + 1) room (put_all committed (write_set e.action) (unwrap_or e.result [])) es (given_by shape.objects given e))
fits-first w A R S N shape c room committed e es given early f = record {
  shape = f.shape;
  last = omega (arith, f.last);
  committed =
      ap (λ world. put_all world (write_set e.action) (unwrap_or e.result [])) f.committed
      ∙ ap (λ (a : Action). put_all (values_after w.values (actions_in A) R c) (write_set a) (unwrap_or e.result [])) action
      ∙ ap (λ o. put_all (values_after w.values (actions_in A) R c) (write_set (action_at (actions_in A) (suc c))) (unwrap_or o [])) here.result
      ∙ ap (values_after w.values (actions_in A) R) (sym (add-one c));
  entries = λ p low high. subst (IsQueueEntry A R S p) (ap (λ n. get_or (e ∷ es) n no_entry) (place p low)) (f.entries p (omega arith) high);
  given = λ x t low small.
      is_pair-where (λ y u. cond (is_in y (write_set e.action)) (is_in u e.marks) (is_pair y u given)) x t shape.objects (omega (arith, low, ap (λ (d : Shape). d.objects) f.shape)) small
      ∙ ap (λ b. cond (is_in x (write_set e.action)) b (is_pair x t given)) (here.marks t small)
      ∙ ap (cond (is_in x (write_set e.action)) (is_in (suc c) (S t))) (f.given x t low small)
      ∙ ap (λ (a : Action). cond (is_in x (write_set a)) (is_in (suc c) (S t)) (was_given (actions_in A) (S t) (N t x) x c)) action
      ∙ sym (was_given-next (actions_in A) (S t) (N t x) x c (early t x))
      ∙ ap (was_given (actions_in A) (S t) (N t x) x) (sym (add-one c));
}
  where
    first : entry_at (view_by shape c room committed (e ∷ es) given) (suc c) ≡ e
    first = ap (λ n. get_or (e ∷ es) n no_entry) (let zero' : suc c - c - 1 ≡ 0 = omega arith in zero')

    here : IsQueueEntry A R S (suc c) e
    here = subst (IsQueueEntry A R S (suc c)) first (f.entries (suc c) (omega arith) (omega (arith, f.last)))

    action : e.action ≡ action_at (actions_in A) (suc c)
    action = here.action ∙ authored-action A (suc c)

    place : (p : ℕ) → c + 1 < p → p - c - 1 ≡ suc (p - (c + 1) - 1)
    place p low = omega arith

pub fits-installed : (w : World) (A : List Authored) (R : ℕ → Option (List (List ℤ))) (S : ℕ → List ℕ) (N : ℕ → ℕ → List ℕ)
    (shape : Shape) (c room : ℕ) (committed : List (List ℤ)) (es : List Queued) (given : List (ℕ × ℕ)) →
    ((t x q : ℕ) → is_in q (N t x) ≡ true → q ≤ c) → QueueFits w A R S N (view_by shape c room committed es given) →
    QueueFits w A R S N (ready_installed (view_by shape c room committed es given))
fits-installed w A R S N shape c room committed [] given early f = subst (QueueFits w A R S N) (sym (installed-none (view_by shape c room committed [] given) refl)) f
fits-installed w A R S N shape c room committed (e ∷ es) given early f =
    go (is_some e.result) refl
    (fits-installed w A R S N shape (c + 1) room (put_all committed (write_set e.action) (unwrap_or e.result [])) es (given_by shape.objects given e)
    (λ t x q h. (let low : q ≤ c = early t x q h in omega arith)) (fits-first w A R S N shape c room committed e es given early f))
  where
    v : QueueView
    v = view_by shape c room committed (e ∷ es) given

    go : (b : Bool) → is_some e.result ≡ b → QueueFits w A R S N (ready_installed (first_installed v)) → QueueFits w A R S N (ready_installed v)
    go true q h = subst (QueueFits w A R S N) (installed-first shape c room committed e es given q) h
    go false q h = subst (QueueFits w A R S N) (sym (installed-none v (ap length (cond-false (is_some e.result) (e ∷ ready es) [] q)))) f

-- The new commit: all up to it have results, and the next position has none.
pub installed-commit : (w : World) (A : List Authored) (R : ℕ → Option (List (List ℤ))) (S : ℕ → List ℕ) (N : ℕ → ℕ → List ℕ)
    (shape : Shape) (c room : ℕ) (committed : List (List ℤ)) (es : List Queued) (given : List (ℕ × ℕ)) →
    ((p : ℕ) → 0 < p → p ≤ c → is_some (R p) ≡ true) → QueueFits w A R S N (view_by shape c room committed es given) →
    let n = (ready_installed (view_by shape c room committed es given)).commit in
    (c ≤ n) × ((n ≤ length A) × (((p : ℕ) → 0 < p → p ≤ n → is_some (R p) ≡ true) × (n < length A → is_some (R (suc n)) ≡ false)))
installed-commit w A R S N shape c room committed es given done f =
    (omega arith, (omega (arith, f.last, ready-most es), (passed, next)))
  where
    ready-most : (ds : List Queued) → length (ready ds) ≤ length ds
    ready-most [] = omega arith
    ready-most (d ∷ ds) = cond_both (is_some d.result) (d ∷ ready ds) [] (λ xs. length xs ≤ length (d ∷ ds))
        (λ q. omega (arith, ready-most ds)) (λ q. omega arith)

    ready-passes : (ds : List Queued) (k : ℕ) → k < length (ready ds) → is_some (get_or ds k no_entry).result ≡ true
    ready-passes [] k low = absurd (omega arith)
    ready-passes (d ∷ ds) k low = at k (is_some d.result) refl low (ready-passes ds)
      where
        at : (k : ℕ) (b : Bool) → is_some d.result ≡ b → k < length (cond b (d ∷ ready ds) []) →
            ((j : ℕ) → j < length (ready ds) → is_some (get_or ds j no_entry).result ≡ true) → is_some (get_or (d ∷ ds) k no_entry).result ≡ true
        at k false q l ih = absurd (omega arith)
        at zero true q l ih = q
        at (suc k) true q l ih = ih k (omega arith)

    ready-stops : (ds : List Queued) → length (ready ds) < length ds → is_some (get_or ds (length (ready ds)) no_entry).result ≡ false
    ready-stops [] low = absurd (omega arith)
    ready-stops (d ∷ ds) low = at (is_some d.result) refl low (ready-stops ds)
      where
        at : (b : Bool) → is_some d.result ≡ b → length (cond b (d ∷ ready ds) []) < length (d ∷ ds) →
            (length (ready ds) < length ds → is_some (get_or ds (length (ready ds)) no_entry).result ≡ false) →
            is_some (get_or (d ∷ ds) (length (cond b (d ∷ ready ds) [])) no_entry).result ≡ false
        at true q l ih = ih (omega arith)
        at false q l ih = q

    result : (k : ℕ) → k < length es → is_some (get_or es k no_entry).result ≡ is_some (R (suc (c + k)))
    result k low =
        ap (λ n. is_some (get_or es n no_entry).result) (let e : k ≡ suc (c + k) - c - 1 = omega arith in e)
        ∙ ap is_some (f.entries (suc (c + k)) (omega arith) (omega (arith, f.last))).result

    passed : (p : ℕ) → 0 < p → p ≤ c + length (ready es) → is_some (R p) ≡ true
    passed p low high = elim (cases_lt c p) [
      | inl l ↦ (let e : p ≡ suc (c + (p - c - 1)) = omega arith in
          let few = ready-most es in
          ap (λ n. is_some (R n)) e ∙ sym (result (p - c - 1) (omega arith)) ∙ ready-passes es (p - c - 1) (omega arith))
      | inr l ↦ done p low l
    ]

    next : c + length (ready es) < length A → is_some (R (suc (c + length (ready es)))) ≡ false
    next low = let short : length (ready es) < length es = omega (arith, f.last) in sym (result (length (ready es)) short) ∙ ready-stops es short
