-- The versions of one object: what is found, put and pruned, by the number of them up to a position.
use Rattle.std.proofs.Common.{◌≡◌, ℕ, zero, suc, ◌+◌, ◌-◌, ◌<◌, ◌≤◌, eqb, ltb, leb, List, [], ◌∷◌, length, get_or, take, Some, None, option_map, refl, sym, ap, ◌∙◌, arith}
use Rattle.std.specs.List.{filter, count_by}
use Rattle.std.proofs.lemmas.Bool.{cond-true, cond-false, eq-eqb, lt-ltb, le-ltb, le-leb, lt-leb}
use Rattle.std.proofs.lemmas.List.{get_or_default, take_all, length-take-le, length-map}
use Rattle.std.proofs.lemmas.List.Sums.{length-filter}
use Rattle.sv_versions.specs.declared.history.Version.{Version}
use Rattle.sv_versions.specs.Held.{Held, versions_of, later_of, newest, found_below, read_below, latest, count_up_to}
use Rattle.sv_versions.specs.Histories.{AscendsFrom, IsCountUpTo, as_held, tagged}
use Rattle.sv_versions.proofs.Lists.{filter_front, filter_map_is}

pub at_least : (low : ℕ) (vs : List Version) (k : ℕ) (d : Version) → AscendsFrom low vs → k < length vs → low ≤ (get_or vs k d).pos
at_least low [] k d a h = absurd (omega arith)
at_least low (v ∷ vs) zero d a h = a.0
at_least low (v ∷ vs) (suc k) d a h = omega (arith, at_least (v.pos + 1) vs k d a.1 (omega arith), a.0)

pub ordered : (low : ℕ) (vs : List Version) (i j : ℕ) (d : Version) → AscendsFrom low vs → i < j → j < length vs → (get_or vs i d).pos < (get_or vs j d).pos
ordered low [] i j d a h l = absurd (omega arith)
ordered low (v ∷ vs) i zero d a h l = absurd (omega arith)
ordered low (v ∷ vs) zero (suc j) d a h l = omega (arith, at_least (v.pos + 1) vs j d a.1 (omega arith))
ordered low (v ∷ vs) (suc i) (suc j) d a h l = ordered (v.pos + 1) vs i j d a.1 (omega arith) (omega arith)

pub not_after : (low : ℕ) (vs : List Version) (i j : ℕ) (d : Version) → AscendsFrom low vs → i ≤ j → j < length vs → (get_or vs i d).pos ≤ (get_or vs j d).pos
not_after low [] i j d a h l = absurd (omega arith)
not_after low (v ∷ vs) zero zero d a h l = omega arith
not_after low (v ∷ vs) (suc i) zero d a h l = absurd (omega arith)
not_after low (v ∷ vs) zero (suc j) d a h l = omega (arith, at_least (v.pos + 1) vs j d a.1 (omega arith))
not_after low (v ∷ vs) (suc i) (suc j) d a h l = not_after (v.pos + 1) vs i j d a.1 (omega arith) (omega arith)

-- the number is right where the last one counted stands at or below the position, and none of the others does
pub count_from : (pos : ℕ) (vs : List Version) (count : ℕ) (e : Version) → AscendsFrom 0 vs → count ≤ length vs → (0 < count → (get_or vs (count - 1) e).pos ≤ pos) → ((k : ℕ) (d : Version) → count ≤ k → k < length vs → pos < (get_or vs k d).pos) → IsCountUpTo pos vs count
count_from pos vs count e a within last high = record {
  within = within;
  low = λ k d h. let near : (get_or vs k d).pos ≤ (get_or vs (count - 1) d).pos = not_after 0 vs k (count - 1) d a (omega arith) (omega arith) in
      let same : get_or vs (count - 1) d ≡ get_or vs (count - 1) e = get_or_default vs (count - 1) d e (omega arith) in
      omega (arith, near, ap (λ (v : Version). v.pos) same, last (omega arith));
  high = high;
}

pub own : (x : ℕ) (vs : List Version) → versions_of x (tagged x vs) ≡ tagged x vs
own x [] = refl
own x (v ∷ vs) = cond-true (eqb x x) _ _ (eq-eqb x x refl) ∙ ap (λ hs. as_held x v ∷ hs) (own x vs)

pub greatest_front : (low : ℕ) (vs : List Version) (n x : ℕ) (d : Version) → AscendsFrom low vs → n < length vs → newest (tagged x (take (suc n) vs)) ≡ Some (as_held x (get_or vs n d))
greatest_front low [] n x d a h = absurd (omega arith)
greatest_front low (v ∷ vs) zero x d a h = refl
greatest_front low (v ∷ vs) (suc n) x d a h =
    let w = get_or vs n d in
    let apart : v.pos ≤ w.pos = omega (arith, at_least (v.pos + 1) vs n d a.1 (omega arith)) in
    ap (λ o. Some (later_of (as_held x v) o)) (greatest_front (v.pos + 1) vs n x d a.1 (omega arith))
    ∙ ap (λ h. Some h) (cond-false (ltb w.pos v.pos) (as_held x v) (as_held x w) (le-ltb w.pos v.pos apart))

pub below_is : (x pos count : ℕ) (vs : List Version) → 0 < pos → IsCountUpTo (pos - 1) vs count → filter (λ h. ltb h.pos pos) (versions_of x (tagged x vs)) ≡ tagged x (take count vs)
below_is x pos count vs h c =
    ap (λ hs. filter (λ h. ltb h.pos pos) hs) (own x vs)
    ∙ filter_map_is (as_held x) (λ h. ltb h.pos pos) vs
    ∙ ap (λ ws. tagged x ws) (filter_front (λ v. ltb v.pos pos) vs count
    (λ k d l w. lt-ltb _ pos (omega (arith, c.low k d l)))
    (λ k d l w. le-ltb _ pos (omega (arith, c.high k d l w))))

pub found_below_last : (x pos count : ℕ) (vs : List Version) (d : Version) → 0 < pos → 0 < count → AscendsFrom 0 vs → IsCountUpTo (pos - 1) vs count → found_below (tagged x vs) x pos ≡ Some (as_held x (get_or vs (count - 1) d))
found_below_last x pos zero vs d h n a c = absurd (omega arith)
found_below_last x pos (suc count) vs d h n a c =
    let e : suc count - 1 ≡ count = omega arith in
    rw e (ap newest (below_is x pos (suc count) vs h c) ∙ greatest_front 0 vs count x d a (omega (arith, c.within)))

pub found_below_none : (x pos : ℕ) (vs : List Version) → 0 < pos → IsCountUpTo (pos - 1) vs 0 → found_below (tagged x vs) x pos ≡ None
found_below_none x pos vs h c = ap newest (below_is x pos 0 vs h c)

nothing_below_zero : (hs : List Held) → filter (λ h. ltb h.pos 0) hs ≡ []
nothing_below_zero [] = refl
nothing_below_zero (h ∷ hs) = cond-false (ltb h.pos 0) _ _ (le-ltb h.pos 0 (omega arith)) ∙ nothing_below_zero hs

pub found_below_zero : (x : ℕ) (hs : List Held) → found_below hs x 0 ≡ None
found_below_zero x hs = ap newest (nothing_below_zero (versions_of x hs))

pub read_last : (x pos count : ℕ) (vs : List Version) (w : Version) → (0 < count) → 0 < pos → AscendsFrom 0 vs → IsCountUpTo (pos - 1) vs count → w ≡ get_or vs (count - 1) w → Some w.value ≡ read_below (tagged x vs) x pos
read_last x pos count vs w n h a c e =
    ap (λ (v : Version). Some v.value) e ∙ sym (ap (λ o. option_map (λ (h : Held). h.value) o) (found_below_last x pos count vs w h n a c))

pub read_none : (x pos count : ℕ) (vs : List Version) → count ≡ 0 → 0 < pos → IsCountUpTo (pos - 1) vs count → None ≡ read_below (tagged x vs) x pos
read_none x pos zero vs z h c = sym (ap (λ o. option_map (λ (h : Held). h.value) o) (found_below_none x pos vs h c))
read_none x pos (suc count) vs z h c = absurd (omega arith)

pub read_zero : (x pos : ℕ) (vs : List Version) → pos ≡ 0 → None ≡ read_below (tagged x vs) x pos
read_zero x zero vs z = sym (ap (λ o. option_map (λ (h : Held). h.value) o) (found_below_zero x (tagged x vs)))
read_zero x (suc pos) vs z = absurd (omega arith)

pub latest_last : (x count : ℕ) (vs : List Version) (w : Version) → 0 < count → length vs ≡ count → AscendsFrom 0 vs → w ≡ get_or vs (count - 1) w → Some w.value ≡ latest (tagged x vs) x
latest_last x zero vs w n l a e = absurd (omega arith)
latest_last x (suc count) vs w n l a e =
    let one : suc count - 1 ≡ count = omega arith in
    let whole : take (suc count) vs ≡ vs = take_all (suc count) vs (omega arith) in
    let front : newest (tagged x (take (suc count) vs)) ≡ Some (as_held x (get_or vs count w)) = greatest_front 0 vs count x w a (omega arith) in
    let here : w ≡ get_or vs count w = rw one at e in
    ap (λ (v : Version). Some v.value) here
    ∙ sym (ap (λ o. option_map (λ (h : Held). h.value) o) (ap newest (own x vs ∙ ap (λ ws. tagged x ws) (sym whole)) ∙ front))

pub latest_none : (x : ℕ) (vs : List Version) → length vs ≡ 0 → None ≡ latest (tagged x vs) x
latest_none x [] z = refl
latest_none x (v ∷ vs) z = absurd (omega arith)

pub counted : (x pos count : ℕ) (vs : List Version) → IsCountUpTo pos vs count → count ≡ count_up_to (tagged x vs) x pos
counted x pos count vs c =
    let kept : filter (λ h. leb h.pos pos) (tagged x vs) ≡ tagged x (take count vs) =
    filter_map_is (as_held x) (λ h. leb h.pos pos) vs
    ∙ ap (λ ws. tagged x ws) (filter_front (λ v. leb v.pos pos) vs count
    (λ k d l w. le-leb _ pos (c.low k d l)) (λ k d l w. lt-leb _ pos (c.high k d l w))) in
    sym (length-take-le count vs c.within) ∙ sym (length-map (take count vs) (as_held x)) ∙ ap length (sym kept)
    ∙ length-filter (λ h. leb h.pos pos) (tagged x vs)
    ∙ ap (λ hs. count_by (λ h. leb h.pos pos) hs) (sym (own x vs))
