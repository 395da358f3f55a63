-- A version put among the versions of one object.
use Rattle.std.proofs.Common.{◌≡◌, ℕ, zero, suc, ◌+◌, ◌-◌, ◌<◌, ◌≤◌, ◌||◌, ◌&&◌, eqb, ltb, List, [], ◌∷◌, ◌++◌, length, get_or, set, take, drop, refl, sym, ap, subst, ◌∙◌, arith}
use Rattle.std.specs.List.{filter, insert}
use Rattle.std.proofs.lemmas.Bool.{lt-ltb, le-ltb, eq-eqb}
use Rattle.std.proofs.lemmas.List.{map-append, set_split}
use Rattle.sv_versions.specs.declared.history.Version.{Version}
use Rattle.sv_versions.specs.Held.{comes_before, put_in}
use Rattle.sv_versions.specs.Histories.{AscendsFrom, IsCountUpTo, EndsAt, EndsApart, as_held, tagged}
use Rattle.sv_versions.proofs.Lists.{filter_front, filter_back, filter_map_is}
use Rattle.sv_versions.proofs.Rows.{not_after, ordered}

-- the first i stand before a position, and those from j on behind it
pub record Parts (pos : ℕ) (vs : List Version) (i j : ℕ) : Type 0 where
  pub before : (k : ℕ) (d : Version) → k < i → k < length vs → (get_or vs k d).pos < pos
  pub not_before : (k : ℕ) (d : Version) → i ≤ k → k < length vs → pos ≤ (get_or vs k d).pos
  pub not_behind : (k : ℕ) (d : Version) → k < j → k < length vs → (get_or vs k d).pos ≤ pos
  pub behind : (k : ℕ) (d : Version) → j ≤ k → k < length vs → pos < (get_or vs k d).pos
  pub within : i ≤ length vs
  pub across : i ≤ j

same_object : (x a b : ℕ) → (ltb x x || (eqb x x && ltb a b)) ≡ ltb a b
same_object x a b =
    ap (λ t. t || (eqb x x && ltb a b)) (le-ltb x x (omega arith)) ∙ ap (λ t. t && ltb a b) (eq-eqb x x refl)

pub put_is : (x pos i j : ℕ) (vs : List Version) (w : Version) → w.pos ≡ pos → Parts pos vs i j → tagged x (take i vs ++ w ∷ drop j vs) ≡ put_in (tagged x vs) (as_held x w)
put_is x pos i j vs w e p =
    let h = as_held x w in
    let front : filter (λ k. comes_before k h) (tagged x vs) ≡ tagged x (take i vs) =
    filter_map_is (as_held x) (λ k. comes_before k h) vs
    ∙ ap (λ ws. tagged x ws) (filter_front (λ v. comes_before (as_held x v) h) vs i
    (λ k d l n. same_object x _ _ ∙ lt-ltb _ _ (omega (arith, e, p.before k d l n)))
    (λ k d l n. same_object x _ _ ∙ le-ltb _ _ (omega (arith, e, p.not_before k d l n)))) in
    let back : filter (λ k. comes_before h k) (tagged x vs) ≡ tagged x (drop j vs) =
    filter_map_is (as_held x) (λ k. comes_before h k) vs
    ∙ ap (λ ws. tagged x ws) (filter_back (λ v. comes_before h (as_held x v)) vs j
    (λ k d l n. same_object x _ _ ∙ le-ltb _ _ (omega (arith, e, p.not_behind k d l n)))
    (λ k d l n. same_object x _ _ ∙ lt-ltb _ _ (omega (arith, e, p.behind k d l n)))) in
    map-append (as_held x) (take i vs) (w ∷ drop j vs)
    ∙ ap (λ hs. hs ++ h ∷ tagged x (drop j vs)) (sym front) ∙ ap (λ hs. filter (λ k. comes_before k h) (tagged x vs) ++ h ∷ hs) (sym back)

ascends_dropped : (low b j : ℕ) (vs : List Version) → AscendsFrom low vs → ((k : ℕ) (d : Version) → j ≤ k → k < length vs → b ≤ (get_or vs k d).pos) → AscendsFrom b (drop j vs)
ascends_dropped low b zero [] a h = tt
ascends_dropped low b (suc j) [] a h = tt
ascends_dropped low b zero (v ∷ vs) a h = (h 0 v (omega arith) (omega arith), a.1)
ascends_dropped low b (suc j) (v ∷ vs) a h = ascends_dropped (v.pos + 1) b j vs a.1 (λ k d l n. h (suc k) d (omega arith) (omega arith))

pub put_ascends : (low i j : ℕ) (vs : List Version) (w : Version) → AscendsFrom low vs → low ≤ w.pos → i ≤ j → i ≤ length vs → ((k : ℕ) (d : Version) → k < i → k < length vs → (get_or vs k d).pos < w.pos) → ((k : ℕ) (d : Version) → j ≤ k → k < length vs → w.pos < (get_or vs k d).pos) → AscendsFrom low (take i vs ++ w ∷ drop j vs)
put_ascends low zero j vs w a l ij n before behind =
    (l, ascends_dropped low (w.pos + 1) j vs a (λ k d h m. omega (arith, behind k d h m)))
put_ascends low (suc i) j [] w a l ij n before behind = absurd (omega arith)
put_ascends low (suc i) zero (v ∷ vs) w a l ij n before behind = absurd (omega arith)
put_ascends low (suc i) (suc j) (v ∷ vs) w a l ij n before behind = (
  a.0,
  put_ascends (v.pos + 1) i j vs w a.1 (omega (arith, before 0 v (omega arith) (omega arith))) (omega arith) (omega arith)
      (λ k d h m. before (suc k) d (omega arith) (omega arith)) (λ k d h m. behind (suc k) d (omega arith) (omega arith)),
)

-- where the last one counted stands elsewhere, the new one comes in behind it
pub parts_apart : (pos count : ℕ) (vs : List Version) → AscendsFrom 0 vs → IsCountUpTo pos vs count → EndsApart pos vs count → Parts pos vs count count
parts_apart pos count vs a c e = record {
  before = λ k d l n. let near : (get_or vs k d).pos ≤ (get_or vs (count - 1) d).pos = not_after 0 vs k (count - 1) d a (omega arith) (omega (arith, c.within)) in
      let top : (get_or vs (count - 1) d).pos ≤ pos = c.low (count - 1) d (omega arith) in
      let not_there : (get_or vs (count - 1) d).pos ≡ pos → ⊥ = e.apart d (omega arith) in
      omega arith;
  not_before = λ k d l n. omega (arith, c.high k d l n);
  not_behind = λ k d l n. c.low k d l;
  behind = c.high;
  within = c.within;
  across = omega arith;
}

-- where the last one counted stands at the position, the new one takes its place
pub parts_equal : (pos count : ℕ) (vs : List Version) → AscendsFrom 0 vs → IsCountUpTo pos vs count → EndsAt pos vs count → Parts pos vs (count - 1) count
parts_equal pos count vs a c e = record {
  before = λ k d l m. omega (arith, ordered 0 vs k (count - 1) d a l (omega (arith, c.within, e.some)), e.same d);
  not_before = λ k d l m. omega (arith, not_after 0 vs (count - 1) k d a l m, e.same d);
  not_behind = λ k d l m. c.low k d l;
  behind = c.high;
  within = omega (arith, c.within);
  across = omega arith;
}

pub replaced : (vs : List Version) (count : ℕ) (w : Version) → 0 < count → count ≤ length vs → set vs (count - 1) w ≡ take (count - 1) vs ++ w ∷ drop count vs
replaced vs zero w n l = absurd (omega arith)
replaced vs (suc count) w n l = let e : suc count - 1 ≡ count = omega arith in rw e (set_split vs count w (omega arith))

ascends_at : (i j : ℕ) (vs : List Version) (w : Version) → AscendsFrom 0 vs → Parts w.pos vs i j → AscendsFrom 0 (take i vs ++ w ∷ drop j vs)
ascends_at i j vs w a p = put_ascends 0 i j vs w a (omega arith) p.across p.within p.before p.behind

pub put_there : (x count : ℕ) (vs : List Version) (w : Version) → AscendsFrom 0 vs → IsCountUpTo w.pos vs count → EndsAt w.pos vs count → tagged x (set vs (count - 1) w) ≡ put_in (tagged x vs) (as_held x w)
put_there x count vs w a c e =
    ap (λ ws. tagged x ws) (replaced vs count w e.some c.within) ∙ put_is x w.pos (count - 1) count vs w refl (parts_equal w.pos count vs a c e)

pub ascends_there : (count : ℕ) (vs : List Version) (w : Version) → AscendsFrom 0 vs → IsCountUpTo w.pos vs count → EndsAt w.pos vs count → AscendsFrom 0 (set vs (count - 1) w)
ascends_there count vs w a c e =
    subst (λ (ws : List Version). AscendsFrom 0 ws) (sym (replaced vs count w e.some c.within)) (ascends_at (count - 1) count vs w a (parts_equal w.pos count vs a c e))

pub put_new : (x count : ℕ) (vs : List Version) (w : Version) → AscendsFrom 0 vs → IsCountUpTo w.pos vs count → EndsApart w.pos vs count → tagged x (insert vs count w) ≡ put_in (tagged x vs) (as_held x w)
put_new x count vs w a c e = put_is x w.pos count count vs w refl (parts_apart w.pos count vs a c e)

pub ascends_new : (count : ℕ) (vs : List Version) (w : Version) → AscendsFrom 0 vs → IsCountUpTo w.pos vs count → EndsApart w.pos vs count → AscendsFrom 0 (insert vs count w)
ascends_new count vs w a c e = ascends_at count count vs w a (parts_apart w.pos count vs a c e)
