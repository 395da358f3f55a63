-- What a listener was told, call by call.
use Rattle.std.proofs.Common.{◌≡◌, ◌≢◌, ◌⊎◌, ℕ, zero, suc, ◌+◌, ◌<◌, ◌≤◌, inl, inr, Bool, true, false, cond, ltb, int_eq, ℤ, List, [], ◌∷◌, ◌++◌, map, reverse, length, get_or, slice_set, Option, Some, None, refl, sym, ap, subst, ◌∙◌, arith}
use Rattle.std.specs.Bool.{MatchBool}
use Rattle.std.proofs.lemmas.Bool.Decides.{Decides-int_eq}
use lib.Pointwise.{pointwise, pointwise_decides}
use Rattle.std.proofs.lemmas.Bool.{and_parts, ltb-true, eq-eqb, ne_eqb, cases_eq}
use Rattle.std.proofs.lemmas.List.{map-append, reverse-append, get_or-set_same, get_or-set_other, length-set}
use Rattle.sv_world.specs.declared.world.ObjectId.{ObjectId}
use Rattle.sv_world.specs.Sets.{numbers_of}
use Rattle.sv_world.specs.Faults.{is_ascending}
use Rattle.sv_client.specs.declared.trace.Event.{Event}
use Rattle.sv_client.specs.Traces.{view_of}
use Rattle.sv_client.specs.Taking.{Identity}
use Rattle.sv_pilot.specs.declared.audience.Seen.{Seen}
use Rattle.sv_pilot.specs.declared.audience.Call.{Call}
use Rattle.sv_pilot.specs.Hearing.{Heard, last_heard, IsTold, IsUpToDate}
use Rattle.sv_pilot.specs.Calls.{AudienceView, objects_seen, all_unseen, calls_heard, IsAudience, Tells, IsTelling}

-- ---- Ascending numbers

above : (x : ℕ) (xs : List ℕ) (k : ℕ) → is_ascending (x ∷ xs) ≡ true → k < length xs → x < get_or xs k 0
above x [] k up lt = absurd (omega arith)
above x (y ∷ ys) zero up lt = ltb-true x y (and_parts (ltb x y) (is_ascending (y ∷ ys)) up).0
above x (y ∷ ys) (suc k) up lt =
    let parts = and_parts (ltb x y) (is_ascending (y ∷ ys)) up in
    omega (arith, ltb-true x y parts.0, above y ys k parts.1 (omega arith))

rest_up : (x : ℕ) (xs : List ℕ) → is_ascending (x ∷ xs) ≡ true → is_ascending xs ≡ true
rest_up x [] up = refl
rest_up x (y ∷ ys) up = (and_parts (ltb x y) (is_ascending (y ∷ ys)) up).1

rises : (xs : List ℕ) (i j : ℕ) → is_ascending xs ≡ true → i < j → j < length xs → get_or xs i 0 < get_or xs j 0
rises [] i j up lt within = absurd (omega arith)
rises (x ∷ xs) i zero up lt within = absurd (omega arith)
rises (x ∷ xs) zero (suc j) up lt within = above x xs j up (omega arith)
rises (x ∷ xs) (suc i) (suc j) up lt within = rises xs i j (rest_up x xs up) (omega arith) (omega arith)

apart : (xs : List ℕ) (i j : ℕ) → is_ascending xs ≡ true → i ≢ j → i < length xs → j < length xs → get_or xs i 0 ≢ get_or xs j 0
apart xs i j up differ li lj e = elim (cases_lt i j) [
  | inl lt ↦ (let r = rises xs i j up lt lj in omega (arith, r, e))
  | inr ge ↦ (let r = rises xs j i up (omega (arith, ge, differ)) li in omega (arith, r, e))
]
  where
    cases_lt : (i j : ℕ) → (i < j) ⊎ (j ≤ i)
    cases_lt i j = grind arith

-- ---- What was told last

heard_same : (call : Heard) (calls : List Heard) (x : ℕ) → call.object.0 ≡ x → last_heard (call ∷ calls) x ≡ Some call.value
heard_same call calls x e = ap (λ (b : Bool). cond b (Some call.value) (last_heard calls x)) (eq-eqb call.object.0 x e)

heard_other : (call : Heard) (calls : List Heard) (x : ℕ) → call.object.0 ≢ x → last_heard (call ∷ calls) x ≡ last_heard calls x
heard_other call calls x n = ap (λ (b : Bool). cond b (Some call.value) (last_heard calls x)) (ne_eqb call.object.0 x n)

-- ---- The calls kept

abbrev heard_call : Call × Unit {0} → Heard
heard_call c = record { object = c.0.object; value = c.0.value.value }

pub calls_more : (cs : List (Call × Unit {0})) (c : Call × Unit {0}) → calls_heard (cs ++ c ∷ []) ≡ record { object = c.0.object; value = c.0.value.value } ∷ calls_heard cs
calls_more cs c = ap reverse (map-append heard_call cs (c ∷ [])) ∙ reverse-append (map heard_call cs) (heard_call c ∷ [])

pub objects_unseen : (os : List ObjectId) → objects_seen (all_unseen os) ≡ os
objects_unseen [] = refl
objects_unseen (o ∷ os) = ap (λ (ps : List ObjectId). o ∷ ps) (objects_unseen os)

none_kept : (os : List ObjectId) (i : ℕ) (d : Seen) → i < length (all_unseen os) → (get_or (all_unseen os) i d).value ≡ None
none_kept [] i d lt = absurd (omega arith)
none_kept (o ∷ os) zero d lt = refl
none_kept (o ∷ os) (suc i) d lt = none_kept os i d (omega arith)

pub audience_begins : (os : List ObjectId) → is_ascending (numbers_of os) ≡ true → IsAudience (all_unseen os) []
audience_begins os up = record {
  ascending = subst (λ (ps : List ObjectId). is_ascending (numbers_of ps) ≡ true) (sym (objects_unseen os)) up;
  same = λ i d lt. none_kept os i d lt;
}

pub objects_stay : (seen : List Seen) (at : ℕ) (s : Seen) (d : Seen) → s.object ≡ (get_or seen at d).object → objects_seen (slice_set seen at s) ≡ objects_seen seen
objects_stay [] at s d e = refl
objects_stay (x ∷ xs) zero s d e = ap (λ (o : ObjectId). o ∷ objects_seen xs) e
objects_stay (x ∷ xs) (suc at) s d e = ap (λ (os : List ObjectId). x.object ∷ os) (objects_stay xs at s d e)

number_at : (seen : List Seen) (i : ℕ) (d : Seen) → i < length seen → get_or (numbers_of (objects_seen seen)) i 0 ≡ (get_or seen i d).object.0
number_at [] i d lt = absurd (omega arith)
number_at (x ∷ xs) zero d lt = refl
number_at (x ∷ xs) (suc i) d lt = number_at xs i d (omega arith)

long : (seen : List Seen) → length (numbers_of (objects_seen seen)) ≡ length seen
long [] = refl
long (x ∷ xs) = ap suc (long xs)

pub within_seen : (seen : List Seen) (heard : List Heard) (a : AudienceView) (at : ℕ) → record { interest = objects_seen seen; heard = heard } ≡ a → at < length a.interest → at < length seen
within_seen seen heard a at is within = subst (λ (n : ℕ). at < n) (objects_long seen) (subst (λ (b : AudienceView). at < length b.interest) (sym is) within)
  where
    objects_long : (seen : List Seen) → length (objects_seen seen) ≡ length seen
    objects_long [] = refl
    objects_long (x ∷ xs) = ap suc (objects_long xs)

object_at : (seen : List Seen) (at : ℕ) (d : Seen) (o : ObjectId) → at < length seen → get_or (objects_seen seen) at o ≡ (get_or seen at d).object
object_at [] at d o within = absurd (omega arith)
object_at (x ∷ xs) zero d o within = refl
object_at (x ∷ xs) (suc at) d o within = object_at xs at d o (omega arith)

-- It is the object at this place.
pub object_here : (seen : List Seen) (heard : List Heard) (a : AudienceView) (at : ℕ) (d : Seen) (object : ObjectId) → record { interest = objects_seen seen; heard = heard } ≡ a → at < length seen → d ≡ get_or seen at d
    → object ≡ get_or a.interest at object → d.object ≡ object
object_here seen heard a at d object is within one named =
    ap (λ (s : Seen). s.object) one ∙ sym (object_at seen at d object within) ∙ ap (λ (b : AudienceView). get_or b.interest at object) is ∙ sym named

-- What was not kept of one was not told of it last.
pub not_told : (seen : List Seen) (heard : List Heard) (at : ℕ) (d : Seen) (value : List ℤ) → IsAudience seen heard → at < length seen → d ≡ get_or seen at d → d.value ≢ Some value → last_heard heard d.object.0 ≢ Some value
not_told seen heard at d value was within is differ told =
    differ (ap (λ (s : Seen). s.value) is ∙ was.same at d within ∙ ap (λ (s : Seen). last_heard heard s.object.0) (sym is) ∙ told)

-- What was kept of one was told of it last.
pub told_so : (seen : List Seen) (heard : List Heard) (at : ℕ) (d : Seen) (value : List ℤ) → IsAudience seen heard → at < length seen → d ≡ get_or seen at d → d.value ≡ Some value → last_heard heard d.object.0 ≡ Some value
told_so seen heard at d value was within is same = ap (λ (s : Seen). last_heard heard s.object.0) is ∙ sym (was.same at d within) ∙ ap (λ (s : Seen). s.value) (sym is) ∙ same

-- One of them is told, and kept.
pub audience_told : (seen : List Seen) (heard : List Heard) (at : ℕ) (s : Seen) (call : Heard) (d e : Seen) → at < length seen → s.object ≡ (get_or seen at d).object → call.object ≡ (get_or seen at e).object
    → s.value ≡ Some call.value → IsAudience seen heard → IsAudience (slice_set seen at s) (call ∷ heard)
audience_told seen heard at s call d e within object named is was = record {
  ascending = subst (λ (os : List ObjectId). is_ascending (numbers_of os) ≡ true) (sym (objects_stay seen at s d object)) was.ascending;
  same = λ i f lt. each i f (subst (λ (n : ℕ). i < n) (length-set seen at s) lt) (cases_eq i at);
}
  where
    number : (f : Seen) → (get_or seen at f).object.0 ≡ get_or (numbers_of (objects_seen seen)) at 0
    number f = sym (number_at seen at f within)

    each : (i : ℕ) (f : Seen) → i < length seen → (i ≡ at) ⊎ (i ≢ at) → (get_or (slice_set seen at s) i f).value ≡ last_heard (call ∷ heard) (get_or (slice_set seen at s) i f).object.0
    each i f lt (inl same) =
        let there : get_or (slice_set seen at s) i f ≡ s = ap (λ (k : ℕ). get_or (slice_set seen at s) k f) same ∙ get_or-set_same seen at s f within in
        let one : call.object.0 ≡ s.object.0 = ap (λ (o : ObjectId). o.0) named ∙ number e ∙ sym (number d) ∙ ap (λ (o : ObjectId). o.0) (sym object) in
        subst (λ (x : Seen). x.value ≡ last_heard (call ∷ heard) x.object.0) (sym there) (is ∙ sym (heard_same call heard s.object.0 one))
    each i f lt (inr other) =
        let there : get_or (slice_set seen at s) i f ≡ get_or seen i f = get_or-set_other seen at i s f other in
        let differ : call.object.0 ≢ (get_or seen i f).object.0 = λ same. apart (numbers_of (objects_seen seen)) i at was.ascending other
        (subst (λ (n : ℕ). i < n) (sym (long seen)) lt) (subst (λ (n : ℕ). at < n) (sym (long seen)) within)
        (number_at seen i f lt ∙ sym same ∙ ap (λ (o : ObjectId). o.0) named ∙ number e) in
        subst (λ (x : Seen). x.value ≡ last_heard (call ∷ heard) x.object.0) (sym there) (was.same i f lt ∙ sym (heard_other call heard (get_or seen i f).object.0 differ))

-- A call tells news.
pub tells_news : (seen : List Seen) (cs after : List (Call × Unit {0})) (c : Call × Unit {0}) (at : ℕ) (s d : Seen) (old : AudienceView) (object : ObjectId) (value : List ℤ)
    → record { interest = objects_seen seen; heard = calls_heard cs } ≡ old → after ≡ cs ++ c ∷ [] → s.object ≡ (get_or seen at d).object → c.0.object ≡ object → c.0.value.value ≡ value → last_heard old.heard object.0 ≢ Some value
    → Tells old object (Some value) (record { interest = objects_seen (slice_set seen at s); heard = calls_heard after })
tells_news seen cs after c at s d old object value is more kept named valued another =
    inr (
      another,
      ap (λ (os : List ObjectId). record { interest = os; heard = calls_heard after }) (objects_stay seen at s d kept ∙ ap (λ (a : AudienceView). a.interest) is)
          ∙ ap (λ (hs : List Heard). record { interest = old.interest; heard = hs }) (ap calls_heard more ∙ calls_more cs c ∙ ap (λ (o : ObjectId). record { object = o; value = c.0.value.value } ∷ calls_heard cs) named
          ∙ ap (λ (v : List ℤ). record { object = object; value = v } ∷ calls_heard cs) valued ∙ ap (λ (a : AudienceView). record { object = object; value = value } ∷ a.heard) is),
    )

-- ---- Telling one after the other

number_in : (os : List ObjectId) (i : ℕ) (o : ObjectId) → i < length os → (d : ℕ) → get_or (numbers_of os) i d ≡ (get_or os i o).0
number_in [] i o lt d = absurd (omega arith)
number_in (p ∷ ps) zero o lt d = refl
number_in (p ∷ ps) (suc i) o lt d = number_in ps i o (omega arith) d

numbers_long : (os : List ObjectId) → length (numbers_of os) ≡ length os
numbers_long [] = refl
numbers_long (o ∷ os) = ap suc (numbers_long os)

-- The object at a place.
pub some_at : (os : List ObjectId) (i : ℕ) → i < length os → (o : ObjectId) × (o ≡ get_or os i o)
some_at [] i lt = absurd (omega arith)
some_at (p ∷ ps) zero lt = (p, refl)
some_at (p ∷ ps) (suc i) lt = let r = some_at ps i (omega arith) in (r.0, r.1)

pub told_none : (who : Identity) (t : List Event) (a : AudienceView) → a.interest ≡ who.interest → IsTelling who t a.heard a 0
told_none who t a same = record { interest = same; some = record { calls = []; behind = refl; news = tt }; told = λ k lt. absurd (omega (arith, lt)) }

module _ (who : Identity) (t : List Event) (before : List Heard) (at : ℕ) (object : ObjectId) (up : is_ascending (numbers_of who.interest) ≡ true) (within : at < length who.interest) (is : object ≡ get_or who.interest at object) where
  abbrev x : ℕ → ℕ
  x k = get_or (numbers_of who.interest) k 0

  here : x at ≡ object.0
  here = number_in who.interest at object within 0 ∙ ap (λ (o : ObjectId). o.0) (sym is)

  split : (k : ℕ) → k < at + 1 → (k < at) ⊎ (k ≡ at)
  split k lt = grind (arith, lt)

  -- What was told stays so, and the next is told.
  both : (a : AudienceView) → ((k : ℕ) → k < at → IsTold (view_of t (x k)) (last_heard a.heard (x k))) → IsTold (view_of t object.0) (last_heard a.heard object.0)
      → (k : ℕ) → k < at + 1 → IsTold (view_of t (x k)) (last_heard a.heard (x k))
  both a old one k lt = elim (split k lt) [
    | inl less ↦ old k less
    | inr same ↦ subst (λ (n : ℕ). IsTold (view_of t n) (last_heard a.heard n)) (sym (ap x same ∙ here)) one
  ]

  same_step : (old new : AudienceView) → new ≡ old → IsTold (view_of t object.0) (last_heard old.heard object.0) → IsTelling who t before old at → IsTelling who t before new (at + 1)
  same_step old new e one h = subst (λ (a : AudienceView). IsTelling who t before a (at + 1)) (sym e) (record { interest = h.interest; some = h.some; told = both old h.told one })

  news_step : (old : AudienceView) (value : List ℤ) → view_of t object.0 ≡ Some value → last_heard old.heard object.0 ≢ Some value → IsTelling who t before old at
      → IsTelling who t before (record old { heard = record { object = object; value = value } ∷ old.heard }) (at + 1)
  news_step old value seen another h = record {
    interest = h.interest;
    some = record {
      calls = call ∷ h.some.calls;
      behind = ap (λ (hs : List Heard). call ∷ hs) h.some.behind;
      news = (
        record {
          interest = (at, subst (λ (n : ℕ). at < n) (sym (numbers_long who.interest)) within, number_in who.interest at object within object.0 ∙ ap (λ (o : ObjectId). o.0) (sym is));
          seen = seen;
          another = subst (λ (hs : List Heard). last_heard hs object.0 ≢ Some value) h.some.behind another;
        },
        h.some.news,
      );
    };
    told = both (record old { heard = call ∷ old.heard }) earlier
        (subst (λ (v : Option (List ℤ)). IsTold v (last_heard (call ∷ old.heard) object.0)) (sym seen) (heard_same call old.heard object.0 refl));
  }
    where
      call : Heard
      call = record { object = object; value = value }

      earlier : (k : ℕ) → k < at → IsTold (view_of t (x k)) (last_heard (call ∷ old.heard) (x k))
      earlier k lt =
          let rise = rises (numbers_of who.interest) k at up lt (subst (λ (n : ℕ). at < n) (sym (numbers_long who.interest)) within) in
          let differ : object.0 ≢ x k = λ e. omega (arith, rise, here, e) in
          subst (λ (v : Option (List ℤ)). IsTold (view_of t (x k)) v) (sym (heard_other call old.heard (x k) differ)) (h.told k lt)

  step_by : (old new : AudienceView) (view : Option (List ℤ)) → view_of t object.0 ≡ view → Tells old object view new → IsTelling who t before old at → IsTelling who t before new (at + 1)
  step_by old new None e same h = same_step old new same (subst (λ (v : Option (List ℤ)). IsTold v (last_heard old.heard object.0)) (sym e) tt) h
  step_by old new (Some value) e (inl k) h = same_step old new k.1 (subst (λ (v : Option (List ℤ)). IsTold v (last_heard old.heard object.0)) (sym e) k.0) h
  step_by old new (Some value) e (inr k) h = subst (λ (a : AudienceView). IsTelling who t before a (at + 1)) (sym k.1) (news_step old value e k.0 h)

  pub tell_step : (old new : AudienceView) → Tells old object (view_of t object.0) new → IsTelling who t before old at → IsTelling who t before new (at + 1)
  tell_step old new tells h = step_by old new (view_of t object.0) refl tells h

pub all_told : (who : Identity) (t : List Event) (before : List Heard) (now : AudienceView) (n : ℕ) → length who.interest ≤ n → IsTelling who t before now n → IsUpToDate who t now.heard
all_told who t before now n enough h = λ i d lt.
    let within : i < length who.interest = subst (λ (k : ℕ). i < k) (numbers_long who.interest) lt in
    let o = some_at who.interest i within in
    let same : get_or (numbers_of who.interest) i 0 ≡ get_or (numbers_of who.interest) i d = number_in who.interest i o.0 within 0 ∙ sym (number_in who.interest i o.0 within d) in
    subst (λ (k : ℕ). IsTold (view_of t k) (last_heard now.heard k)) same (h.told i (omega (arith, enough, within)))

-- ---- Values

-- Two values are the same where each number is.
pub value_test : (v w : List ℤ) (b : Bool) → b ≡ pointwise int_eq v w → MatchBool b (Some v ≡ Some w) (Some v ≢ Some w)
value_test v w true e = ap (λ (u : List ℤ). Some u) ((pointwise_decides Decides-int_eq v w).0 (sym e))
value_test v w false e = λ same. unlike (pointwise int_eq v w) e ((pointwise_decides Decides-int_eq v w).1 (of_some v w same))
  where
    unlike : (b : Bool) → false ≡ b → b ≡ true → ⊥
    unlike b e f = cc

    of_some : (v w : List ℤ) → Some v ≡ Some w → v ≡ w
    of_some v w e = cc
