-- The actions that a value comes from, executed alone, give the value of the serial world.
use Rattle.std.proofs.Common.{◌≡◌, ℕ, zero, suc, ◌+◌, ◌<◌, ◌≤◌, Bool, true, false, ◌||◌, nat_eq, List, [], ◌∷◌, ◌++◌, map, length, ℤ, Option, Some, get_or, set, slice_get, refl, sym, ◌∙◌, ap, ap₂, subst, arith, length-set, eq-eqb}
use Rattle.std.specs.Prelude.{slice_set, if◌then◌else◌}
use Rattle.std.specs.List.{list_any}
use Rattle.std.proofs.lemmas.Bool.{false_from_ne_true, or_left, or_right, cond_both}
use Rattle.std.proofs.lemmas.List.{length-map, length-append, map-append}
use Rattle.sv_world.specs.declared.action.Action.{Action}
use Rattle.sv_world.specs.Control.{is_in, action_at}
use Rattle.sv_world.specs.Sets.{read_set, write_set}
use Rattle.sv_world.proofs.Members.{is_in-head, is_in-tail, any_from}
use Rattle.sv_eval.specs.Evaluation.{effect_of}
use Rattle.sv_eval.specs.Serial.{values_at, put_all, world_after, world_after_some, serial_world}
use Rattle.sv_eval.proofs.Serials.{put_all_elsewhere, serial_length}
use Rattle.law_system.proofs.Serials.{after_at}
use Rattle.sv_why.specs.Reasons.{reasons_of, world_by}
use Rattle.sv_why.specs.Walks.{walk}
use Rattle.sv_why.proofs.Walks.{walk_is_reasons}

-- ---- Worlds that agree

agree-set : (v w : List (List ℤ)) (y : ℕ) (u : List ℤ) (x : ℕ) → length v ≡ length w → get_or v x [] ≡ get_or w x [] → get_or (set v y u) x [] ≡ get_or (set w y u) x []
agree-set [] [] y u x l e = refl
agree-set [] (b ∷ w) y u x l e = absurd (omega arith)
agree-set (a ∷ v) [] y u x l e = absurd (omega arith)
agree-set (a ∷ v) (b ∷ w) zero u zero l e = refl
agree-set (a ∷ v) (b ∷ w) zero u (suc x) l e = e
agree-set (a ∷ v) (b ∷ w) (suc y) u zero l e = e
agree-set (a ∷ v) (b ∷ w) (suc y) u (suc x) l e = agree-set v w y u x (omega arith) e

-- Where two worlds agree on an object, they do after the same values are put on the same objects.
agree-put : (v w : List (List ℤ)) (ys : List ℕ) (us : List (List ℤ)) (x : ℕ) → length v ≡ length w → get_or v x [] ≡ get_or w x [] →
    get_or (put_all v ys us) x [] ≡ get_or (put_all w ys us) x []
agree-put v w [] us x l e = e
agree-put v w (y ∷ ys) [] x l e = e
agree-put v w (y ∷ ys) (u ∷ us) x l e =
    agree-put (set v y u) (set w y u) ys us x (length-set v y u ∙ l ∙ sym (length-set w y u)) (agree-set v w y u x l e)

agree-values : (v w : List (List ℤ)) (xs : List ℕ) → ((x : ℕ) → is_in x xs ≡ true → get_or v x [] ≡ get_or w x []) → values_at v xs ≡ values_at w xs
agree-values v w [] h = refl
agree-values v w (x ∷ xs) h =
    ap₂ (λ (u : List ℤ) (us : List (List ℤ)). u ∷ us) (h x (is_in-head x xs)) (agree-values v w xs (λ y m. h y (is_in-tail y x xs m)))

-- ---- Worlds position by position

get-front : (A B : List Action) (p : ℕ) → p < length A → slice_get (A ++ B) p ≡ slice_get A p
get-front [] B p l = absurd (omega arith)
get-front (a ∷ A) B zero l = refl
get-front (a ∷ A) B (suc p) l = get-front A B p (omega arith)

get-last : (A : List Action) (a : Action) → slice_get (A ++ a ∷ []) (length A) ≡ Some a
get-last [] a = refl
get-last (b ∷ A) a = get-last A a

serial-front : (opening : List (List ℤ)) (A B : List Action) (p : ℕ) → p ≤ length A → serial_world opening (A ++ B) p ≡ serial_world opening A p
serial-front opening A B zero l = refl
serial-front opening A B (suc p) l =
    ap₂ (λ (world : List (List ℤ)) (a : Option Action). world_after_some world a) (serial-front opening A B p (omega arith)) (get-front A B p (omega arith))

-- One position more, after the others.
by-push : (opening : List (List ℤ)) (A : List Action) (ks : List ℕ) (k : ℕ) → world_by opening A (ks ++ k ∷ []) ≡ world_after (world_by opening A ks) (action_at A k)
by-push opening A ks k =
    let B = map (action_at A) ks in
    let a = action_at A k in
    let n : length B ≡ length ks = length-map ks (action_at A) in
    ap₂ (λ (C : List Action) (m : ℕ). serial_world opening C m) (map-append (action_at A) ks (k ∷ []))
    (length-append ks (k ∷ []) ∙ (let e : length ks + 1 ≡ suc (length B) = omega arith in e))
    ∙ ap₂ (λ (world : List (List ℤ)) (o : Option Action). world_after_some world o) (serial-front opening B (a ∷ []) (length B) (omega arith)) (get-last B a)
    ∙ ap (λ (m : ℕ). world_after (serial_world opening B m) a) n

get-mapped : (A : List Action) (ks : List ℕ) (i d : ℕ) → i < length ks → slice_get (map (action_at A) ks) i ≡ Some (action_at A (get_or ks i d))
get-mapped A [] i d l = absurd (omega arith)
get-mapped A (k ∷ ks) zero d l = refl
get-mapped A (k ∷ ks) (suc i) d l = get-mapped A ks i d (omega arith)

-- The world of one position more of a list of them.
pub by-next : (opening : List (List ℤ)) (A : List Action) (ks : List ℕ) (i d : ℕ) → i < length ks →
    world_after (serial_world opening (map (action_at A) ks) i) (action_at A (get_or ks i d)) ≡ serial_world opening (map (action_at A) ks) (i + 1)
by-next opening A ks i d l =
    let e : suc i ≡ i + 1 = omega arith in
    sym (ap (λ (o : Option Action). world_after_some (serial_world opening (map (action_at A) ks) i) o) (get-mapped A ks i d l))
    ∙ ap (λ (m : ℕ). serial_world opening (map (action_at A) ks) m) e

-- ---- The value

-- On each wanted object the world of the positions that the walk takes agrees with the serial world.
walk-agrees : (opening : List (List ℤ)) (A : List Action) (n : ℕ) (p : ℕ → Bool) (x : ℕ) → p x ≡ true →
    get_or (world_by opening A (walk A n p)) x [] ≡ get_or (serial_world opening A n) x []
walk-agrees opening A zero p x h = refl
walk-agrees opening A (suc n) p x h =
    let a = action_at A (suc n) in
    let ws = write_set a in
    let rs = read_set a in
    let more = λ (y : ℕ). is_in y rs || p y in
    let old = serial_world opening A n in
    let part = world_by opening A (walk A n more) in
    let step : serial_world opening A (suc n) ≡ world_after old a = after_at old A n in
    let taken = walk-agrees opening A n more in
    let left = walk-agrees opening A n p x h in
    cond_both (list_any p ws) (walk A n more ++ suc n ∷ []) (walk A n p) (λ (ks : List ℕ). get_or (world_by opening A ks) x [] ≡ get_or (serial_world opening A (suc n)) x [])
    (λ t.
    let values : values_at part rs ≡ values_at old rs = agree-values part old rs (λ y m. taken y (or_left (is_in y rs) (p y) m)) in
    let count : length part ≡ length old = serial_length opening (map (action_at A) (walk A n more)) (length (walk A n more)) ∙ sym (serial_length opening A n) in
    ap (λ (world : List (List ℤ)). get_or world x []) (by-push opening A (walk A n more) (suc n))
    ∙ ap (λ (vs : List (List ℤ)). get_or (put_all part ws (effect_of a vs).writes) x []) values
    ∙ agree-put part old ws (effect_of a (values_at old rs)).writes x count (taken x (or_right (is_in x rs) (p x) h))
    ∙ sym (ap (λ (world : List (List ℤ)). get_or world x []) step))
    (λ t.
    let out : is_in x ws ≡ false = false_from_ne_true (is_in x ws) (λ m. let u : list_any p ws ≡ true = any_from p x ws m h in cc) in
    left
    ∙ sym (put_all_elsewhere old ws (effect_of a (values_at old rs)).writes x out)
    ∙ sym (ap (λ (world : List (List ℤ)). get_or world x []) step))

-- The actions that a value comes from give it alone.
pub reasons-give : (opening : List (List ℤ)) (A : List Action) (x pos : ℕ) →
    get_or (world_by opening A (reasons_of A x pos)) x [] ≡ get_or (serial_world opening A pos) x []
reasons-give opening A x pos =
    ap (λ (ks : List ℕ). get_or (world_by opening A ks) x []) (sym (walk_is_reasons A x pos))
    ∙ walk-agrees opening A pos (λ y. nat_eq y x) x (eq-eqb x x refl)
