-- Reading what a folder has, file by file.
use Rattle.std.proofs.Common.{◌≡◌, ◌≢◌, ◌⊎◌, inl, inr, ⊎_elim, ℕ, zero, suc, ◌+◌, ◌<◌, ◌≤◌, true, false, Bool, List, [], ◌∷◌, ◌++◌, length, Option, Some, None, Contains, IsSome, Vec, Result, Ok, Err, refl, sym, ◌∙◌, ap, subst, arith}
use Rattle.std.specs.declared.alloc.Global.{Global}
use Rattle.std.specs.Option.{unwrap_or}
use Rattle.std.proofs.lemmas.Bool.{cases_lt}
use Rattle.sv_bytes.specs.Faults.{ReadAllCause}
use Rattle.sv_bytes.specs.declared.reading.FileFault.{FileFault}
use Rattle.sv_bytes.specs.declared.reading.FileFault.TheVariants as fault
use Rattle.sv_log.specs.Pictures.{Picture}
use Rattle.sv_log.specs.Texts.{whole, whole_in}
use Rattle.sv_log.specs.Reads.{Lists}
use Rattle.sv_log.specs.Names.{IsNumber, IsWrongName, segment_name, state_name, world_name}
use Rattle.sv_log.specs.declared.names.FileKind.TheVariants as file
use Rattle.sv_log.specs.Chains.{lines, text_at, text_of, state_at, NoneBetween, IsClosed, IsWholeState, IsNewest, IsWellNamed, IsLog, IsFresh}
use Rattle.sv_log.specs.Readings.{HasWorld, ReadsNone, ReadsSome, Reads, ReadsLast, IsFirstNumber, IsNewestSoFar, Looks, IsNothing}
use Rattle.sv_log.specs.Walks.{IsOnTheWay, HasArrived, StepsTo, LeadsTo}
use Rattle.sv_log.proofs.Next.{closed_more, text_more_of}
use Rattle.sv_log.specs.Refusals.{CauseCount, IsCauseOf, IsWhy}
use Rattle.sv_log.specs.declared.reading.Cause.{Cause}
use Rattle.sv_log.specs.declared.reading.Cause.TheVariants as cause
use Rattle.sv_log.specs.declared.reading.Reading.{Reading}
use Rattle.sv_log.specs.declared.walking.SegmentWalk.{SegmentWalk}

-- ---- Causes

pub calm_count : (before now : ℕ) (c : Cause) → c ≢ cause.Failed → now ≡ before → CauseCount before now c
calm_count before now cause.Failed calm same = absurd (calm refl)
calm_count before now cause.Memory calm same = same
calm_count before now cause.Missing calm same = same
calm_count before now cause.Empty calm same = same
calm_count before now cause.Misnamed calm same = same
calm_count before now cause.Behind calm same = same
calm_count before now cause.Sum calm same = same
calm_count before now cause.World calm same = same

pub fault_count : (A : Type 0) (before now : ℕ) (f : FileFault) (c : Cause) → ReadAllCause {A = A} before now (Err f) → IsCauseOf f c → CauseCount before now c
fault_count A before now fault.Failed c told is = subst (CauseCount before now) (sym is) told
fault_count A before now fault.Memory c told is = subst (CauseCount before now) (sym is) told

pub fault_why : (why : Type 0) (f : FileFault) (c : Cause) → IsCauseOf f c → IsWhy why c
fault_why why fault.Failed c is = subst (IsWhy why) (sym is) tt
fault_why why fault.Memory c is = subst (IsWhy why) (sym is) tt

pub map_why : {A B : Type 0} (c : Cause) → (A → B) → IsWhy A c → IsWhy B c
map_why cause.Failed f w = tt
map_why cause.Memory f w = tt
map_why cause.Missing f w = f w
map_why cause.Empty f w = f w
map_why cause.Misnamed f w = f w
map_why cause.Behind f w = f w
map_why cause.Sum f w = f w
map_why cause.World f w = f w

pub just_why : {why : Type 0} (c : Cause) → why → IsWhy why c
just_why cause.Failed w = tt
just_why cause.Memory w = tt
just_why cause.Missing w = w
just_why cause.Empty w = w
just_why cause.Misnamed w = w
just_why cause.Behind w = w
just_why cause.Sum w = w
just_why cause.World w = w

-- a fault alone, whatever else might be the reason
pub no_why : (why : Type 0) (c : Cause) → IsWhy ⊥ c → IsWhy why c
no_why why c w = map_why {A = ⊥} {B = why} c (λ b. absurd b) w

-- ---- What is listed is there

pub some_none : {X : Type 0} (o : Option X) → (IsSome o → ⊥) → o ≡ None
some_none None none = refl
some_none (Some x) none = absurd (none refl)

module _ (p : Picture) (names : List (List ℕ)) (lists : Lists p names) where
  pub unlisted : (name : List ℕ) → (Contains names name → ⊥) → p name ≡ None
  unlisted name none = some_none (p name) (λ some. none ((lists name).1 some))

  pub well_named : ((name : List ℕ) → Contains names name → IsWrongName name → ⊥) → IsWellNamed p
  well_named none name wrong = unlisted name (λ has. none name has wrong)

  pub no_segments : IsFirstNumber file.Segment names 1 None → (m : ℕ) → IsNumber m → p (segment_name m) ≡ None
  no_segments none m number = unlisted (segment_name m) (none m number (omega (arith, number.0)))

  -- ---- States

  -- a state that is not listed is none
  unlisted_state : (m : ℕ) → (Contains names (state_name m) → ⊥) → IsWholeState (p (state_name m)) → ⊥
  unlisted_state m none w = subst IsWholeState (unlisted (state_name m) none) w

  still_none : (s seen k : ℕ) → IsNewestSoFar p s seen → IsFirstNumber file.State names (seen + 1) (Some k) → (IsWholeState (p (state_name k)) → ⊥)
      → (m : ℕ) → IsNumber m → s < m → m ≤ k → IsWholeState (p (state_name m)) → ⊥
  still_none s seen k so_far first broken m number after upto w =
      ⊎_elim (λ (late : seen < m). ⊎_elim
      (λ (before : m < k). unlisted_state m (first.3 m number (let e : seen + 1 ≤ m = omega (arith, late) in e) before) w)
      (λ (from : k ≤ m). broken (subst (λ (n : ℕ). IsWholeState (p (state_name n))) (let e : m ≡ k = omega (arith, from, upto) in e) w)) (cases_lt m k))
      (λ (early : m ≤ seen). so_far.2 m number after early w) (cases_lt seen m)

  pub newest_more : (s t seen k : ℕ) → IsNewestSoFar p s seen → IsFirstNumber file.State names (seen + 1) (Some k) → Looks p s t k → IsNewestSoFar p t k
  newest_more s t seen k so_far first looks = ⊎_elim
      (λ (now : (t ≡ k) × IsWholeState (p (state_name k))). (
        (let e : t ≤ k = omega (arith, now.0) in e),
        inr (subst IsNumber (sym now.0) first.0, subst (λ (m : ℕ). IsWholeState (p (state_name m))) (sym now.0) now.1),
        (λ m number after upto w. absurd (omega (arith, now.0, after, upto))),
        inr (first.0, (lists (state_name k)).0 first.2),
      ))
      (λ (kept : (t ≡ s) × (IsWholeState (p (state_name k)) → ⊥)).
      let low : s ≤ seen = so_far.0 in
      let le : seen + 1 ≤ k = first.1 in (
        (let e : t ≤ k = omega (arith, kept.0, low, le) in e),
        subst (λ (m : ℕ). (m ≡ 0) ⊎ (IsNumber m × IsWholeState (p (state_name m)))) (sym kept.0) so_far.1,
        (λ m number after upto w. still_none s seen k so_far first kept.1 m number (let e : s < m = omega (arith, after, kept.0) in e) upto w),
        inr (first.0, (lists (state_name k)).0 first.2),
      )) looks

  pub none_after : (s seen : ℕ) → IsNewestSoFar p s seen → IsFirstNumber file.State names (seen + 1) None → (m : ℕ) → IsNumber m → s < m → IsWholeState (p (state_name m)) → ⊥
  none_after s seen so_far first m number after w =
      ⊎_elim (λ (late : seen < m). unlisted_state m (first m number (let e : seen + 1 ≤ m = omega (arith, late) in e)) w)
      (λ (early : m ≤ seen). so_far.2 m number after early w) (cases_lt seen m)

  pub newest_last : (s seen : ℕ) → IsNewestSoFar p s seen → IsFirstNumber file.State names (seen + 1) None → (s ≡ 0 → seen ≡ 0) → IsNewest p s
  newest_last zero seen so_far first settled = λ m number. unlisted (state_name m) (first m number (let e : seen + 1 ≤ m = omega (arith, settled refl, number.0) in e))
  newest_last (suc k) seen so_far first settled = ⊎_elim
      (λ (none : suc k ≡ 0). absurd (omega (arith, none)))
      (λ (w : IsNumber (suc k) × IsWholeState (p (state_name (suc k)))). (w.0, w.1, none_after (suc k) seen so_far first)) so_far.1

pub newest_none : (p : Picture) → IsNewestSoFar p 0 0
newest_none p = ((let e : 0 ≤ 0 = omega arith in e), inl refl, (λ m number after upto w. absurd (omega (arith, after, upto))), inl refl)

pub state_found : (p : Picture) (n : ℕ) (bytes : List ℕ) → 0 < n → p (state_name n) ≡ Some bytes → state_at p n ≡ bytes
state_found p zero bytes some is = absurd (omega (arith, some))
state_found p (suc k) bytes some is = ap (λ (o : Option (List ℕ)). unwrap_or o []) is

-- ---- Segments

pub way_start : (p : Picture) (names : List (List ℕ)) → Lists p names → (first : ℕ) (w : SegmentWalk) → IsNumber first × Contains names (segment_name first) → w.closed.items ≡ [] → w.text.items ≡ [] → w.number ≡ first
    → IsOnTheWay p first w
way_start p names lists first w there closed text number = record {
  chain = subst (λ (ms : List ℕ). IsClosed p first ms w.number) (sym closed) (sym number);
  number = subst IsNumber (sym number) there.0;
  there = subst (λ (k : ℕ). IsSome (p (segment_name k))) (sym number) ((lists (segment_name first)).0 there.1);
  text = text ∙ ap (text_of p) (sym closed);
}

module _ (p : Picture) (names : List (List ℕ)) (lists : Lists p names) (first : ℕ) (old new : SegmentWalk) (way : IsOnTheWay p first old)
    (bytes : List ℕ) (stored : p (segment_name old.number) ≡ Some bytes) where
  at : text_at p old.number ≡ whole bytes
  at = ap whole_in stored

  pub way_more : (following : ℕ) → IsFirstNumber file.Segment names (old.number + 1) (Some following) → LeadsTo old.number bytes following
      → new.closed.items ≡ old.closed.items ++ old.number ∷ [] → new.text.items ≡ old.text.items ++ bytes → new.number ≡ following → IsOnTheWay p first new
  way_more following next is closed text_is number_is =
      let all : text_at p old.number ≡ bytes = at ∙ is.0 in
      let n : ℕ = old.number in
      let to : following ≡ n + lines (text_at p n) = is.2 ∙ ap (λ (t : List ℕ). n + lines t) (sym all) in
      let none : NoneBetween p (n + 1) (n + lines (text_at p n)) =
      λ m num from below. unlisted p names lists (segment_name m) (next.3 m num from (let e : m < following = omega (arith, below, to) in e)) in
      let chain : IsClosed p first (old.closed.items ++ n ∷ []) (n + lines (text_at p n)) =
      closed_more p first old.closed.items n way.chain way.number (stored ∙ ap (λ (t : List ℕ). Some t) (sym all)) (λ e. is.1 (sym all ∙ e)) none in record {
        chain = subst (λ (ms : List ℕ). IsClosed p first ms new.number) (sym closed) (subst (λ (k : ℕ). IsClosed p first (old.closed.items ++ n ∷ []) k) (sym (number_is ∙ to)) chain);
        number = subst IsNumber (sym number_is) next.0;
        there = subst (λ (k : ℕ). IsSome (p (segment_name k))) (sym number_is) ((lists (segment_name following)).0 next.2);
        text = text_is ∙ ap (λ (t : List ℕ). t ++ bytes) way.text ∙ ap (λ (t : List ℕ). text_of p old.closed.items ++ t) (sym all) ∙ sym (text_more_of p old.closed.items n)
            ∙ ap (text_of p) (sym closed);
      }

  pub arrived : IsFirstNumber file.Segment names (old.number + 1) None → new.closed ≡ old.closed → new.number ≡ old.number → new.text.items ≡ old.text.items ++ whole bytes → new.next ≡ old.number + lines (whole bytes)
      → HasArrived p first new
  arrived none closed number_is text_is next_is = record {
    chain = subst (λ (v : Vec ℕ Global). IsClosed p first v.items new.number) (sym closed) (subst (λ (k : ℕ). IsClosed p first old.closed.items k) (sym number_is) way.chain);
    number = subst IsNumber (sym number_is) way.number;
    there = (bytes, ap (λ (k : ℕ). p (segment_name k)) number_is ∙ stored);
    none = λ m num later. unlisted p names lists (segment_name m) (none m num (let e : old.number + 1 ≤ m = omega (arith, later, number_is) in e));
    text = text_is ∙ ap (λ (t : List ℕ). t ++ whole bytes) way.text ∙ ap (λ (t : List ℕ). text_of p old.closed.items ++ t) (sym at)
        ∙ ap (λ (v : Vec ℕ Global). text_of p v.items ++ text_at p old.number) (sym closed) ∙ ap (λ (k : ℕ). text_of p new.closed.items ++ text_at p k) (sym number_is);
    next = next_is ∙ ap (λ (t : List ℕ). old.number + lines t) (sym at) ∙ ap (λ (k : ℕ). k + lines (text_at p k)) (sym number_is);
  }

-- ---- All that was read

own_of : (world : List ℕ) (o : Option (List ℕ)) (b : Bool) → HasWorld o world b → (o ≡ None) ⊎ (o ≡ Some world)
own_of world o true own = inr own
own_of world o false own = inl own

pub reads_fresh : (world : List ℕ) (p : Picture) (r : Reading) (has_world : Bool) → IsNothing r has_world → IsWellNamed p → IsNewest p 0 → ((m : ℕ) → IsNumber m → p (segment_name m) ≡ None)
    → HasWorld (p world_name) world has_world → Reads world p r
reads_fresh world p r has_world nothing named states segments own =
    subst (ReadsLast world p r) (sym nothing.3) (
      record {
        fresh = record { named = named; states = states; segments = segments; own = own_of world (p world_name) has_world own };
        state = nothing.1;
        bytes = nothing.6;
        closed = nothing.2;
        text = nothing.4;
        next = nothing.5;
      },
      subst (HasWorld (p world_name) world) (sym nothing.0) own,
    )

pub reads_walked : (world : List ℕ) (p : Picture) (r : Reading) (w : SegmentWalk) → IsWellNamed p → IsNewest p r.state → r.state_bytes.items ≡ state_at p r.state → p world_name ≡ Some world → HasArrived p (r.state + 1) w
    → r.closed ≡ w.closed → r.last ≡ Some w.number → r.text ≡ w.text → r.next ≡ w.next → Reads world p r
reads_walked world p r w named newest bytes own walked closed last text next =
    subst (ReadsLast world p r) (sym last) record {
      own = own;
      log = subst (λ (v : Vec ℕ Global). IsLog p r.state v.items w.number) (sym closed) record {
        named = named;
        newest = newest;
        chain = walked.chain;
        number = walked.number;
        there = walked.there;
        none = walked.none;
      };
      bytes = bytes;
      text = ap (λ (v : Vec ℕ Global). v.items) text ∙ walked.text ∙ ap (λ (v : Vec ℕ Global). text_of p v.items ++ text_at p w.number) (sym closed);
      next = next ∙ walked.next;
    }
