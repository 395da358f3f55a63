-- The changes that a trace tells.
use Rattle.std.proofs.Common.{◌≡◌, ℕ, zero, suc, ◌≤◌, Bool, true, false, List, [], ◌∷◌, ◌++◌, length, map, reverse, Option, Some, None, refl, sym, ap, subst, ◌∙◌, arith, true≢false}
use Rattle.std.specs.Prelude.{ℤ, All, Decides, if◌then◌else◌}
use Rattle.std.specs.List.{Contains, flat_map}
use lib.Pointwise.{pointwise_decides}
use Rattle.std.proofs.lemmas.Bool.{cond-true}
use Rattle.std.proofs.lemmas.Bool.Decides.{Decides-int_eq}
use Rattle.std.proofs.lemmas.List.{append_assoc, append-nil, map-append, reverse-append}
use Rattle.std.proofs.lemmas.List.Elements.{All-nil, All-append, Contains-append_left, Contains-append_right}
use Rattle.std.proofs.lemmas.Option.{none-some, same_Some}
use Rattle.sv_world.specs.declared.world.ClientId.{ClientId}
use Rattle.sv_world.specs.declared.world.ObjectId.{ObjectId}
use Rattle.sv_watch.specs.declared.change.Change.{Change}
use Rattle.sv_watch.specs.Told.{change_line}
use Rattle.sv_client.specs.declared.trace.Event.{Event}
use Rattle.sv_client.specs.declared.trace.Event.TheVariants as events
use Rattle.sv_client.specs.declared.trace.Trace.{Trace}
use Rattle.sv_client.specs.Traces.{view_of}
use Rattle.sv_script.specs.Telling.{same_view, change_by, change_of, changes_of, told_lines}
use Rattle.sv_script.specs.Laws.{IsChangeOf, may_tell}

same-decides : (v w : Option (List ℤ)) → Decides (same_view v w) (v ≡ w)
same-decides None None = (λ h. refl, λ h. refl)
same-decides None (Some w) = (λ h. cc, λ h. absurd (none-some w h))
same-decides (Some v) None = (λ h. cc, λ h. absurd (none-some v (sym h)))
same-decides (Some v) (Some w) =
    let d = pointwise_decides Decides-int_eq v w in (λ h. ap Some (d.0 h), λ h. d.1 (same_Some v w h))

all-one : {X : Type 0} (P : X → Type 0) (x : X) → P x → All P (x ∷ [])
all-one P x h zero d l = h
all-one P x h (suc k) d l = absurd (omega (arith, l))

contains-first : {X : Type 0} (x : X) (xs : List X) → Contains (x ∷ xs) x
contains-first x xs = (0, omega arith, refl)

all-flat : (P : Change → Type 0) (f : ObjectId → List Change) (xs : List ObjectId) → ((x : ObjectId) → Contains xs x → All P (f x)) → All P (flat_map f xs)
all-flat P f [] g = All-nil P
all-flat P f (x ∷ xs) g =
    All-append P (f x) (flat_map f xs) (g x (contains-first x xs)) (all-flat P f xs (λ y c. g y (Contains-append_right (x ∷ []) xs y c)))

change-is : (client : ClientId) (interest : List ObjectId) (count : ℕ) (t : List Event) (e : Event) (x : ObjectId) → Contains interest x → suc (length t) ≤ count
    → All (IsChangeOf client interest count) (change_of client t e x)
change-is client interest count t e x c l = go (same_view (view_of t x.0) (view_of (e ∷ t) x.0)) refl
  where
    go : (b : Bool) → same_view (view_of t x.0) (view_of (e ∷ t) x.0) ≡ b → All (IsChangeOf client interest count) (if b then [] else change_by client t e x ∷ [])
    go true h = All-nil (IsChangeOf client interest count)
    go false h = all-one (IsChangeOf client interest count) (change_by client t e x) (record {
      client = refl;
      object = c;
      some = omega arith;
      within = omega (arith, l);
      changed = λ g. true≢false (sym ((same-decides (view_of t x.0) (view_of (e ∷ t) x.0)).1 g) ∙ h);
    })

changes-within : (client : ClientId) (interest : List ObjectId) (count : ℕ) (t : List Event) → length t ≤ count → All (IsChangeOf client interest count) (changes_of client interest t)
changes-within client interest count [] l = All-nil (IsChangeOf client interest count)
changes-within client interest count (e ∷ t) l =
    All-append (IsChangeOf client interest count) (changes_of client interest t) (flat_map (change_of client t e) interest)
    (changes-within client interest count t (omega (arith, l)))
    (all-flat (IsChangeOf client interest count) (change_of client t e) interest (λ x c. change-is client interest count t e x c (omega (arith, l))))

pub changes-of_trace : (client : ClientId) (interest : List ObjectId) (t : List Event) → All (IsChangeOf client interest (length t)) (changes_of client interest t)
changes-of_trace client interest t = changes-within client interest (length t) t (omega arith)

-- ---- Each is told

flat-contains : (f : ObjectId → List Change) (xs : List ObjectId) (x : ObjectId) (c : Change) → Contains xs x → Contains (f x) c → Contains (flat_map f xs) c
flat-contains f [] x c h g = absurd (omega (arith, h.1))
flat-contains f (y ∷ xs) x c (zero, l, e) g = Contains-append_left (f y) (flat_map f xs) c (subst (λ (z : ObjectId). Contains (f z) c) (sym e) g)
flat-contains f (y ∷ xs) x c (suc k, l, e) g = Contains-append_right (f y) (flat_map f xs) c (flat-contains f xs x c (k, omega (arith, l), e) g)

change-here : (client : ClientId) (t : List Event) (e : Event) (x : ObjectId) → (view_of t x.0 ≡ view_of (e ∷ t) x.0 → ⊥) → Contains (change_of client t e x) (change_by client t e x)
change-here client t e x n = go (same_view (view_of t x.0) (view_of (e ∷ t) x.0)) refl
  where
    go : (b : Bool) → same_view (view_of t x.0) (view_of (e ∷ t) x.0) ≡ b → Contains (if b then [] else change_by client t e x ∷ []) (change_by client t e x)
    go true h = absurd (n ((same-decides (view_of t x.0) (view_of (e ∷ t) x.0)).0 h))
    go false h = contains-first (change_by client t e x) []

pub each-told : (client : ClientId) (interest : List ObjectId) (later : List Event) (e : Event) (t : List Event) (x : ObjectId) → Contains interest x →
    (view_of t x.0 ≡ view_of (e ∷ t) x.0 → ⊥) → Contains (changes_of client interest (later ++ e ∷ t)) (change_by client t e x)
each-told client interest [] e t x c n =
    Contains-append_right (changes_of client interest t) (flat_map (change_of client t e) interest) (change_by client t e x)
    (flat-contains (change_of client t e) interest x (change_by client t e x) c (change-here client t e x n))
each-told client interest (d ∷ later) e t x c n =
    Contains-append_left (changes_of client interest (later ++ e ∷ t)) (flat_map (change_of client (later ++ e ∷ t) d) interest) (change_by client t e x)
    (each-told client interest later e t x c n)

-- ---- Beginnings

pub told-at_once : (client : ClientId) (interest : List ObjectId) (later t : List Event) →
    (rest : List Change) × (changes_of client interest (later ++ t) ≡ changes_of client interest t ++ rest)
told-at_once client interest [] t = ([], sym (append-nil (changes_of client interest t)))
told-at_once client interest (e ∷ later) t =
    let b = told-at_once client interest later t in
    let more = flat_map (change_of client (later ++ t) e) interest in
    (b.0 ++ more, ap (λ (cs : List Change). cs ++ more) b.1 ∙ append_assoc (changes_of client interest t) b.0 more)

pub lines-at_once : (trace : Trace) (es later : List Event) → trace.events ≡ es ++ later →
    (rest : List (List ℕ)) × (told_lines trace ≡ told_lines (record trace { events = es }) ++ rest)
lines-at_once trace es later e =
    let b = told-at_once trace.client trace.interest (reverse later) (reverse es) in
    let changes = λ (t : List Event). changes_of trace.client trace.interest t in (
      map change_line b.0,
      ap (λ (t : List Event). map change_line (changes t)) (ap (λ (xs : List Event). reverse xs) e ∙ reverse-append es later)
          ∙ ap (λ (cs : List Change). map change_line cs) b.1
          ∙ map-append change_line (changes (reverse es)) b.0,
    )

-- ---- Events that change nothing

pub quiet-view : (e : Event) (t : List Event) (x : ℕ) → may_tell e ≡ false → view_of t x ≡ view_of (e ∷ t) x
quiet-view (events.Join s) t x h = refl
quiet-view events.Poll t x h = refl
quiet-view (events.Observe objects wait) t x h = refl
quiet-view events.Leave t x h = refl
quiet-view events.Cut t x h = refl
quiet-view events.Quit t x h = refl
quiet-view (events.Show objects) t x h = refl
quiet-view (events.Make action) t x h = cc
quiet-view (events.Got s reply) t x h = cc

flat-none : (f : ObjectId → List Change) (xs : List ObjectId) → ((x : ObjectId) → f x ≡ []) → flat_map f xs ≡ []
flat-none f [] g = refl
flat-none f (x ∷ xs) g = ap (λ (cs : List Change). cs ++ flat_map f xs) (g x) ∙ flat-none f xs g

pub others-quiet : (client : ClientId) (interest : List ObjectId) (e : Event) (t : List Event) → may_tell e ≡ false → changes_of client interest (e ∷ t) ≡ changes_of client interest t
others-quiet client interest e t h =
    ap (λ (cs : List Change). changes_of client interest t ++ cs)
    (flat-none (change_of client t e) interest (λ x. cond-true (same_view (view_of t x.0) (view_of (e ∷ t) x.0)) [] (change_by client t e x ∷ [])
    ((same-decides (view_of t x.0) (view_of (e ∷ t) x.0)).1 (quiet-view e t x.0 h))))
    ∙ append-nil (changes_of client interest t)
