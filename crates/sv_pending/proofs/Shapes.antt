-- Values held of the right length give views and kept results of the right length.
use Rattle.std.proofs.Common.{◌≡◌, ℕ, ◌+◌, ◌⊎◌, inl, inr, Bool, true, false, cond, ◌||◌, eqb, List, [], ◌∷◌, ◌++◌, length, map, Option, Some, None, option_map, option_and_then, refl, sym, ap, ◌∙◌, subst, arith}
use Rattle.std.specs.Prelude.{ℤ, All}
use Rattle.std.specs.Option.{IfSome}
use Rattle.std.proofs.lemmas.Bool.{cond-true, cond-false, eqb-true, eq-eqb, or_cases, cases_Bool, both_ways}
use Rattle.std.proofs.lemmas.List.{length-map}
use Rattle.std.proofs.lemmas.List.Elements.{All-nil, All-cons, All-head, All-tail}
use Rattle.sv_world.specs.declared.action.Action.{Action}
use Rattle.sv_world.specs.declared.world.ObjectId.{ObjectId}
use Rattle.sv_world.specs.Control.{is_in}
use Rattle.sv_world.specs.Sets.{read_set, write_set}
use Rattle.sv_eval.specs.Evaluation.{effect_of}
use Rattle.sv_eval.proofs.Effects.{effect_shaped, effect_counted}
use Rattle.sv_versions.specs.Held.{Held, latest}
use Rattle.sv_versions.proofs.Laws.{latest_has}
use Rattle.sv_pending.specs.Pending.{PendingAction, Overlaid, Unwritten, Unknown, KeptValues, value_beside, kept_for, last_of, overlay_of, view_under, view_over, views_over, kept_of, redone_after, redone}
use Rattle.sv_pending.specs.Made.{overlay_by}
use Rattle.sv_pending.specs.Shapes.{IsLong, KeepsShaped, AreShaped, ShowsShaped}

value_long : (attrs x : ℕ) (os : List ℕ) (vs : List (List ℤ)) → length vs ≡ length os → All (IsLong attrs) vs → is_in x os ≡ true → length (value_beside os vs x) ≡ attrs
value_long attrs x [] vs l a e = absurd (both_ways _ refl e)
value_long attrs x (o ∷ os) [] l a e = absurd (omega arith)
value_long attrs x (o ∷ os) (v ∷ vs) l a e = go (cases_Bool (eqb o x)) (or_cases _ _ e) (λ i. value_long attrs x os vs (omega arith) (All-tail (IsLong attrs) v vs a) i)
  where
    go : (eqb o x ≡ true) ⊎ (eqb o x ≡ false) → (eqb x o ≡ true) ⊎ (is_in x os ≡ true) → (is_in x os ≡ true → length (value_beside os vs x) ≡ attrs) → length (cond (eqb o x) v (value_beside os vs x)) ≡ attrs
    go (inl h) _ rest = ap (λ (w : List ℤ). length w) (cond-true (eqb o x) _ _ h) ∙ All-head (IsLong attrs) v vs a
    go (inr h) (inl i) rest = absurd (both_ways _ h (eq-eqb o x (sym (eqb-true x o i))))
    go (inr h) (inr i) rest = ap (λ (w : List ℤ). length w) (cond-false (eqb o x) _ _ h) ∙ rest i

kept_long : (attrs x : ℕ) (p : PendingAction) (k : Option (List (List ℤ))) → IfSome k (λ vs. (length vs ≡ length (write_set p.action)) × All (IsLong attrs) vs) → is_in x (write_set p.action) ≡ true → ShowsShaped attrs (kept_for p k x)
kept_long attrs x p None s e = tt
kept_long attrs x p (Some vs) s e = value_long attrs x (write_set p.action) vs s.0 s.1 e

by_long : (attrs x : ℕ) (p : PendingAction) → KeepsShaped attrs p → (is_in x (write_set p.action) ≡ true) ⊎ (is_in x (write_set p.action) ≡ false) → ShowsShaped attrs (overlay_by p x)
by_long attrs x p s (inl e) = subst (ShowsShaped attrs) (sym (cond-true (is_in x (write_set p.action)) _ _ e)) (kept_long attrs x p p.kept s e)
by_long attrs x p s (inr e) = subst (ShowsShaped attrs) (sym (cond-false (is_in x (write_set p.action)) _ _ e)) tt

last_long : (attrs : ℕ) (earlier later : Overlaid) → ShowsShaped attrs earlier → ShowsShaped attrs later → ShowsShaped attrs (last_of earlier later)
last_long attrs earlier Unwritten a b = a
last_long attrs earlier Unknown a b = tt
last_long attrs earlier (KeptValues v) a b = b

pub overlay_shaped : (attrs x : ℕ) (ps : List PendingAction) → AreShaped attrs ps → ShowsShaped attrs (overlay_of ps x)
overlay_shaped attrs x [] s = tt
overlay_shaped attrs x (p ∷ ps) s =
    last_long attrs (overlay_by p x) (overlay_of ps x) (by_long attrs x p s.0 (cases_Bool (is_in x (write_set p.action)))) (overlay_shaped attrs x ps s.1)

under_long : (attrs : ℕ) (o : Overlaid) (stable : Option (List ℤ)) → ShowsShaped attrs o → IfSome stable (IsLong attrs) → IfSome (view_under o stable) (IsLong attrs)
under_long attrs Unwritten stable s l = l
under_long attrs Unknown stable s l = tt
under_long attrs (KeptValues v) stable s l = s

-- each view is of the right length
pub view_shaped : (attrs x : ℕ) (held : List Held) (ps : List PendingAction) → All (λ h. IsLong attrs h.value) held → AreShaped attrs ps → IfSome (view_over held ps x) (IsLong attrs)
view_shaped attrs x held ps a s = under_long attrs (overlay_of ps x) (latest held x) (overlay_shaped attrs x ps s) (latest_has (IsLong attrs) held x a)

views_more : (attrs n : ℕ) (view : Option (List ℤ)) (rest : Option (List (List ℤ))) → IfSome view (IsLong attrs) → IfSome rest (λ vs. (length vs ≡ n) × All (IsLong attrs) vs) → IfSome (option_and_then (λ v. option_map (λ vs. v ∷ vs) rest) view) (λ vs. (length vs ≡ n + 1) × All (IsLong attrs) vs)
views_more attrs n None rest a b = tt
views_more attrs n (Some v) None a b = tt
views_more attrs n (Some v) (Some vs) a b = (omega (arith, b.0), All-cons (IsLong attrs) v vs a b.1)

suc_is : (attrs n m : ℕ) (o : Option (List (List ℤ))) → n ≡ m → IfSome o (λ vs. (length vs ≡ n) × All (IsLong attrs) vs) → IfSome o (λ vs. (length vs ≡ m) × All (IsLong attrs) vs)
suc_is attrs n m None e a = tt
suc_is attrs n m (Some vs) e a = (a.0 ∙ e, a.1)

views_shaped : (attrs : ℕ) (held : List Held) (ps : List PendingAction) (xs : List ℕ) → All (λ h. IsLong attrs h.value) held → AreShaped attrs ps → IfSome (views_over held ps xs) (λ vs. (length vs ≡ length xs) × All (IsLong attrs) vs)
views_shaped attrs held ps [] a s = (refl, All-nil (IsLong attrs))
views_shaped attrs held ps (x ∷ xs) a s =
    suc_is attrs (length xs + 1) (length (x ∷ xs)) (views_over held ps (x ∷ xs)) (omega arith)
    (views_more attrs (length xs) (view_over held ps x) (views_over held ps xs) (view_shaped attrs x held ps a s) (views_shaped attrs held ps xs a s))

outcome_long : (attrs : ℕ) (action : Action) (views : Option (List (List ℤ))) → IfSome views (λ vs. (length vs ≡ length (read_set action)) × All (IsLong attrs) vs) → IfSome (option_map (λ values. (effect_of action values).writes) views) (λ vs. (length vs ≡ length (write_set action)) × All (IsLong attrs) vs)
outcome_long attrs action None a = tt
outcome_long attrs action (Some vs) a =
    (effect_counted action vs (a.0 ∙ length-map action.reads (λ (o : ObjectId). o.0)), effect_shaped attrs action vs a.1)

-- so is each kept result
pub kept_shaped : (attrs : ℕ) (held : List Held) (ps : List PendingAction) (action : Action) → All (λ h. IsLong attrs h.value) held → AreShaped attrs ps → IfSome (kept_of held ps action) (λ vs. (length vs ≡ length (write_set action)) × All (IsLong attrs) vs)
kept_shaped attrs held ps action a s = outcome_long attrs action (views_over held ps (read_set action)) (views_shaped attrs held ps (read_set action) a s)

pub shaped_push : (attrs : ℕ) (ps : List PendingAction) (p : PendingAction) → AreShaped attrs ps → KeepsShaped attrs p → AreShaped attrs (ps ++ p ∷ [])
shaped_push attrs [] p s t = (t, tt)
shaped_push attrs (q ∷ ps) p s t = (s.0, shaped_push attrs ps p s.1 t)

redone_from : (attrs : ℕ) (held : List Held) (earlier ps : List PendingAction) → All (λ h. IsLong attrs h.value) held → AreShaped attrs earlier → AreShaped attrs (redone_after held earlier ps)
redone_from attrs held earlier [] a s = s
redone_from attrs held earlier (p ∷ ps) a s =
    redone_from attrs held (earlier ++ record p { kept = kept_of held earlier p.action } ∷ []) ps a (shaped_push attrs earlier _ s (kept_shaped attrs held earlier p.action a s))

-- and all that are computed again
pub redone_shaped : (attrs : ℕ) (held : List Held) (ps : List PendingAction) → All (λ h. IsLong attrs h.value) held → AreShaped attrs (redone held ps)
redone_shaped attrs held ps a = redone_from attrs held [] ps a tt
