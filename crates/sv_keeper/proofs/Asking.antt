-- Why a session may not ask.
use Rattle.std.proofs.Common.{◌≡◌, ◌≢◌, ◌⊎◌, inl, inr, ℕ, suc, ◌≤◌, Bool, true, false, cond, eqb, ◌&&◌, ◌||◌, List, [], ◌∷◌, refl, sym, subst, ap, ◌∙◌, arith}
use Rattle.std.specs.Prelude.{not}
use Rattle.std.proofs.lemmas.Bool.{true≢false, eqb-true, ne_eqb, cases_Bool, and_left, and_right, or_from, and_parts, and_cases}
use Rattle.sv_journal.specs.declared.entry.Entry.{Entry}
use Rattle.sv_journal.specs.Sessions.{is_ended}
use Rattle.sv_core.specs.Rows.{has_entry}
use Rattle.sv_living.specs.Sessions.{is_open, next_session, may_begin, may_ask, AreInOrder}
use Rattle.sv_living.specs.World.{IsStepFault}
use Rattle.sv_living.specs.declared.fault.StepFault.TheVariants as causes

-- A session that asks and has no entry yet is the next one.
is_next : (h : List Entry) (s : ℕ) → may_ask h s ≡ true → has_entry h s ≡ false → s ≡ next_session h
is_next h s asks none = eqb-true s (next_session h) (go (is_open h s) (and_left (has_entry h s) (not (is_ended h s)) none) (eqb s (next_session h)) (may_begin h) asks)
  where
    go : (a : Bool) → a ≡ false → (b c : Bool) → (a || (b && c)) ≡ true → b ≡ true
    go true e b c is = absurd (true≢false e)
    go false e true c is = refl
    go false e false c is = absurd (true≢false (sym is))

-- Sessions from the next one on have no entry.
none_from : (h : List Entry) → AreInOrder h → (s : ℕ) → next_session h ≤ s → has_entry h s ≡ false
none_from [] order s from = refl
none_from (e ∷ h) order s from = go (has_entry h e.session) refl (λ less. none_from h order.1 s less)
  where
    go : (b : Bool) → has_entry h e.session ≡ b → (next_session h ≤ s → has_entry h s ≡ false) → (eqb e.session s || has_entry h s) ≡ false
    go true i before =
        let same = ap (λ (b : Bool). cond b (next_session h) (suc (next_session h))) i in
        let none = before (omega (arith, from, same)) in
        or_from (eqb e.session s) (has_entry h s) (ne_eqb e.session s (λ is. true≢false (sym i ∙ ap (λ (n : ℕ). has_entry h n) is ∙ none))) none
    go false i before =
        let more = ap (λ (b : Bool). cond b (next_session h) (suc (next_session h))) i in
        let next = is_next h e.session order.0 i in
        or_from (eqb e.session s) (has_entry h s) (ne_eqb e.session s (λ is. omega (arith, from, is, next, more))) (before (omega (arith, from, more)))

-- The next one is not open.
pub next_is_not_open : (h : List Entry) → AreInOrder h → is_open h (next_session h) ≡ false
next_is_not_open h order = and_left (has_entry h (next_session h)) (not (is_ended h (next_session h))) (none_from h order (next_session h) (omega arith))

-- Where it is not open, and not the next one, it may not ask.
pub not_open : (h : List Entry) (s : ℕ) → IsStepFault h s causes.NotOpen → may_ask h s ≡ true → ⊥
not_open h s is asks =
    true≢false (sym asks ∙ or_from (is_open h s) (eqb s (next_session h) && may_begin h) is.0 (and_left (eqb s (next_session h)) (may_begin h) is.1))

-- Where it is the next one, and none may begin, it may not ask.
pub no_room : (h : List Entry) → AreInOrder h → (s : ℕ) → IsStepFault h s causes.NoRoom → may_ask h s ≡ true → ⊥
no_room h order s is asks =
    let closed : is_open h s ≡ false = ap (λ (n : ℕ). is_open h n) (eqb-true s (next_session h) is.0) ∙ next_is_not_open h order in
    true≢false (sym asks ∙ or_from (is_open h s) (eqb s (next_session h) && may_begin h) closed (and_right (eqb s (next_session h)) (may_begin h) is.1))
