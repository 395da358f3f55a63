-- What a client may write: where its action writes nothing else, and for which object it is denied.
use Rattle.std.proofs.Common.{◌≡◌, ℕ, ◌<◌, Bool, true, false, not, inl, inr, List, [], ◌∷◌, filter, Some, None, refl, sym, ap, ◌∙◌, subst, arith, true≢false}
use Rattle.std.proofs.lemmas.Bool.{cases_Bool}
use Rattle.std.proofs.lemmas.Option.{none-some, same_Some}
use Rattle.sv_world.specs.declared.action.Action.{Action}
use Rattle.sv_world.specs.Control.{is_in}
use Rattle.sv_world.specs.Faults.{first_fault_of_action, is_ascending}
use Rattle.sv_world.specs.Rights.{may_write, first_of, first_forbidden}
use Rattle.sv_world.specs.Sets.{read_set, write_set}
use Rattle.sv_world.proofs.Ascending.{ascending-head, ascending-filter}
use Rattle.sv_world.proofs.Good.{good_of_none}
use Rattle.sv_world.proofs.Members.{is_in-head, is_in-cons_cases, is_in-filter, is_in-filter_parts, all-members}
use Rattle.sv_journal.specs.Answer.{Rules}
use Rattle.sv_journal.specs.Laws.{IsRightful}
use Rattle.law_system.specs.Outcomes.{IsDenied}
use Rattle.law_system.proofs.Tests.{at_mask-ascending}

first-none : (xs : List ℕ) → first_of xs ≡ None → xs ≡ []
first-none [] e = refl
first-none (x ∷ xs) e = absurd (none-some x (sym e))

first-some : (xs : List ℕ) (x : ℕ) → first_of xs ≡ Some x → (rest : List ℕ) × (xs ≡ x ∷ rest)
first-some [] x e = absurd (none-some x e)
first-some (y ∷ ys) x e = (ys, ap (λ (z : ℕ). z ∷ ys) (same_Some y x e))

not-true : (b : Bool) → not b ≡ true → b ≡ false
not-true true e = absurd (true≢false (sym e))
not-true false e = refl

not-of_false : (b : Bool) → b ≡ false → not b ≡ true
not-of_false true e = absurd (true≢false e)
not-of_false false e = refl

module _ (r : Rules) (k : ℕ) (a : Action) where
  abbrev forbidden : ℕ → Bool
  forbidden x = not (may_write r.rights k x)

  pub may-all : (seq : ℕ) → first_forbidden r.rights k a ≡ None → IsRightful r (record { client = k; seq = seq; action = a })
  may-all seq e = all-members (λ x. may_write r.rights k x ≡ true) (write_set a) allowed
    where
      allowed : (x : ℕ) → is_in x (write_set a) ≡ true → may_write r.rights k x ≡ true
      allowed x m =
          elim (cases_Bool (may_write r.rights k x)) [
            | inl t ↦ t
            | inr f ↦
                (let there : is_in x (filter forbidden (write_set a)) ≡ true = is_in-filter forbidden x (write_set a) m (not-of_false (may_write r.rights k x) f) in
                let none : is_in x [] ≡ true = subst (λ (xs : List ℕ). is_in x xs ≡ true) (first-none (filter forbidden (write_set a)) e) there in
                absurd (true≢false (sym none)))
          ]

  pub denied-for : first_fault_of_action r.world.shape a ≡ None → (object : ℕ) → first_forbidden r.rights k a ≡ Some object → IsDenied r k a object
  denied-for good object e =
      let ws = write_set a in
      let first = first-some (filter forbidden ws) object e in
      let here : is_in object (filter forbidden ws) ≡ true = subst (λ (xs : List ℕ). is_in object xs ≡ true) (sym first.1) (is_in-head object first.0) in
      let parts = is_in-filter_parts forbidden object ws here in
      let ascending : is_ascending ws ≡ true = at_mask-ascending a.mask 0 (read_set a) (good_of_none r.world.shape a good).ascending in
      let up : is_ascending (object ∷ first.0) ≡ true = subst (λ (xs : List ℕ). is_ascending xs ≡ true) first.1 (ascending-filter forbidden ws ascending) in
      record {
        written = parts.0;
        forbidden = not-true (may_write r.rights k object) parts.1;
        lowest = λ x m low.
            elim (cases_Bool (may_write r.rights k x)) [
              | inl t ↦ t
              | inr f ↦
                  (let there : is_in x (filter forbidden ws) ≡ true = is_in-filter forbidden x ws m (not-of_false (may_write r.rights k x) f) in
                  elim (is_in-cons_cases x object first.0 (subst (λ (xs : List ℕ). is_in x xs ≡ true) first.1 there)) [
                    | inl same ↦ absurd (omega (arith, same, low))
                    | inr later ↦ (let high : object < x = ascending-head object first.0 up x later in absurd (omega (arith, high, low)))
                  ])
            ];
      }

  -- Without rights none is denied.
  pub none-denied : (object : ℕ) → r.rights ≡ None → IsDenied r k a object → ⊥
  none-denied object none d = true≢false (sym (ap (λ rights. may_write rights k object) none) ∙ d.forbidden)
