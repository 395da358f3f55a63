-- The walk down the positions with a set of wanted objects takes just the positions that a value comes from.
use Rattle.std.proofs.Common.{◌≡◌, ℕ, zero, suc, ◌+◌, ◌<◌, ◌≤◌, inl, inr, Bool, true, false, ◌||◌, List, [], ◌∷◌, ◌++◌, refl, sym, ◌∙◌, ap, ap₂, subst, arith, nat_eq, eq-eqb, eqb-true}
use Rattle.std.specs.Prelude.{if◌then◌else◌}
use Rattle.std.specs.List.{list_any}
use Rattle.std.proofs.lemmas.Bool.{cases_eq, cases_Bool, false_from_ne_true, or_cases, or_left, or_right, cond_both, cond-true, cond-false}
use Rattle.sv_world.specs.declared.action.Action.{Action}
use Rattle.sv_world.specs.Sets.{read_set, write_set}
use Rattle.sv_world.specs.Control.{is_in, action_at, last_writer, missing_writers, wanted_up_to}
use Rattle.sv_world.proofs.Members.{is_in-head, is_in-one, is_in-append_left, is_in-append_right, is_in-append_cases, same_test, any_from, any_parts}
use Rattle.sv_world.proofs.Writers.{last_writer-most, last_writer-writes, missing_writers-parts, missing_writers-has}
use Rattle.law_system.proofs.Tests.{at_mask-members}
use Rattle.sv_why.specs.Reasons.{writer_by, reasons_of}
use Rattle.sv_why.specs.Walks.{walk}

-- ---- Tests of the members of a list

any_same : (p q : ℕ → Bool) → ((x : ℕ) → p x ≡ q x) → (xs : List ℕ) → list_any p xs ≡ list_any q xs
any_same p q same [] = refl
any_same p q same (x ∷ xs) = ap₂ (λ (a b : Bool). a || b) (same x) (any_same p q same xs)

-- The walk depends on which objects are wanted alone.
pub walk-same : (A : List Action) (n : ℕ) (p q : ℕ → Bool) → ((x : ℕ) → p x ≡ q x) → walk A n p ≡ walk A n q
walk-same A zero p q same = refl
walk-same A (suc n) p q same =
    let ws = write_set (action_at A (suc n)) in
    let rs = read_set (action_at A (suc n)) in
    let taken = walk-same A n (λ x. is_in x rs || p x) (λ x. is_in x rs || q x) (λ x. ap (λ (b : Bool). is_in x rs || b) (same x)) in
    let left = walk-same A n p q same in
    ap (λ (b : Bool). if b then walk A n (λ x. is_in x rs || p x) ++ suc n ∷ [] else walk A n p) (any_same p q same ws)
    ∙ ap₂ (λ (xs ys : List ℕ). if list_any q ws then xs ++ suc n ∷ [] else ys) taken left

pub walk-taken : (A : List Action) (n : ℕ) (p : ℕ → Bool) → list_any p (write_set (action_at A (suc n))) ≡ true →
    walk A (suc n) p ≡ walk A n (λ x. is_in x (read_set (action_at A (suc n))) || p x) ++ suc n ∷ []
walk-taken A n p t = cond-true (list_any p (write_set (action_at A (suc n)))) (walk A n (λ x. is_in x (read_set (action_at A (suc n))) || p x) ++ suc n ∷ []) (walk A n p) t

pub walk-left : (A : List Action) (n : ℕ) (p : ℕ → Bool) → list_any p (write_set (action_at A (suc n))) ≡ false → walk A (suc n) p ≡ walk A n p
walk-left A n p t = cond-false (list_any p (write_set (action_at A (suc n)))) (walk A n (λ x. is_in x (read_set (action_at A (suc n))) || p x) ++ suc n ∷ []) (walk A n p) t

-- ---- What an action writes it reads

written_is_read : (a : Action) (x : ℕ) → is_in x (write_set a) ≡ true → is_in x (read_set a) ≡ true
written_is_read a x h = at_mask-members a.mask 0 (read_set a) x h

-- ---- Wanted objects and wanted positions

-- From n down, the wanted positions are the last writers of the wanted objects.
pub record StandsFor (A : List Action) (n : ℕ) (p : ℕ → Bool) (w : List ℕ) : Type 0 where
  pub from : (j : ℕ) → 0 < j → j ≤ n → is_in j w ≡ true → (x : ℕ) × ((p x ≡ true) × (j ≡ last_writer A x (suc n)))
  pub into : (x : ℕ) → p x ≡ true → 0 < last_writer A x (suc n) → is_in (last_writer A x (suc n)) w ≡ true

writer-here : (A : List Action) (x n : ℕ) → is_in x (write_set (action_at A n)) ≡ true → last_writer A x (suc n) ≡ n
writer-here A x n h = cond-true (is_in x (write_set (action_at A n))) n (last_writer A x n) h

writer-lower : (A : List Action) (x n : ℕ) → is_in x (write_set (action_at A n)) ≡ false → last_writer A x (suc n) ≡ last_writer A x n
writer-lower A x n h = cond-false (is_in x (write_set (action_at A n))) n (last_writer A x n) h

module _ (A : List Action) (n : ℕ) (p : ℕ → Bool) (w : List ℕ) (s : StandsFor A (suc n) p w) where
  stands-test : list_any p (write_set (action_at A (suc n))) ≡ is_in (suc n) w
  stands-test =
      same_test (list_any p (write_set (action_at A (suc n)))) (is_in (suc n) w)
      (λ t.
      let q = any_parts p (write_set (action_at A (suc n))) t in
      let here : last_writer A q.0 (suc (suc n)) ≡ suc n = writer-here A q.0 (suc n) q.1.0 in
      subst (λ (j : ℕ). is_in j w ≡ true) here (s.into q.0 q.1.1 (omega arith)))
      (λ t.
      let q = s.from (suc n) (omega arith) (omega arith) t in
      let is : suc n ≡ last_writer A q.0 (suc (suc n)) = q.1.1 in
      any_from p q.0 (write_set (action_at A (suc n)))
      (subst (λ (j : ℕ). is_in q.0 (write_set (action_at A j)) ≡ true) (sym is) (last_writer-writes A q.0 (suc (suc n)) (omega arith))) q.1.0)

  -- A last writer that is not the position itself is that below it.
  not-here : (x j : ℕ) → j ≤ n → j ≡ last_writer A x (suc (suc n)) → j ≡ last_writer A x (suc n)
  not-here x j l e =
      elim (cases_Bool (is_in x (write_set (action_at A (suc n))))) [
        | inl h ↦ (let here : last_writer A x (suc (suc n)) ≡ suc n = writer-here A x (suc n) h in absurd (omega arith))
        | inr h ↦ e ∙ writer-lower A x (suc n) h
      ]

  stands-left : list_any p (write_set (action_at A (suc n))) ≡ false → StandsFor A n p w
  stands-left none = record {
    from = λ j low high m. let q = s.from j low (omega arith) m in (q.0, (q.1.0, not-here q.0 j high q.1.1));
    into = λ x h low.
        let out : is_in x (write_set (action_at A (suc n))) ≡ false = false_from_ne_true (is_in x (write_set (action_at A (suc n))))
        (λ m. let t : list_any p (write_set (action_at A (suc n))) ≡ true = any_from p x (write_set (action_at A (suc n))) m h in cc) in
        let e : last_writer A x (suc (suc n)) ≡ last_writer A x (suc n) = writer-lower A x (suc n) out in
        subst (λ (j : ℕ). is_in j w ≡ true) e (s.into x h (omega arith));
  }

  stands-taken : StandsFor A n (λ x. is_in x (read_set (action_at A (suc n))) || p x) (w ++ missing_writers A 0 [] (suc n))
  stands-taken = record {
    from = λ j low high m. elim (is_in-append_cases j w (missing_writers A 0 [] (suc n)) m) [
      | inl l ↦ (let q = s.from j low (omega arith) l in (q.0, (or_right (is_in q.0 (read_set (action_at A (suc n)))) (p q.0) q.1.0, not-here q.0 j high q.1.1)))
      | inr r ↦ (let q = missing_writers-parts A 0 [] (suc n) j r in (q.0, (or_left (is_in q.0 (read_set (action_at A (suc n)))) (p q.0) q.1.0, q.1.1.0)))
    ];
    into = λ x h low.
        let read = λ (r : is_in x (read_set (action_at A (suc n))) ≡ true).
        is_in-append_right (last_writer A x (suc n)) w (missing_writers A 0 [] (suc n)) (missing_writers-has A 0 [] (suc n) (last_writer A x (suc n)) x r refl low refl) in
        elim (or_cases (is_in x (read_set (action_at A (suc n)))) (p x) h) [
          | inl r ↦ read r
          | inr o ↦ elim (cases_Bool (is_in x (write_set (action_at A (suc n))))) [
            | inl m ↦ read (written_is_read (action_at A (suc n)) x m)
            | inr m ↦
                (let e : last_writer A x (suc (suc n)) ≡ last_writer A x (suc n) = writer-lower A x (suc n) m in
                is_in-append_left (last_writer A x (suc n)) w (missing_writers A 0 [] (suc n)) (subst (λ (j : ℕ). is_in j w ≡ true) e (s.into x o (omega arith))))
          ]
        ];
  }

walk_is_wanted : (A : List Action) (n : ℕ) (p : ℕ → Bool) (w : List ℕ) → StandsFor A n p w → walk A n p ≡ wanted_up_to A 0 [] n w
walk_is_wanted A zero p w s = refl
walk_is_wanted A (suc n) p w s =
    let e = stands-test A n p w s in
    let more = λ (x : ℕ). is_in x (read_set (action_at A (suc n))) || p x in
    let taken = walk_is_wanted A n more (w ++ missing_writers A 0 [] (suc n)) (stands-taken A n p w s) in
    let left = walk_is_wanted A n p w in
    cond_both (list_any p (write_set (action_at A (suc n)))) (walk A n more ++ suc n ∷ []) (walk A n p) (λ (ks : List ℕ). ks ≡ wanted_up_to A 0 [] (suc n) w)
    (λ t. ap (λ (ks : List ℕ). ks ++ suc n ∷ []) taken
    ∙ sym (cond-true (is_in (suc n) w) (wanted_up_to A 0 [] n (w ++ missing_writers A 0 [] (suc n)) ++ suc n ∷ []) (wanted_up_to A 0 [] n w) (sym e ∙ t)))
    (λ t. left (stands-left A n p w s t)
    ∙ sym (cond-false (is_in (suc n) w) (wanted_up_to A 0 [] n (w ++ missing_writers A 0 [] (suc n)) ++ suc n ∷ []) (wanted_up_to A 0 [] n w) (sym e ∙ t)))

-- Nothing is wanted above the greatest wanted position.
wanted-lower : (A : List Action) (i n : ℕ) → i ≤ n → wanted_up_to A 0 [] n (i ∷ []) ≡ wanted_up_to A 0 [] i (i ∷ [])
wanted-lower A i zero l = ap (λ (m : ℕ). wanted_up_to A 0 [] m (i ∷ [])) (let e : zero ≡ i = omega arith in e)
wanted-lower A i (suc n) l =
    let less = wanted-lower A i n in
    elim (cases_eq i (suc n)) [
      | inl e ↦ ap (λ (m : ℕ). wanted_up_to A 0 [] m (i ∷ [])) (sym e)
      | inr ne ↦
          (let out : is_in (suc n) (i ∷ []) ≡ false = false_from_ne_true (is_in (suc n) (i ∷ [])) (λ m. let e : suc n ≡ i = is_in-one (suc n) i m in absurd (omega arith)) in
          cond-false (is_in (suc n) (i ∷ [])) (wanted_up_to A 0 [] n (i ∷ [] ++ missing_writers A 0 [] (suc n)) ++ suc n ∷ []) (wanted_up_to A 0 [] n (i ∷ [])) out ∙ less (omega arith))
    ]

-- The walk with the object alone takes just the positions that its value comes from.
pub walk_is_reasons : (A : List Action) (x pos : ℕ) → walk A pos (λ y. nat_eq y x) ≡ reasons_of A x pos
walk_is_reasons A x pos =
    walk_is_wanted A pos (λ y. nat_eq y x) (writer_by A x pos ∷ [])
    (record {
      from = λ j low high m. (x, (eq-eqb x x refl, is_in-one j (writer_by A x pos) m));
      into = λ y h low. subst (λ (z : ℕ). is_in (last_writer A z (suc pos)) (writer_by A x pos ∷ []) ≡ true) (sym (eqb-true y x h)) (is_in-head (writer_by A x pos) []);
    })
    ∙ wanted-lower A (writer_by A x pos) pos (last_writer-most A x pos)
