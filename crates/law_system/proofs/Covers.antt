-- What a reading of an object below a position finds, where a value of it is held from some position on below that.
use Rattle.std.proofs.Common.{◌≡◌, ℕ, ◌<◌, ◌≤◌, Bool, true, false, ◌&&◌, ◌==◌, nat_lt, nat_le, ◌⊎◌, inl, inr, List, [], ◌∷◌, Option, Some, None, IfSome, sym, ap, ◌∙◌, subst, arith, eqb-true, ltb-true, lt-ltb, leb-true, le-leb}
use Rattle.std.specs.List.{list_any, AllByRecursion, filter}
use Rattle.std.proofs.lemmas.Bool.{cond-true, cond-false, cases_Bool, or_cases, and_parts, and_from, cases_lt}
use Rattle.sv_versions.specs.Held.{Held, later_of, newest, found_below}
use Rattle.sv_versions.proofs.Greatest.{first_later, second_later}
use Rattle.law_system.specs.Serial.{is_covered}
use Rattle.law_system.proofs.Tests.{any-into}

-- A value of the object is held at the position.
abbrev pub is_held : ℕ → ℕ → List Held → Bool
is_held x q held = list_any (λ h. h.object == x && h.pos == q) held

pub covered-held : (x q low pos : ℕ) (held : List Held) → is_held x q held ≡ true → low ≤ q → q < pos → is_covered x low pos held ≡ true
covered-held x q low pos held h l u =
    any-into (λ h. h.object == x && h.pos == q) (λ h. h.object == x && (nat_le low h.pos && nat_lt h.pos pos)) held
    (λ h e.
    let p = and_parts (h.object == x) (h.pos == q) e in
    let s : h.pos ≡ q = eqb-true h.pos q p.1 in
    and_from (h.object == x) (nat_le low h.pos && nat_lt h.pos pos) p.0
    (and_from (nat_le low h.pos) (nat_lt h.pos pos) (le-leb low h.pos (omega arith)) (lt-ltb h.pos pos (omega arith))))
    h

later_cases : (g h : Held) → ((h.pos < g.pos) × (later_of g (Some h) ≡ g)) ⊎ ((g.pos ≤ h.pos) × (later_of g (Some h) ≡ h))
later_cases g h = elim (cases_lt h.pos g.pos) [ inl l ↦ inl (l, first_later g h l) | inr l ↦ inr (l, second_later g h l) ]

module _ (x pos : ℕ) (P : Held → Type 0) where
  abbrev found : List Held → Option Held
  found held = found_below held x pos

  abbrev IsThere : Held → Type 0
  IsThere h = (h.object ≡ x) × ((h.pos < pos) × P h)

  found-other : (g : Held) (held : List Held) → (g.object == x) ≡ false → found (g ∷ held) ≡ found held
  found-other g held e = ap (λ hs. newest (filter (λ h. nat_lt h.pos pos) hs)) (cond-false (g.object == x) _ _ e)

  found-late : (g : Held) (held : List Held) → (g.object == x) ≡ true → nat_lt g.pos pos ≡ false → found (g ∷ held) ≡ found held
  found-late g held e f =
      ap (λ hs. newest (filter (λ h. nat_lt h.pos pos) hs)) (cond-true (g.object == x) _ _ e)
      ∙ ap newest (cond-false (nat_lt g.pos pos) _ _ f)

  found-one : (g : Held) (held : List Held) → (g.object == x) ≡ true → nat_lt g.pos pos ≡ true → found (g ∷ held) ≡ Some (later_of g (found held))
  found-one g held e f =
      ap (λ hs. newest (filter (λ h. nat_lt h.pos pos) hs)) (cond-true (g.object == x) _ _ e)
      ∙ ap newest (cond-true (nat_lt g.pos pos) _ _ f)

  later-there : (g : Held) (o : Option Held) → IsThere g → IfSome o IsThere → IsThere (later_of g o)
  later-there g None p q = p
  later-there g (Some h) p q =
      elim (later_cases g h) [ inl l ↦ subst IsThere (sym l.1) p | inr l ↦ subst IsThere (sym l.1) q ]

  later-least : (low : ℕ) (g : Held) (o : Option Held) → low ≤ g.pos → low ≤ (later_of g o).pos
  later-least low g None p = p
  later-least low g (Some h) p =
      elim (later_cases g h) [
        | inl l ↦ subst (λ (k : Held). low ≤ k.pos) (sym l.1) p
        | inr l ↦ subst (λ (k : Held). low ≤ k.pos) (sym l.1) (let m : g.pos ≤ h.pos = l.0 in omega arith)
      ]

  found-there : (held : List Held) → AllByRecursion P held → IfSome (found held) IsThere
  found-there [] each = tt
  found-there (g ∷ held) each =
      let rest : IfSome (found held) IsThere = found-there held each.1 in
      elim (cases_Bool (g.object == x)) [
        | inr e ↦ subst (λ o. IfSome o IsThere) (sym (found-other g held e)) rest
        | inl e ↦ elim (cases_Bool (nat_lt g.pos pos)) [
          | inr f ↦ subst (λ o. IfSome o IsThere) (sym (found-late g held e f)) rest
          | inl f ↦ subst (λ o. IfSome o IsThere) (sym (found-one g held e f))
              (later-there g (found held) (eqb-true g.object x e, (ltb-true g.pos pos f, each.0)) rest)
        ]
      ]

  abbrev pub IsFound : ℕ → List Held → Type 0
  IsFound low held = (h : Held) × ((found held ≡ Some h) × ((low ≤ h.pos) × IsThere h))

  moved : (low : ℕ) (g : Held) (held : List Held) → found (g ∷ held) ≡ found held → IsFound low held → IsFound low (g ∷ held)
  moved low g held e f = (f.0, (e ∙ f.1.0, f.1.1))

  with_later : (low : ℕ) (g : Held) (o : Option Held) → low ≤ g.pos → IsThere g → IfSome o IsThere → (low ≤ (later_of g o).pos) × IsThere (later_of g o)
  with_later low g o l p q = (later-least low g o l, later-there g o p q)

  after_later : (low : ℕ) (g h : Held) → IsThere g → low ≤ h.pos → IsThere h → (low ≤ (later_of g (Some h)).pos) × IsThere (later_of g (Some h))
  after_later low g h p l q =
      elim (later_cases g h) [
        | inl m ↦ subst (λ (k : Held). (low ≤ k.pos) × IsThere k) (sym m.1) (let s : h.pos < g.pos = m.0 in (omega arith, p))
        | inr m ↦ subst (λ (k : Held). (low ≤ k.pos) × IsThere k) (sym m.1) (l, q)
      ]

  -- Where a value is held from `low` up to the position, the one that is found stands there too, and has what all values held have.
  pub covered-found : (low : ℕ) (held : List Held) → AllByRecursion P held → is_covered x low pos held ≡ true → IsFound low held
  covered-found low [] each h = cc
  covered-found low (g ∷ held) each h =
      let later : is_covered x low pos held ≡ true → IsFound low held = covered-found low held each.1 in
      let rest : IfSome (found held) IsThere = found-there held each.1 in
      let here : Bool = g.object == x && (nat_le low g.pos && nat_lt g.pos pos) in
      elim (or_cases here (is_covered x low pos held) h) [
        | inl y ↦
            (let p = and_parts (g.object == x) (nat_le low g.pos && nat_lt g.pos pos) y in
            let q = and_parts (nat_le low g.pos) (nat_lt g.pos pos) p.1 in (
              later_of g (found held),
              (found-one g held p.0 q.1, with_later low g (found held) (leb-true low g.pos q.0) (eqb-true g.object x p.0, (ltb-true g.pos pos q.1, each.0)) rest),
            ))
        | inr r ↦
            (let f = later r in
            elim (cases_Bool (g.object == x)) [
              | inr e ↦ moved low g held (found-other g held e) f
              | inl e ↦ elim (cases_Bool (nat_lt g.pos pos)) [
                | inr k ↦ moved low g held (found-late g held e k) f
                | inl k ↦ (
                  later_of g (Some f.0),
                  (
                    found-one g held e k ∙ ap (λ o. Some (later_of g o)) f.1.0,
                    after_later low g f.0 (eqb-true g.object x e, (ltb-true g.pos pos k, each.0)) f.1.1.0 f.1.1.1,
                  ),
                )
              ]
            ])
      ]
