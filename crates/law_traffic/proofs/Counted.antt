-- Entries of a journal, session by session.
use Rattle.std.proofs.Common.{◌≡◌, ℕ, zero, suc, ◌+◌, ◌*◌, ◌<◌, ◌≤◌, Bool, true, false, cond, ◌==◌, inl, inr, List, [], ◌∷◌, length, refl, sym, subst, ◌∙◌, arith, eq-eqb, true≢false}
use Rattle.std.specs.List.{AllByRecursion}
use Rattle.std.proofs.lemmas.Bool.{cond-true, cases_eq}
use Rattle.sv_journal.specs.declared.entry.Entry.{Entry}
use Rattle.law_traffic.proofs.Ours.{mine}

abbrev pub AreUnder : ℕ → List Entry → Type 0
AreUnder count j = AllByRecursion (λ (e : Entry). e.session < count) j

without_first : (P : Entry → Type 0) (b : Bool) (e : Entry) (l : List Entry) → AllByRecursion P (cond b (e ∷ l) l) → AllByRecursion P l
without_first P true e l all = all.1
without_first P false e l all = all

the_first : (P : Entry → Type 0) (e : Entry) (j : List Entry) → AllByRecursion P (mine e.session (e ∷ j)) → P e
the_first P e j all = (subst (AllByRecursion P) (cond-true (e.session == e.session) (e ∷ mine e.session j) (mine e.session j) (eq-eqb e.session e.session refl)) all).0

-- What holds of the entries of each session holds of all entries.
pub each_by_session : (P : Entry → Type 0) (count : ℕ) (j : List Entry) → AreUnder count j → ((s : ℕ) → s < count → AllByRecursion P (mine s j)) → AllByRecursion P j
each_by_session P count [] below each = tt
each_by_session P count (e ∷ j) below each = (
  the_first P e j (each e.session below.0),
  each_by_session P count j below.1 (λ s l. without_first P (e.session == s) e (mine s j) (each s l)),
)

-- ---- How many entries

abbrev others : ℕ → List Entry → List Entry
others c [] = []
others c (e ∷ j) = cond (e.session == c) (others c j) (e ∷ others c j)

both_parts : (c : ℕ) (j : List Entry) → length j ≡ length (mine c j) + length (others c j)
both_parts c [] = refl
both_parts c (e ∷ j) = go (e.session == c) (both_parts c j)
  where
    go : (b : Bool) → length j ≡ length (mine c j) + length (others c j) → suc (length j) ≡ length (cond b (e ∷ mine c j) (mine c j)) + length (cond b (others c j) (e ∷ others c j))
    go true before = omega (arith, before)
    go false before = omega (arith, before)

others_under : (c : ℕ) (j : List Entry) → AreUnder (suc c) j → AreUnder c (others c j)
others_under c [] below = tt
others_under c (e ∷ j) below = go (e.session == c) refl (others_under c j below.1)
  where
    under : (e.session == c) ≡ false → e.session < c
    under away = elim (cases_eq e.session c) [ inl same ↦ absurd (true≢false (sym (eq-eqb e.session c same) ∙ away)) | inr other ↦ (let low : e.session < suc c = below.0 in omega (arith, low)) ]

    go : (b : Bool) → (e.session == c) ≡ b → AreUnder c (others c j) → AreUnder c (cond b (others c j) (e ∷ others c j))
    go true is rest = rest
    go false is rest = (under is, rest)

others_fewer : (c s : ℕ) (j : List Entry) → length (mine s (others c j)) ≤ length (mine s j)
others_fewer c s [] = omega arith
others_fewer c s (e ∷ j) = go (e.session == c) (e.session == s) refl (others_fewer c s j)
  where
    one : (b : Bool) → length (mine s (others c j)) ≤ length (mine s j) → length (cond b (e ∷ mine s (others c j)) (mine s (others c j))) ≤ length (cond b (e ∷ mine s j) (mine s j))
    one true l = omega (arith, l)
    one false l = l

    more : (b : Bool) → length (mine s (others c j)) ≤ length (mine s j) → length (mine s (others c j)) ≤ length (cond b (e ∷ mine s j) (mine s j))
    more true l = omega (arith, l)
    more false l = l

    go : (a b : Bool) → (e.session == s) ≡ b → length (mine s (others c j)) ≤ length (mine s j) → length (mine s (cond a (others c j) (e ∷ others c j))) ≤ length (cond b (e ∷ mine s j) (mine s j))
    go true b is l = more b l
    go false b is l = subst (λ (d : Bool). length (cond d (e ∷ mine s (others c j)) (mine s (others c j))) ≤ length (cond b (e ∷ mine s j) (mine s j))) (sym is) (one b l)

-- A journal of so many sessions, each of at most 531 entries.
pub few_entries : (count : ℕ) (j : List Entry) → AreUnder count j → ((s : ℕ) → s < count → length (mine s j) ≤ 531) → length j ≤ count * 531
few_entries zero [] below each = omega arith
few_entries zero (e ∷ j) below each = absurd (omega (arith, below.0))
few_entries (suc c) j below each =
    let rest = few_entries c (others c j) (others_under c j below) (λ s l. let fewer = others_fewer c s j in let most = each s (omega (arith, l)) in omega (arith, fewer, most)) in
    let here = each c (omega arith) in
    let sum = both_parts c j in
    omega (arith, rest, here, sum)
