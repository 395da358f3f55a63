-- A dispute is of two reports that differ, of different clients. So where all clients but one give the same values, that one is named.
use Rattle.std.proofs.Common.{◌≡◌, ℕ, Bool, true, false, ◌||◌, inl, inr, List, [], ◌∷◌, ◌++◌, length, All, ℤ, Option, Some, None, option_to_list, refl, sym, ap, ◌∙◌, subst, suc, true≢false}
use Rattle.std.specs.Prelude.{if◌then◌else◌}
use Rattle.std.specs.List.{list_any, flat_map, AllByRecursion}
use Rattle.std.proofs.lemmas.Bool.{cases_eq, eq-eqb}
use Rattle.std.proofs.lemmas.List.Elements.{All-from_recursion, All-weaker}
use Rattle.std.proofs.lemmas.Option.{none-some, same_Some}
use Rattle.sv_world.specs.Control.{below}
use Rattle.sv_journal.specs.declared.entry.Entry.{Entry}
use Rattle.sv_journal.specs.History.{either, accepted}
use Rattle.sv_client.specs.Same.{are_same_values}
use Rattle.sv_witness.specs.declared.report.Report.{Report}
use Rattle.sv_witness.specs.declared.report.Dispute.{Dispute}
use Rattle.sv_witness.specs.Reports.{is_by, gives, is_nothing, agreed_values, reports_of, agreed_result}
use Rattle.sv_witness.specs.Agreement.{IsAmong, here, there, AreTwo}
use Rattle.sv_witness.specs.Disputes.{first_report, dispute_about, disputes_of, NamesClient}
use Rattle.sv_witness.specs.Honesty.{IsDisputed, AllGiveBut, NoneGiveNone}
use Rattle.sv_witness.proofs.Two.{values-self, none-among, AreOfDifferent, reports-different, two-agree}

-- ---- One dispute

first-among : (r : Report) (rs : List Report) → IsAmong (first_report r rs) (r ∷ rs)
first-among r [] = here
first-among r (x ∷ xs) = there (first-among x xs)

-- Where the first report differs from the last, it is another one.
first-before : (r : Report) (rs : List Report) → gives r.values (first_report r rs) ≡ false → IsAmong (first_report r rs) rs
first-before r [] e = absurd (true≢false (sym (values-self r.values) ∙ e))
first-before r (x ∷ xs) e = first-among x xs

pub record IsOfTwo (p : ℕ) (rs : List Report) (d : Dispute) : Type 0 where
  pub place : d.pos ≡ p
  pub one : IsAmong d.first rs
  pub other : IsAmong d.second rs
  pub apart : d.first.client.0 ≡ d.second.client.0 → ⊥
  pub differ : d.first.values ≡ d.second.values → ⊥

of-more : (p : ℕ) (r : Report) (rs : List Report) (d : Dispute) → IsOfTwo p rs d → IsOfTwo p (r ∷ rs) d
of-more p r rs d t = record { place = t.place; one = there t.one; other = there t.other; apart = t.apart; differ = t.differ }

new-of-two : (p : ℕ) (r : Report) (rs : List Report) → AreOfDifferent (r ∷ rs) → gives r.values (first_report r rs) ≡ false →
    IsOfTwo p (r ∷ rs) (record { pos = p; first = first_report r rs; second = r })
new-of-two p r rs different e = record {
  place = refl;
  one = first-among r rs;
  other = here;
  apart = λ same.
      true≢false (sym (eq-eqb (first_report r rs).client.0 r.client.0 same)
      ∙ none-among (is_by r.client.0) (first_report r rs) rs (first-before r rs e) different.0);
  differ = λ same. true≢false (sym (ap (λ (vs : List (List ℤ)). are_same_values vs r.values) same ∙ values-self r.values) ∙ e);
}

pub dispute-of-two : (p : ℕ) (rs : List Report) (d : Dispute) → AreOfDifferent rs → dispute_about p rs ≡ Some d → IsOfTwo p rs d
dispute-of-two p [] d different is = absurd (none-some d is)
dispute-of-two p (r ∷ rs) d different is = go (dispute_about p rs) refl is (dispute-of-two p rs d different.1)
  where
    last : (b : Bool) → gives r.values (first_report r rs) ≡ b → (if b then None else Some (record { pos = p; first = first_report r rs; second = r })) ≡ Some d → IsOfTwo p (r ∷ rs) d
    last true e same = absurd (none-some d same)
    last false e same = subst (IsOfTwo p (r ∷ rs)) (same_Some _ d same) (new-of-two p r rs different e)

    go : (o : Option Dispute) → dispute_about p rs ≡ o →
        either o (if gives r.values (first_report r rs) then None else Some (record { pos = p; first = first_report r rs; second = r })) ≡ Some d →
        (dispute_about p rs ≡ Some d → IsOfTwo p rs d) → IsOfTwo p (r ∷ rs) d
    go (Some w) f same before = of-more p r rs d (before (f ∙ same))
    go None f same before = last (gives r.values (first_report r rs)) refl same

pub dispute-place : (p : ℕ) (rs : List Report) (d : Dispute) → dispute_about p rs ≡ Some d → d.pos ≡ p
dispute-place p [] d is = absurd (none-some d is)
dispute-place p (r ∷ rs) d is = go (dispute_about p rs) refl is (dispute-place p rs d)
  where
    last : (b : Bool) → (if b then None else Some (record { pos = p; first = first_report r rs; second = r })) ≡ Some d → d.pos ≡ p
    last true same = absurd (none-some d same)
    last false same = ap (λ (x : Dispute). x.pos) (sym (same_Some _ d same))

    go : (o : Option Dispute) → dispute_about p rs ≡ o →
        either o (if gives r.values (first_report r rs) then None else Some (record { pos = p; first = first_report r rs; second = r })) ≡ Some d →
        (dispute_about p rs ≡ Some d → d.pos ≡ p) → d.pos ≡ p
    go (Some w) f same before = before (f ∙ same)
    go None f same before = last (gives r.values (first_report r rs)) same

-- ---- All disputes

each-listed : (P : Dispute → Type 0) (f : ℕ → Option Dispute) (xs : List ℕ) → ((p : ℕ) (d : Dispute) → f p ≡ Some d → P d) →
    AllByRecursion P (flat_map (λ p. option_to_list (f p)) xs)
each-listed P f [] each = tt
each-listed P f (x ∷ xs) each = go (f x) refl (each-listed P f xs each)
  where
    go : (o : Option Dispute) → f x ≡ o → AllByRecursion P (flat_map (λ p. option_to_list (f p)) xs) →
        AllByRecursion P (option_to_list o ++ flat_map (λ p. option_to_list (f p)) xs)
    go None e rest = rest
    go (Some d) e rest = (each x d e, rest)

disputed : (h : List Entry) (p : ℕ) (d : Dispute) → dispute_about p (reports_of h p) ≡ Some d → IsDisputed h d
disputed h p d is =
    let t = dispute-of-two p (reports_of h p) d (reports-different h p) is in
    record {
      one = subst (λ n. IsAmong d.first (reports_of h n)) (sym t.place) t.one;
      other = subst (λ n. IsAmong d.second (reports_of h n)) (sym t.place) t.other;
      apart = t.apart;
      differ = t.differ;
    }

pub all-disputed : (h : List Entry) → All (IsDisputed h) (disputes_of h)
all-disputed h =
    All-from_recursion (IsDisputed h) (disputes_of h)
    (each-listed (IsDisputed h) (λ p. dispute_about p (reports_of h p)) (below (suc (length (accepted h)))) (disputed h))

names-one : (liar : ℕ) (truth : ℕ → List (List ℤ)) (h : List Entry) → AllGiveBut liar truth h → (d : Dispute) → IsDisputed h d → NamesClient liar d
names-one liar truth h give d t = elim (cases_eq d.first.client.0 liar) [
  | inl e ↦ inl e
  | inr ne ↦ elim (cases_eq d.second.client.0 liar) [
    | inl e ↦ inr e
    | inr not' ↦ absurd (t.differ (give d.pos d.first t.one ne ∙ sym (give d.pos d.second t.other not')))
  ]
]

pub all-name : (liar : ℕ) (truth : ℕ → List (List ℤ)) (h : List Entry) → AllGiveBut liar truth h → All (NamesClient liar) (disputes_of h)
all-name liar truth h give = All-weaker (IsDisputed h) (NamesClient liar) (names-one liar truth h give) (disputes_of h) (all-disputed h)

-- ---- Agreed results

-- What is agreed is what one of the reports gives.
agreed-given : (rs : List Report) (vs : List (List ℤ)) → agreed_values rs ≡ Some vs → (r : Report) × (IsAmong r rs × (r.values ≡ vs))
agreed-given [] vs is = absurd (none-some vs is)
agreed-given (r ∷ rs) vs is = go (agreed_values rs) refl is (agreed-given rs vs)
  where
    last : (b : Bool) → (if b then Some r.values else None) ≡ Some vs → (q : Report) × (IsAmong q (r ∷ rs) × (q.values ≡ vs))
    last true same = (r, (here, same_Some r.values vs same))
    last false same = absurd (none-some vs same)

    go : (o : Option (List (List ℤ))) → agreed_values rs ≡ o → either o (if is_nothing r.values || list_any (gives r.values) rs then Some r.values else None) ≡ Some vs →
        (agreed_values rs ≡ Some vs → (q : Report) × (IsAmong q rs × (q.values ≡ vs))) → (q : Report) × (IsAmong q (r ∷ rs) × (q.values ≡ vs))
    go (Some w) f same before = let q = before (f ∙ same) in (q.0, (there q.1.0, q.1.1))
    go None f same before = last (is_nothing r.values || list_any (gives r.values) rs) same

-- Of two different clients one is not the liar.
two-true : (liar : ℕ) (truth : ℕ → List (List ℤ)) (h : List Entry) (p : ℕ) (vs : List (List ℤ)) → AllGiveBut liar truth h → AreTwo (reports_of h p) vs → vs ≡ truth p
two-true liar truth h p vs give t = elim (cases_eq t.one.client.0 liar) [
  | inl e ↦ sym t.other_gives ∙ give p t.other t.other_among (λ same. t.apart (e ∙ sym same))
  | inr ne ↦ sym t.one_gives ∙ give p t.one t.one_among ne
]

pub agreed-true : (liar : ℕ) (truth : ℕ → List (List ℤ)) (h : List Entry) → AllGiveBut liar truth h → NoneGiveNone truth h →
    (p : ℕ) (vs : List (List ℤ)) → agreed_result h p ≡ Some vs → vs ≡ truth p
agreed-true liar truth h give none p vs is = elim (two-agree (reports_of h p) vs (reports-different h p) is) [
  | inl e ↦ (let q = agreed-given (reports_of h p) vs is in e ∙ sym (none p q.0 q.1.0 (q.1.1 ∙ e)))
  | inr t ↦ two-true liar truth h p vs give t
]
