-- What reports agree on was given by two different clients, or gives nothing.
use Rattle.std.proofs.Common.{◌≡◌, ℕ, Bool, true, false, ◌||◌, ◌⊎◌, inl, inr, List, [], ◌∷◌, ℤ, Option, Some, None, refl, sym, ◌∙◌, eq-eqb, true≢false}
use Rattle.std.specs.Prelude.{if◌then◌else◌}
use Rattle.std.specs.List.{list_any}
use Rattle.std.proofs.lemmas.Bool.{or_cases, or_parts}
use Rattle.std.proofs.lemmas.Bool.Decides.{Decides-int_eq}
use Rattle.std.proofs.lemmas.Option.{none-some, same_Some}
use lib.Pointwise.{pointwise_decides}
use Rattle.sv_journal.specs.declared.entry.Entry.{Entry}
use Rattle.sv_journal.specs.History.{either, client_of, commit_of}
use Rattle.sv_client.specs.Same.{are_same_values}
use Rattle.sv_witness.specs.declared.report.Report.{Report}
use Rattle.sv_witness.specs.Reports.{is_by, gives, with_first_report, counted_in, is_nothing, agreed_values, reports_of, agreed_history}
use Rattle.sv_witness.specs.Agreement.{IsAmong, here, there, AreTwo, TwoAgree}

-- ---- Values that are the same

pub values-same : (vs ws : List (List ℤ)) → are_same_values vs ws ≡ true → vs ≡ ws
values-same vs ws = (pointwise_decides (pointwise_decides Decides-int_eq) vs ws).0

pub values-self : (vs : List (List ℤ)) → are_same_values vs vs ≡ true
values-self vs = (pointwise_decides (pointwise_decides Decides-int_eq) vs vs).1 refl

nothing-none : (vs : List (List ℤ)) → is_nothing vs ≡ true → vs ≡ []
nothing-none [] e = refl
nothing-none (v ∷ vs) e = absurd (true≢false (sym e))

-- ---- Reports among others

any-among : (test : Report → Bool) (rs : List Report) → list_any test rs ≡ true → (q : Report) × (IsAmong q rs × (test q ≡ true))
any-among test [] e = absurd (true≢false (sym e))
any-among test (r ∷ rs) e =
    let rest = any-among test rs in
    elim (or_cases (test r) (list_any test rs) e) [ inl t ↦ (r, (here, t)) | inr t ↦ (let q = rest t in (q.0, (there q.1.0, q.1.1))) ]

pub none-among : (test : Report → Bool) (q : Report) (rs : List Report) → IsAmong q rs → list_any test rs ≡ false → test q ≡ false
none-among test q whole (here {rs}) e = (or_parts (test q) (list_any test rs) e).0
none-among test q whole (there {x} {rs} m) e = none-among test q rs m (or_parts (test x) (list_any test rs) e).1

-- No two reports are of one client.
abbrev pub AreOfDifferent : List Report → Type 0
AreOfDifferent [] = Unit {0}
AreOfDifferent (r ∷ rs) = (list_any (is_by r.client.0) rs ≡ false) × AreOfDifferent rs

different-with : (client : Option ℕ) (v : Option (List (List ℤ))) (rs : List Report) → AreOfDifferent rs → AreOfDifferent (with_first_report client v rs)
different-with None v rs d = d
different-with (Some k) None rs d = d
different-with (Some k) (Some vs) rs d = go (list_any (is_by k) rs) refl
  where
    go : (b : Bool) → list_any (is_by k) rs ≡ b → AreOfDifferent (if b then rs else record { client = record { 0 = k }; values = vs } ∷ rs)
    go true e = d
    go false e = (e, d)

pub reports-different : (h : List Entry) (p : ℕ) → AreOfDifferent (reports_of h p)
reports-different [] p = tt
reports-different (e ∷ h) p = different-with (client_of h e.session) (counted_in (commit_of (agreed_history h)) p e) (reports_of h p) (reports-different h p)

-- ---- Agreement

pub two-agree : (rs : List Report) (vs : List (List ℤ)) → AreOfDifferent rs → agreed_values rs ≡ Some vs → (vs ≡ []) ⊎ AreTwo rs vs
two-agree [] vs d is = absurd (none-some vs is)
two-agree (r ∷ rs) vs d is = go (agreed_values rs) refl is (two-agree rs vs d.1)
  where
    with-more : (vs ≡ []) ⊎ AreTwo rs vs → (vs ≡ []) ⊎ AreTwo (r ∷ rs) vs
    with-more (inl e) = inl e
    with-more (inr t) = inr (record {
      one = t.one;
      other = t.other;
      one_among = there t.one_among;
      other_among = there t.other_among;
      one_gives = t.one_gives;
      other_gives = t.other_gives;
      apart = t.apart;
    })

    gives-own : r.values ≡ vs → (is_nothing r.values || list_any (gives r.values) rs) ≡ true → (vs ≡ []) ⊎ AreTwo (r ∷ rs) vs
    gives-own own e = elim (or_cases (is_nothing r.values) (list_any (gives r.values) rs) e) [
      | inl n ↦ inl (sym own ∙ nothing-none r.values n)
      | inr a ↦
          (let q = any-among (gives r.values) rs a in
          inr (record {
            one = r;
            other = q.0;
            one_among = here;
            other_among = there q.1.0;
            one_gives = own;
            other_gives = values-same q.0.values r.values q.1.1 ∙ own;
            apart = λ same. true≢false (sym (eq-eqb q.0.client.0 r.client.0 (sym same)) ∙ none-among (is_by r.client.0) q.0 rs q.1.0 d.0);
          }))
    ]

    last : (b : Bool) → (is_nothing r.values || list_any (gives r.values) rs) ≡ b → (if b then Some r.values else None) ≡ Some vs → (vs ≡ []) ⊎ AreTwo (r ∷ rs) vs
    last true e same = gives-own (same_Some r.values vs same) e
    last false e same = absurd (none-some vs same)

    go : (o : Option (List (List ℤ))) → agreed_values rs ≡ o → either o (if is_nothing r.values || list_any (gives r.values) rs then Some r.values else None) ≡ Some vs →
        (agreed_values rs ≡ Some vs → (vs ≡ []) ⊎ AreTwo rs vs) → (vs ≡ []) ⊎ AreTwo (r ∷ rs) vs
    go (Some w) f same before = with-more (before (f ∙ same))
    go None f same before = last (is_nothing r.values || list_any (gives r.values) rs) refl same

pub results-have_two : TwoAgree
results-have_two h p vs is = two-agree (reports_of h p) vs (reports-different h p) is
