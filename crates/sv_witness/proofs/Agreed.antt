-- The history of what was agreed has just the results that two clients agree on.
use Rattle.std.proofs.Common.{◌≡◌, ℕ, Bool, true, false, ◌&&◌, ◌||◌, ◌==◌, inl, inr, List, [], ◌∷◌, filter, ℤ, Option, Some, None, is_some, is_none, refl, sym, ap, ap₂, ◌∙◌, nat_lt, eqb-true}
use Rattle.std.specs.Prelude.{if◌then◌else◌}
use Rattle.std.specs.List.{list_any}
use Rattle.std.proofs.lemmas.Bool.{cond-true, cond-false, cases_Bool}
use Rattle.sv_wire.specs.declared.message.Done1.{Done1}
use Rattle.sv_wire.specs.declared.message.Request.{Request}
use Rattle.sv_wire.specs.declared.message.Request.TheVariants as requests
use Rattle.sv_journal.specs.declared.entry.Entry.{Entry}
use Rattle.sv_journal.specs.History.{either, is_noted, client_of, reported, reports, result_at, commit_of}
use Rattle.sv_journal.specs.Serving.{with_results}
use Rattle.sv_witness.specs.declared.report.Report.{Report}
use Rattle.sv_witness.specs.Reports.{is_by, gives, with_first_report, counted_in, is_nothing, agreed_values, brings_agreement, reports_of, agreed_history, agreed_result}

abbrev Values : Type 0
Values = Option (List (List ℤ))

-- Of results that a test of their positions passes, a position has what it had, where it passes.
pub reported-filter : (test : ℕ → Bool) (p : ℕ) (ds : List Done1) → reported p (filter (λ (d : Done1). test d.pos) ds) ≡ (if test p then reported p ds else None)
reported-filter test p [] = elim (cases_Bool (test p)) [ inl t ↦ sym (cond-true (test p) None None t) | inr t ↦ sym (cond-false (test p) None None t) ]
reported-filter test p (d ∷ ds) = go (test d.pos) refl (d.pos == p) refl (test p) refl (reported-filter test p ds)
  where
    go : (a : Bool) → test d.pos ≡ a → (b : Bool) → (d.pos == p) ≡ b → (c : Bool) → test p ≡ c →
        reported p (filter (λ (o : Done1). test o.pos) ds) ≡ (if c then reported p ds else None) →
        reported p (if a then d ∷ filter (λ (o : Done1). test o.pos) ds else filter (λ (o : Done1). test o.pos) ds) ≡ (if c then (if b then Some d.values else reported p ds) else None)
    go true t true e true u more = cond-true (d.pos == p) (Some d.values) _ e
    go true t true e false u more =
        let same : d.pos ≡ p = eqb-true d.pos p e in
        let clash : true ≡ false = sym t ∙ ap test same ∙ u in cc
    go true t false e c u more = cond-false (d.pos == p) (Some d.values) _ e ∙ more
    go false t true e true u more =
        let same : d.pos ≡ p = eqb-true d.pos p e in
        let clash : true ≡ false = sym u ∙ sym (ap test same) ∙ t in cc
    go false t true e false u more = more
    go false t false e c u more = more

abbrev no-values : Values
no-values = None

none-either : (b : Bool) → no-values ≡ (if b then no-values else no-values)
none-either true = refl
none-either false = refl

reports-with : (test : ℕ → Bool) (p : ℕ) (q : Request) → reports p (with_results (λ (d : Done1). test d.pos) q) ≡ (if test p then reports p q else None)
reports-with test p (requests.Done results) = reported-filter test p results
reports-with test p (requests.Join client life interest) = none-either (test p)
reports-with test p (requests.Submit seq a) = none-either (test p)
reports-with test p requests.Poll = none-either (test p)
reports-with test p (requests.Observe objects wait) = none-either (test p)
reports-with test p requests.Leave = none-either (test p)
reports-with test p requests.Bad = none-either (test p)
reports-with test p requests.End = none-either (test p)

-- ---- One report more

pub either-none : (x : Values) → either x no-values ≡ x
either-none (Some w) = refl
either-none None = refl

-- Where the reports stay, so does what they agree on.
unchanged : (x v : Values) → either x (if is_none x && is_some x then v else no-values) ≡ x
unchanged (Some w) v = refl
unchanged None v = refl

one-more : (x : Values) (vs : List (List ℤ)) (c : Bool) →
    either x (if is_none x && is_some (either x (if c then Some vs else None)) then Some vs else None) ≡ either x (if c then Some vs else None)
one-more (Some w) vs c = refl
one-more None vs true = refl
one-more None vs false = refl

abbrev Steps : Option ℕ → Values → List Report → Type 0
Steps client v rs = either (agreed_values rs) (if brings_agreement client v rs then v else None) ≡ agreed_values (with_first_report client v rs)

counted-step : (client : Option ℕ) (v : Values) (rs : List Report) → Steps client v rs
counted-step None v rs = unchanged (agreed_values rs) v
counted-step (Some k) None rs = unchanged (agreed_values rs) None
counted-step (Some k) (Some vs) rs = go (list_any (is_by k) rs)
  where
    go : (b : Bool) → either (agreed_values rs) (if is_none (agreed_values rs) && is_some (agreed_values (if b then rs else record { client = record { 0 = k }; values = vs } ∷ rs)) then Some vs else None)
        ≡ agreed_values (if b then rs else record { client = record { 0 = k }; values = vs } ∷ rs)
    go true = unchanged (agreed_values rs) (Some vs)
    go false = one-more (agreed_values rs) vs (is_nothing vs || list_any (gives vs) rs)

pub without : (client : Option ℕ) (rs : List Report) → with_first_report client None rs ≡ rs
without None rs = refl
without (Some k) rs = refl

entry-step : (client : Option ℕ) (noted above : Bool) (v : Values) (rs : List Report) →
    either (agreed_values rs) (if noted then (if brings_agreement client (if noted && above then v else None) rs then v else None) else None)
    ≡ agreed_values (with_first_report client (if noted && above then v else None) rs)
entry-step client false above v rs = either-none (agreed_values rs) ∙ ap agreed_values (sym (without client rs))
entry-step client true false v rs =
    ap (λ (more : List Report). either (agreed_values rs) (if is_none (agreed_values rs) && is_some (agreed_values more) then v else None)) (without client rs)
    ∙ unchanged (agreed_values rs) v ∙ ap agreed_values (sym (without client rs))
entry-step client true true v rs = counted-step client v rs

pub results-agreed : (h : List Entry) (p : ℕ) → result_at (agreed_history h) p ≡ agreed_result h p
results-agreed [] p = refl
results-agreed (e ∷ h) p =
    let commit : ℕ = commit_of (agreed_history h) in
    let test : ℕ → Bool = λ n. brings_agreement (client_of h e.session) (counted_in commit n e) (reports_of h n) in
    ap₂ (λ (o v : Values). either o (if is_noted e.reply then v else None)) (results-agreed h p) (reports-with test p e.request)
    ∙ entry-step (client_of h e.session) (is_noted e.reply) (nat_lt commit p) (reports p e.request) (reports_of h p)
