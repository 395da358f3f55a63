-- By induction over the entries: what is agreed is what the serial execution gives. Of two different clients one is honest, and an honest one
-- reports what the serial execution gives where all that was agreed before is that.
use Rattle.std.proofs.Common.{◌≡◌, ℕ, ◌<◌, Bool, true, false, ◌⊎◌, inl, inr, List, [], ◌∷◌, ℤ, Option, Some, None, All, refl, sym, ◌∙◌, subst, arith}
use Rattle.std.specs.Prelude.{if◌then◌else◌}
use Rattle.std.specs.List.{list_any}
use Rattle.sv_world.specs.declared.action.Action.{Action}
use Rattle.sv_journal.specs.declared.entry.Entry.{Entry}
use Rattle.sv_journal.specs.History.{client_of, reports, commit_of}
use Rattle.law_system.specs.Journals.{serial_result, ResultsAreSerial}
use Rattle.law_system.proofs.Histories.{IsEarlier, same, after, earlier-then, earlier-rest}
use Rattle.sv_witness.specs.declared.report.Report.{Report}
use Rattle.sv_witness.specs.Reports.{is_by, with_first_report, counted_in, reports_of, agreed_history, agreed_commit}
use Rattle.sv_witness.specs.Agreement.{IsAmong, there}
use Rattle.sv_witness.specs.Disputes.{disputes_of, NamesClient}
use Rattle.sv_witness.specs.Honesty.{AllGiveBut, NoneGiveNone}
use Rattle.sv_witness.proofs.Agreed.{results-agreed}
use Rattle.sv_witness.proofs.Disputed.{agreed-true, all-name}
use Rattle.sv_witness.proofs.Honest.{report-reported, entry-earlier}

-- ---- Reports stay

among-with : (client : Option ℕ) (v : Option (List (List ℤ))) (rs : List Report) (r : Report) → IsAmong r rs → IsAmong r (with_first_report client v rs)
among-with None v rs r m = m
among-with (Some k) None rs r m = m
among-with (Some k) (Some vs) rs r m = go (list_any (is_by k) rs)
  where
    go : (b : Bool) → IsAmong r (if b then rs else record { client = record { 0 = k }; values = vs } ∷ rs)
    go true = m
    go false = there m

pub among-later : (g h : List Entry) → IsEarlier g h → (p : ℕ) (r : Report) → IsAmong r (reports_of g p) → IsAmong r (reports_of h p)
among-later g h same p r m = m
among-later g whole (after {g = j} e b) p r m =
    among-with (client_of j e.session) (counted_in (commit_of (agreed_history j)) p e) (reports_of j p) r (among-later g j b p r m)

-- ---- Earlier parts

earlier-cases : (h : List Entry) (x : Entry) (g whole : List Entry) → IsEarlier h whole → whole ≡ x ∷ g → (h ≡ x ∷ g) ⊎ IsEarlier h g
earlier-cases h x g whole same is = inl is
earlier-cases h x g whole (after {g = j} e b) is = inr (let rest : j ≡ g = cc in subst (λ (l : List Entry). IsEarlier h l) rest b)

nothing-earlier : (e : Entry) (h whole : List Entry) → IsEarlier (e ∷ h) whole → whole ≡ [] → ⊥
nothing-earlier e h whole same is = cc
nothing-earlier e h whole (after {g = j} d b) is = cc

-- ---- The induction

module _ (liar : ℕ) (opening : List (List ℤ)) (acts : List Action) (H : List Entry)
    (honest : (e : Entry) (g : List Entry) (k : ℕ) → IsEarlier (e ∷ g) H → client_of g e.session ≡ Some k → (k ≡ liar → ⊥) →
    ResultsAreSerial opening acts (agreed_history g) → (p : ℕ) (vs : List (List ℤ)) → 0 < p → reports p e.request ≡ Some vs → vs ≡ serial_result opening acts p)
    (nothing : NoneGiveNone (serial_result opening acts) H) where
  abbrev IsGood : List Entry → Type 0
  IsGood h = ResultsAreSerial opening acts (agreed_history h)

  -- All parts before a history's last entry, and before each one before that.
  abbrev AreGoodBefore : List Entry → Type 0
  AreGoodBefore h = (e : Entry) (g : List Entry) → IsEarlier (e ∷ g) h → IsGood g

  all-give : (h : List Entry) → IsEarlier h H → AreGoodBefore h → AllGiveBut liar (serial_result opening acts) h
  all-give h part before p r m other =
      let i = report-reported h p r m in
      let here' : IsEarlier (i.entry ∷ i.before) h = entry-earlier i.entry i.before h i.within in
      let above : agreed_commit i.before < p = i.above in
      honest i.entry i.before r.client.0 (earlier-then (i.entry ∷ i.before) h H here' part) i.client other (before i.entry i.before here') p r.values (omega arith) i.given

  good-now : (h : List Entry) → IsEarlier h H → AreGoodBefore h → IsGood h
  good-now h part before p vs low is =
      agreed-true liar (serial_result opening acts) h (all-give h part before) (λ q r m. nothing q r (among-later h H part q r m)) p vs (sym (results-agreed h p) ∙ is)

  good-before : (h : List Entry) → IsEarlier h H → AreGoodBefore h
  good-before [] part e g earlier = absurd (nothing-earlier e g [] earlier refl)
  good-before (x ∷ h) part e g earlier = elim (earlier-cases (e ∷ g) x h (x ∷ h) earlier refl) [
    | inl is ↦ (let now : g ≡ h = cc in subst IsGood (sym now) (good-now h (earlier-rest h x H part) (good-before h (earlier-rest h x H part))))
    | inr more ↦ good-before h (earlier-rest h x H part) e g more
  ]

  pub agreed-serial : ResultsAreSerial opening acts (agreed_history H)
  agreed-serial = good-now H same (good-before H same)

  pub honest-serial : AllGiveBut liar (serial_result opening acts) H
  honest-serial = all-give H same (good-before H same)

  pub disputes-named : All (NamesClient liar) (disputes_of H)
  disputes-named = all-name liar (serial_result opening acts) H honest-serial
