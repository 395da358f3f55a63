-- What it is that two clients agree.
use Rattle.std.specs.Prelude.{◌≡◌, ◌⊎◌, ℕ, ℤ, List, [], ◌∷◌, Some}
use Rattle.sv_journal.specs.declared.entry.Entry.{Entry}
use Rattle.sv_witness.specs.declared.report.Report.{Report}
use Rattle.sv_witness.specs.Reports.{reports_of, agreed_result}

pub data IsAmong (r : Report) : List Report → Type 0 where
  here : {rs : List Report} → IsAmong r (r ∷ rs)
  there : {x : Report} {rs : List Report} → IsAmong r rs → IsAmong r (x ∷ rs)

-- Two of the reports, of different clients, give these values.
pub record AreTwo (rs : List Report) (vs : List (List ℤ)) : Type 0 where
  pub one : Report
  pub other : Report
  pub one_among : IsAmong one rs
  pub other_among : IsAmong other rs
  pub one_gives : one.values ≡ vs
  pub other_gives : other.values ≡ vs
  pub apart : one.client.0 ≡ other.client.0 → ⊥

-- Each result that is agreed was reported by two different clients, but for that of an action that writes nothing, which has no values.
abbrev pub TwoAgree : Type 0
TwoAgree = (h : List Entry) (p : ℕ) (vs : List (List ℤ)) → agreed_result h p ≡ Some vs → (vs ≡ []) ⊎ AreTwo (reports_of h p) vs
