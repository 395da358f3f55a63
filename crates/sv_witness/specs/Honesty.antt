-- Where reports come from, what a dispute says, and which clients give the same values.
-- A history is the list of a journal's entries with the latest first, and reports stand with the latest first too.
use Rattle.std.specs.Prelude.{◌≡◌, ℕ, ◌<◌, true, ℤ, List, [], ◌∷◌, Some}
use Rattle.sv_journal.specs.declared.entry.Entry.{Entry}
use Rattle.sv_journal.specs.History.{is_noted, client_of, reports}
use Rattle.sv_witness.specs.declared.report.Report.{Report}
use Rattle.sv_witness.specs.declared.report.Dispute.{Dispute}
use Rattle.sv_witness.specs.Reports.{reports_of, agreed_commit}
use Rattle.sv_witness.specs.Agreement.{IsAmong}

-- The entry is one of a history, and these are the entries before it.
pub data IsEntryOf (e : Entry) (before : List Entry) : List Entry → Type 0 where
  last : IsEntryOf e before (e ∷ before)
  earlier : {h : List Entry} (d : Entry) → IsEntryOf e before h → IsEntryOf e before (d ∷ h)

-- The report is of a Done that was noted while the position was above the commit, in a session that had been joined as the report's client.
pub record IsReported (h : List Entry) (p : ℕ) (r : Report) : Type 0 where
  pub entry : Entry
  pub before : List Entry
  pub within : IsEntryOf entry before h
  pub client : client_of before entry.session ≡ Some r.client.0
  pub noted : is_noted entry.reply ≡ true
  pub above : agreed_commit before < p
  pub given : reports p entry.request ≡ Some r.values

-- The dispute is of two reports of its position, which are of different clients and differ.
pub record IsDisputed (h : List Entry) (d : Dispute) : Type 0 where
  pub one : IsAmong d.first (reports_of h d.pos)
  pub other : IsAmong d.second (reports_of h d.pos)
  pub apart : d.first.client.0 ≡ d.second.client.0 → ⊥
  pub differ : d.first.values ≡ d.second.values → ⊥

-- All clients but the liar report these values of the positions.
abbrev pub AllGiveBut : ℕ → (ℕ → List (List ℤ)) → List Entry → Type 0
AllGiveBut liar truth h = (p : ℕ) (r : Report) → IsAmong r (reports_of h p) → (r.client.0 ≡ liar → ⊥) → r.values ≡ truth p

-- Where any client, the liar too, reports no values, there are none.
abbrev pub NoneGiveNone : (ℕ → List (List ℤ)) → List Entry → Type 0
NoneGiveNone truth h = (p : ℕ) (r : Report) → IsAmong r (reports_of h p) → r.values ≡ [] → truth p ≡ []
