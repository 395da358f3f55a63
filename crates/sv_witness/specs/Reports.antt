-- What clients report of positions, and what two of them agree on.
-- A history is the list of a journal's entries with the latest first: `e ∷ h` is h, and then e. Reports stand with the latest first too.
use Rattle.std.specs.Prelude.{ℕ, suc, Bool, true, false, ◌&&◌, ◌||◌, not, ◌==◌, nat_lt, ℤ, List, [], ◌∷◌, length, filter, Option, Some, None, is_some, is_none, if◌then◌else◌}
use Rattle.std.specs.List.{list_any}
use Rattle.sv_world.specs.Control.{is_in, below}
use Rattle.sv_wire.specs.declared.message.Done1.{Done1}
use Rattle.sv_journal.specs.declared.entry.Entry.{Entry}
use Rattle.sv_journal.specs.History.{either, is_noted, client_of, accepted, reports, commit_of, committed_of}
use Rattle.sv_journal.specs.Sessions.{sent_to}
use Rattle.sv_journal.specs.Serving.{with_results}
use Rattle.sv_client.specs.Same.{are_same_values}
use Rattle.sv_witness.specs.declared.report.Report.{Report}

-- ---- Reports

abbrev pub is_by : ℕ → Report → Bool
is_by k r = r.client.0 == k

abbrev pub gives : List (List ℤ) → Report → Bool
gives values r = are_same_values r.values values

-- The client has one of the reports.
abbrev pub has_reported : List Report → Option ℕ → Bool
has_reported rs None = false
has_reported rs (Some k) = list_any (is_by k) rs

-- The reports of a position once a client gives values for it: each client's first report stands, and no other of it.
abbrev pub with_first_report : Option ℕ → Option (List (List ℤ)) → List Report → List Report
with_first_report (Some k) (Some values) rs = if list_any (is_by k) rs then rs else record { client = record { 0 = k }; values = values } ∷ rs
with_first_report _ _ rs = rs

-- The values that an entry gives for a position: it is a Done that was noted, and the position was above the commit.
abbrev pub counted_in : ℕ → ℕ → Entry → Option (List (List ℤ))
counted_in commit p e = if is_noted e.reply && nat_lt commit p then reports p e.request else None

-- ---- Agreement

-- The values are none: the position's action writes nothing, so there is nothing to disagree on.
abbrev pub is_nothing : List (List ℤ) → Bool
is_nothing [] = true
is_nothing (v ∷ vs) = false

-- The result that reports agree on: what the first report gives that repeats an earlier one, or that gives nothing.
abbrev pub agreed_values : List Report → Option (List (List ℤ))
agreed_values [] = None
agreed_values (r ∷ rs) = either (agreed_values rs) (if is_nothing r.values || list_any (gives r.values) rs then Some r.values else None)

-- The reports have no result yet, and have one once the client gives these values.
abbrev pub brings_agreement : Option ℕ → Option (List (List ℤ)) → List Report → Bool
brings_agreement client values rs = is_none (agreed_values rs) && is_some (agreed_values (with_first_report client values rs))

abbrev mutual
  -- The reports of a position that count: the first of each client, over all its sessions, that came while the position was above the commit.
  pub reports_of : List Entry → ℕ → List Report
  reports_of [] p = []
  reports_of (e ∷ h) p = with_first_report (client_of h e.session) (counted_in (commit_of (agreed_history h)) p e) (reports_of h p)

  -- The history of what was agreed: the same entries, but each Done has just those of its results that brought agreement. So what the history
  -- of any server says of its results, its commit and its committed world, this one says of what two clients agree on.
  pub agreed_history : List Entry → List Entry
  agreed_history [] = []
  agreed_history (e ∷ h) = record e {
    request = with_results (λ (d : Done1). brings_agreement (client_of h e.session) (counted_in (commit_of (agreed_history h)) d.pos e)
        (reports_of h d.pos)) e.request;
  } ∷ agreed_history h

-- The result of a position: what two clients' reports of it agree on. A law says that it is the result that the history of what was agreed has.
abbrev pub agreed_result : List Entry → ℕ → Option (List (List ℤ))
agreed_result h p = agreed_values (reports_of h p)

-- The greatest accepted position up to which all have results that are agreed, and the world there.
abbrev pub agreed_commit : List Entry → ℕ
agreed_commit h = commit_of (agreed_history h)

abbrev pub agreed_world : List (List ℤ) → List Entry → List (List ℤ)
agreed_world opening h = committed_of opening (agreed_history h)

-- ---- What a session may be sent to report

-- A position above the commit without a result, which was not sent to the session and which the session's client did not report.
abbrev pub is_due : List Entry → ℕ → ℕ → Bool
is_due h s p = nat_lt (agreed_commit h) p && is_none (agreed_result h p) && not (is_in p (sent_to h s)) && not (has_reported (reports_of h p) (client_of h s))

abbrev pub due_to : List Entry → ℕ → List ℕ
due_to h s = filter (is_due h s) (below (suc (length (accepted h))))
