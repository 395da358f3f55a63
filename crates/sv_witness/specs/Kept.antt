-- Which reports a witnessing server keeps, and what a client's results make of them.
-- A history is the list of a journal's entries with the latest first, and reports stand with the latest first too.
use Rattle.std.specs.Prelude.{◌≡◌, ℕ, ◌<◌, Bool, ◌&&◌, ◌||◌, not, nat_lt, ℤ, List, [], ◌∷◌, length, filter, reverse, slice_index_or, Option, Some, None, option_to_list, is_none}
use Rattle.std.specs.List.{list_any, flat_map}
use Rattle.sv_wire.specs.declared.message.Done1.{Done1}
use Rattle.sv_queue.specs.Queue.{QueueView, entry_at}
use Rattle.sv_journal.specs.declared.entry.Entry.{Entry}
use Rattle.sv_journal.specs.Answer.{Rules}
use Rattle.sv_journal.specs.History.{accepted, reported}
use Rattle.sv_witness.specs.declared.report.Report.{Report}
use Rattle.sv_witness.specs.declared.report.Dispute.{Dispute}
use Rattle.sv_witness.specs.Reports.{is_by, gives, is_nothing, reports_of, agreed_commit}
use Rattle.sv_witness.specs.Witnessed.{IsWitnessed}
use Rattle.sv_witness.specs.Disputes.{disputes_of, dispute_in}

-- ---- Rows

-- The reports of one position, and for how many more there is room.
pub record RowView : Type 0 where
  pub reports : List Report
  pub spare : ℕ

abbrev pub no_row : RowView
no_row = record { reports = []; spare = 0 }

-- The reports that are kept of a position: the row at its place has them.
abbrev pub kept_at : List RowView → ℕ → List Report
kept_at rows p = (slice_index_or rows p no_row).reports

abbrev pub HasRoomFor : List RowView → ℕ → Type 0
HasRoomFor rows p = 0 < (slice_index_or rows p no_row).spare

-- The rows keep the reports of each position above the commit. Those of a committed position change nothing any more, and may be gone.
abbrev pub KeepsReports : List RowView → List Entry → Type 0
KeepsReports rows h = (p : ℕ) → agreed_commit h < p → kept_at rows p ≡ reports_of h p

-- ---- A client's results

abbrev pub report_by : ℕ → List (List ℤ) → Report
report_by k values = record { client = record { 0 = k }; values = values }

-- A client's result of a position counts as its report: the position is above the commit, and the client has not reported it.
abbrev pub counts_as_report : ℕ → List RowView → ℕ → ℕ → Bool
counts_as_report commit rows k p = nat_lt commit p && not (list_any (is_by k) (kept_at rows p))

abbrev pub counted_results : ℕ → List RowView → ℕ → List Done1 → List Done1
counted_results commit rows k results = filter (λ (d : Done1). counts_as_report commit rows k d.pos) results

-- No position has two of the results.
abbrev pub AreOnce : List Done1 → Type 0
AreOnce [] = Unit {0}
AreOnce (d ∷ ds) = (reported d.pos ds ≡ None) × AreOnce ds

-- The reports of a position once a client, which has none of them, gives values for it.
abbrev pub with_values : ℕ → Option (List (List ℤ)) → List Report → List Report
with_values k None rs = rs
with_values k (Some values) rs = report_by k values ∷ rs

-- Values that a client gives agree with the reports before it: one of these gives them too, or they are none.
abbrev pub agrees : List Report → List (List ℤ) → Bool
agrees rs values = is_nothing values || list_any (gives values) rs

-- A result brings agreement: its position has no result yet, and its values agree.
abbrev pub brings : QueueView → List RowView → Done1 → Bool
brings v rows d = is_none (entry_at v d.pos).result && agrees (kept_at rows d.pos) d.values

abbrev pub agreed_results : QueueView → List RowView → List Done1 → List Done1
agreed_results v rows counted = filter (brings v rows) counted

-- The disputes that the results of a client make with the first reports of their positions.
abbrev pub new_disputes : List RowView → ℕ → List Done1 → List Dispute
new_disputes rows k counted =
    flat_map (λ (d : Done1). option_to_list (dispute_in d.pos (reverse (kept_at rows d.pos)) (report_by k d.values))) counted

-- ---- Beside a core

-- What a server keeps beside its core, of a journal with these entries: the journal is legal, the rows keep its reports, no position is reported
-- that was not accepted, and its disputes are these.
pub record KeepsBeside (r : Rules) (rows : List RowView) (disputes : List Dispute) (h : List Entry) : Type 0 where
  pub legal : IsWitnessed r h
  pub reports : KeepsReports rows h
  pub within : (p : ℕ) → length (accepted h) < p → reports_of h p ≡ []
  pub disputed : disputes ≡ disputes_of h
