-- Where clients' reports of a position differ.
-- A history is the list of a journal's entries with the latest first, and reports stand with the latest first too.
use Rattle.std.specs.Prelude.{◌≡◌, ◌⊎◌, ℕ, suc, ◌==◌, nat_lt, List, [], ◌∷◌, length, Option, Some, None, option_to_list, if◌then◌else◌}
use Rattle.std.specs.List.{flat_map}
use Rattle.sv_world.specs.Control.{below}
use Rattle.sv_journal.specs.declared.entry.Entry.{Entry}
use Rattle.sv_journal.specs.History.{either, accepted}
use Rattle.sv_witness.specs.declared.report.Report.{Report}
use Rattle.sv_witness.specs.declared.report.Dispute.{Dispute}
use Rattle.sv_witness.specs.Reports.{gives, reports_of}

-- The first of reports that end with this one.
abbrev pub first_report : Report → List Report → Report
first_report r [] = r
first_report r (x ∷ xs) = first_report x xs

-- The dispute about a position: its first report, and the first one that differs from it.
abbrev pub dispute_about : ℕ → List Report → Option Dispute
dispute_about p [] = None
dispute_about p (r ∷ rs) = either (dispute_about p rs) (if gives r.values (first_report r rs) then None
    else Some (record { pos = p; first = first_report r rs; second = r }))

-- The disputes about all positions, ascending.
abbrev pub disputes_of : List Entry → List Dispute
disputes_of h = flat_map (λ p. option_to_list (dispute_about p (reports_of h p))) (below (suc (length (accepted h))))

-- ---- One dispute more

-- The dispute that one more report of a position makes with the first of the reports before it. These stand in the order in which they came.
abbrev pub dispute_in : ℕ → List Report → Report → Option Dispute
dispute_in p [] r = None
dispute_in p (first ∷ rest) r = if gives r.values first then None else Some (record { pos = p; first = first; second = r })

-- Disputes, which ascend by position, with one more. Where there is one about its position, that stays.
abbrev pub with_dispute : Dispute → List Dispute → List Dispute
with_dispute d [] = d ∷ []
with_dispute d (x ∷ xs) = if nat_lt x.pos d.pos then x ∷ with_dispute d xs else if x.pos == d.pos then x ∷ xs else d ∷ x ∷ xs

abbrev pub with_disputes : List Dispute → List Dispute → List Dispute
with_disputes [] ds = ds
with_disputes (d ∷ new) ds = with_disputes new (with_dispute d ds)

-- ---- What a dispute says

-- One of the two clients named is this one.
abbrev pub NamesClient : ℕ → Dispute → Type 0
NamesClient k d = (d.first.client.0 ≡ k) ⊎ (d.second.client.0 ≡ k)
