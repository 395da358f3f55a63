-- Reports in the order in which they came, which is that of the list of them with the latest first, turned round.
use Rattle.std.proofs.Common.{◌≡◌, ℕ, List, [], ◌∷◌, reverse, Option, Some, None, refl, ap}
use Rattle.std.specs.Prelude.{if◌then◌else◌}
use mathlib.Core.List.{reverse_aux}
use Rattle.sv_witness.specs.declared.report.Report.{Report}
use Rattle.sv_witness.specs.declared.report.Dispute.{Dispute}
use Rattle.sv_witness.specs.Reports.{gives}
use Rattle.sv_witness.specs.Disputes.{first_report, dispute_in}

-- The first that came is the last of the list.
first-onto : (r : Report) (rs acc : List Report) → (rest : List Report) × (reverse_aux rs (r ∷ acc) ≡ first_report r rs ∷ rest)
first-onto r [] acc = (acc, refl)
first-onto r (x ∷ xs) acc = first-onto x xs (r ∷ acc)

-- The dispute that one more report makes with the reports before it, which stand with the latest first.
abbrev pub dispute_after : ℕ → List Report → Report → Option Dispute
dispute_after p [] r = None
dispute_after p (x ∷ xs) r = if gives r.values (first_report x xs) then None else Some (record { pos = p; first = first_report x xs; second = r })

pub dispute-turned : (p : ℕ) (rs : List Report) (r : Report) → dispute_in p (reverse rs) r ≡ dispute_after p rs r
dispute-turned p [] r = refl
dispute-turned p (x ∷ xs) r = let f = first-onto x xs [] in ap (λ (es : List Report). dispute_in p es r) f.1
