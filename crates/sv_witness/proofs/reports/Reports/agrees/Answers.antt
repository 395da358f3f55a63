-- What the check leaves to prove of `Reports::agrees`.
use Rattle.std.proofs.Common.{Bool, ◌||◌, sym, ap, ◌∙◌}
use Rattle.std.specs.List.{list_any}
use Rattle.law_system.proofs.Asked.{any-reversed}
use Rattle.sv_witness.specs.Reports.{gives}
use Rattle.sv_witness.specs.Kept.{kept_at}
use Rattle.sv_witness.proofs.reports.Reports.agrees.Goals as goal

pub returns-else-is_nothing : goal.returns-else-is_nothing
returns-else-is_nothing c =
    let values = c.args.values.now in
    let rs = kept_at c.args.self.now c.args.pos in
    c.are_given.ensures ∙ ap (list_any (gives values)) c.of.ensures ∙ any-reversed (gives values) rs
    ∙ sym (ap (λ (b : Bool). b || list_any (gives values) rs) (sym c.is_nothing.ensures ∙ c.if-is_nothing.false))
