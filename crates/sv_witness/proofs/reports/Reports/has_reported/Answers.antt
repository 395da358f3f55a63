-- What the check leaves to prove of `Reports::has_reported`.
use Rattle.std.proofs.Common.{ap, ◌∙◌}
use Rattle.std.specs.List.{list_any}
use Rattle.law_system.proofs.Asked.{any-reversed}
use Rattle.sv_witness.specs.Reports.{is_by}
use Rattle.sv_witness.specs.Kept.{kept_at}
use Rattle.sv_witness.proofs.reports.Reports.has_reported.Goals as goal

pub returns : goal.returns
returns c = c.is_any_by.ensures ∙ ap (list_any (is_by c.args.client)) c.of.ensures ∙ any-reversed (is_by c.args.client) (kept_at c.args.self.now c.args.pos)
