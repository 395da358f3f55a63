-- What the check leaves to prove of `take_reports`.
use Rattle.std.proofs.Common.{◌≡◌, All, sym, ◌∙◌, ap, subst}
use Rattle.std.proofs.lemmas.List.Elements.{All-filter}
use Rattle.sv_wire.specs.declared.message.Done1.{Done1}
use Rattle.sv_core.specs.Relays.{is_missing, with_reports, CanReport}
use Rattle.sv_core.proofs.FitMissing.{reports-missing}
use Rattle.sv_core.proofs.reports.take_reports.Goals as goal

pub set_reports-requires : goal.set_reports-requires
set_reports-requires c =
    let v = c.args.queue.now in
    subst (All (CanReport v)) (sym c.in_ok-copies.ensures) (All-filter (λ (d : Done1). is_missing v d.pos) (CanReport v) c.args.results.now c.requires)

pub returns-clause-ok : goal.returns-clause-ok
returns-clause-ok c =
    let v = c.args.queue.now in
    c.set_reports.ensures ∙ ap (with_reports v) c.in_ok-copies.ensures ∙ reports-missing v c.args.results.now
