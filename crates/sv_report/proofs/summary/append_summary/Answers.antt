-- What is proved by hand of `append_summary`.
use Rattle.std.proofs.Common.{◌≤◌, List, length, reverse, sym, ap, subst, arith}
use Rattle.std.specs.Prelude.{All}
use Rattle.sv_client.specs.declared.trace.Trace.{Trace}
use Rattle.sv_client.specs.Traces.{makes}
use Rattle.sv_report.proofs.Traffic.{few_made, traces_long}
use Rattle.sv_report.proofs.summary.append_summary.Goals as goal

pub made_in-made-requires-clause-few : goal.made_in-made-requires-clause-few
made_in-made-requires-clause-few c = omega (
  arith,
  c.requires.good.few_clients,
  ap (λ (Ls : List Trace). length Ls) c.as_slice.ensures,
  traces_long _ _ c.args.scenario.now.clients c.args.played.now.traces c.requires.played.traffic.clients,
)

pub made_in-made-requires-clause-small : goal.made_in-made-requires-clause-small
made_in-made-requires-clause-small c = subst (λ (Ls : List Trace). All (λ (L : Trace). makes (reverse L.events) ≤ 65536) Ls) (sym c.as_slice.ensures)
    (few_made _ c.args.played.now.traces c.requires.played.traffic.proper)
