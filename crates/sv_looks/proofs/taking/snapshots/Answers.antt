-- The snapshots of all traces.
use Rattle.std.proofs.Common.{reverse, sym, subst}
use Rattle.std.specs.Prelude.{All}
use Rattle.sv_world.specs.declared.world.Shape.{Shape}
use Rattle.sv_journal.specs.History.{actions_of}
use Rattle.sv_client.specs.Proper.{Proper}
use Rattle.sv_looks.specs.Cuts.{IsCut}
use Rattle.sv_looks.proofs.Cutting.{cuts_are}
use Rattle.sv_looks.proofs.taking.snapshots.Goals as goal

pub returns-clause-cuts : goal.returns-clause-cuts
returns-clause-cuts c = λ r count same legal fits.
    let h = reverse c.args.played.now.journal.entries in
    let Ls = c.args.played.now.traces in
    let law = c.replicas_equal_serial_execution.ensures in
    subst (All (IsCut r.world.values (actions_of h))) (sym c.in_ok-told.ensures)
    (cuts_are r.world.shape r.world.values h Ls count (subst (λ (s : Shape). All (Proper s) Ls) same c.requires) (law.values r h Ls count legal fits) (law.relays r h Ls count legal fits)
    (law.seen r h Ls count legal fits))
