-- The steward's entries so far.
use Rattle.std.proofs.Common.{◌≡◌}
use Rattle.sv_office.specs.Entering.{GoesOn, IsReport}
use Rattle.sv_office.specs.Offices.{session_of}
use Rattle.sv_office.proofs.office.Office.report_all.Given as goal

abbrev pub invariant-loop : goal.invariant-loop
invariant-loop g l =
    (session_of l.self.steward ≡ session_of l.fn.self.steward)
    × GoesOn (IsReport (session_of l.fn.self.steward)) l.fn.self.keeper.world l.self.keeper.world × (l.self.keys ≡ l.fn.self.keys)
    × (l.self.policy ≡ l.fn.self.policy)
