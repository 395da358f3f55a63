-- The loop invariant of `new_sessions`.
use Rattle.std.proofs.Common.{◌≡◌}
use Rattle.sv_core.proofs.Opening.{first_rows}
use Rattle.sv_core.proofs.sessions.new_sessions.Given as goal

abbrev pub invariant-loop-session : goal.invariant-loop-session
invariant-loop-session l = l.rows.items ≡ first_rows l.requests l.session
