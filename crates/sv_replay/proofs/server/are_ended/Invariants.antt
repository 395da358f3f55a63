-- Each session so far had its End.
use Rattle.std.proofs.Common.{◌≡◌, ℕ, ◌<◌, true}
use Rattle.sv_journal.specs.Sessions.{is_ended}
use Rattle.sv_replay.proofs.server.are_ended.Given as goal

abbrev pub invariant-loop-session : goal.invariant-loop-session
invariant-loop-session g l = (s : ℕ) → s < l.session → is_ended (g.S.Server.view l.server).history s ≡ true
