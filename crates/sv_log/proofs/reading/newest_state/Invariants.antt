-- The loop invariant of `newest_state`.
use Rattle.std.proofs.Common.{◌≡◌, ◌+◌, ◌^◌, ◌<◌}
use Rattle.sv_log.specs.Pictures.{seen}
use Rattle.sv_log.specs.Chains.{state_at}
use Rattle.sv_log.specs.Readings.{IsNewestSoFar}
use Rattle.sv_log.proofs.reading.newest_state.Given as goal

abbrev pub invariant-loop : goal.invariant-loop
invariant-loop g l = record {
  same : g.F.Folder.disk l.folder ≡ g.F.Folder.disk l.fn.folder;
  honest : g.F.Folder.is_honest l.folder → g.F.Folder.is_honest l.fn.folder;
  calm : g.F.Folder.faults l.folder ≡ g.F.Folder.faults l.fn.folder;
  looked : l.newest.seen + 1 < 2 ^ 64;
  small : l.newest.state + 1 < 2 ^ 64;
  bytes : g.F.Folder.is_honest l.folder → l.newest.bytes.items ≡ state_at (seen (g.F.Folder.disk l.fn.folder)) l.newest.state;
  so_far : g.F.Folder.is_honest l.folder → IsNewestSoFar (seen (g.F.Folder.disk l.fn.folder)) l.newest.state l.newest.seen;
}
