-- The loop invariant of `walk_from`.
use Rattle.std.proofs.Common.{◌≡◌, ◌+◌, ◌^◌, ◌<◌}
use Rattle.sv_log.specs.Pictures.{seen}
use Rattle.sv_log.specs.Walks.{IsOnTheWay}
use Rattle.sv_log.proofs.walking.walk_from.Given as goal

abbrev pub invariant-loop : goal.invariant-loop
invariant-loop g l = record {
  same : g.F.Folder.disk l.folder ≡ g.F.Folder.disk l.fn.folder;
  honest : g.F.Folder.is_honest l.folder → g.F.Folder.is_honest l.fn.folder;
  calm : g.F.Folder.faults l.folder ≡ g.F.Folder.faults l.fn.folder;
  small : l.walk.number + 1 < 2 ^ 64;
  way : g.F.Folder.is_honest l.folder → IsOnTheWay (seen (g.F.Folder.disk l.fn.folder)) l.fn.first l.walk;
}
