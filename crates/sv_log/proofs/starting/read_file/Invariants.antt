-- The loop invariant of `read_file`.
use Rattle.std.proofs.Common.{◌≡◌}
use Rattle.sv_log.specs.Pictures.{seen}
use Rattle.sv_log.proofs.Started.{HasRead}
use Rattle.sv_log.proofs.starting.read_file.Given as goal

abbrev pub invariant-loop : goal.invariant-loop
invariant-loop g l = record {
  same : g.F.Folder.disk l.folder ≡ g.F.Folder.disk l.fn.folder;
  honest : g.F.Folder.is_honest l.folder → g.F.Folder.is_honest l.fn.folder;
  calm : g.F.Folder.faults l.folder ≡ g.F.Folder.faults l.fn.folder;
  read : g.F.Folder.is_honest l.folder → HasRead (seen (g.F.Folder.disk l.fn.folder) l.fn.name) l.bytes.items;
}
