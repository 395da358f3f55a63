-- What is proved by hand of `read_segments`.
use Rattle.std.proofs.Common.{map, string_bytes}
use Rattle.sv_log.specs.Pictures.{seen}
use Rattle.sv_log.proofs.Walked.{just_why}
use Rattle.sv_log.proofs.Refused.{no_first}
use Rattle.sv_log.proofs.walking.read_segments.Goals as goal

pub returns-then-not-is_listed-clause-refused : goal.returns-then-not-is_listed-clause-refused
returns-then-not-is_listed-clause-refused g c = λ h.
    just_why c.refuse_file.result.cause
    (no_first (seen (g.F.Folder.disk c.args.folder.now)) (map string_bytes c.args.names.now) (c.requires.listed h) c.args.first c.if-not-is_listed.ensures)
