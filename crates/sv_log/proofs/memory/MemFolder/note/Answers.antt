-- What is proved by hand of `note`.
use Rattle.std.proofs.Common.{inr, true, false, ap, not}
use Rattle.sv_log.specs.Memory.{call_of}
use Rattle.sv_log.proofs.Replays.{disk_noted}
use Rattle.sv_log.proofs.memory.MemFolder.note.Goals as goal

pub returns-then-fails-clause-made : goal.returns-then-fails-clause-made
returns-then-fails-clause-made c =
    inr (disk_noted c.args.self.now.start.items c.args.self.now.calls.items c.keep.new.calls.items (call_of c.args.call) _ false c.in-Ok.ensures.ok (ap not c.if-fails.true))

pub returns-clause-made : goal.returns-clause-made
returns-clause-made c =
    disk_noted c.args.self.now.start.items c.args.self.now.calls.items c.keep.new.calls.items (call_of c.args.call) _ true c.in-Ok.ensures.ok (ap not c.if-fails.false)
