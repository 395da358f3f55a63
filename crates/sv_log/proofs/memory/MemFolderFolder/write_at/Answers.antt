-- What is proved by hand of `write_at`.
use Rattle.std.proofs.Common.{List, ℕ, subst}
use Rattle.sv_log.specs.Pictures.{Makes, Write}
use Rattle.sv_log.specs.Folders.{disk_in_memory}
use Rattle.sv_log.proofs.memory.MemFolderFolder.write_at.Goals as goal

pub returns-clause-made : goal.returns-clause-made
returns-clause-made c = λ h.
    subst (λ (b : List ℕ). Makes (Write c.args.name.now c.args.at b) (disk_in_memory c.args.self.now) (disk_in_memory c.note.new.self) c.note.result) c.in_ok-bytes.ensures.bytes
    (subst (λ (n : List ℕ). Makes (Write n c.args.at c.in_ok-bytes.bytes.items) (disk_in_memory c.args.self.now) (disk_in_memory c.note.new.self) c.note.result) c.in_ok-name.ensures.name c.note.ensures.made)
