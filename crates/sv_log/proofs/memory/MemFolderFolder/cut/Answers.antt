-- What is proved by hand of `cut`.
use Rattle.std.proofs.Common.{List, ℕ, subst}
use Rattle.sv_log.specs.Pictures.{Makes, Truncate}
use Rattle.sv_log.specs.Folders.{disk_in_memory}
use Rattle.sv_log.proofs.memory.MemFolderFolder.cut.Goals as goal

pub returns-clause-made : goal.returns-clause-made
returns-clause-made c = λ h.
    subst (λ (n : List ℕ). Makes (Truncate n c.args.size) (disk_in_memory c.args.self.now) (disk_in_memory c.note.new.self) c.note.result) c.in_ok-name.ensures.name c.note.ensures.made
