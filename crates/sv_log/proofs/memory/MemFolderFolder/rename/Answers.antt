-- What is proved by hand of `rename`.
use Rattle.std.proofs.Common.{List, ℕ, subst}
use Rattle.std.specs.String.{string_bytes}
use Rattle.sv_log.specs.Pictures.{Makes, Rename}
use Rattle.sv_log.specs.Folders.{disk_in_memory}
use Rattle.sv_log.proofs.memory.MemFolderFolder.rename.Goals as goal

pub returns-clause-made : goal.returns-clause-made
returns-clause-made c = λ h.
    subst (λ (n : List ℕ). Makes (Rename n c.args.to.now) (disk_in_memory c.args.self.now) (disk_in_memory c.note.new.self) c.note.result) c.in_ok-from.ensures.name
    (subst (λ (n : List ℕ). Makes (Rename (string_bytes c.in_ok-from.from) n) (disk_in_memory c.args.self.now) (disk_in_memory c.note.new.self) c.note.result) c.in_ok-to.ensures.name c.note.ensures.made)
