-- What is proved by hand of `read_at`.
use Rattle.std.proofs.Common.{◌≡◌, List, ℕ, Option, Some, sym, ◌∙◌, ap, subst}
use Rattle.sv_log.specs.Pictures.{seen}
use Rattle.sv_log.specs.Reads.{ReadsPart}
use Rattle.sv_log.specs.Memory.{bytes_in}
use Rattle.sv_log.specs.Folders.{disk_in_memory}
use Rattle.sv_log.proofs.memory.MemFolderFolder.read_at.Goals as goal

pub returns-clause-bytes : goal.returns-clause-bytes
returns-clause-bytes c = λ h.
    let is : seen (disk_in_memory c.args.self.now) c.args.name.now ≡ Some c.in-Some.bytes.items = sym c.in-Ok.ensures ∙ ap bytes_in c.in-Some.is in
    let part : ReadsPart (Some c.as_slice.result.now) c.args.at c.copied.new.into c.copied.result = (c.copied.ensures.count, c.copied.ensures.bytes) in
    subst (λ (o : Option (List ℕ)). ReadsPart o c.args.at c.copied.new.into c.copied.result) (sym is)
    (subst (λ (b : List ℕ). ReadsPart (Some b) c.args.at c.copied.new.into c.copied.result) c.as_slice.ensures.value part)
