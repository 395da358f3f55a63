-- What is proved by hand of `read_file`.
use Rattle.std.proofs.Common.{rules, ◌≡◌, ◌∙◌, ◌++◌, ℕ, List, length, take, sym, subst}
use Rattle.sv_log.specs.Pictures.{Disk, seen}
use Rattle.sv_log.specs.Reads.{ReadsPart}
use Rattle.sv_log.proofs.Started.{HasRead, read_more}
use Rattle.sv_log.proofs.starting.read_file.Goals as goal

pub loop-preserved : goal.loop-preserved
loop-preserved g c = record {
  same = c.read_at.ensures.same ∙ c.loop.invariant.same;
  honest = λ h. c.loop.invariant.honest (c.read_at.ensures.honest h);
  calm = c.in_ok-count.ensures.cause ∙ c.loop.invariant.calm;
  read = λ h.
      let file = seen (g.F.Folder.disk c.args.folder.now) c.args.name.now in
      let before = c.loop.bytes.items in
      let items : c.extend_from_slice.new.self.items ≡ before ++ take c.in_ok-count.count c.read_at.new.into = search rules in
      let at : c.len.result ≡ length before = search rules in
      let part : ReadsPart file (length before) c.read_at.new.into c.in_ok-count.count =
      subst (λ (d : Disk). ReadsPart (seen d c.args.name.now) (length before) c.read_at.new.into c.in_ok-count.count) c.loop.invariant.same
      (subst (λ (m : ℕ). ReadsPart (seen (g.F.Folder.disk c.loop.folder) c.args.name.now) m c.read_at.new.into c.in_ok-count.count) at (c.in_ok-count.ensures.bytes h)) in
      subst (HasRead file) (sym items) (read_more file before c.read_at.new.into c.in_ok-count.count (c.loop.invariant.read (c.read_at.ensures.honest h)) part);
}
