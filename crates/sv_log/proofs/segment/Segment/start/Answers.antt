-- What is proved by hand of `start`.
use Rattle.std.proofs.Common.{[], ℕ, List, refl, subst}
use Rattle.sv_log.specs.Logs.{LogStands}
use Rattle.sv_log.proofs.Started.{started}
use Rattle.sv_log.proofs.segment.Segment.start.Goals as goal

pub returns-in-Ok-clause-open : goal.returns-in-Ok-clause-open
returns-in-Ok-clause-open g c = λ h.
    started g.F.Folder.disk record {
      folder = c.make_synced.new.folder;
      name = c.args.name;
      synced = 0;
      length = 0;
      size = c.args.spare;
      spare = c.args.spare;
    } c.args.spare
    (subst (λ (n : List ℕ). LogStands (g.F.Folder.disk c.make_synced.new.folder) n [] [] c.args.spare) c.as_str.ensures.value (c.in-Ok.ensures.stands h))
    refl refl refl
