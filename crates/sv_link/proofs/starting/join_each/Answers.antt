-- What is proved by hand of `join_each`.
use Rattle.std.proofs.Common.{rules, append_assoc}
use Rattle.sv_link.specs.Promises.{promised}
use Rattle.sv_link.proofs.Promises.{kept_more}
use Rattle.sv_link.proofs.starting.join_each.Goals as goal

pub loop-handle-preserved : goal.loop-handle-preserved
loop-handle-preserved g c =
    record {
      all = rw append_assoc (search rules);
      kept = rw c.push_reserved.ensures.items (kept_more promised g.J.Job.keeps _ _ c.in-Some.handle c.join.result c.loop-handle.invariant.kept c.join.ensures);
      room = search rules;
    }
