-- What is told of the world at the end.
use Rattle.sv_host.proofs.Through.{begun_since}
use Rattle.sv_host.proofs.top.serve_host.Goals as goal

pub returns-clause-done : goal.returns-clause-done
returns-clause-done g c named held = record {
  keeper = c.serve_at.new.host.office.keeper;
  goes = c.serve_at.ensures.goes;
  joins = c.serve_at.ensures.joins.added named held;
  done = c.in_ok-serve_at.ensures.done;
  sent = c.in_ok-serve_at.ensures.last;
  begun = λ fresh. begun_since c.requires.order c.requires.ended (c.in_ok-serve_at.ensures.last fresh);
  asked = c.in_ok-serve_at.ensures.asked;
  folder = c.in_ok-folder.ensures;
  entries = c.entries.ensures c.in_ok-serve_at.ensures.done.durable.sound;
  commit = c.commit.ensures;
}
