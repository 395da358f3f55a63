-- What is asked for, each by the part that does it.
use Rattle.std.proofs.Common.{refl}
use Rattle.sv_ending.specs.Statuses.{counts}
use Rattle.sv_ending.proofs.Counts.{unthreaded, link_status}
use Rattle.sv_threads.specs.Moved.{moved}
use Rattle.sv_run.proofs.Pairs.{untouched_pairs}
use Rattle.sv_run.proofs.texts.text_for.Goals as goal

pub returns-in-Replay-clause-made : goal.returns-in-Replay-clause-made
returns-in-Replay-clause-made g c =
    rw c.in-Replay.is
    (c.replay.ensures.made (moved (g.N.Net.settled c.args.net.now) (g.N.Net.settled c.args.net.now) (g.C.Crew.ran c.args.crew.now) (g.C.Crew.ran c.args.crew.now)))

pub returns-in-Replay-clause-raises : goal.returns-in-Replay-clause-raises
returns-in-Replay-clause-raises g c = λ k. c.replay.ensures.raises (counts 0 (g.C.Crew.faults c.args.crew.now) (g.N.Net.faults c.args.net.now) k)

pub returns-in-Replay-clause-apart : goal.returns-in-Replay-clause-apart
returns-in-Replay-clause-apart g c =
    let n = unthreaded (counts 0 0 0 0) _ _ _ (c.replay.ensures.raises (counts 0 0 0 0)) in
    rw c.in-Replay.is (refl, refl, n.0, n.1)

pub returns-in-Replay-clause-calm : goal.returns-in-Replay-clause-calm
returns-in-Replay-clause-calm g c =
    let n = unthreaded (counts 0 0 0 0) _ _ _ (c.replay.ensures.raises (counts 0 0 0 0)) in
    λ calm s. absurd (n.0 (link_status _ s))

pub returns-in-Load-clause-raises : goal.returns-in-Load-clause-raises
returns-in-Load-clause-raises g c = λ k. c.load.ensures.raises _ k

pub returns-in-Replay-clause-pairs : goal.returns-in-Replay-clause-pairs
returns-in-Replay-clause-pairs g c = untouched_pairs _ _ _ refl
