-- A sequencer answers by the table.
use Rattle.sv_replay.proofs.Served.{sequencer_answers}
use Rattle.sv_replay.proofs.server.SequencerServer.step.Goals as goal

pub step-requires-clause-first : goal.step-requires-clause-first
step-requires-clause-first c = c.requires.first

pub returns : goal.returns
returns c = sequencer_answers c.args.self.now c.step.new.self c.args.session c.args.request c.step.result c.step.ensures.ok
