-- A sequencer tells which sessions had their End.
use Rattle.sv_replay.proofs.server.SequencerServer.is_ended.Goals as goal

pub returns : goal.returns
returns c = c.is_ended.ensures
