-- A server that hears lies tells which sessions had their End.
use Rattle.sv_witness.proofs.liar.LyingServer.is_ended.Goals as goal

pub returns : goal.returns
returns c = c.is_ended.ensures
