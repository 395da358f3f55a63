-- A witnessing server as its callers see it, and one step of it. It is seen as a sequencer is: by what it was opened with, and its journal.
use Rattle.std.specs.Prelude.{◌≡◌, ℕ}
use Rattle.sv_wire.specs.declared.message.Reply.{Reply}
use Rattle.sv_wire.specs.declared.message.Request.{Request}
use Rattle.sv_journal.specs.History.{accepted, full_reply}
use Rattle.sv_journal.specs.History.{entry_of}
use Rattle.sv_sequencer.specs.Step.{SequencerView, history, GrewByEntry}
use Rattle.sv_witness.specs.Witnessed.{witnessed_reply}

-- A step answered a request by the witnessed reply, in full.
pub record Witnesses (old new : SequencerView) (s : ℕ) (request : Request) (reply : Reply) : Type 0 where
  pub grew : GrewByEntry old new (entry_of s request (witnessed_reply old.rules (history old) s request))
  pub whole : reply ≡ full_reply (accepted (history new)) (witnessed_reply old.rules (history old) s request)
