-- What a sequencer's fields keep.
use Rattle.std.specs.Prelude.{reverse}
use Rattle.sv_journal.specs.Answer.{Legal}
use Rattle.sv_sequencer.specs.declared.sequencer.Sequencer.TheInside.{Inside}
use Rattle.sv_core.specs.Cores.{core_rules, Keeps, SitByNumber}
use Rattle.sv_sequencer.specs.Entering.{HasRoomForEnds}
use Rattle.sv_sequencer.specs.Step.{SequencerView}

abbrev pub model_of : Inside → SequencerView
model_of a = record { rules = core_rules a.core; journal = a.journal }

-- The journal is legal, the core stands where its history leads with each session at its own slot, and it has room for the Ends to come.
pub record IsSequencer (a : Inside) : Type 0 where
  pub legal : Legal (core_rules a.core) (reverse a.journal.entries)
  pub keeps : Keeps a.core (reverse a.journal.entries)
  pub seats : SitByNumber a.core
  pub room : HasRoomForEnds a.core a.journal
