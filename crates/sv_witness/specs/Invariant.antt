-- What a witnessing server's fields keep.
use Rattle.std.specs.Prelude.{reverse}
use Rattle.sv_core.specs.Cores.{core_rules, Keeps, SitByNumber}
use Rattle.sv_sequencer.specs.Entering.{HasRoomForEnds}
use Rattle.sv_sequencer.specs.Step.{SequencerView}
use Rattle.sv_witness.specs.declared.witness.Witness.TheInside.{Inside}
use Rattle.sv_witness.specs.Reports.{agreed_history}
use Rattle.sv_witness.specs.Kept.{KeepsBeside}

abbrev pub model_of : Inside → SequencerView
model_of a = record { rules = core_rules a.core; journal = a.journal }

-- The core stands where the history of what was agreed leads with each session at its own slot, what is kept beside it stands by the journal,
-- and there is room for the Ends to come.
pub record IsWitness (a : Inside) : Type 0 where
  pub keeps : Keeps a.core (agreed_history (reverse a.journal.entries))
  pub seats : SitByNumber a.core
  pub stands : KeepsBeside (core_rules a.core) a.testimony.reports a.testimony.disputes.items (reverse a.journal.entries)
  pub room : HasRoomForEnds a.core a.journal
