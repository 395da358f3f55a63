-- What a play leaves, by what it answers.
use Rattle.std.proofs.Common.{◌≡◌, ◌≢◌, inl, inr, ℕ, List, refl}
use Rattle.std.specs.Prelude.{Vec, Err}
use Rattle.std.specs.declared.alloc.Global.{Global}
use Rattle.sv_link.specs.Ends.{Told}
use Rattle.sv_client.specs.declared.trace.Trace.{Trace}
use Rattle.sv_scenario.specs.declared.scenario.Scenario.{Scenario}
use Rattle.sv_script.specs.Telling.{told_lines}
use Rattle.sv_player.specs.declared.outcome.PlayerCause.{PlayerCause}
use Rattle.sv_player.specs.declared.outcome.PlayerCause.TheVariants as causes
use Rattle.sv_player.specs.declared.outcome.ReplyFault.{ReplyFault}
use Rattle.sv_join.specs.Legal.{IsLegalServer}
use Rattle.sv_join.specs.declared.outcome.JoinFault.{JoinFault}
use Rattle.sv_join.specs.declared.outcome.JoinFault.TheVariants as join_faults
use Rattle.sv_join.specs.Joining.{Passed, passages_of, IsPlay, IsLeftOfPlay, ConnectCause, DoorCause, answer_of}

module _ {E : Type 0} (told : E → Told) (faults : E → ℕ) (calm : E → Type 0) where
  pub left_of : (scenario : Scenario) (k : ℕ) (door : Passed) (before now : ℕ) (trace : Trace) (cause : PlayerCause) (lines : Vec (List ℕ) Global)
      → IsPlay told faults calm scenario k door trace cause → (cause ≢ causes.Memory → lines.items ≡ told_lines trace)
      → ((session : ℕ) (payload : Vec ℕ Global) (fault : ReplyFault) (play : IsPlay told faults calm scenario k door trace (causes.BadReply session payload fault))
      → IsLegalServer scenario trace (passages_of told faults play.left) → ⊥)
      → IsLeftOfPlay told faults calm scenario k door before now (answer_of cause trace lines)
  left_of scenario k door before now trace causes.Finished lines play told_is never =
      record { cause = causes.Finished; ended = inl refl; play = play; to_end = play.follows.finished refl; lines = told_is (λ e. cc) }
  left_of scenario k door before now trace causes.Quit lines play told_is never =
      record { cause = causes.Quit; ended = inr refl; play = play; to_end = play.follows.quit refl; lines = told_is (λ e. cc) }
  left_of scenario k door before now trace causes.LinkFault lines play told_is never = inr (record { trace = trace; play = play })
  left_of scenario k door before now trace causes.Closed lines play told_is never = record { trace = trace; play = play }
  left_of scenario k door before now trace (causes.BadReply session payload fault) lines play told_is never =
      record { trace = trace; session = session; payload = payload; play = play; lawless = never session payload fault play }
  left_of scenario k door before now trace causes.Memory lines play told_is never = tt

  -- an end could not be made
  pub left_unmade : (scenario : Scenario) (k : ℕ) (door : Passed) (before now : ℕ) (fault : JoinFault) → ConnectCause {A = Unit {0}} before now (Err fault)
      → IsLeftOfPlay told faults calm scenario k door before now (Err fault)
  left_unmade scenario k door before now join_faults.Link cause = inl cause
  left_unmade scenario k door before now join_faults.Memory cause = tt
  left_unmade scenario k door before now (join_faults.Reply fault) cause = absurd cause
  left_unmade scenario k door before now join_faults.Closed cause = absurd cause

pub cause_of : (before now : ℕ) (cause : PlayerCause) (trace : Trace) (lines : Vec (List ℕ) Global) → now ≡ before → DoorCause before now (answer_of cause trace lines)
cause_of before now causes.Finished trace lines same = same
cause_of before now causes.Quit trace lines same = same
cause_of before now causes.LinkFault trace lines same = inl same
cause_of before now causes.Closed trace lines same = same
cause_of before now (causes.BadReply session payload fault) trace lines same = same
cause_of before now causes.Memory trace lines same = same

-- only a fault of an end is told as a link's
pub broken_by : (cause : PlayerCause) (trace : Trace) (lines : Vec (List ℕ) Global) → answer_of cause trace lines ≡ Err join_faults.Link → cause ≡ causes.LinkFault
broken_by causes.LinkFault trace lines e = refl
broken_by causes.Finished trace lines e = absurd cc
broken_by causes.Quit trace lines e = absurd cc
broken_by causes.Closed trace lines e = absurd cc
broken_by (causes.BadReply session payload fault) trace lines e = absurd cc
broken_by causes.Memory trace lines e = absurd cc
