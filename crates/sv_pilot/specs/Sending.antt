-- What a connection's calls change of it, and what they answer.
use Rattle.std.specs.Prelude.{◌≡◌, ℕ, ◌<◌, ◌⊎◌, List, [], ◌++◌, length, Option, None, Some, Result, Ok, Err, OnOk}
use Rattle.sv_bytes.specs.Faults.{Rose}
use Rattle.sv_frame.specs.Frames.{greatest_frame}
use Rattle.sv_link.specs.declared.ends.EndRead.{EndRead}
use Rattle.sv_link.specs.declared.ends.EndRead.TheVariants as reads
use Rattle.sv_link.specs.declared.ends.Sent.{Sent}
use Rattle.sv_link.specs.declared.ends.Sent.TheVariants as answers
use Rattle.sv_wire.specs.declared.fault.Malformed.{Malformed}
use Rattle.sv_wire.specs.declared.message.Reply.{Reply}
use Rattle.sv_wire.specs.Grammar.{IsWireReply}
use Rattle.sv_wire.specs.Messages.{reply_at}
use Rattle.sv_exchange.specs.Incoming.{FirstReads}
use Rattle.sv_pilot.specs.declared.trouble.Trouble.{Trouble}
use Rattle.sv_pilot.specs.declared.trouble.Trouble.TheVariants as troubles
use Rattle.sv_pilot.specs.Lines.{Line, IsCalm, GoesOn, IsBadFront, IsPartial, HasEnded}

abbrev pub trouble_of_sent : Sent → Result Unit Trouble
trouble_of_sent answers.Whole = Ok tt
trouble_of_sent answers.Failed = Err troubles.Link
trouble_of_sent answers.Memory = Err troubles.Memory

abbrev pub trouble_of_read : EndRead → Result Unit Trouble
trouble_of_read (reads.Got n) = Ok tt
trouble_of_read reads.Ended = Err troubles.Link
trouble_of_read reads.Failed = Err troubles.Link
trouble_of_read reads.Memory = Err troubles.Memory

-- What waited was sent, in order, but for what is unsent at its end; and nothing was received.
pub record HasSent (old new : Line) (unsent : List ℕ) : Type 0 where
  pub sent : List ℕ
  pub line : GoesOn old new sent []
  pub in_order : sent ++ unsent ≡ old.waits
  pub came : new.came ≡ old.came

-- The same, and bytes were received, which stand behind what had come.
pub record HasRead (old new : Line) (unsent : List ℕ) : Type 0 where
  pub sent : List ℕ
  pub received : List ℕ
  pub line : GoesOn old new sent received
  pub in_order : sent ++ unsent ≡ old.waits
  pub came : new.came ≡ old.came ++ received

-- What is unsent still waits, where the call went well.
abbrev pub Sends : {X : Type 0} → Line → Line → Result X Trouble → Type 0
Sends old new result = (unsent : List ℕ) × HasSent old new unsent × OnOk result (unsent ≡ new.waits)

abbrev pub Reads : {X : Type 0} → Line → Line → Result X Trouble → Type 0
Reads old new result = (unsent : List ℕ) × HasRead old new unsent × OnOk result (unsent ≡ new.waits)

-- Why not all was sent: the end failed, or there was no memory.
abbrev pub IsSendFault : Line → Line → Trouble → Type 0
IsSendFault old new troubles.Link = Rose old.faults new.faults
IsSendFault old new troubles.Memory = IsCalm old new
IsSendFault old new _ = ⊥

-- No call failed, or it is said why.
abbrev pub IsSent : Line → Line → Result Unit Trouble → Type 0
IsSent old new (Ok _) = IsCalm old new
IsSent old new (Err trouble) = IsSendFault old new trouble

-- Why no reply was received: the end failed, or told that no more will come before a whole reply came; the front of what came is no reply; or there was no memory.
abbrev pub IsReceiveFault : Line → Line → Trouble → Type 0
IsReceiveFault old new troubles.Link = Rose old.faults new.faults ⊎ HasEnded new
IsReceiveFault old new troubles.Reply = IsCalm old new × IsBadFront new.came
IsReceiveFault old new troubles.Memory = IsCalm old new
IsReceiveFault old new troubles.Game = ⊥

-- Some bytes came, or it is said why none did.
abbrev pub IsReadOn : Line → Line → Result Unit Trouble → Type 0
IsReadOn old new (Ok _) = IsCalm old new × (length old.came < length new.came)
IsReadOn old new (Err trouble) = IsReceiveFault old new trouble

-- The reply that a payload is, or it is none, or there was no memory for it.
abbrev pub IsReplyOf : List ℕ → Result Reply Trouble → Type 0
IsReplyOf payload (Ok reply) = (reply_at payload ≡ Ok reply) × IsWireReply reply
IsReplyOf payload (Err troubles.Reply) = (fault : Malformed) × (reply_at payload ≡ Err fault)
IsReplyOf payload (Err troubles.Memory) = Unit {0}
IsReplyOf payload (Err _) = ⊥

-- The reply at the front of what came, or the front is none, or there was no memory for it.
abbrev pub IsFrontRead : List ℕ → Result Reply Trouble → Type 0
IsFrontRead came (Ok reply) = FirstReads reply_at came (Ok reply) × IsWireReply reply
IsFrontRead came (Err troubles.Reply) = IsBadFront came
IsFrontRead came (Err troubles.Memory) = Unit {0}
IsFrontRead came (Err _) = ⊥

-- The same, where a whole frame has come, or a length over the limit. Else there is room for another byte.
abbrev pub IsFrontOf : List ℕ → Option (Result Reply Trouble) → Type 0
IsFrontOf came None = (length came < greatest_frame) × IsPartial came
IsFrontOf came (Some read) = IsFrontRead came read

-- A reply stands in front and no call failed, or it is said why.
abbrev pub IsReceived : Line → Line → Result Reply Trouble → Type 0
IsReceived old new (Ok reply) = IsCalm old new × FirstReads reply_at new.came (Ok reply) × IsWireReply reply
IsReceived old new (Err trouble) = IsReceiveFault old new trouble
