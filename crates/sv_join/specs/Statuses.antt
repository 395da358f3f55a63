-- How a join ends, and what each status says.
use Rattle.std.specs.Prelude.{◌≡◌, ◌≢◌, ◌↔◌, ◌⊎◌, ℕ, ◌<◌, ◌≤◌, ◌==◌, List, length, Option, codes, if◌then◌else◌, Result, Ok, Err, string_bytes, IfSome}
use Rattle.sv_bytes.specs.Faults.{Rose}
use Rattle.sv_bytes.specs.Writing.{GrewOrRose}
use Rattle.sv_link.specs.Ends.{Told}
use Rattle.sv_scenario.specs.declared.scenario.Scenario.{Scenario}
use Rattle.sv_scenario.specs.Scenarios.{scenario_of}
use Rattle.sv_player.specs.declared.outcome.ReplyFault.{ReplyFault}
use Rattle.sv_ending.specs.declared.ending.Ending.TheVariants as plain
use Rattle.sv_ending.specs.Endings.{Ends as PlainEnds}
use Rattle.sv_ending.specs.Reading.{IsRead, IsRefused}
use Rattle.sv_ending.specs.Statuses.{Counts, status_of as plain_status, ending_line, status_line}
use Rattle.sv_join.specs.declared.outcome.Joined.{Joined}
use Rattle.sv_join.specs.declared.outcome.JoinFault.{JoinFault}
use Rattle.sv_join.specs.declared.outcome.JoinFault.TheVariants as faults
use Rattle.sv_join.specs.declared.ending.JoinEnding.{JoinEnding}
use Rattle.sv_join.specs.declared.ending.JoinEnding.TheVariants as endings
use Rattle.sv_join.specs.Faults.{reply_line}
use Rattle.sv_join.specs.Joining.{Passed, IsWholePlay, IsBrokenPlay, IsRefusingPlay, IsClosedPlay}
use Rattle.sv_join.specs.Texts.{join_text}
use Rattle.sv_join.specs.Words.{Asked, words_line}

-- ---- Endings

abbrev pub status_of : JoinEnding → ℕ
status_of (endings.Plain ending) = plain_status ending
status_of (endings.Reply fault) = 11
status_of endings.Closed = 12

abbrev pub ending_of_fault : JoinFault → JoinEnding
ending_of_fault faults.Link = endings.Plain plain.Link
ending_of_fault (faults.Reply fault) = endings.Reply fault
ending_of_fault faults.Closed = endings.Closed
ending_of_fault faults.Memory = endings.Plain plain.Memory

-- what a part of a join ends with
abbrev pub ending_of : {A : Type 0} → Result A JoinEnding → JoinEnding
ending_of (Ok made) = endings.Plain plain.Done
ending_of (Err ending) = ending

-- ---- Faults

-- The counts of faults before and after, where the net's is the door's: the count of what the ending tells of rose, and no other. A link
-- is told of besides where an end failed.
abbrev pub Raises : Counts → Counts → JoinEnding → Type 0
Raises before now (endings.Plain plain.File) = Rose before.files now.files × (now ≡ record before { files = now.files })
Raises before now (endings.Plain plain.Out) = Rose before.out now.out × (now ≡ record before { out = now.out })
Raises before now (endings.Plain plain.Link) = now ≡ record before { net = now.net }
Raises before now _ = now ≡ before

-- A status tells of the files and of the output exactly where their counts rose, and of a link always where the door's count rose.
pub record TellsJoinFaults (status : ℕ) (before now : Counts) : Type 0 where
  pub file : (status ≡ 4) ↔ Rose before.files now.files
  pub out : (status ≡ 5) ↔ Rose before.out now.out
  pub link : Rose before.net now.net → status ≡ 6

-- ---- What was read

-- What was read of the file is a scenario that has no client of this number.
pub record IsOutside (held : Option (List ℕ)) (number : ℕ) : Type 0 where
  pub scenario : Scenario
  pub read : IsRead held scenario
  pub over : length scenario.clients ≤ number

-- The bytes are a scenario that has no client of this number.
pub record LacksClient (number : ℕ) (bytes : List ℕ) : Type 0 where
  pub scenario : Scenario
  pub read : scenario_of bytes ≡ Ok scenario
  pub over : length scenario.clients ≤ number

-- ---- What was played

module _ {E : Type 0} (told : E → Told) (faults : E → ℕ) (calm : E → Type 0) where
  -- The text tells the play of the client that is asked for, in the scenario of the file, which came to the end of its script.
  pub record IsText (asked : Asked) (held : Option (List ℕ)) (door : Passed) (text : List ℕ) : Type 0 where
    pub scenario : Scenario
    pub read : IsRead held scenario
    pub joined : Joined
    pub play : IsWholePlay told faults calm scenario asked.number door joined
    pub text_is : text ≡ join_text joined.trace

  -- The door's count of faults rose, or an end of the client that is asked for failed, in the session that it has open.
  pub record IsLost (asked : Asked) (held : Option (List ℕ)) (door : Passed) (before now : ℕ) : Type 0 where
    pub scenario : Scenario
    pub read : IsRead held scenario
    pub within : asked.number < length scenario.clients
    pub cause : Rose before now ⊎ IsBrokenPlay told faults calm scenario asked.number door

  -- The client that is asked for was stopped by a reply that it does not take, for this fault.
  pub record IsReplyRefused (asked : Asked) (held : Option (List ℕ)) (door : Passed) (fault : ReplyFault) : Type 0 where
    pub scenario : Scenario
    pub read : IsRead held scenario
    pub play : IsRefusingPlay told faults calm scenario asked.number door fault

  -- The client that is asked for awaits a reply over an end that told that no more will come.
  pub record IsShutOut (asked : Asked) (held : Option (List ℕ)) (door : Passed) : Type 0 where
    pub scenario : Scenario
    pub read : IsRead held scenario
    pub play : IsClosedPlay told faults calm scenario asked.number door

  -- an ending without a text
  abbrev pub EndsEarly : Asked → Option (List ℕ) → Passed → (before now : ℕ) → JoinEnding → Type 0
  EndsEarly asked held door before now (endings.Plain (plain.Scenario line)) = IsRefused held (string_bytes line)
  EndsEarly asked held door before now (endings.Plain plain.File) = Unit {0}
  EndsEarly asked held door before now (endings.Plain plain.Link) = IsLost asked held door before now
  EndsEarly asked held door before now (endings.Plain plain.Memory) = Unit {0}
  EndsEarly asked held door before now (endings.Plain plain.Range) = IsOutside held asked.number
  EndsEarly asked held door before now (endings.Reply fault) = IsReplyRefused asked held door fault
  EndsEarly asked held door before now endings.Closed = IsShutOut asked held door
  EndsEarly asked held door before now _ = ⊥

  -- what is left of a join, by its ending
  abbrev pub Ends : Asked → Option (List ℕ) → Passed → (before now : ℕ) → (old new : Option (List ℕ)) → JoinEnding → Type 0
  Ends asked held door before now old new (endings.Plain ending) = PlainEnds (IsText asked held door) (λ e. EndsEarly asked held door before now (endings.Plain e)) old new ending
  Ends asked held door before now old new ending = EndsEarly asked held door before now ending × (new ≡ old)

-- ---- The line beside the output

-- The line that tells of an ending.
abbrev pub join_line : JoinEnding → Option (List ℕ) → List ℕ
join_line (endings.Plain ending) named = ending_line words_line ending named
join_line (endings.Reply fault) named = reply_line fault
join_line endings.Closed named = codes "closed\n"

-- The line of a status other than 3 and 11.
abbrev pub join_status_line : ℕ → Option (List ℕ) → List ℕ
join_status_line status named = if status == 12 then codes "closed\n" else status_line words_line status named

module _ {E : Type 0} (told : E → Told) (faults : E → ℕ) (calm : E → Type 0) where
  -- The reply that was refused, and the line that tells why.
  pub record TellsReply (asked : Asked) (held : Option (List ℕ)) (door : Passed) (line : List ℕ) : Type 0 where
    pub fault : ReplyFault
    pub refused : IsReplyRefused told faults calm asked held door fault
    pub line_is : line ≡ reply_line fault

  -- The sink was given just the line of the status. At 3 it tells of the first fault of what was read of the file, and at 11 of the reply.
  pub record TellsStatus (asked : Option Asked) (held named : Option (List ℕ)) (door : Passed) (status : ℕ) (old new : Option (List ℕ)) (before after : ℕ) : Type 0 where
    pub line : List ℕ
    pub faulty : status ≡ 3 → IsRefused held line
    pub reply : status ≡ 11 → IfSome asked (λ a. TellsReply a held door line)
    pub plain_is : status ≢ 3 → status ≢ 11 → line ≡ join_status_line status named
    pub told_is : GrewOrRose old new before after line
