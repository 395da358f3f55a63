-- That whatever a player asks is a message, and can be sent.
use Rattle.std.specs.Prelude.{ℕ, All}
use Rattle.sv_world.specs.Limits.{most_sessions}
use Rattle.sv_wire.specs.Laws.{IsRequest}
use Rattle.law_schedule.specs.Players.{Player}
use Rattle.sv_replay.specs.Players.{asked_by_player, IsFit}

-- Whatever a player asked, in whichever session, is a message.
abbrev pub AsksMessages : Player → Type 0
AsksMessages p = (s : ℕ) → All IsRequest (asked_by_player p s)

-- A player as it may stand after a turn.
pub record IsAfterTurn (p : Player) : Type 0 where
  pub fit : IsFit most_sessions p
  pub asks : AsksMessages p
