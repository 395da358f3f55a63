-- The loop invariant of `Player::play`.
use Rattle.sv_player.specs.Ends.{IsPlaying}
use Rattle.sv_player.proofs.playing.Player.play.Given as goal

abbrev pub invariant-loop-place : goal.invariant-loop-place
invariant-loop-place g l = IsPlaying g.E.End.told g.E.End.faults g.E.End.calm l.initial.self l.self l.initial.ends l.ends l.place
