-- The loop invariant of `seen_now`.
use Rattle.std.proofs.Common.{◌≡◌, take}
use Rattle.sv_player.specs.Seen.{seen_by}
use Rattle.sv_player.proofs.telling.seen_now.Given as goal

abbrev pub invariant-loop-object : goal.invariant-loop-object
invariant-loop-object l = l.seen.items ≡ seen_by l.client.events (take l.object-index l.client.who.interest)
