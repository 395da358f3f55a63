-- The requests so far were sent.
use Rattle.std.proofs.Common.{◌≡◌, ◌++◌, take}
use Rattle.sv_replay.proofs.playing.send_requests.Given as goal

abbrev pub invariant-loop-request : goal.invariant-loop-request
invariant-loop-request l = l.channel ≡ record l.fn.channel { requests = l.fn.channel.requests ++ take l.request-index l.requests }
