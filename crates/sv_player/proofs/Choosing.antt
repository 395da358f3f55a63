-- What the next move rests on.
use Rattle.std.proofs.Common.{◌≡◌, ◌≢◌, ◌⊎◌, inl, inr, ◌<◌, ◌≤◌, false, [], length, arith}
use Rattle.sv_client.specs.Traces.{pending_of}
use Rattle.sv_client.specs.Taking.{outstanding}
use Rattle.sv_script.specs.Following.{unsynced}
use Rattle.sv_script.specs.Next.{can_do_first}
use Rattle.sv_script.proofs.Choosing.{waits_full}
use Rattle.sv_player.specs.declared.playing.Player.{Player}
use Rattle.sv_player.specs.Going.{IsGoing}
use Rattle.sv_player.proofs.Awaited.{pending_awaited}

-- Where the player waits, a reply is awaited. With eight pending actions one is.
pub awaits : (p : Player) → IsGoing p → can_do_first p.client.who p.client.events (unsynced p.client.who p.client.events p.left.now) ≡ false →
    (unsynced p.client.who p.client.events p.left.now ≡ [] → outstanding p.client.who p.client.events ≢ []) → 0 < length (outstanding p.client.who p.client.events)
awaits p g stays some = go (waits_full p.client.who p.client.events p.left.now stays some)
  where
    go : (8 ≤ length (pending_of p.client.events)) ⊎ (0 < length (outstanding p.client.who p.client.events)) → 0 < length (outstanding p.client.who p.client.events)
    go (inl full) = (let most = pending_awaited p.client.who 0 p.client.events g.proper in omega (arith, full, most))
    go (inr more) = more
