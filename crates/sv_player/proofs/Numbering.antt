-- The number of a player's session.
use Rattle.std.proofs.Common.{◌≡◌, ℕ, zero, suc, ◌≤◌, false, Option, ap, ◌∙◌, arith}
use Rattle.std.specs.Prelude.{unwrap_or}
use Rattle.sv_client.specs.Traces.{joins}
use Rattle.sv_client.specs.Seen.{latest_session}
use Rattle.sv_client.proofs.Sessions.{session_after, current_is}
use Rattle.sv_script.specs.Following.{must_join}
use Rattle.sv_script.proofs.Places.{joined_once}
use Rattle.sv_player.specs.declared.playing.Player.{Player}
use Rattle.sv_player.specs.Going.{IsGoing}

last_of : (j : ℕ) → 1 ≤ j → suc (unwrap_or (session_after 0 j) 0) ≡ j
last_of zero l = absurd (omega arith)
last_of (suc j) l = omega arith

-- Its session, from 0, is the last of those that it joined.
pub latest_joined : (p : Player) → IsGoing p → must_join p.client.events ≡ false → suc (latest_session p.client.events) ≡ joins p.client.events
latest_joined p g m =
    ap (λ (o : Option ℕ). suc (unwrap_or o 0)) (current_is p.client.who 0 p.client.events g.proper)
    ∙ last_of (joins p.client.events) (joined_once p.client.who p.script.now p.client.events p.left.now g.follows m)
