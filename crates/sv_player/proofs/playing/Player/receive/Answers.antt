-- What is proved by hand of `Player::receive`.
use Rattle.std.proofs.Common.{List, ℕ, sym, subst, ◌+◌}
use Rattle.std.proofs.lemmas.Result.{err_from_is_err_and}
use Rattle.sv_client.specs.Seen.{latest_session}
use Rattle.sv_player.specs.Sessions.{IsFrameFault}
use Rattle.sv_player.proofs.Receiving.{frame_stops}
use Rattle.sv_player.proofs.playing.Player.receive.Goals as goal

pub returns-in_err-await_frame-clause-received : goal.returns-in_err-await_frame-clause-received
returns-in_err-await_frame-clause-received g c =
    let failed = err_from_is_err_and c.from_residual.result c.from_residual.ensures.1 in
    rw (failed.1, failed.2) c.in_err-await_frame.ensures.still

pub returns-in_err-send_all-in-Err-clause-received : goal.returns-in_err-send_all-in-Err-clause-received
returns-in_err-send_all-in-Err-clause-received g c =
    let failed = err_from_is_err_and c.from_residual-in_err-send_all-in-Err.result c.from_residual-in_err-send_all-in-Err.ensures.1 in
    rw (failed.1, failed.2) c.in_err-send_all-in-Err.ensures.still

-- The first frame holds no reply.
pub returns-in-Err-clause-received : goal.returns-in-Err-clause-received
returns-in-Err-clause-received g c =
    let p = c.args.self.now in
    let s = latest_session p.client.events in
    frame_stops s p c.send_all.new.buffers (g.E.End.told c.send_all.new.end) c.in-Err.cause c.in_ok-send_all-in-Err.ensures.still c.requires.here c.in_ok-send_all-in-Err.ensures.sent
    (subst (λ (rest : List ℕ). IsFrameFault p.client.who p.client.events (s + p.first) rest c.in-Err.cause) (sym c.send_all.ensures.inbox) c.in-Err.ensures.fault)

-- What waits was not sent before the Bye.
pub returns-in_err-send_all-clause-received : goal.returns-in_err-send_all-clause-received
returns-in_err-send_all-clause-received g c =
    let failed = err_from_is_err_and c.from_residual-in_err-send_all.result c.from_residual-in_err-send_all.ensures.1 in
    rw (failed.1, failed.2) c.in_err-send_all.ensures.still
