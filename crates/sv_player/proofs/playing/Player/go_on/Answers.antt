-- What is proved by hand of `Player::go_on`.
use Rattle.std.proofs.Common.{List, ap, sym, ◌∙◌}
use Rattle.sv_wire.specs.declared.message.Request.{Request}
use Rattle.sv_client.specs.declared.trace.Event.TheVariants as events
use Rattle.sv_client.specs.Seen.{latest_session}
use Rattle.sv_script.specs.Following.{passed_syncs}
use Rattle.sv_player.proofs.Choosing.{awaits}
use Rattle.sv_player.proofs.Moving.{got_moves, left_on, step_waits, turn_kept, wait_kept}
use Rattle.sv_player.proofs.playing.Player.go_on.Goals as goal

pub receive-requires-clause-awaited : goal.receive-requires-clause-awaited
receive-requires-clause-awaited g c = awaits c.args.self.now c.requires.at.going c.in-Wait.ensures.0 c.in-Wait.ensures.1

pub do_leave-requires-clause-done : goal.do_leave-requires-clause-done
do_leave-requires-clause-done g c = ap (λ (rs : List Request). passed_syncs rs c.args.self.now.left.now) (sym c.in-Leave.ensures.1) ∙ c.in-Leave.ensures.0

pub receive-requires-clause-waits : goal.receive-requires-clause-waits
receive-requires-clause-waits g c = step_waits c.args.self.now.client.who c.args.self.now.client.events c.args.self.now.left.now c.in-Wait.ensures.0

pub returns-in_ok-receive-in-Wait-clause-moved : goal.returns-in_ok-receive-in-Wait-clause-moved
returns-in_ok-receive-in-Wait-clause-moved g c =
    got_moves (latest_session c.args.self.now.client.events) c.in_ok-receive-in-Wait.field-0 c.ending_of.result c.args.self.now c.receive.new.self c.receive.new.buffers (g.E.End.told c.receive.new.end)
    c.ending_of.ensures c.in_ok-receive-in-Wait.ensures.received

pub returns-in_ok-do_leave-in-Leave-clause-moved : goal.returns-in_ok-do_leave-in-Leave-clause-moved
returns-in_ok-do_leave-in-Leave-clause-moved g c =
    let p = c.args.self.now in
    let b = c.args.buffers.now in
    let end = g.E.End.told c.args.end.now in
    let s = latest_session p.client.events in
    left_on s p c.do_leave.new.self b c.do_leave.new.buffers end (g.E.End.told c.do_leave.new.end) c.requires.at c.requires.ready c.in-Leave.ensures.1 c.in_ok-do_leave-in-Leave.ensures.turn
    c.in_ok-do_leave-in-Leave.ensures.left

pub returns-in_ok-receive-in-Wait-clause-kept : goal.returns-in_ok-receive-in-Wait-clause-kept
returns-in_ok-receive-in-Wait-clause-kept g c =
    wait_kept (latest_session c.args.self.now.client.events) c.in_ok-receive-in-Wait.field-0 c.ending_of.result c.args.self.now c.receive.new.self c.receive.new.buffers c.args.buffers.now.outbox
    (g.E.End.told c.args.end.now) (g.E.End.told c.receive.new.end) c.ending_of.ensures c.in_ok-receive-in-Wait.ensures.received

pub returns-in_ok-do_leave-in-Leave-clause-kept : goal.returns-in_ok-do_leave-in-Leave-clause-kept
returns-in_ok-do_leave-in-Leave-clause-kept g c =
    turn_kept (latest_session c.args.self.now.client.events) events.Leave c.args.self.now c.do_leave.new.self c.do_leave.new.buffers c.args.buffers.now.outbox
    (g.E.End.told c.args.end.now) (g.E.End.told c.do_leave.new.end) c.in_ok-do_leave-in-Leave.ensures.turn c.do_leave.ensures.kept
