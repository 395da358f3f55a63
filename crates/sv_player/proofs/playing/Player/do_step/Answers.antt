-- What is proved by hand of `Player::do_step`.
use Rattle.std.proofs.Common.{◌≡◌, true, ◌∷◌, subst}
use Rattle.std.proofs.lemmas.Result.{err_from_is_err_and}
use Rattle.sv_client.specs.declared.trace.Event.TheVariants as events
use Rattle.sv_client.specs.Seen.{latest_session}
use Rattle.sv_scenario.specs.declared.scenario.Step.{Step}
use Rattle.sv_script.specs.Next.{can_do}
use Rattle.sv_script.proofs.Choosing.{act_room, ask_room}
use Rattle.sv_player.specs.Going.{next_steps}
use Rattle.sv_player.proofs.Turns.{before_move, show_due, did_nothing, stops_early}
use Rattle.sv_player.proofs.Moving.{shown_on, turn_kept}
use Rattle.sv_player.proofs.playing.Player.do_step.Goals as goal

pub do_make-requires-clause-room : goal.do_make-requires-clause-room
do_make-requires-clause-room g c = act_room c.args.self.now.client.who c.args.self.now.client.events c.in-Act.action (subst (λ (step : Step). can_do c.args.self.now.client.who c.args.self.now.client.events step ≡ true) c.in-Act.is c.requires.can)

pub do_poll-requires-clause-room : goal.do_poll-requires-clause-room
do_poll-requires-clause-room g c = ask_room c.args.self.now.client.who c.args.self.now.client.events (subst (λ (step : Step). can_do c.args.self.now.client.who c.args.self.now.client.events step ≡ true) c.in-Poll.is c.requires.can)

pub do_observe-requires-clause-room : goal.do_observe-requires-clause-room
do_observe-requires-clause-room g c = ask_room c.args.self.now.client.who c.args.self.now.client.events (subst (λ (step : Step). can_do c.args.self.now.client.who c.args.self.now.client.events step ≡ true) c.in-Observe.is c.requires.can)

pub returns-in_err-do_show-in-Show-clause-moved : goal.returns-in_err-do_show-in-Show-clause-moved
returns-in_err-do_show-in-Show-clause-moved g c =
    let p = c.args.self.now in
    let b = c.args.buffers.now in
    let end = g.E.End.told c.args.end.now in
    let s = latest_session p.client.events in
    let failed = err_from_is_err_and c.from_residual-in_err-do_show-in-Show.result c.from_residual-in_err-do_show-in-Show.ensures.1 in
    rw (failed.1, failed.2, c.in_err-do_show-in-Show.ensures.memory)
    (stops_early s (events.Show c.in-Show.objects) c.args.rest.now p c.do_show.new.self end b.inbox b.outbox (before_move s p b end c.requires.at c.requires.ready)
    (show_due s p b end c.requires.at c.requires.ready c.in-Show.objects c.args.rest.now (subst (λ (step : Step). next_steps p ≡ step ∷ c.args.rest.now) c.in-Show.is c.requires.next))
    (did_nothing (events.Show c.in-Show.objects) p c.do_show.new.self c.in_err-do_show-in-Show.ensures.err) c.requires.at.open_is)

pub returns-in_ok-do_show-in-Show-clause-moved : goal.returns-in_ok-do_show-in-Show-clause-moved
returns-in_ok-do_show-in-Show-clause-moved g c =
    let p = c.args.self.now in
    let b = c.args.buffers.now in
    let end = g.E.End.told c.args.end.now in
    let s = latest_session p.client.events in
    shown_on s p c.do_show.new.self b b end end c.requires.at c.requires.ready c.in-Show.objects c.args.rest.now (subst (λ (step : Step). next_steps p ≡ step ∷ c.args.rest.now) c.in-Show.is c.requires.next) c.in_ok-do_show-in-Show.ensures.ok

pub returns-in_ok-do_make-in-Act-clause-kept : goal.returns-in_ok-do_make-in-Act-clause-kept
returns-in_ok-do_make-in-Act-clause-kept g c =
    turn_kept (latest_session c.args.self.now.client.events) (events.Make c.in-Act.action) c.args.self.now c.do_make.new.self c.do_make.new.buffers c.args.buffers.now.outbox
    (g.E.End.told c.args.end.now) (g.E.End.told c.do_make.new.end) c.in_ok-do_make-in-Act.ensures.turn c.do_make.ensures.kept

pub returns-in_ok-do_poll-in-Poll-clause-kept : goal.returns-in_ok-do_poll-in-Poll-clause-kept
returns-in_ok-do_poll-in-Poll-clause-kept g c =
    turn_kept (latest_session c.args.self.now.client.events) events.Poll c.args.self.now c.do_poll.new.self c.do_poll.new.buffers c.args.buffers.now.outbox
    (g.E.End.told c.args.end.now) (g.E.End.told c.do_poll.new.end) c.in_ok-do_poll-in-Poll.ensures.turn c.do_poll.ensures.kept

pub returns-in_ok-do_observe-in-Observe-clause-kept : goal.returns-in_ok-do_observe-in-Observe-clause-kept
returns-in_ok-do_observe-in-Observe-clause-kept g c =
    turn_kept (latest_session c.args.self.now.client.events) (events.Observe c.in-Observe.objects 0) c.args.self.now c.do_observe.new.self c.do_observe.new.buffers c.args.buffers.now.outbox
    (g.E.End.told c.args.end.now) (g.E.End.told c.do_observe.new.end) c.in_ok-do_observe-in-Observe.ensures.turn c.do_observe.ensures.kept
