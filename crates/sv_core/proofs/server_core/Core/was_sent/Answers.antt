-- What the check leaves to prove of `Core::was_sent`.
use Rattle.std.proofs.Common.{◌<◌, ◌≤◌, ◌∙◌, ap, arith}
use Rattle.sv_world.specs.Control.{is_in}
use Rattle.sv_queue.specs.Queue.{last_position}
use Rattle.sv_journal.specs.History.{accepted, result_at}
use Rattle.sv_core.specs.Agreement.{sent_at}
use Rattle.sv_core.proofs.AgreeSteps.{sent_seats, named_seats, sent-within}
use Rattle.sv_core.proofs.FitRelays.{sent-is}
use Rattle.sv_core.proofs.Seating.{seat-low}
use Rattle.sv_core.proofs.server_core.Core.was_sent.Goals as goal

pub is_marked-requires-clause-pos : goal.is_marked-requires-clause-pos
is_marked-requires-clause-pos c =
    let v = c.args.self.now.queue in
    let open' = c.requires.open.1 in
    let low : v.commit < c.args.pos = omega (arith, open'.1.0, open'.0.commit) in
    let high : c.args.pos ≤ last_position v = omega (arith, open'.1.1, open'.0.fits.last) in
    (low, high)

pub returns : goal.returns
returns c = λ h k.
    (let a = c.args.self.now in
    let rows = a.sessions.items in
    let slot = c.args.seat.slot in
    let open' = c.requires.open.1 in
    let low : a.queue.commit < c.args.pos = omega (arith, open'.1.0, open'.0.commit) in
    let small : slot < 1024 = omega (arith, seat-low rows slot c.args.seat.session c.requires.seat, k.few) in
    c.is_marked.ensures
    ∙ sent-is a.opened.world (accepted h) (result_at h) (sent_seats h rows) (named_seats h rows) a.queue k.fits (sent-within a.opened h rows k.sound) slot c.args.pos small low
    ∙ ap (λ o. is_in c.args.pos (sent_at h o)) c.requires.seat)
