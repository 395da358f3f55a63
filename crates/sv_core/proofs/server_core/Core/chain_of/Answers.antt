-- What the check leaves to prove of `Core::chain_of`.
use Rattle.std.proofs.Common.{length, ◌∙◌, ap}
use Rattle.sv_world.specs.Control.{chain_length, influence_distance}
use Rattle.sv_journal.specs.History.{accepted, actions_of, result_at}
use Rattle.sv_core.proofs.AgreeSteps.{sent_seats, named_seats, sent-within}
use Rattle.sv_core.proofs.FitRelays.{influence-is, distance-is}
use Rattle.sv_core.proofs.server_core.Core.chain_of.Goals as goal

pub returns-clause-count : goal.returns-clause-count
returns-clause-count g c =
    let a = c.args.self.now in
    let k = c.requires.0 in
    c.chain.ensures.count
    ∙ ap length (influence-is a.opened.world (accepted g.h) (result_at g.h) (sent_seats g.h a.sessions.items) (named_seats g.h a.sessions.items) a.queue k.fits (sent-within a.opened g.h a.sessions.items k.sound) c.args.action.now)
    ∙ ap (λ n. chain_length (actions_of g.h) n c.args.action.now) k.commit

pub returns-clause-far : goal.returns-clause-far
returns-clause-far g c =
    let a = c.args.self.now in
    let k = c.requires.0 in
    c.chain.ensures.far
    ∙ distance-is a.opened.world (accepted g.h) (result_at g.h) (sent_seats g.h a.sessions.items) (named_seats g.h a.sessions.items) a.queue k.fits (sent-within a.opened g.h a.sessions.items k.sound) c.args.action.now
    ∙ ap (λ n. influence_distance (actions_of g.h) n c.args.action.now) k.commit
