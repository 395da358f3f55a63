-- What an observe asks is the message that was to be one.
use Rattle.std.proofs.Common.{[], ◌∷◌, List, All, sym, ap, ◌∙◌, subst}
use Rattle.std.proofs.lemmas.List.Elements.{recursion_from_All}
use Rattle.sv_world.specs.declared.world.ObjectId.{ObjectId}
use Rattle.sv_wire.specs.Laws.{IsRequest}
use Rattle.sv_client.specs.declared.trace.Event.TheVariants as events
use Rattle.sv_client.specs.Seen.{newly_asked}
use Rattle.sv_replay.proofs.playing.Playing.look.Goals as goal

pub send_request-requires-clause-message : goal.send_request-requires-clause-message
send_request-requires-clause-message c =
    let client = c.args.self.now.client in
    let same = c.in-Ok.ensures.request ∙ ap (λ (objects : List ObjectId). newly_asked client.who client.events (events.Observe objects 0)) (c.in_ok-copy.ensures ∙ c.as_slice.ensures) in
    (recursion_from_All IsRequest (c.in-Ok.request ∷ []) (subst (All IsRequest) (sym same) c.requires.messages)).0
