-- What is proved by hand of `Past::note`.
use Rattle.std.proofs.Common.{List, [], ◌∷◌, ap, ◌∙◌}
use Rattle.sv_client.specs.declared.trace.Event.{Event}
use Rattle.sv_client.specs.Past.{event_after, events_after}
use Rattle.sv_client.specs.Seen.{only_joins}
use Rattle.sv_client.proofs.Pasts.{one_more}
use Rattle.sv_client.proofs.past.Past.note.Goals as goal

pub returns : goal.returns
returns c =
    ap (events_after (only_joins c.self.inside.before.value)) c.and-self-inside.ensures ∙ one_more (only_joins c.self.inside.before.value) c.self.inside.log.items (c.args.deed.now, _)
    ∙ ap (λ (t : List Event). event_after t c.args.deed.now ∷ t) c.self.view_is
