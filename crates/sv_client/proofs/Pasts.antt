-- One deed more is one event more.
use Rattle.std.proofs.Common.{◌≡◌, List, [], ◌∷◌, ◌++◌, refl}
use Rattle.sv_client.specs.declared.deed.Deed.{Deed}
use Rattle.sv_client.specs.declared.trace.Event.{Event}
use Rattle.sv_client.specs.Past.{event_after, events_after}

pub one_more : (t : List Event) (ds : List (Deed × Unit {0})) (d : Deed × Unit {0}) → events_after t (ds ++ d ∷ []) ≡ event_after (events_after t ds) d.0 ∷ events_after t ds
one_more t [] d = refl
one_more t (c ∷ ds) d = one_more (event_after t c.0 ∷ t) ds d
