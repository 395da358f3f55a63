-- What the listener was told over several events.
use Rattle.std.proofs.Common.{◌≡◌, List, [], ◌∷◌, ◌++◌, Result, Ok, Err, refl, sym, ap, subst, ◌∙◌, append_assoc}
use Rattle.std.specs.Prelude.{OnOk}
use Rattle.sv_client.specs.declared.trace.Event.{Event}
use Rattle.sv_client.specs.Taking.{Identity}
use Rattle.sv_client.specs.Seen.{ClientView, with_event}
use Rattle.sv_pilot.specs.Hearing.{Heard, IsUpToDate, HearsSome, HearsAll, HearsEach, HearsUntil}
use Rattle.sv_pilot.specs.Doings.{PilotView, HeardAll, HeardPart, Hears, HasTold}
use Rattle.sv_pilot.specs.declared.trouble.Trouble.{Trouble}

-- ---- Over events

hears_none : (who : Identity) (t : List Event) (heard : List Heard) → HearsSome who t heard heard
hears_none who t heard = record { calls = []; behind = refl; news = tt }

each_until : (who : Identity) (t es : List Event) (a b : List Heard) → HearsEach who t es a b → HearsUntil who t es a b
each_until who t [] a b h = h
each_until who t (e ∷ es) a b h = (h.0, h.1, h.2.some)

each_more : (who : Identity) (t es fs : List Event) (a b c : List Heard) → HearsEach who t es a b → HearsEach who (es ++ t) fs b c → HearsEach who t (fs ++ es) a c
each_more who t es [] a b c h k = subst (HearsEach who t es a) (sym k) h
each_more who t es (f ∷ fs) a b c h k = (k.0, each_more who t es fs a b k.0 h k.1, subst (λ (s : List Event). HearsAll who (f ∷ s) k.0 c) (sym (append_assoc fs es t)) k.2)

until_more : (who : Identity) (t es fs : List Event) (a b c : List Heard) → HearsEach who t es a b → HearsUntil who (es ++ t) fs b c → HearsUntil who t (fs ++ es) a c
until_more who t es [] a b c h k = subst (HearsUntil who t es a) (sym k) (each_until who t es a b h)
until_more who t es (f ∷ fs) a b c h k = (k.0, each_more who t es fs a b k.0 h k.1, subst (λ (s : List Event). HearsSome who (f ∷ s) k.0 c) (sym (append_assoc fs es t)) k.2)

-- ---- Over calls

-- Nothing was done, and nothing was told.
pub told_nothing : (old new : PilotView) → new.client.events ≡ old.client.events → new.told ≡ old.told → HeardAll old.client.who old.client.events old.told new
told_nothing old new events same = record { more = []; events = events; heard = same }

pub told_none : {X : Type 0} (old new : PilotView) (r : Result X Trouble) → new.client.events ≡ old.client.events → new.told ≡ old.told → HasTold old new r
told_none old new (Ok x) events same = told_nothing old new events same
told_none old new (Err t) events same = record { more = []; events = events; heard = same }

-- Behind a part after which all was told.
pub told_then : {X : Type 0} (who : Identity) (t : List Event) (before : List Heard) (mid new : PilotView) (r : Result X Trouble) → mid.client.who ≡ who → HeardAll who t before mid → HasTold mid new r → Hears who t before new r
told_then who t before mid new (Ok x) same h k =
    let events = k.events ∙ ap (λ (s : List Event). k.more ++ s) h.events in
    record {
      more = k.more ++ h.more;
      events = events ∙ sym (append_assoc k.more h.more t);
      heard = each_more who t h.more k.more before mid.told new.told h.heard
          (subst (λ (s : List Event). HearsEach who s k.more mid.told new.told) h.events (subst (λ (w : Identity). HearsEach w mid.client.events k.more mid.told new.told) same k.heard));
    }
told_then who t before mid new (Err trouble) same h k =
    let events = k.events ∙ ap (λ (s : List Event). k.more ++ s) h.events in
    record {
      more = k.more ++ h.more;
      events = events ∙ sym (append_assoc k.more h.more t);
      heard = until_more who t h.more k.more before mid.told new.told h.heard
          (subst (λ (s : List Event). HearsUntil who s k.more mid.told new.told) h.events (subst (λ (w : Identity). HearsUntil w mid.client.events k.more mid.told new.told) same k.heard));
    }

-- One event came, and then news was told: all of it, or some.
pub told_one : (who : Identity) (t : List Event) (e : Event) (before : List Heard) (new : PilotView) → new.client.events ≡ e ∷ t → HearsSome who (e ∷ t) before new.told → IsUpToDate who (e ∷ t) new.told
    → HeardAll who t before new
told_one who t e before new events some all = record { more = e ∷ []; events = events; heard = (before, refl, record { some = some; all = all }) }

pub told_some : (who : Identity) (t : List Event) (e : Event) (before : List Heard) (new : PilotView) → new.client.events ≡ e ∷ t → HearsSome who (e ∷ t) before new.told → HeardPart who t before new
told_some who t e before new events some = record { more = e ∷ []; events = events; heard = (before, refl, some) }

pub told_by : {X : Type 0} (who : Identity) (t : List Event) (e : Event) (before : List Heard) (new : PilotView) (r : Result X Trouble) → new.client.events ≡ e ∷ t → HearsSome who (e ∷ t) before new.told
    → OnOk r (IsUpToDate who (e ∷ t) new.told) → Hears who t before new r
told_by who t e before new (Ok x) events some all = told_one who t e before new events some all
told_by who t e before new (Err trouble) events some all = told_some who t e before new events some

-- One event came, and nothing was told of it.
pub told_not : (who : Identity) (t : List Event) (e : Event) (before : List Heard) (new : PilotView) → new.client.events ≡ e ∷ t → new.told ≡ before → HeardPart who t before new
told_not who t e before new events same = told_some who t e before new events (subst (HearsSome who (e ∷ t) before) (sym same) (hears_none who (e ∷ t) before))

-- One event came, and then a listener was told, by a call that leaves the client as it is.
pub told_after : {X : Type 0} (who : Identity) (t : List Event) (e : Event) (before : List Heard) (mid new : PilotView) (r : Result X Trouble) → mid.client.who ≡ who → mid.client.events ≡ e ∷ t → mid.told ≡ before
    → new.client ≡ mid.client → HearsSome mid.client.who mid.client.events mid.told new.told → OnOk r (IsUpToDate mid.client.who mid.client.events new.told) → Hears who t before new r
told_after {X} who t e before mid new r same events heard client some all =
    told_by who t e before new r (ap (λ (v : ClientView). v.events) client ∙ events)
    (subst (λ (hs : List Heard). HearsSome who (e ∷ t) hs new.told) heard (subst (λ (s : List Event). HearsSome who s mid.told new.told) events (subst (λ (w : Identity). HearsSome w mid.client.events mid.told new.told) same some)))
    (subst (λ (s : List Event). OnOk r (IsUpToDate who s new.told)) events (subst (λ (w : Identity). OnOk r (IsUpToDate w mid.client.events new.told)) same all))

-- What was told behind all that was told.
pub told_all : (who : Identity) (t : List Event) (before : List Heard) (p : PilotView) (trouble : Trouble) → p.client.who ≡ who → HeardAll who t before p → HeardPart who t before p
told_all who t before p trouble same h = told_then {X = Unit {0}} who t before p p (Err trouble) same h (told_none {X = Unit {0}} p p (Err trouble) refl refl)

-- A client did one thing, and a call went on from there.
pub asked_told : (old : PilotView) (v : ClientView) (e : Event) (new : PilotView) (r : Result (Unit {0}) Trouble) → v ≡ with_event old.client e → ((t : List Event) (d : Event) → v.events ≡ d ∷ t → Hears v.who t old.told new r) → HasTold old new r
asked_told old v e new r is f = subst (λ (w : Identity). Hears w old.client.events old.told new r) (ap (λ (c : ClientView). c.who) is) (f old.client.events e (ap (λ (c : ClientView). c.events) is))
