-- A listener, as its pilot keeps it.
use Rattle.std.specs.Prelude.{◌≡◌, ◌≢◌, ◌⊎◌, ℕ, ◌<◌, ℤ, true, List, ◌∷◌, map, reverse, get_or, Option, Some, None, All}
use Rattle.sv_world.specs.declared.world.ObjectId.{ObjectId}
use Rattle.sv_world.specs.Sets.{numbers_of}
use Rattle.sv_world.specs.Faults.{is_ascending}
use Rattle.sv_client.specs.declared.trace.Event.{Event}
use Rattle.sv_client.specs.Traces.{view_of}
use Rattle.sv_client.specs.Taking.{Identity}
use Rattle.sv_pilot.specs.declared.audience.Seen.{Seen}
use Rattle.sv_pilot.specs.declared.audience.Call.{Call}
use Rattle.sv_pilot.specs.Hearing.{Heard, last_heard, IsTold, HearsSome}

-- The objects that it is told of, and the calls of it, with the latest first.
pub record AudienceView : Type 0 where
  pub interest : List ObjectId
  pub heard : List Heard

abbrev pub objects_seen : List Seen → List ObjectId
objects_seen seen = map (λ (s : Seen). s.object) seen

-- Nothing was told yet.
abbrev pub all_unseen : List ObjectId → List Seen
all_unseen objects = map (λ (o : ObjectId). record { object = o; value = None }) objects

-- Calls that are given in order.
abbrev pub calls_heard : List (Call × Unit {0}) → List Heard
calls_heard calls = reverse (map (λ (c : Call × Unit {0}). record { object = c.0.object; value = c.0.value.value }) calls)

-- What is kept of each object is what was told of it last.
pub record IsAudience (seen : List Seen) (heard : List Heard) : Type 0 where
  pub ascending : is_ascending (numbers_of (objects_seen seen)) ≡ true
  pub same : All (λ (s : Seen). s.value ≡ last_heard heard s.object.0) seen

-- It is told what is seen of an object, if anything is, unless it was told so last.
abbrev pub Tells : AudienceView → ObjectId → Option (List ℤ) → AudienceView → Type 0
Tells old object None new = new ≡ old
Tells old object (Some value) new =
    ((last_heard old.heard object.0 ≡ Some value) × (new ≡ old))
    ⊎ ((last_heard old.heard object.0 ≢ Some value) × (new ≡ record old { heard = record { object = object; value = value } ∷ old.heard }))

-- It was told the news of the first n objects of the interest, and no other news, after the events t.
pub record IsTelling (who : Identity) (t : List Event) (before : List Heard) (now : AudienceView) (n : ℕ) : Type 0 where
  pub interest : now.interest ≡ who.interest
  pub some : HearsSome who t before now.heard
  pub told : (k : ℕ) → k < n → IsTold (view_of t (get_or (numbers_of who.interest) k 0)) (last_heard now.heard (get_or (numbers_of who.interest) k 0))
