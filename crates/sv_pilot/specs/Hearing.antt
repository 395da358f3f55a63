-- What a listener is told. Its calls stand with the latest first, as the events of a client do.
use Rattle.std.specs.Prelude.{◌≡◌, ◌≢◌, ℕ, ℤ, List, [], ◌∷◌, ◌++◌, Option, Some, None, All, Contains, if◌then◌else◌, ◌==◌}
use Rattle.sv_world.specs.declared.world.ObjectId.{ObjectId}
use Rattle.sv_world.specs.Sets.{numbers_of}
use Rattle.sv_client.specs.declared.trace.Event.{Event}
use Rattle.sv_client.specs.Traces.{view_of}
use Rattle.sv_client.specs.Taking.{Identity}

-- A call of the listener: an object, and what the player sees of it.
pub record Heard : Type 0 where
  pub object : ObjectId
  pub value : List ℤ

-- What was told last of an object.
abbrev pub last_heard : List Heard → ℕ → Option (List ℤ)
last_heard [] x = None
last_heard (h ∷ hs) x = if h.object.0 == x then Some h.value else last_heard hs x

-- A call behind others tells what the client sees of an object of its interest, and that is not what was told of it last.
pub record IsNews (who : Identity) (t : List Event) (before : List Heard) (call : Heard) : Type 0 where
  pub interest : Contains (numbers_of who.interest) call.object.0
  pub seen : view_of t call.object.0 ≡ Some call.value
  pub another : last_heard before call.object.0 ≢ Some call.value

-- Each of some calls behind others was news.
abbrev pub AreNews : Identity → List Event → List Heard → List Heard → Type 0
AreNews who t before [] = Unit {0}
AreNews who t before (call ∷ calls) = IsNews who t (calls ++ before) call × AreNews who t before calls

-- What is seen of an object, if anything is, was told of it last.
abbrev pub IsTold : Option (List ℤ) → Option (List ℤ) → Type 0
IsTold None last = Unit {0}
IsTold (Some value) last = last ≡ Some value

-- All that the client sees of its interest was told.
abbrev pub IsUpToDate : Identity → List Event → List Heard → Type 0
IsUpToDate who t heard = All (λ (x : ℕ). IsTold (view_of t x) (last_heard heard x)) (numbers_of who.interest)

-- Some news was told after the events t.
pub record HearsSome (who : Identity) (t : List Event) (before after : List Heard) : Type 0 where
  pub calls : List Heard
  pub behind : after ≡ calls ++ before
  pub news : AreNews who t before calls

-- All news was told after the events t.
pub record HearsAll (who : Identity) (t : List Event) (before after : List Heard) : Type 0 where
  pub some : HearsSome who t before after
  pub all : IsUpToDate who t after

-- After the events t some more came, and after each of these all news was told.
abbrev pub HearsEach : Identity → List Event → List Event → List Heard → List Heard → Type 0
HearsEach who t [] before after = after ≡ before
HearsEach who t (e ∷ more) before after = (mid : List Heard) × HearsEach who t more before mid × HearsAll who (e ∷ more ++ t) mid after

-- The same, where it need not be all after the last one.
abbrev pub HearsUntil : Identity → List Event → List Event → List Heard → List Heard → Type 0
HearsUntil who t [] before after = after ≡ before
HearsUntil who t (e ∷ more) before after = (mid : List Heard) × HearsEach who t more before mid × HearsSome who (e ∷ more ++ t) mid after
