-- A connection that is served no more.
use Rattle.std.specs.Prelude.{◌≡◌, ◌≢◌, ◌⊎◌, ℕ, List, ◌++◌, None}
use Rattle.sv_living.specs.World.{WorldView}
use Rattle.sv_ports.specs.Traffic.{Traffic, bytes_of}
use Rattle.sv_office.specs.declared.guest.Guest.{Guest}
use Rattle.sv_office.specs.declared.guest.Standing.{Standing}
use Rattle.sv_office.specs.declared.guest.Standing.TheVariants as standing

-- One that is served is closed once all is sent.
abbrev pub closed : Standing → Standing
closed standing.Open = standing.Closing
closed standing.Closing = standing.Closing
closed standing.Gone = standing.Gone

-- It was told nothing more, and nothing of it is held.
pub record ClosesGuest (old new : Guest) : Type 0 where
  pub told : new.peer.told ≡ old.peer.told
  pub sent : new.peer.sent ≡ old.peer.sent
  pub session : new.session ≡ old.session
  pub key : new.key ≡ old.key
  pub spoken : new.has_spoken ≡ old.has_spoken
  pub standing : new.standing ≡ closed old.standing
  pub held : new.held ≡ None

-- It showed the key that it showed, handed no byte over, and nothing new of it is held.
pub record Stays (old new : Guest) : Type 0 where
  pub sent : new.peer.sent ≡ old.peer.sent
  pub key : new.key ≡ old.key
  pub spoken : new.has_spoken ≡ old.has_spoken
  pub held : (new.held ≡ old.held) ⊎ (new.held ≡ None)

-- More was heard of it, and nothing was taken or handed over. It goes on, or is served no more.
pub record IsHeardOf (old new : Guest) : Type 0 where
  pub sent : new.peer.sent ≡ old.peer.sent
  pub session : new.session ≡ old.session
  pub key : new.key ≡ old.key
  pub spoken : new.has_spoken ≡ old.has_spoken
  pub held : (new.held ≡ old.held) ⊎ (new.held ≡ None)

-- A connection that is served still and has no session had none, and nothing was entered.
abbrev pub HasYetToAsk : Guest → Guest → WorldView → WorldView → Type 0
HasYetToAsk old new v w = new.standing ≡ standing.Open → new.session ≡ None → (old.session ≡ None) × (w ≡ v)

-- More was heard of one connection, and nothing else was told: nothing was written, and no other connection was heard.
pub record OnlyHeard (number : ℕ) (old new : Traffic) : Type 0 where
  pub more : List ℕ
  pub own : bytes_of number new.heard ≡ bytes_of number old.heard ++ more
  pub others : (other : ℕ) → other ≢ number → bytes_of other new.heard ≡ bytes_of other old.heard
  pub rest : new ≡ record old { heard = new.heard }
