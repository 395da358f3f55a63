-- The turn of a connection.
use Rattle.std.specs.Prelude.{◌≡◌, ◌⊎◌, ℕ, true, false, List, Option, Some}
use Rattle.sv_log.specs.declared.folder.Folder.{Ghosts}
use Rattle.sv_keys.specs.Keeping.{KeysView, has_digest}
use Rattle.sv_peer.specs.View.{PeerView, Nexts}
use Rattle.sv_peer.specs.declared.heard.Heard.TheVariants as heard
use Rattle.sv_office.specs.Entering.{GoesOn, MayEnter, AsksInOne, MayHold}
use Rattle.sv_office.specs.Offices.{session_of}
use Rattle.sv_office.specs.declared.guest.Guest.{Guest}
use Rattle.sv_office.specs.declared.office.Office.{Office}
use Rattle.sv_office.specs.declared.outside.Outside.{Outside}

-- Some client may join by a key.
abbrev pub IsKnown : Option KeysView → Option (List ℕ) → Type 0
IsKnown (Some keys) (Some digest) = has_digest keys digest ≡ true
IsKnown _ _ = ⊥

-- A connection has the key that it had, or the one that was heard next of it.
abbrev pub HasHeardKey : PeerView → Option (List ℕ) → Option (List ℕ) → Type 0
HasHeardKey peer before key = (key ≡ before) ⊎ ((digest : List ℕ) × (after : PeerView) × Nexts peer (heard.Hello digest) after × (key ≡ Some digest))

-- A connection shows a key before it asks anything: once it has spoken, neither the keys nor its key change. A key that it showed is one of those by
-- which some client may join.
pub record ShowsFirst (before now : Option KeysView) (old new : Guest) : Type 0 where
  pub spoken : old.has_spoken ≡ true → new.has_spoken ≡ true
  pub keys : old.has_spoken ≡ true → now ≡ before
  pub key : old.has_spoken ≡ true → new.key ≡ old.key
  pub known : (new.key ≡ old.key) ⊎ ((new.has_spoken ≡ true) × IsKnown now new.key)

-- A connection was answered: reports of the steward were entered, and in one session what the connection may ask with the key that it showed. Where it has
-- not spoken, what was entered needs no key.
pub record TakesTurn {F : Type 0} {k : Ghosts F} (old new : Office F k) (guest next : Guest) : Type 0 where
  pub added : GoesOn (MayEnter old.keeper.world.history (session_of old.steward) guest.session new.keys next.key) old.keeper.world new.keeper.world
  pub unspoken : next.has_spoken ≡ false → (keys : Option KeysView) (key : Option (List ℕ))
      → GoesOn (MayEnter old.keeper.world.history (session_of old.steward) guest.session keys key) old.keeper.world new.keeper.world
  pub asked : AsksInOne (session_of old.steward) guest.session next.session old.keeper.world.history new.keeper.world.history
  pub shown : ShowsFirst old.keys new.keys guest next
  pub held : MayHold old.keys guest.key guest.held → MayHold new.keys next.key next.held
  pub steward : session_of new.steward ≡ session_of old.steward
  pub policy : new.policy ≡ old.policy

-- The same ports, files and lines are lent.
pub record AreLent {P L E : Type 0} (old new : Outside P L E) : Type 0 where
  pub ports : new.ports.ghost_name ≡ old.ports.ghost_name
  pub files : new.files.ghost_name ≡ old.files.ghost_name
  pub err : new.err.ghost_name ≡ old.err.ghost_name
