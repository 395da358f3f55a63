-- Who joins while a world is served. With keys it is a client for whom the file of keys has one.
use Rattle.std.specs.Prelude.{◌≡◌, ◌⊎◌, ℕ, true, List, Option, Some, None}
use Rattle.sv_journal.specs.declared.entry.Entry.{Entry}
use Rattle.sv_living.specs.World.{WorldView}
use Rattle.sv_keys.specs.Keeping.{KeysView, AreHeld, has_key}
use Rattle.sv_office.specs.Admitting.{number_in, steward_number}
use Rattle.sv_office.specs.Entering.{AreAdded}
use Rattle.sv_office.specs.Renewing.{AreHeldFor, KeepsKeys}

-- The file of this name has a key for a client.
pub record HasKeyFor (contents : List ℕ → Option (List ℕ)) (name : List ℕ) (client : ℕ) : Type 0 where
  pub keys : KeysView
  pub held : AreHeld contents name keys
  pub digest : List ℕ
  pub has : has_key keys client digest ≡ true

-- A number under which one may join: where a file of keys is named it has a key for it, or it is the steward's. No number is none to join under.
abbrev pub MayJoinAs : (List ℕ → Option (List ℕ)) → Option (List ℕ) → Option ℕ → Type 0
MayJoinAs contents None number = Unit {0}
MayJoinAs contents (Some name) None = Unit {0}
MayJoinAs contents (Some name) (Some client) = (client ≡ steward_number) ⊎ HasKeyFor contents name client

-- An entry is no Join, or one under such a number.
abbrev pub MayJoinByKeys : (List ℕ → Option (List ℕ)) → Option (List ℕ) → Entry → Type 0
MayJoinByKeys contents named e = MayJoinAs contents named (number_in e.request)

-- Whichever file these keys are those of, who joins between the two worlds may join by it.
pub record JoinByKeys (contents : List ℕ → Option (List ℕ)) (keys : Option KeysView) (v w : WorldView) : Type 0 where
  pub added : (named : Option (List ℕ)) → AreHeldFor contents named keys → AreAdded (MayJoinByKeys contents named) v.history w.history

-- Files and keys stay what they are, and who joins may join by them.
pub record LetsIn (before now : List ℕ → Option (List ℕ)) (old new : Option KeysView) (v w : WorldView) : Type 0 where
  pub kept : KeepsKeys before now old new
  pub join : JoinByKeys before old v w

-- An entry is no Join.
abbrev pub IsNoJoin : Entry → Type 0
IsNoJoin e = number_in e.request ≡ None

-- The keys stay, and nobody joins.
pub record LetsNobodyIn (old new : Option KeysView) (v w : WorldView) : Type 0 where
  pub keys : new ≡ old
  pub added : AreAdded IsNoJoin v.history w.history

-- Nobody joins but under the steward's number.
abbrev pub LetsStewardIn : WorldView → WorldView → Type 0
LetsStewardIn v w = AreAdded (λ (e : Entry). IsNoJoin e ⊎ (number_in e.request ≡ Some steward_number)) v.history w.history
