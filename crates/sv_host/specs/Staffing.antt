-- What a server has beside its world, by what was asked for.
use Rattle.std.specs.Prelude.{◌≡◌, ℕ, Bool, List, map, is_some, Option, Some, None, option_map, string_bytes}
use Rattle.std.specs.Option.{ForSome}
use Rattle.sv_log.specs.declared.folder.Folder.{Ghosts}
use Rattle.sv_keys.specs.KeyLines.{AreKeys}
use Rattle.sv_keys.specs.Keeping.{KeysView, IsAllOf}
use Rattle.sv_living.specs.World.{WorldView}
use Rattle.sv_office.specs.Knowing.{IsUpToDate}
use Rattle.sv_office.specs.Offices.{session_of}
use Rattle.sv_office.specs.Renewing.{AreHeldFor}
use Rattle.sv_office.specs.declared.office.Policy.{Policy}
use Rattle.sv_office.specs.declared.office.Office.{Office}
use Rattle.sv_host.specs.Words.{Asked}
use Rattle.sv_host.specs.declared.opening.Staff.{Staff}

-- The keys of a file of this name.
pub record AreKeysOf (contents : List ℕ → Option (List ℕ)) (name : List ℕ) (keys : KeysView) : Type 0 where
  pub file : keys.file ≡ name
  pub all : IsAllOf (contents name) keys.bytes
  pub rows : AreKeys keys.bytes keys.rows

-- There are keys just where a file is named, and they are its keys.
abbrev pub AreKeysFor : (List ℕ → Option (List ℕ)) → Option (List ℕ) → Option KeysView → Type 0
AreKeysFor contents None None = Unit {0}
AreKeysFor contents None (Some keys) = ⊥
AreKeysFor contents (Some name) None = ⊥
AreKeysFor contents (Some name) (Some keys) = AreKeysOf contents name keys

-- The keys are those of the file that is named, and each file has what it had.
pub record AreRead (contents now : List ℕ → Option (List ℕ)) (named : Option (List ℕ)) (keys : Option KeysView) : Type 0 where
  pub files : (name : List ℕ) → now name ≡ contents name
  pub held : AreHeldFor contents named keys

-- There are keys, a steward, a site and origins just as they were asked for. The steward is in no session, and lacks nothing that
-- it was told.
pub record IsStaffFor (asked : Asked) (staff : Staff) : Type 0 where
  pub keys : is_some staff.keys ≡ is_some asked.keys
  pub steward : is_some staff.steward ≡ asked.has_steward
  pub none : session_of staff.steward ≡ None
  pub told : (v : WorldView) → ForSome staff.steward (IsUpToDate v)
  pub site : option_map string_bytes staff.site ≡ asked.site
  pub origins : map string_bytes staff.origins.items ≡ asked.origins

-- The policy that were asked for.
abbrev pub manners_for : Asked → Bool → Policy
manners_for asked authority = record { idle = asked.idle; report_within = asked.report_within; authority = authority; stops = asked.stops }

-- An office is as it was asked for, before its steward joins.
pub record IsOfficeFor {F : Type 0} {k : Ghosts F} (asked : Asked) (authority : Bool) (office : Office F k) : Type 0 where
  pub keys : is_some office.keys ≡ is_some asked.keys
  pub steward : is_some office.steward ≡ asked.has_steward
  pub none : session_of office.steward ≡ None
  pub policy : office.policy ≡ manners_for asked authority
  pub site : option_map string_bytes office.site ≡ asked.site
  pub origins : map string_bytes office.origins.items ≡ asked.origins
