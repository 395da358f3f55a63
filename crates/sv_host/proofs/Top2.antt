-- Why a call ends, from why its parts end.
use Rattle.std.proofs.Common.{◌≡◌, ◌≢◌, ◌⊎◌, inl, inr, ℕ, zero, suc, ◌==◌, Bool, true, false, List, [], ◌++◌, Option, Some, None, Result, Ok, Err, IfErr, IfOk, codes, append_assoc, refl, sym, ap, ◌∙◌, subst, arith, string_bytes}
use Rattle.std.specs.Prelude.{if◌then◌else◌}
use Rattle.std.proofs.lemmas.Bool.{eqb-true}
use Rattle.sv_living.specs.World.{WorldView}
use Rattle.sv_log.specs.Pictures.{Disk}
use Rattle.sv_bytes.specs.Faults.{Rose}
use Rattle.sv_log.specs.Refusals.{CauseCount}
use Rattle.sv_log.specs.declared.reading.Cause.{Cause}
use Rattle.sv_keeper.specs.Opened.{IsOpened, OpenCause, WhyNotOpened}
use Rattle.sv_keeper.specs.Views.{KeeperView}
use Rattle.sv_keeper.specs.declared.fault.OpenFault.{OpenFault}
use Rattle.sv_keeper.specs.declared.fault.OpenFault.TheVariants as faults
use Rattle.sv_ports.specs.Traffic.{Traffic}
use Rattle.sv_ports.specs.declared.numbered.NumberedPlace.{NumberedPlace}
use Rattle.sv_office.specs.declared.guest.Guest.{Guest}
use Rattle.sv_worldfile.specs.declared.world_file.WorldFile.{WorldFile}
use Rattle.sv_worldfile.specs.WorldFiles.{world_file_of}
use Rattle.sv_host.specs.Causes.{file_place, is_authority, line_place, IsFileFront, IsPrepared, IsWrongKeyLine, WhyBefore, WhyFaulty, WhyNoKeys, WhyUnread}
use Rattle.sv_host.specs.Causes.{start_in, EndsUnopened, HasOpened, HasStopped, IsHalted, IsOfDisk, WasServed, WasServedFirst, WhyBehind, WhyNoFolder, WhyStopped, WhyUnopened, WroteFirst}
use Rattle.sv_host.specs.Joining.{MayJoinByKeys}
use Rattle.sv_host.specs.Rooms.{AreServed}
use Rattle.sv_host.specs.Served.{HostBreaksOff}
use Rattle.sv_host.specs.Statuses.{IsEarly}
use Rattle.sv_host.specs.Words.{Asked}
use Rattle.sv_host.specs.declared.ending.HostEnd.{HostEnd}
use Rattle.sv_host.specs.declared.ending.HostEnd.TheVariants as endings
use Rattle.sv_host.specs.declared.ending.Stopped.{Stopped}
use Rattle.sv_host.specs.declared.hall.DoorFault.{DoorFault}
use Rattle.sv_host.specs.declared.hall.FolderFault.{FolderFault}

none_some : {A : Type 0} {x : A} → None ≡ Some x → ⊥
none_some e = cc

-- Where nobody is there, all are served.
pub none_served : (v : WorldView) (steward : Option ℕ) (guests : List (NumberedPlace Guest)) → guests ≡ [] → AreServed v steward guests
none_served v steward guests none = subst (AreServed v steward) (sym none) (record {
  served = λ n guest at. never at;
  apart = λ n guest at. never at;
  distinct = λ n m s a b at to is same. never at;
})
  where
    never : {B : Type 0} {guest : Guest} → None ≡ Some guest → B
    never e = absurd (none_some e)

pub ok_as : {A B : Type 0} {P Q : A → Type 0} (r : Result A B) → ((a : A) → P a → Q a) → IfOk r P → IfOk r Q
ok_as (Ok a) all p = all a p
ok_as (Err e) all p = tt

pub err_as : {A B : Type 0} {P Q : B → Type 0} (r : Result A B) → ((b : B) → P b → Q b) → IfErr r P → IfErr r Q
err_as (Ok a) all p = tt
err_as (Err e) all p = all e p

-- ---- What is told of a log

whole_file : (file word : List ℕ) (line : ℕ) → line ≡ 0 → file_place file line word ≡ file ++ codes " " ++ word
whole_file file word zero none = refl
whole_file file word (suc n) none = let e : suc n ≡ 0 = none in absurd (omega (arith, e))

pub at_line : (file word : List ℕ) (line : ℕ) → line ≢ 0 → file_place file line word ≡ line_place file line word
at_line file word line some = go (line == 0) refl
  where
    go : (b : Bool) → (line == 0) ≡ b → file_place file line word ≡ line_place file line word
    go true e = absurd (some (eqb-true line 0 e))
    go false e = ap (λ (b : Bool). if b then file ++ codes " " ++ word else line_place file line word) e

pub line_spelled : (file digits word : List ℕ)
    → file ++ codes ":" ++ digits ++ codes " " ++ word ≡ file ++ (codes ":" ++ (digits ++ (codes " " ++ word)))
line_spelled file digits word = append_assoc (file ++ codes ":" ++ digits) (codes " ") word
    ∙ append_assoc (file ++ codes ":") digits (codes " " ++ word) ∙ append_assoc file (codes ":") (digits ++ (codes " " ++ word))

pub file_spelled : (file word : List ℕ) (line : ℕ) → line ≡ 0 → file_place file line word ≡ file ++ (codes " " ++ word)
file_spelled file word line none = whole_file file word line none ∙ append_assoc file (codes " ") word

-- ---- Before the folder is opened

module _ (contents : List ℕ → Option (List ℕ)) (rose : Type 0) (asked : Asked) where
  pub unread_before : (e : HostEnd) → WhyUnread asked.world rose e → WhyBefore contents rose asked e
  unread_before (endings.File file) why = inl why
  unread_before endings.Memory why = tt
  unread_before (endings.Done stopped) why = absurd why
  unread_before endings.Words why = absurd why
  unread_before (endings.World line) why = absurd why
  unread_before (endings.Keys file line) why = absurd why
  unread_before endings.Link why = absurd why
  unread_before (endings.Disk name) why = absurd why
  unread_before (endings.Log line) why = absurd why
  unread_before (endings.Busy name) why = absurd why

  pub faulty_before : (bytes : List ℕ) (e : HostEnd) → IsFileFront (contents asked.world) bytes → WhyFaulty bytes e → WhyBefore contents rose asked e
  faulty_before bytes (endings.World line) front why = record { bytes = bytes; front = front; faulty = why }
  faulty_before bytes endings.Memory front why = tt
  faulty_before bytes (endings.Done stopped) front why = absurd why
  faulty_before bytes endings.Words front why = absurd why
  faulty_before bytes (endings.Keys file line) front why = absurd why
  faulty_before bytes (endings.File file) front why = absurd why
  faulty_before bytes endings.Link front why = absurd why
  faulty_before bytes (endings.Disk name) front why = absurd why
  faulty_before bytes (endings.Log line) front why = absurd why
  faulty_before bytes (endings.Busy name) front why = absurd why

  pub lacks_before : (file : WorldFile) (bytes : List ℕ) → IsFileFront (contents asked.world) bytes → world_file_of bytes ≡ Ok file
      → is_authority file.results ≡ true → asked.has_steward ≡ false → WhyBefore contents rose asked endings.Words
  lacks_before file bytes front read alone none =
      record { file = file; bytes = bytes; read = record { front = front; read = read }; alone = alone; none = none }

  -- The files were read from since.
  pub keys_before : (now : List ℕ → Option (List ℕ)) (e : HostEnd) → ((n : List ℕ) → now n ≡ contents n) → WhyNoKeys now asked.keys e
      → WhyBefore contents rose asked e
  keys_before now (endings.Keys file line) same why = (why.0, subst (λ (held : Option (List ℕ)). IsWrongKeyLine held line) (same (string_bytes file)) why.1)
  keys_before now (endings.File file) same why = inr why
  keys_before now endings.Memory same why = tt
  keys_before now (endings.Done stopped) same why = absurd why
  keys_before now endings.Words same why = absurd why
  keys_before now (endings.World line) same why = absurd why
  keys_before now endings.Link same why = absurd why
  keys_before now (endings.Disk name) same why = absurd why
  keys_before now (endings.Log line) same why = absurd why
  keys_before now (endings.Busy name) same why = absurd why

-- ---- With the folder, the door or the log

pub halted_why : (refuses : DoorFault → Type 0) (at : List ℕ) (e : HostEnd) → IsHalted e → WhyStopped refuses at e
halted_why refuses at (endings.Disk name) is = tt
halted_why refuses at endings.Link is = tt
halted_why refuses at endings.Memory is = tt
halted_why refuses at (endings.Busy name) is = absurd is
halted_why refuses at (endings.Done stopped) is = absurd is
halted_why refuses at endings.Words is = absurd is
halted_why refuses at (endings.World line) is = absurd is
halted_why refuses at (endings.Keys which line) is = absurd is
halted_why refuses at (endings.File which) is = absurd is
halted_why refuses at (endings.Log line) is = absurd is

module _ {F : Type 0} (disk : F → Disk) (is_honest : F → Type 0) where
  disk_rose : (before now : ℕ) (fault : OpenFault) → IsOfDisk fault → OpenCause before now fault → Rose before now
  disk_rose before now (faults.Refused refusal) own cause = subst (λ (c : Cause). CauseCount before now c) own cause
  disk_rose before now faults.Disk own cause = cause
  disk_rose before now (faults.Line file line which) own cause = absurd own
  disk_rose before now faults.Memory own cause = absurd own

  pub unopened_why : (count : F → ℕ) (folder now : F) (file : WorldFile) (bytes name : List ℕ) (fault : OpenFault) (e : HostEnd)
      → (is_honest now → WhyNotOpened (disk folder) (disk now) bytes (start_in file) fault) → OpenCause (count folder) (count now) fault → EndsUnopened name fault e
      → WhyUnopened disk is_honest count folder file bytes name e
  unopened_why count folder now file bytes name fault (endings.Log line) why cause is =
      record { now = now; fault = fault; own = is.0; why = why; told = is.1 }
  unopened_why count folder now file bytes name fault (endings.Disk which) why cause is =
      record { now = now; fault = fault; own = is.0; rose = disk_rose (count folder) (count now) fault is.0 cause; told = is.1 }
  unopened_why count folder now file bytes name fault endings.Memory why cause is = tt
  unopened_why count folder now file bytes name fault (endings.Done stopped) why cause is = absurd is
  unopened_why count folder now file bytes name fault endings.Words why cause is = absurd is
  unopened_why count folder now file bytes name fault (endings.World line) why cause is = absurd is
  unopened_why count folder now file bytes name fault (endings.Keys which line) why cause is = absurd is
  unopened_why count folder now file bytes name fault (endings.File which) why cause is = absurd is
  unopened_why count folder now file bytes name fault endings.Link why cause is = absurd is
  unopened_why count folder now file bytes name fault (endings.Busy which) why cause is = absurd is

  module _ (opens : List ℕ → F → Type 0) (contents : List ℕ → Option (List ℕ)) (asked : Asked) where
    abbrev log_opened : (file : WorldFile) (bytes : List ℕ) (folder : F) (first : KeeperView F) → IsPrepared (contents asked.world) asked file bytes
        → opens asked.folder folder → IsOpened disk is_honest (disk folder) bytes (start_in file) first → HasOpened disk is_honest opens contents asked
    log_opened file bytes folder first read opened begun = record {
      over = record { file = file; bytes = bytes; prepared = read; folder = folder; opened = opened };
      first = first;
      begun = begun;
    }

    module _ (before after : Traffic) (file : WorldFile) (bytes : List ℕ) (folder : F) (first : KeeperView F) (read : IsPrepared (contents asked.world) asked file bytes)
        (opened : opens asked.folder folder) (begun : IsOpened disk is_honest (disk folder) bytes (start_in file) first) where
      pub served_as : (stopped : Stopped) → HasStopped disk is_honest (MayJoinByKeys contents asked.keys) first before after asked.folder stopped
          → WasServed disk is_honest opens contents before after asked stopped
      served_as stopped last = record { log = log_opened file bytes folder first read opened begun; last = last }

      -- What was written until it broke off.
      broke_first : HostBreaksOff (MayJoinByKeys contents asked.keys) before after first.world → WasServedFirst disk is_honest opens contents before after asked
      broke_first broke = record { log = log_opened file bytes folder first read opened begun; broke = broke }

      pub broke_as : HostBreaksOff (MayJoinByKeys contents asked.keys) before after first.world → WroteFirst disk is_honest opens contents before after asked
      broke_as broke = inr (broke_first broke)

    module _ (before after : Traffic) (count : F → ℕ) (closed_by : List ℕ → FolderFault → Type 0) (barred_by : List ℕ → DoorFault → Type 0) where
      pub log_behind : (file : WorldFile) (bytes : List ℕ) (folder : F) (e : HostEnd) → IsPrepared (contents asked.world) asked file bytes → opens asked.folder folder
          → WhyUnopened disk is_honest count folder file bytes asked.folder e → WhyBehind disk is_honest opens contents before after count closed_by barred_by asked e
      log_behind file bytes folder (endings.Log line) read opened why =
          record { over = record { file = file; bytes = bytes; prepared = read; folder = folder; opened = opened }; refused = why }
      log_behind file bytes folder (endings.Disk name) read opened why =
          inr (inl (record { over = record { file = file; bytes = bytes; prepared = read; folder = folder; opened = opened }; failed = why }))
      log_behind file bytes folder endings.Memory read opened why = tt
      log_behind file bytes folder (endings.Done stopped) read opened why = absurd why
      log_behind file bytes folder endings.Words read opened why = absurd why
      log_behind file bytes folder (endings.World line) read opened why = absurd why
      log_behind file bytes folder (endings.Keys which line) read opened why = absurd why
      log_behind file bytes folder (endings.File which) read opened why = absurd why
      log_behind file bytes folder endings.Link read opened why = absurd why
      log_behind file bytes folder (endings.Busy name) read opened why = absurd why

      -- There is no folder.
      pub folder_behind : (e : HostEnd) → WhyNoFolder (closed_by asked.folder) asked.folder e
          → WhyBehind disk is_honest opens contents before after count closed_by barred_by asked e
      folder_behind (endings.Busy which) why = inl why
      folder_behind (endings.Disk which) why = inl why
      folder_behind endings.Memory why = tt
      folder_behind endings.Link why = absurd why
      folder_behind (endings.Done stopped) why = absurd why
      folder_behind endings.Words why = absurd why
      folder_behind (endings.World line) why = absurd why
      folder_behind (endings.Keys which line) why = absurd why
      folder_behind (endings.File which) why = absurd why
      folder_behind (endings.Log line) why = absurd why

      -- It was served first.
      pub stopped_behind : (file : WorldFile) (bytes : List ℕ) (folder : F) (first : KeeperView F) → IsPrepared (contents asked.world) asked file bytes
          → opens asked.folder folder → IsOpened disk is_honest (disk folder) bytes (start_in file) first → HostBreaksOff (MayJoinByKeys contents asked.keys) before after first.world
          → (e : HostEnd) → WhyStopped (barred_by asked.at) asked.at e → WhyBehind disk is_honest opens contents before after count closed_by barred_by asked e
      stopped_behind file bytes folder first read opened begun broke (endings.Busy which) why =
          inr (why, broke_first before after file bytes folder first read opened begun broke)
      stopped_behind file bytes folder first read opened begun broke (endings.Disk which) why =
          inr (inr (broke_first before after file bytes folder first read opened begun broke))
      stopped_behind file bytes folder first read opened begun broke endings.Link why = broke_first before after file bytes folder first read opened begun broke
      stopped_behind file bytes folder first read opened begun broke endings.Memory why = tt
      stopped_behind file bytes folder first read opened begun broke (endings.Done stopped) why = absurd why
      stopped_behind file bytes folder first read opened begun broke endings.Words why = absurd why
      stopped_behind file bytes folder first read opened begun broke (endings.World line) why = absurd why
      stopped_behind file bytes folder first read opened begun broke (endings.Keys which line) why = absurd why
      stopped_behind file bytes folder first read opened begun broke (endings.File which) why = absurd why
      stopped_behind file bytes folder first read opened begun broke (endings.Log line) why = absurd why

      -- Such an ending is none for the words or for a file.
      pub late : (e : HostEnd) → WhyBehind disk is_honest opens contents before after count closed_by barred_by asked e → IsEarly e → ⊥
      late endings.Words why early = why
      late (endings.World line) why early = why
      late (endings.Keys which line) why early = why
      late (endings.File which) why early = why
      late (endings.Done stopped) why early = early
      late endings.Link why early = early
      late endings.Memory why early = early
      late (endings.Disk name) why early = early
      late (endings.Log line) why early = early
      late (endings.Busy name) why early = early
