-- The connections of a world: each is served, and each has a session of its own.
use Rattle.std.specs.Prelude.{◌≡◌, ◌≢◌, ◌⊎◌, ℕ, ◌<◌, ◌≤◌, true, false, List, [], ◌++◌, Option, None, Some}
use Rattle.sv_journal.specs.declared.entry.Entry.{Entry}
use Rattle.sv_journal.specs.Sessions.{is_end, is_ended}
use Rattle.sv_core.specs.Rows.{has_entry}
use Rattle.sv_living.specs.World.{WorldView}
use Rattle.sv_ports.specs.declared.numbered.NumberedPlace.{NumberedPlace}
use Rattle.sv_ports.specs.Numbered.{item_of, has_number}
use Rattle.sv_ports.specs.Traffic.{Traffic, bytes_of}
use Rattle.sv_peer.specs.View.{PeerView, IsInStep}
use Rattle.sv_office.specs.Entering.{GoesOn}
use Rattle.sv_office.specs.Offices.{IsNotStewards}
use Rattle.sv_office.specs.Telling.{IsServedGuest, WasTold}
use Rattle.sv_office.specs.declared.guest.Guest.{Guest}
use Rattle.sv_office.specs.declared.guest.Standing.TheVariants as standing

-- Each connection was told what its session's entries say, no two have the same session, and none has the steward's.
pub record AreServed (v : WorldView) (steward : Option ℕ) (guests : List (NumberedPlace Guest)) : Type 0 where
  pub served : (n : ℕ) (guest : Guest) → item_of n guests ≡ Some guest → IsServedGuest v guest
  pub apart : (n : ℕ) (guest : Guest) → item_of n guests ≡ Some guest → IsNotStewards guest.session steward
  pub distinct : (n m s : ℕ) (a b : Guest) → item_of n guests ≡ Some a → item_of m guests ≡ Some b → a.session ≡ Some s → b.session ≡ Some s → n ≡ m

-- A connection that was taken out is served as the others are, and its session is none of theirs.
pub record IsServedOut (v : WorldView) (steward : Option ℕ) (guests : List (NumberedPlace Guest)) (guest : Guest) : Type 0 where
  pub others : AreServed v steward guests
  pub served : IsServedGuest v guest
  pub apart : IsNotStewards guest.session steward
  pub other : (n s : ℕ) (b : Guest) → item_of n guests ≡ Some b → b.session ≡ Some s → guest.session ≡ Some s → ⊥

-- A connection was told what its session was, or, where it broke, the first of these replies; whether the session is over or not. Without one it was told
-- nothing, or its session is over.
abbrev pub WasToldIn : WorldView → Guest → Option ℕ → Type 0
WasToldIn v guest (Some s) = WasTold v s guest
WasToldIn v guest None = (guest.peer.told ≡ []) ⊎ ((s : ℕ) × (is_ended v.history s ≡ true) × WasTold v s guest)

pub record AllWereTold (v : WorldView) (guests : List (NumberedPlace Guest)) : Type 0 where
  pub told : (n : ℕ) (guest : Guest) → item_of n guests ≡ Some guest → WasToldIn v guest guest.session

-- An entry is an End.
abbrev pub IsAnEnd : Entry → Type 0
IsAnEnd e = is_end e.request ≡ true

-- A connection was sent to, or it broke. It was told nothing more.
pub record WasSent (old new : Guest) : Type 0 where
  pub told : new.peer.told ≡ old.peer.told
  pub session : new.session ≡ old.session
  pub standing : (new.standing ≡ old.standing) ⊎ (new.standing ≡ standing.Gone)

abbrev pub AnyEntry : Entry → Type 0
AnyEntry e = Unit {0}

-- A world goes on by more entries, under the same rules. Where the steward's reports alone count, one that was serial is so still (`serial` of GoesOn).
abbrev pub Continues : WorldView → WorldView → Type 0
Continues v w = GoesOn AnyEntry v w

-- ---- What was written

-- To a connection just the bytes were written that it handed over. With those that wait they are what its replies are told by, and these are what
-- its session's entries say.
pub record WasWritten (v : WorldView) (told : Traffic) (n : ℕ) : Type 0 where
  pub guest : Guest
  pub served : IsServedGuest v guest
  pub in_step : IsInStep guest.peer
  pub sent : bytes_of n told.written ≡ guest.peer.sent

-- So it is of each connection that there ever was, and no two have one session. Nothing was written to another one.
pub record AllWereWritten (v : WorldView) (told : Traffic) : Type 0 where
  pub each : (n : ℕ) → n < told.next → WasWritten v told n
  pub distinct : (n m s : ℕ) (low : n < told.next) (also : m < told.next) → (each n low).guest.session ≡ Some s → (each m also).guest.session ≡ Some s → n ≡ m
  pub unused : (n : ℕ) → told.next ≤ n → bytes_of n told.written ≡ []

-- So it was in a world that came of the first one, and from which the last one goes on by such entries. Nothing was written since.
pub record WereWritten (may : Entry → Type 0) (told : Traffic) (first last : WorldView) : Type 0 where
  pub before : WorldView
  pub since : Continues first before
  pub written : AllWereWritten before told
  pub goes : GoesOn may before last

-- The sessions that connections have were begun behind the first world.
abbrev pub HaveBegun : {may : Entry → Type 0} {told : Traffic} {first last : WorldView} → WereWritten may told first last → Type 0
HaveBegun {told = told} {first = first} were =
    (n s : ℕ) (low : n < told.next) → (were.written.each n low).guest.session ≡ Some s → has_entry first.history s ≡ false

-- No input was read.
pub record LeftInput (old new : Traffic) : Type 0 where
  pub input : new.input ≡ old.input
  pub ended : new.input_ended ≡ old.input_ended

-- Nothing was written, no number was given, and no input was read.
pub record WroteNothing (old new : Traffic) : Type 0 where
  pub written : new.written ≡ old.written
  pub next : new.next ≡ old.next
  pub left : LeftInput old new

-- A connection is here no more, or never was; it has no session.
pub record HasGone (v : WorldView) (told : Traffic) (n : ℕ) : Type 0 where
  pub was : WasWritten v told n
  pub over : was.guest.session ≡ None

-- To each connection just the bytes were written that it handed over, in order, also to those that are gone. The number that is given is left out. No
-- number of a later one was used.
pub record AreWrittenBut (but : Option ℕ) (v : WorldView) (told : Traffic) (guests : List (NumberedPlace Guest)) : Type 0 where
  pub sent : (n : ℕ) (guest : Guest) → item_of n guests ≡ Some guest → bytes_of n told.written ≡ guest.peer.sent
  pub in_step : (n : ℕ) (guest : Guest) → item_of n guests ≡ Some guest → IsInStep guest.peer
  pub known : (n : ℕ) (guest : Guest) → item_of n guests ≡ Some guest → n < told.next
  pub gone : (n : ℕ) → but ≢ Some n → n < told.next → item_of n guests ≡ None → HasGone v told n
  pub unused : (n : ℕ) → told.next ≤ n → bytes_of n told.written ≡ []

abbrev pub AreWritten : WorldView → Traffic → List (NumberedPlace Guest) → Type 0
AreWritten v told guests = AreWrittenBut None v told guests

-- So it is of a connection that was taken out, and of the others. It has its place still.
pub record IsWritten (v : WorldView) (told : Traffic) (guests : List (NumberedPlace Guest)) (n : ℕ) (guest : Guest) : Type 0 where
  pub others : AreWrittenBut (Some n) v told guests
  pub alone : item_of n guests ≡ None
  pub place : has_number n guests ≡ true
  pub sent : bytes_of n told.written ≡ guest.peer.sent
  pub known : n < told.next

-- A number was given to a connection, which is not among these, and to which nothing was written.
pub record IsNew (v : WorldView) (told : Traffic) (guests : List (NumberedPlace Guest)) (n : ℕ) : Type 0 where
  pub others : AreWrittenBut (Some n) v told guests
  pub nothing : bytes_of n told.written ≡ []
  pub known : n < told.next

-- So it stays, whatever was written before.
abbrev pub KeepsWritten : WorldView → List (NumberedPlace Guest) → WorldView → List (NumberedPlace Guest) → Type 0
KeepsWritten v old w new = (told : Traffic) → AreWritten v told old → AreWritten w told new

abbrev pub KeepsOut : WorldView → List (NumberedPlace Guest) → Guest → WorldView → List (NumberedPlace Guest) → Guest → Type 0
KeepsOut v old guest w new next = (told : Traffic) (n : ℕ) → IsWritten v told old n guest → IsWritten w told new n next

-- Of what waits for a connection so much was written to it, and nothing else to any.
pub record Sends (n : ℕ) (old new : PeerView) (before now : Traffic) : Type 0 where
  pub more : List ℕ
  pub sent : new.sent ≡ old.sent ++ more
  pub left : old.output ≡ more ++ new.output
  pub own : bytes_of n now.written ≡ bytes_of n before.written ++ more
  pub others : (m : ℕ) → m ≢ n → bytes_of m now.written ≡ bytes_of m before.written
  pub rest : now ≡ record before { written = now.written }
