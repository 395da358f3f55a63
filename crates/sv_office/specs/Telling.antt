-- What a connection was told, by the entries so far. A history is the list of all entries with the latest first.
use Rattle.std.specs.Prelude.{◌≡◌, ◌≢◌, ◌⊎◌, ℕ, Bool, true, false, List, [], ◌∷◌, ◌++◌, Option, Some, None}
use Rattle.sv_wire.specs.declared.message.Request.{Request}
use Rattle.sv_wire.specs.declared.message.Reply.{Reply}
use Rattle.sv_journal.specs.declared.entry.Entry.{Entry}
use Rattle.sv_journal.specs.Answer.{Rules}
use Rattle.sv_journal.specs.History.{accepted, full_reply}
use Rattle.sv_journal.specs.Living.{Stewardship}
use Rattle.sv_journal.specs.Sessions.{is_end, is_ended}
use Rattle.sv_living.specs.Quiet.{IsQuietReply}
use Rattle.sv_living.specs.Sessions.{is_open}
use Rattle.sv_living.specs.World.{WorldView}
use Rattle.sv_office.specs.Admitting.{is_observe}
use Rattle.sv_office.specs.declared.guest.Guest.{Guest}
use Rattle.sv_office.specs.declared.guest.Standing.{Standing}
use Rattle.sv_office.specs.declared.guest.Standing.TheVariants as standing

-- What a session was told: the reply of each of its entries in full, in order; of its End nothing, which the server enters. At any moment there
-- may stand between them what an Observe is answered that shows nothing, which is no entry.
pub data WereTold (r : Rules) (w : Stewardship) (s : ℕ) : List Entry → List Reply → Type 0 where
  nothing : WereTold r w s [] []
  other : {h : List Entry} {e : Entry} {told : List Reply} → e.session ≢ s → WereTold r w s h told → WereTold r w s (e ∷ h) told
  entry : {h : List Entry} {e : Entry} {told now : List Reply} → e.session ≡ s → is_end e.request ≡ false → WereTold r w s h told
      → now ≡ told ++ full_reply (accepted (e ∷ h)) e.reply ∷ [] → WereTold r w s (e ∷ h) now
  ended : {h : List Entry} {e : Entry} {told : List Reply} → e.session ≡ s → is_end e.request ≡ true → WereTold r w s h told → WereTold r w s (e ∷ h) told
  quiet : {h : List Entry} {told now : List Reply} (request : Request) (reply : Reply) → IsQuietReply r w h s request (Some reply) → WereTold r w s h told
      → now ≡ told ++ reply ∷ [] → WereTold r w s h now

abbrev pub WereToldIn : WorldView → ℕ → List Reply → Type 0
WereToldIn v s told = WereTold v.rules v.stewardship s v.history told

abbrev pub is_gone : Standing → Bool
is_gone standing.Gone = true
is_gone _ = false

-- A connection was told what its session was, or, where it broke, the first of these replies.
pub record WasTold (v : WorldView) (s : ℕ) (guest : Guest) : Type 0 where
  pub rest : List Reply
  pub replies : WereToldIn v s (guest.peer.told ++ rest)
  pub whole : is_gone guest.standing ≡ false → rest ≡ []

-- A connection has a session, which is open; or it was told nothing; or its session is over.
abbrev pub IsServedIn : WorldView → Guest → Option ℕ → Type 0
IsServedIn v guest (Some s) = (is_open v.history s ≡ true) × WasTold v s guest
IsServedIn v guest None = (guest.peer.told ≡ []) ⊎ ((guest.standing ≢ standing.Open) × ((s : ℕ) × (is_ended v.history s ≡ true) × WasTold v s guest))

abbrev pub IsServedGuest : WorldView → Guest → Type 0
IsServedGuest v guest = IsServedIn v guest guest.session

-- A connection is still to be told a reply: with it, it was told what its session was.
pub record IsOwed (v : WorldView) (guest : Guest) (reply : Reply) : Type 0 where
  pub session : ℕ
  pub has : guest.session ≡ Some session
  pub lives : is_open v.history session ≡ true
  pub replies : WereToldIn v session (guest.peer.told ++ reply ∷ [])

-- A connection's request would be answered without an entry, by this reply, which shows nothing.
abbrev pub WouldShowNothing : WorldView → Guest → Request → Reply → Type 0
WouldShowNothing v guest request reply = (is_observe request ≡ true)
    × ((s : ℕ) × (guest.session ≡ Some s) × IsQuietReply v.rules v.stewardship v.history s request (Some reply))

-- No request of it would be.
abbrev pub ShowsSomething : WorldView → Guest → Request → Type 0
ShowsSomething v guest request = (s : ℕ) → guest.session ≡ Some s → is_observe request ≡ true → IsQuietReply v.rules v.stewardship v.history s request None
