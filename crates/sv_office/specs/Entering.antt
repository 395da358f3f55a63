-- Which entries a call adds to a history. A history is the list of all entries with the latest first.
use Rattle.std.specs.Prelude.{◌≡◌, ◌≢◌, ◌⊎◌, ℕ, Bool, true, false, List, ◌∷◌, length, Option, Some, None, IfSome}
use Rattle.sv_wire.specs.declared.message.Done1.{Done1}
use Rattle.sv_wire.specs.declared.message.Request.{Request}
use Rattle.sv_wire.specs.declared.message.Request.TheVariants as requests
use Rattle.sv_wire.specs.declared.message.Reply.{Reply}
use Rattle.sv_journal.specs.declared.entry.Entry.{Entry}
use Rattle.sv_journal.specs.declared.entry.Logged.TheVariants as logged
use Rattle.sv_journal.specs.History.{accepted, full_reply, is_relay}
use Rattle.sv_journal.specs.Sessions.{is_end, positions_in}
use Rattle.sv_core.specs.Rows.{has_entry}
use Rattle.sv_living.specs.Sessions.{may_ask}
use Rattle.sv_living.specs.World.{WorldView, after, reply_in}
use Rattle.sv_keys.specs.Keeping.{KeysView}
use Rattle.sv_office.specs.Admitting.{is_admitted, number_in, is_stewards_number, steward_number}
use Rattle.sv_office.specs.Stewarding.{reported_at}
use Rattle.sv_office.specs.Trusting.{StaysSerial}
use Rattle.sv_office.specs.declared.guest.Guest.{Guest}
use Rattle.sv_office.specs.declared.guest.Held.{Held}

-- Entries were added that pass, and no others.
pub data AreAdded (may : Entry → Type 0) (h : List Entry) : List Entry → Type 0 where
  none : AreAdded may h h
  one : {g : List Entry} {e : Entry} → AreAdded may h g → may e → AreAdded may h (e ∷ g)

-- A world grows by such entries, under the same rules.
pub record GrowsBy (may : Entry → Type 0) (v w : WorldView) : Type 0 where
  pub rules : w.rules ≡ v.rules
  pub stewardship : w.stewardship ≡ v.stewardship
  pub added : AreAdded may v.history w.history

-- A world goes on by such entries, under the same rules. Where the steward's reports alone count, one that was serial is so still.
pub record GoesOn (may : Entry → Type 0) (v w : WorldView) : Type 0 where
  pub rules : w.rules ≡ v.rules
  pub stewardship : w.stewardship ≡ v.stewardship
  pub added : AreAdded may v.history w.history
  pub serial : StaysSerial v w

-- The entry of a request of a session.
abbrev pub IsEntryOf : ℕ → Request → Entry → Type 0
IsEntryOf s request e = (e.session ≡ s) × (e.request ≡ request)

-- A request of a session was entered, and answered in full.
pub record WasEntered (v w : WorldView) (s : ℕ) (request : Request) (reply : Reply) : Type 0 where
  pub asks : may_ask v.history s ≡ true
  pub world : w ≡ after v s request
  pub whole : reply ≡ full_reply (accepted w.history) (reply_in v s request)

-- The session in which one asks: the one that one has, and without one a session that has no entry.
abbrev pub AsksIn : List Entry → Option ℕ → ℕ → Type 0
AsksIn h mine s = (mine ≡ Some s) ⊎ ((mine ≡ None) × (has_entry h s ≡ false))

-- The session that one has afterwards is one in which one asks.
abbrev pub KeepsOwn : List Entry → Option ℕ → Option ℕ → Type 0
KeepsOwn h before after = (s : ℕ) → after ≡ Some s → AsksIn h before s

-- An entry of a session.
abbrev pub IsOf : Option ℕ → Entry → Type 0
IsOf session e = session ≡ Some e.session

-- The End of a session.
abbrev pub IsEndOf : Option ℕ → Entry → Type 0
IsEndOf session e = IsOf session e × (is_end e.request ≡ true)

-- A Poll or a Done.
abbrev pub is_steward_ask : Request → Bool
is_steward_ask requests.Poll = true
is_steward_ask (requests.Done results) = true
is_steward_ask _ = false

-- A report of the steward, in its session.
abbrev pub IsReport : Option ℕ → Entry → Type 0
IsReport steward e = IsOf steward e × (is_steward_ask e.request ≡ true)

-- What the steward enters as it begins: a report, or a Join under its own number, in the session in which it asks.
abbrev pub IsStewards : List Entry → Option ℕ → Entry → Type 0
IsStewards h mine e = AsksIn h mine e.session × ((is_steward_ask e.request ≡ true) ⊎ (number_in e.request ≡ Some steward_number))

-- An entry of a connection, in the session in which it asks, or a report of the steward. No connection joins as the steward.
abbrev pub IsGuests : List Entry → Option ℕ → Option ℕ → Entry → Type 0
IsGuests h steward mine e = IsReport steward e ⊎ (AsksIn h mine e.session × (is_stewards_number (number_in e.request) ≡ false))

-- What may follow a reply: the steward's report, and the End of the session.
abbrev pub Follows : Option ℕ → Option ℕ → Entry → Type 0
Follows steward mine e = IsReport steward e ⊎ IsEndOf mine e

-- An entry that comes of a request of a connection: it is the request's, or an End; or it is the steward's report.
abbrev pub CameOf : List Entry → Option ℕ → Option ℕ → Request → Entry → Type 0
CameOf h steward mine request e = IsReport steward e ⊎ (AsksIn h mine e.session × ((is_end e.request ≡ true) ⊎ (e.request ≡ request)))

-- The request that is held of a connection.
abbrev pub IsHeldOf : Option Held → Request → Type 0
IsHeldOf None request = ⊥
IsHeldOf (Some held) request = request ≡ held.request

-- What is held of a connection is something that it may ask.
abbrev pub MayHold : Option KeysView → Option (List ℕ) → Option Held → Type 0
MayHold keys key held = IfSome held (λ (it : Held). is_admitted keys key it.request ≡ true)

-- An entry that comes of what a connection asks: it is an End; or the request's or the held one's, where the connection may ask the request; or it is
-- the steward's report.
abbrev pub CameOfAsking : List Entry → Option ℕ → Option KeysView → Guest → Request → Entry → Type 0
CameOfAsking h steward keys guest request e = IsReport steward e
    ⊎ (AsksIn h guest.session e.session
    × ((is_end e.request ≡ true) ⊎ ((is_admitted keys guest.key request ≡ true) × (IsHeldOf guest.held e.request ⊎ (e.request ≡ request)))))

-- What may be entered in the turn of a connection: a report of the steward; and in the session in which the connection asks an End, and what it may ask
-- with the key that it showed.
abbrev pub MayEnter : List Entry → Option ℕ → Option ℕ → Option KeysView → Option (List ℕ) → Entry → Type 0
MayEnter h steward mine keys key e = IsReport steward e
    ⊎ (AsksIn h mine e.session × ((is_end e.request ≡ true) ⊎ (is_admitted keys key e.request ≡ true)))

-- A connection asked in one session alone: each entry that was added is of it, or the steward's report. The connection has it afterwards, or none.
pub record AsksInOne (steward mine after : Option ℕ) (h g : List Entry) : Type 0 where
  pub session : ℕ
  pub asks : AsksIn h mine session
  pub added : AreAdded (λ (e : Entry). IsReport steward e ⊎ IsOf (Some session) e) h g
  pub kept : (after ≡ Some session) ⊎ (after ≡ None)

-- The steward polled, and was answered that there is nothing to report; or it reported a result for each position that it was sent.
pub data IsReported (t : ℕ) (h : List Entry) : List Entry → Type 0 where
  polled : {p : Entry} → p.session ≡ t → p.request ≡ requests.Poll → p.reply ≡ logged.Idle → IsReported t h (p ∷ h)
  reported : {p d : Entry} (results : List Done1) → p.session ≡ t → p.request ≡ requests.Poll → is_relay p.reply ≡ true → d.session ≡ t
      → d.request ≡ requests.Done results → reported_at results ≡ positions_in p.reply → IsReported t h (d ∷ p ∷ h)

-- The steward reported, where it is in a session.
abbrev pub WasReported : Option ℕ → List Entry → List Entry → Type 0
WasReported None h g = g ≡ h
WasReported (Some t) h g = IsReported t h g

-- One has its session still, and nothing was entered; or its End was, and one has none.
abbrev pub IsEnded : Option ℕ → Option ℕ → List Entry → List Entry → Type 0
IsEnded mine after h g = ((after ≡ mine) × (g ≡ h)) ⊎ ((after ≡ None) × ((e : Entry) × IsEndOf mine e × (g ≡ e ∷ h)))

-- What follows a reply: maybe the steward's report, and then maybe the End of the session. With authority the report stands there, where the last
-- position was not this one before.
pub record WasFollowed (steward : Option ℕ) (authority : Bool) (last : ℕ) (mine after : Option ℕ) (h g : List Entry) : Type 0 where
  pub middle : List Entry
  pub reported : (middle ≡ h) ⊎ WasReported steward h middle
  pub at_once : authority ≡ true → length (accepted h) ≢ last → WasReported steward h middle
  pub ended : IsEnded mine after middle g

-- A request was stepped, once, in the session in which a connection asks. It has that session afterwards, unless the End of it was entered.
pub record WasStepped (steward : Option ℕ) (authority : Bool) (mine now : Option ℕ) (v w : WorldView) (request : Request) : Type 0 where
  pub session : ℕ
  pub asks : AsksIn v.history mine session
  pub followed : WasFollowed steward authority (length (accepted v.history)) (Some session) now (after v session request).history w.history

-- A request was answered without an entry, or not at all, and then the End of the session may be entered; or it was stepped.
abbrev pub WasAnswered : Option ℕ → Bool → Option ℕ → Option ℕ → WorldView → WorldView → Request → Type 0
WasAnswered steward authority mine now v w request = IsEnded mine now v.history w.history ⊎ WasStepped steward authority mine now v w request

-- What is held of a connection was answered, once.
abbrev pub WasReleased : Option ℕ → Bool → Option ℕ → Option ℕ → WorldView → WorldView → Option Held → Type 0
WasReleased steward authority mine now v w None = (now ≡ mine) × (w ≡ v)
WasReleased steward authority mine now v w (Some held) = WasAnswered steward authority mine now v w held.request

-- An entry that comes of what is held of a connection.
abbrev pub CameOfHeld : List Entry → Option ℕ → Option ℕ → Option Held → Entry → Type 0
CameOfHeld h steward mine held e = IsReport steward e ⊎ (AsksIn h mine e.session × ((is_end e.request ≡ true) ⊎ IsHeldOf held e.request))
