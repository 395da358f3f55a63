-- What is said, entry by entry, of a living world that goes by results of the serial execution alone.
-- A history is the list of a journal's entries with the latest first.
use Rattle.std.specs.Prelude.{◌≡◌, ◌≢◌, ℕ, true, false, ◌==◌, List, [], ◌∷◌, length, Option}
use Rattle.std.specs.List.{list_any}
use Rattle.sv_eval.specs.Serial.{serial_world}
use Rattle.sv_journal.specs.declared.entry.Entry.{Entry}
use Rattle.sv_journal.specs.History.{joining, actions_of, commit_of, committed_of}
use Rattle.sv_journal.specs.Answer.{Rules}
use Rattle.sv_journal.specs.Serving.{LegalFor}
use Rattle.sv_journal.specs.Living.{Stewardship, is_stewards, counts, heeded, living}
use Rattle.law_system.specs.Told.{ReportsSerial, GoesBySerial}

-- ---- Results

-- What an entry reports is that of the serial execution, where reports of its session count.
abbrev pub BringsSerial : Stewardship → Rules → List Entry → Entry → Type 0
BringsSerial w r h e = counts w h e.session ≡ true → ReportsSerial r.world.values (actions_of h) e.request

-- Then a world that goes by such results alone still does.
abbrev pub SerialResultsStay : Type 0
SerialResultsStay = (w : Stewardship) (r : Rules) (e : Entry) (h : List Entry) → LegalFor (living w) r (e ∷ h) → GoesBySerial (living w) r h →
    BringsSerial w r h e → GoesBySerial (living w) r (e ∷ h)

-- Where the steward's reports alone count, an entry of another's session brings no other results, whatever it reports.
abbrev pub OthersBringNothing : Type 0
OthersBringNothing = (w : Stewardship) (r : Rules) (h : List Entry) (e : Entry) → w.authority ≡ true → is_stewards w.steward h e.session ≡ false →
    BringsSerial w r h e

-- A world goes by such results alone at first.
abbrev pub WorldsBeginSerial : Type 0
WorldsBeginSerial = (w : Stewardship) (r : Rules) → GoesBySerial (living w) r []

-- And the committed world is then that of the serial execution.
abbrev pub SerialResultsMakeSerialWorlds : Type 0
SerialResultsMakeSerialWorlds = (w : Stewardship) (r : Rules) (h : List Entry) → length r.world.values ≡ r.world.shape.objects → LegalFor (living w) r h →
    GoesBySerial (living w) r h → committed_of r.world.values (heeded w h) ≡ serial_world r.world.values (actions_of h) (commit_of (heeded w h))

-- ---- Whose session is whose

-- A session that is not the steward's becomes it by a Join alone that names the steward.
abbrev pub StewardsJoin : Type 0
StewardsJoin = (steward : Option ℕ) (e : Entry) (h : List Entry) (s : ℕ) → is_stewards steward h s ≡ false → (e.session ≡ s → joining e.request ≢ steward) →
    is_stewards steward (e ∷ h) s ≡ false

-- A session without an entry is nobody's.
abbrev pub UnbegunIsNobodys : Type 0
UnbegunIsNobodys = (steward : Option ℕ) (h : List Entry) (s : ℕ) → list_any (λ (e : Entry). e.session == s) h ≡ false → is_stewards steward h s ≡ false
