-- The lines of a journal, as they are taken. Entries stand in order here.
use Rattle.std.specs.Prelude.{◌≡◌, ◌≢◌, ℕ, ◌+◌, ◌^◌, ◌<◌, Bool, true, false, List, [], ◌∷◌, ◌++◌, length, reverse, drop, codes}
use Rattle.std.specs.Fmt.{decimal}
use Rattle.sv_world.specs.declared.world.Shape.{Shape}
use Rattle.sv_journal.specs.declared.entry.Entry.{Entry}
use Rattle.sv_journal.specs.History.{accepted}
use Rattle.sv_journal.specs.Text.{entry_line, entry_lines}
use Rattle.sv_lines.specs.Lines.{line_width, after_lines}
use Rattle.sv_scenario.specs.declared.scenario.Scenario.{Scenario}
use Rattle.sv_check.specs.declared.journal.Served.{Served}
use Rattle.sv_check.specs.Parts.{IsEntryAfter}
use Rattle.sv_check.specs.Serving.{entries_of}

-- `journal N`, with its line end.
abbrev pub header_text : ℕ → List ℕ
header_text count = codes "journal " ++ decimal count ++ 10 ∷ []

-- The text begins with no such line.
abbrev pub NoHeader : List ℕ → Type 0
NoHeader text = (count : ℕ) (rest : List ℕ) → count < 2 ^ 32 → text ≢ header_text count ++ rest

-- The lines of the first entries.
abbrev pub lines_of : Shape → List Entry → List ℕ
lines_of shape entries = entry_lines shape (accepted (reverse entries)) 1 entries

-- The line of an entry that comes after these.
abbrev pub line_after : Shape → List Entry → Entry → List ℕ
line_after shape entries e = entry_line shape (accepted (e ∷ reverse entries)) (1 + length entries) e

-- Where the text begins with the line of an entry that may come after these, it is the entry d.
abbrev pub TellsEntry : Scenario → List Entry → Entry → List ℕ → Type 0
TellsEntry scenario entries d text = (e : Entry) (rest : List ℕ) → IsEntryAfter scenario (reverse entries) e → text ≡ line_after scenario.world.shape entries e ++ rest → e ≡ d

-- The text does not begin with the line of an entry that may come after these.
abbrev pub NoEntry : Scenario → List Entry → List ℕ → Type 0
NoEntry scenario entries text = (e : Entry) (rest : List ℕ) → IsEntryAfter scenario (reverse entries) e → text ≢ line_after scenario.world.shape entries e ++ rest

-- The lines of the text tell these entries, which come after others.
abbrev pub EntriesAreTold : Scenario → List Entry → List Entry → List ℕ → Type 0
EntriesAreTold scenario before [] text = Unit {0}
EntriesAreTold scenario before (d ∷ entries) text = TellsEntry scenario before d text × EntriesAreTold scenario (before ++ d ∷ []) entries (drop (line_width text) text)

-- One entry more, which the text tells.
pub record ServedOne (scenario : Scenario) (old new : Served) (text : List ℕ) : Type 0 where
  pub entry : Entry
  pub more : entries_of new ≡ entries_of old ++ entry ∷ []
  pub tells : TellsEntry scenario (entries_of old) entry text

-- The text tells an entry, which was served, or it tells none.
abbrev pub HasServed : Scenario → Served → Served → List ℕ → Bool → Type 0
HasServed scenario old new text true = ServedOne scenario old new text
HasServed scenario old new text false = (entries_of new ≡ entries_of old) × NoEntry scenario (entries_of old) text

-- The lines of the text tell the entries that were served, all of them or up to the first that tells none.
pub record HasServedAll (scenario : Scenario) (served : Served) (text : List ℕ) (count : ℕ) (whole : Bool) : Type 0 where
  pub told : EntriesAreTold scenario [] (entries_of served) text
  pub all : whole ≡ true → length (entries_of served) ≡ count
  pub some : whole ≡ false → length (entries_of served) < count
  pub none : whole ≡ false → NoEntry scenario (entries_of served) (after_lines (length (entries_of served)) text)

-- The text begins with the lines of the first of these entries, and not with the next one.
pub record TextBreaksOff (shape : Shape) (entries : List Entry) (text : List ℕ) (left : ℕ) : Type 0 where
  pub front : List Entry
  pub next : Entry
  pub more : List Entry
  pub rest : List ℕ
  pub entries_are : entries ≡ front ++ next ∷ more
  pub text_is : text ≡ lines_of shape front ++ rest
  pub other : (after : List ℕ) → rest ≢ line_after shape front next ++ after
  pub left_is : left ≡ length rest
