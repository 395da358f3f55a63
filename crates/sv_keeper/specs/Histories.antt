-- The text of a history: its lines, each as it was when it was entered. A history is the list of all entries with the latest first.
use Rattle.std.specs.Prelude.{ℕ, suc, ◌≤◌, ◌≡◌, nat_lt, List, [], ◌∷◌, ◌++◌, length, if◌then◌else◌}
use Rattle.sv_world.specs.declared.world.Shape.{Shape}
use Rattle.sv_journal.specs.declared.entry.Entry.{Entry}
use Rattle.sv_journal.specs.History.{accepted}
use Rattle.sv_journal.specs.Text.{entry_line}
use Rattle.sv_log.specs.Pictures.{Picture}
use Rattle.sv_log.specs.Chains.{StateFile, HasLog}

-- The line of the latest entry.
abbrev pub last_line : Shape → Entry → List Entry → List ℕ
last_line shape e h = entry_line shape (accepted (e ∷ h)) (suc (length h)) e

abbrev pub history_text : Shape → List Entry → List ℕ
history_text shape [] = []
history_text shape (e ∷ h) = history_text shape h ++ last_line shape e h

-- The first n entries, and all where there are no more.
abbrev pub first_entries : ℕ → List Entry → List Entry
first_entries n [] = []
first_entries n (e ∷ h) = if nat_lt (length h) n then e ∷ h else first_entries n h

-- A log of this world, behind whose newest state stand the lines of the first m entries, for some m from the least on.
abbrev pub HoldsFirst : Shape → List ℕ → StateFile → List Entry → ℕ → Picture → Type 0
HoldsFirst shape world state h least p = (m : ℕ) × (least ≤ m) × (m ≤ length h) × HasLog world state (history_text shape (first_entries m h)) p
