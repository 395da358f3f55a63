-- A bare journal, as `serve` prints it where it is right: the entries, their commit, and no traces. A history is the list of entries with the latest first.
use Rattle.std.specs.Prelude.{◌≡◌, ℕ, Bool, ◌&&◌, ◌==◌, List, [], ◌∷◌, ◌++◌, reverse, get_or, codes}
use Rattle.std.specs.Fmt.{decimal}
use Rattle.sv_world.specs.declared.world.Shape.{Shape}
use Rattle.sv_journal.specs.declared.entry.Entry.{Entry}
use Rattle.sv_journal.specs.Answer.{Legal}
use Rattle.sv_journal.specs.History.{commit_of, committed_of}
use Rattle.sv_journal.specs.Text.{journal_text}
use Rattle.sv_scenario.specs.declared.scenario.Scenario.{Scenario}
use Rattle.law_system.specs.declared.played.Played.{Played}
use Rattle.law_system.specs.Records.{rules_of}
use Rattle.sv_check.specs.Parts.{IsWholeJournal}

-- `commit C`, with its line end.
abbrev pub commit_line : ℕ → List ℕ
commit_line commit = codes "commit " ++ decimal commit ++ 10 ∷ []

-- The text of entries, which stand in order, and the line of their commit.
abbrev pub bare_text : Shape → List Entry → List ℕ
bare_text shape entries = journal_text shape entries ++ commit_line (commit_of (reverse entries))

-- The text is what `serve` prints of the journal h, which is whole.
pub record IsBareText (scenario : Scenario) (text : List ℕ) (h : List Entry) : Type 0 where
  pub journal : IsWholeJournal scenario h
  pub text_is : text ≡ bare_text scenario.world.shape (reverse h)

-- The text is what `serve` prints of some whole journal.
abbrev pub IsBare : Scenario → List ℕ → Type 0
IsBare scenario text = (h : List Entry) × IsBareText scenario text h

-- What was played is a whole and legal journal of the scenario, with the commit and the committed values that it gives, and has no traces.
pub record IsBarePlayed (scenario : Scenario) (played : Played) : Type 0 where
  pub journal : IsWholeJournal scenario (reverse played.journal.entries)
  pub legal : Legal (rules_of scenario) (reverse played.journal.entries)
  pub traces : played.traces ≡ []
  pub shape : played.shape ≡ scenario.world.shape
  pub commit : played.commit ≡ commit_of (reverse played.journal.entries)
  pub committed : played.committed ≡ committed_of scenario.world.values (reverse played.journal.entries)

-- The text is what `serve` prints of this journal.
pub record IsBareOf (scenario : Scenario) (text : List ℕ) (played : Played) : Type 0 where
  pub played_is : IsBarePlayed scenario played
  pub text_is : text ≡ bare_text scenario.world.shape played.journal.entries

-- Behind its journal a text goes on as what `serve` prints: with `co`, and a report with `cl`.
abbrev pub begins_commit : List ℕ → Bool
begins_commit text = (get_or text 0 0 == 99) && (get_or text 1 0 == 111)
