-- What is said of the commit, and of journals that go on.
-- A history is the list of a journal's entries with the latest first.
use Rattle.std.specs.Prelude.{◌≡◌, ℕ, suc, ◌<◌, ◌≤◌, true, ℤ, List, ◌++◌, length, Some, None, is_some}
use Rattle.sv_journal.specs.declared.entry.Entry.{Entry}
use Rattle.sv_journal.specs.History.{Authored, accepted, result_at, commit_of, installed}

-- ---- The commit

-- Each position from 1 to n is that of an accepted action, and has a result.
abbrev pub AllHaveResults : List Entry → ℕ → Type 0
AllHaveResults h n = (p : ℕ) → 1 ≤ p → p ≤ n → (p ≤ length (accepted h)) × (is_some (result_at h p) ≡ true)

-- P holds of n, and of no greater number.
pub record IsGreatest (P : ℕ → Type 0) (n : ℕ) : Type 0 where
  pub holds : P n
  pub greatest : (m : ℕ) → P m → m ≤ n

-- The commit is the greatest position up to which all have results.
abbrev pub CommitIsTheGreatest : Type 0
CommitIsTheGreatest = (h : List Entry) → IsGreatest (AllHaveResults h) (commit_of h)

-- Where more actions are accepted, the next one has no result.
abbrev pub NextHasNoResult : Type 0
NextHasNoResult = (h : List Entry) → commit_of h < length (accepted h) → result_at h (suc (commit_of h)) ≡ None

-- ---- Journals that go on

-- What a history has stays in a longer one: its accepted actions are the first of those, its results are results, the commit is no less, and the
-- values at each position up to it are the same.
pub record StaysIn (earlier whole : List Entry) : Type 0 where
  pub actions : (later : List Authored) × (accepted whole ≡ accepted earlier ++ later)
  pub results : (p : ℕ) (values : List (List ℤ)) → result_at earlier p ≡ Some values → result_at whole p ≡ Some values
  pub commit : commit_of earlier ≤ commit_of whole
  pub values : (opening : List (List ℤ)) (p : ℕ) → p ≤ commit_of earlier → installed opening whole p ≡ installed opening earlier p

abbrev pub JournalsKeepWhatTheyHave : Type 0
JournalsKeepWhatTheyHave = (later earlier : List Entry) → StaysIn earlier (later ++ earlier)
