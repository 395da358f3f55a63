-- What a journal's fields keep.
use Rattle.std.specs.Prelude.{◌≡◌, ◌+◌, ◌^◌, ◌<◌, ◌≤◌, length, reverse}
use Rattle.std.specs.Vec.{vec_len, vec_capacity}
use Rattle.sv_journal.specs.declared.journal.Journal.TheInside.{Inside}
use Rattle.sv_journal.specs.Rows.{AreAllRows}
use Rattle.sv_journal.specs.View.{JournalView}

abbrev pub model_of : Inside → JournalView
model_of a = record { entries = a.entries.items; spare = a.spare }

-- What is spare is room for so many entries, and for all their rows.
pub record HasSpare (a : Inside) : Type 0 where
  pub entries : vec_len a.entries + a.spare ≤ vec_capacity a.entries
  pub accepted : vec_len a.accepted + a.spare ≤ vec_capacity a.accepted
  pub clients : 0 < a.spare → length a.clients.items ≡ 2 ^ 16
  pub outcomes : 0 < a.spare → length a.outcomes.items ≡ 2 ^ 16

abbrev pub IsJournal : Inside → Type 0
IsJournal a = AreAllRows (reverse a.entries.items) a.clients.items a.outcomes.items a.accepted.items × HasSpare a
