-- A journal as contracts see it.
use Rattle.std.specs.Prelude.{ℕ, List}
use Rattle.sv_journal.specs.declared.entry.Entry.{Entry}

-- Its entries in order, and for how many more it has room.
pub record JournalView : Type 0 where
  pub entries : List Entry
  pub spare : ℕ
