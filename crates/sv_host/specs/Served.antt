-- What was written through a door, where nothing was before.
use Rattle.std.specs.Prelude.{◌≡◌}
use Rattle.sv_journal.specs.declared.entry.Entry.{Entry}
use Rattle.sv_journal.specs.Living.{living}
use Rattle.sv_journal.specs.Serving.{LegalFor}
use Rattle.sv_living.specs.Sessions.{AreInOrder}
use Rattle.sv_living.specs.World.{WorldView}
use Rattle.sv_ports.specs.Traffic.{Traffic, nothing_told}
use Rattle.sv_office.specs.Entering.{AreAdded}
use Rattle.sv_host.specs.Rooms.{AnyEntry, Continues, HaveBegun, WereWritten}

-- Where nothing was told before, just that was written which connections were told in a world between these two, from which the last one went on by such
-- entries.
abbrev pub OnlyWrote : (Entry → Type 0) → Traffic → Traffic → WorldView → WorldView → Type 0
OnlyWrote may before after first last = before ≡ nothing_told → WereWritten may after first last

-- A world went on until something failed, and what was written is what connections were told in it, each in a session that was begun then. Its history is
-- legal by the answer table, and who joined might.
pub record HostBreaksOff (may_join : Entry → Type 0) (before after : Traffic) (first : WorldView) : Type 0 where
  pub last : WorldView
  pub goes : Continues first last
  pub joins : AreAdded may_join first.history last.history
  pub legal : LegalFor (living last.stewardship) last.rules last.history
  pub order : AreInOrder last.history
  pub sent : OnlyWrote AnyEntry before after first last
  pub begun : (fresh : before ≡ nothing_told) → HaveBegun (sent fresh)
