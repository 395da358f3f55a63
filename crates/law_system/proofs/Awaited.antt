-- What the lemmas on a client's next reply are given.
use Rattle.std.proofs.Common.{◌≡◌, ℕ, ◌<◌, ◌≤◌, true, ℤ, List, ◌∷◌, reverse, length, Some}
use Rattle.std.specs.Prelude.{All}
use Rattle.sv_journal.specs.declared.entry.Entry.{Entry}
use Rattle.sv_journal.specs.History.{accepted, actions_of}
use Rattle.sv_journal.specs.Answer.{Rules}
use Rattle.sv_journal.specs.Serving.{Keeping}
use Rattle.sv_client.specs.declared.trace.Trace.{Trace}
use Rattle.sv_client.specs.Traces.{current_session, got}
use Rattle.law_system.specs.Fits.{replies_in}
use Rattle.law_system.specs.Served.{OwnsSessions}
use Rattle.law_system.specs.Within.{KeepsLimits}
use Rattle.law_system.specs.Journals.{ResultsAreSerial}
use Rattle.law_system.proofs.Histories.{IsEarlier}
use Rattle.law_system.proofs.Entered.{is_of}
use Rattle.law_system.proofs.Asking.{IsServed}

-- A served journal, and a client's trace that fits it and has each session that was joined as the client.
pub record Owner : Type 0 where
  pub keeping : Keeping
  pub rules : Rules
  pub journal : List Entry
  pub trace : Trace
  pub served : IsServed keeping rules journal trace
  pub owns : OwnsSessions journal trace

-- The session that the client began last, and the entry that answers the request to which it has no reply yet.
pub record Awaited : Type 0 where
  pub owner : Owner
  pub session : ℕ
  pub current : current_session (reverse owner.trace.events) ≡ Some session
  pub limits : KeepsLimits owner.rules owner.journal owner.trace session
  pub entry : Entry
  pub before : List Entry
  pub earlier : IsEarlier (entry ∷ before) owner.journal
  pub mine : is_of entry session ≡ true
  pub next : length (replies_in (accepted owner.journal) before session) ≡ length (got (reverse owner.trace.events) session)

-- The same over a good world, where a position is left and the results that are kept are those of the serial execution.
pub record Truthful : Type 0 where
  pub awaited : Awaited
  pub count : length awaited.owner.rules.world.values ≡ awaited.owner.rules.world.shape.objects
  pub shaped : All (λ (v : List ℤ). length v ≡ awaited.owner.rules.world.shape.attrs) awaited.owner.rules.world.values
  pub bound : awaited.owner.rules.bound ≤ 32
  pub room : length (accepted awaited.owner.journal) < awaited.owner.rules.positions
  pub serial : ResultsAreSerial awaited.owner.rules.world.values (actions_of awaited.owner.journal) (awaited.owner.keeping.kept awaited.owner.journal)
