-- What holds of a witnessing server's journal where all clients but one are honest.
-- A history is the list of a journal's entries with the latest first; events stand with the latest first too.
use Rattle.std.specs.Prelude.{◌≡◌, ℕ, true, List, map, reverse, All, Some}
use Rattle.sv_world.specs.declared.world.Shape.{Shape}
use Rattle.sv_eval.specs.Serial.{serial_world}
use Rattle.sv_journal.specs.declared.entry.Entry.{Entry}
use Rattle.sv_journal.specs.History.{client_of, accepted, actions_of}
use Rattle.sv_journal.specs.Answer.{Rules}
use Rattle.sv_client.specs.declared.trace.Trace.{Trace}
use Rattle.sv_client.specs.Traces.{held_of, got, requests_of}
use Rattle.sv_client.specs.Proper.{Proper}
use Rattle.law_system.specs.Fronts.{IsFront}
use Rattle.law_system.specs.Fits.{requests_in, replies_in, IsEndLast, has_session, AreApart}
use Rattle.law_system.specs.Serial.{AreSerial, reply_held, RelaysAreSufficient}
use Rattle.law_system.specs.Cuts.{SeenAreCuts}
use Rattle.sv_witness.specs.Reports.{agreed_commit, agreed_world}
use Rattle.sv_witness.specs.Disputes.{disputes_of, NamesClient}
use Rattle.sv_witness.specs.Lies.{lied}

-- ---- What is so for the honest

-- The committed world is the serial one; each value that an honest client holds, and each that the server sends, is the serial one at its
-- position; each relay brought an honest client what its items read; what it saw is one cut of the serial execution; and each dispute names the
-- liar.
pub record IsTolerated (liar : ℕ) (r : Rules) (h : List Entry) (Ls : List Trace) : Type 0 where
  pub world : agreed_world r.world.values h ≡ serial_world r.world.values (actions_of h) (agreed_commit h)
  pub held : All (λ (L : Trace). AreSerial r.world.values (actions_of h) (held_of (reverse L.events))) Ls
  pub heads : All (λ (e : Entry). AreSerial r.world.values (actions_of h) (reply_held e.reply)) h
  pub relays : RelaysAreSufficient h Ls
  pub seen : SeenAreCuts r.world.shape r.world.values h Ls
  pub disputes : All (NamesClient liar) (disputes_of h)

-- ---- A liar that differs from an honest client in the values that it reports alone

pub record LiesIn (h : List Entry) (L : Trace) (s : ℕ) : Type 0 where
  pub got : IsFront (got (reverse L.events) s) (replies_in (accepted h) h s)
  pub asked : IsFront (requests_in h s) (map lied (requests_of L s))
  pub ended : IsEndLast h s

pub record IsLiar (shape : Shape) (h : List Entry) (Ls : List Trace) (L : Trace) : Type 0 where
  pub proper : Proper shape L
  pub sessions : (s : ℕ) → has_session L s ≡ true → LiesIn h L s
  pub apart : All (AreApart L) Ls
  pub joined : (s : ℕ) → client_of h s ≡ Some L.client.0 → has_session L s ≡ true
