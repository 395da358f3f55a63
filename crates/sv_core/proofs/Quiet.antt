-- Replies that change nothing but their own session.
use Rattle.std.proofs.Common.{◌≡◌, ℕ, true, List, refl, sym, true≢false}
use Rattle.sv_world.specs.declared.world.ObjectId.{ObjectId}
use Rattle.sv_wire.specs.declared.message.Request.{Request}
use Rattle.sv_wire.specs.declared.refusal.Refusal.{Refusal}
use Rattle.sv_wire.specs.Refusals.{code_of}
use Rattle.sv_journal.specs.declared.entry.Entry.{Entry}
use Rattle.sv_journal.specs.declared.entry.Logged.TheVariants as logged
use Rattle.sv_journal.specs.Answer.{Rules}
use Rattle.sv_core.specs.declared.decision.Decision.{Decision}
use Rattle.sv_core.specs.declared.decision.Decision.TheVariants as decisions
use Rattle.sv_core.specs.Decisions.{reply_by, changes_nothing, IsOld, DecisionHolds, IsQuietEntry}
use Rattle.sv_journal.specs.History.{entry_of}
use Rattle.sv_core.proofs.HistorySteps.{outcomes-quiet, outcomes-old}

quiet-refused : (h : List Entry) (s : ℕ) (request : Request) (code detail : ℕ) → IsQuietEntry h s request (logged.Refused code detail)
quiet-refused h s request code detail = record {
  relay = refl;
  noted = refl;
  welcome = refl;
  positions = refl;
  named = λ x. refl;
  outcomes = λ k. outcomes-quiet (entry_of s request (logged.Refused code detail)) h k refl;
}

quiet-settled : (h : List Entry) (s : ℕ) (request : Request) (seq pos : ℕ) → IsQuietEntry h s request (logged.Settled seq pos)
quiet-settled h s request seq pos = record {
  relay = refl;
  noted = refl;
  welcome = refl;
  positions = refl;
  named = λ x. refl;
  outcomes = λ k. outcomes-quiet (entry_of s request (logged.Settled seq pos)) h k refl;
}

quiet-idle : (h : List Entry) (s : ℕ) (request : Request) → IsQuietEntry h s request logged.Idle
quiet-idle h s request = record {
  relay = refl;
  noted = refl;
  welcome = refl;
  positions = refl;
  named = λ x. refl;
  outcomes = λ k. outcomes-quiet (entry_of s request logged.Idle) h k refl;
}

pub quiet-bye : (h : List Entry) (s : ℕ) (request : Request) → IsQuietEntry h s request logged.Bye
quiet-bye h s request = record {
  relay = refl;
  noted = refl;
  welcome = refl;
  positions = refl;
  named = λ x. refl;
  outcomes = λ k. outcomes-quiet (entry_of s request logged.Bye) h k refl;
}

quiet-dropped : (h : List Entry) (s : ℕ) (request : Request) (seq chain far : ℕ) → IsOld h s request → IsQuietEntry h s request (logged.Dropped seq chain far)
quiet-dropped h s request seq chain far old = record {
  relay = refl;
  noted = refl;
  welcome = refl;
  positions = refl;
  named = λ x. refl;
  outcomes = λ k. outcomes-old (entry_of s request (logged.Dropped seq chain far)) h k old;
}

quiet-denied : (h : List Entry) (s : ℕ) (request : Request) (seq : ℕ) (object : ObjectId) → IsOld h s request → IsQuietEntry h s request (logged.Denied seq object)
quiet-denied h s request seq object old = record {
  relay = refl;
  noted = refl;
  welcome = refl;
  positions = refl;
  named = λ x. refl;
  outcomes = λ k. outcomes-old (entry_of s request (logged.Denied seq object)) h k old;
}

-- The reply to what changes nothing is such a one.
pub quiet-decided : (r : Rules) (h : List Entry) (s : ℕ) (request : Request) (d : Decision) → changes_nothing d ≡ true → DecisionHolds r h s request d →
    IsQuietEntry h s request (reply_by r h s request d)
quiet-decided r h s request (decisions.Refuse refusal detail) plain holds = quiet-refused h s request (code_of refusal) detail
quiet-decided r h s request (decisions.Repeat seq chain far) plain holds = quiet-dropped h s request seq chain far holds
quiet-decided r h s request (decisions.RepeatDenied seq object) plain holds = quiet-denied h s request seq object holds
quiet-decided r h s request (decisions.Settle seq pos) plain holds = quiet-settled h s request seq pos
quiet-decided r h s request decisions.Idle plain holds = quiet-idle h s request
quiet-decided r h s request decisions.Leave plain holds = quiet-bye h s request
quiet-decided r h s request (decisions.Welcome client life) plain holds = absurd (true≢false (sym plain))
quiet-decided r h s request (decisions.Drop client seq chain far) plain holds = absurd (true≢false (sym plain))
quiet-decided r h s request (decisions.Deny client seq object) plain holds = absurd (true≢false (sym plain))
quiet-decided r h s request (decisions.Relay seq pos) plain holds = absurd (true≢false (sym plain))
quiet-decided r h s request (decisions.Accept client seq) plain holds = absurd (true≢false (sym plain))
quiet-decided r h s request decisions.See plain holds = absurd (true≢false (sym plain))
quiet-decided r h s request decisions.Note plain holds = absurd (true≢false (sym plain))

-- What is none of the decisions that change something changes nothing.
pub nothing-changes : (d : Decision) → ((client life : ℕ) → d ≡ decisions.Welcome client life → ⊥) → ((client seq chain far : ℕ) → d ≡ decisions.Drop client seq chain far → ⊥) →
    ((client seq : ℕ) (object : ObjectId) → d ≡ decisions.Deny client seq object → ⊥) →
    ((seq pos : ℕ) → d ≡ decisions.Relay seq pos → ⊥) → ((client seq : ℕ) → d ≡ decisions.Accept client seq → ⊥) → (d ≡ decisions.See → ⊥) → (d ≡ decisions.Note → ⊥) → changes_nothing d ≡ true
nothing-changes (decisions.Welcome client life) welcome drop deny relay accept see note = absurd (welcome client life refl)
nothing-changes (decisions.Drop client seq chain far) welcome drop deny relay accept see note = absurd (drop client seq chain far refl)
nothing-changes (decisions.Deny client seq object) welcome drop deny relay accept see note = absurd (deny client seq object refl)
nothing-changes (decisions.Relay seq pos) welcome drop deny relay accept see note = absurd (relay seq pos refl)
nothing-changes (decisions.Accept client seq) welcome drop deny relay accept see note = absurd (accept client seq refl)
nothing-changes decisions.See welcome drop deny relay accept see note = absurd (see refl)
nothing-changes decisions.Note welcome drop deny relay accept see note = absurd (note refl)
nothing-changes (decisions.Refuse refusal detail) welcome drop deny relay accept see note = refl
nothing-changes (decisions.Repeat seq chain far) welcome drop deny relay accept see note = refl
nothing-changes (decisions.RepeatDenied seq object) welcome drop deny relay accept see note = refl
nothing-changes (decisions.Settle seq pos) welcome drop deny relay accept see note = refl
nothing-changes decisions.Idle welcome drop deny relay accept see note = refl
nothing-changes decisions.Leave welcome drop deny relay accept see note = refl

-- What changes nothing is one of those that do so.
pub some-plain : (d : Decision) → changes_nothing d ≡ true → ((refusal : Refusal) (detail : ℕ) → d ≡ decisions.Refuse refusal detail → ⊥) →
    ((seq chain far : ℕ) → d ≡ decisions.Repeat seq chain far → ⊥) → ((seq : ℕ) (object : ObjectId) → d ≡ decisions.RepeatDenied seq object → ⊥) →
    ((seq pos : ℕ) → d ≡ decisions.Settle seq pos → ⊥) → (d ≡ decisions.Idle → ⊥) → (d ≡ decisions.Leave → ⊥) → ⊥
some-plain (decisions.Refuse refusal detail) plain refuse repeat denied settle idle leave = refuse refusal detail refl
some-plain (decisions.Repeat seq chain far) plain refuse repeat denied settle idle leave = repeat seq chain far refl
some-plain (decisions.RepeatDenied seq object) plain refuse repeat denied settle idle leave = denied seq object refl
some-plain (decisions.Settle seq pos) plain refuse repeat denied settle idle leave = settle seq pos refl
some-plain decisions.Idle plain refuse repeat denied settle idle leave = idle refl
some-plain decisions.Leave plain refuse repeat denied settle idle leave = leave refl
some-plain (decisions.Welcome client life) plain refuse repeat denied settle idle leave = true≢false (sym plain)
some-plain (decisions.Drop client seq chain far) plain refuse repeat denied settle idle leave = true≢false (sym plain)
some-plain (decisions.Deny client seq object) plain refuse repeat denied settle idle leave = true≢false (sym plain)
some-plain (decisions.Relay seq pos) plain refuse repeat denied settle idle leave = true≢false (sym plain)
some-plain (decisions.Accept client seq) plain refuse repeat denied settle idle leave = true≢false (sym plain)
some-plain decisions.See plain refuse repeat denied settle idle leave = true≢false (sym plain)
some-plain decisions.Note plain refuse repeat denied settle idle leave = true≢false (sym plain)
