-- What a living world's core decides otherwise than its core does.
use Rattle.std.specs.Prelude.{◌≡◌, ℕ, Bool, true, false, ◌&&◌, not, nat_lt, is_none, List, [], ◌∷◌}
use Rattle.sv_world.specs.Control.{is_in}
use Rattle.sv_wire.specs.declared.message.Request.{Request}
use Rattle.sv_wire.specs.declared.message.Request.TheVariants as requests
use Rattle.sv_journal.specs.declared.entry.Entry.{Entry}
use Rattle.sv_journal.specs.History.{result_at, commit_of}
use Rattle.sv_journal.specs.Sessions.{sent_to}
use Rattle.sv_journal.specs.Answer.{Rules, reply_to_request, reply_to_poll, orphans}
use Rattle.sv_journal.specs.Serving.{is_poll, reply_for}
use Rattle.sv_journal.specs.Living.{Stewardship, is_stewards, heeded, living}
use Rattle.sv_core.specs.declared.decision.Decision.{Decision}
use Rattle.sv_core.specs.declared.decision.Decision.TheVariants as decisions
use Rattle.sv_core.specs.Decisions.{reply_by, DecisionHolds}
use Rattle.sv_living.specs.Keeping.{heard}

-- The position is above the commit, has no result and was not sent to the session.
abbrev pub is_unreported : List Entry → ℕ → ℕ → Bool
is_unreported h s p = nat_lt (commit_of h) p && is_none (result_at h p) && not (is_in p (sent_to h s))

-- The core decided how a Poll is answered that is not refused.
abbrev pub answers_poll : Request → Decision → Bool
answers_poll request decisions.Idle = true
answers_poll request (decisions.Relay seq pos) = is_poll request
answers_poll request _ = false

abbrev pub is_report : Request → Bool
is_report (requests.Done results) = true
is_report _ = false

-- A Poll is sent the first of the positions that are due.
abbrev pub first_relay : List ℕ → Decision
first_relay [] = decisions.Idle
first_relay (p ∷ ps) = decisions.Relay 0 p

-- A steward's Poll, which the table does not refuse.
pub record IsDuePoll (w : Stewardship) (r : Rules) (h : List Entry) (s : ℕ) (request : Request) : Type 0 where
  pub poll : is_poll request ≡ true
  pub steward : is_stewards w.steward h s ≡ true
  pub told : reply_to_request r (heeded w h) s requests.Poll ≡ reply_to_poll r (heeded w h) s (orphans (heeded w h))

-- By the results that count a decision stands for the reply that the history gives, and what it needs holds.
pub record IsDecided (w : Stewardship) (r : Rules) (h : List Entry) (s : ℕ) (request : Request) (decision : Decision) : Type 0 where
  pub reply : reply_by r (heeded w h) s (heard w h s request) decision ≡ reply_for (living w) r h s request
  pub holds : DecisionHolds r (heeded w h) s (heard w h s request) decision
