-- Where the reading of the clients' parts stops. Events of traces stand in order; those of an actor with the latest first.
use Rattle.std.specs.Prelude.{◌≡◌, ◌≢◌, ◌⊎◌, ℕ, true, false, List, ◌∷◌, ◌++◌, length, reverse, codes}
use Rattle.std.specs.Fmt.{decimal}
use Rattle.sv_world.specs.declared.world.Shape.{Shape}
use Rattle.sv_journal.specs.declared.entry.Entry.{Entry}
use Rattle.sv_client.specs.declared.trace.Trace.{Trace}
use Rattle.sv_client.specs.Proper.{Proper, identity_of}
use Rattle.sv_client.specs.Traces.{got}
use Rattle.sv_scenario.specs.declared.scenario.Plan.{Plan}
use Rattle.sv_script.specs.Following.{Follows}
use Rattle.law_system.specs.Fits.{has_session}
use Rattle.law_system.specs.Fronts.{IsFront}
use Rattle.sv_report.specs.Report.{event_lines, trace_text}
use Rattle.sv_check.specs.declared.actor.Actor.{Actor}
use Rattle.sv_check.specs.Acting.{WentOn, journal_events}
use Rattle.sv_check.specs.Next.{NoEvent, journal_replies}
use Rattle.sv_check.specs.Parts.{IsWholeTrace, IsOf}

-- The lines of an actor's events stop being right: it went on as far as they are, is not finished, and no event has a line with which the
-- rest begins.
pub record EventsStop (entries : List Entry) (old : Actor) (text : List ℕ) (left : ℕ) : Type 0 where
  pub now : Actor
  pub on : WentOn entries old now
  pub here : now.finished ≡ false
  pub rest : List ℕ
  pub text_is : event_lines entries (journal_events old) ++ text ≡ event_lines entries (journal_events now) ++ rest
  pub left_is : left ≡ length rest
  pub none : NoEvent now.client.who now.first entries (journal_events now) now.left.now rest

-- A client's part is right as far as the trace L: the client can have it, it follows the script, and it got the first of each session's replies.
pub record IsPartSoFar (shape : Shape) (entries : List Entry) (number first : ℕ) (plan : Plan) (L : Trace) : Type 0 where
  pub of : IsOf number first plan L
  pub proper : Proper shape L
  pub follows : Follows shape plan.steps L
  pub gets : (s : ℕ) → has_session L s ≡ true → IsFront (got (reverse L.events) s) (journal_replies entries s)

-- It stops being right behind L: no event that may come next has a line with which the rest begins, and L is not whole.
pub record PartStops (shape : Shape) (entries : List Entry) (number first : ℕ) (plan : Plan) (text : List ℕ) (left : ℕ) : Type 0 where
  pub L : Trace
  pub so_far : IsPartSoFar shape entries number first plan L
  pub rest : List ℕ
  pub text_is : text ≡ trace_text entries L ++ rest
  pub left_is : left ≡ length rest
  pub none : NoEvent (identity_of shape L) L.first entries (reverse L.events) so_far.follows.left rest
  pub not_whole : IsWholeTrace shape (reverse entries) plan L → ⊥

-- The text does not begin with the first line of a client's part.
pub record NoClient (number : ℕ) (text : List ℕ) (left : ℕ) : Type 0 where
  pub differs : (rest : List ℕ) → text ≢ codes "client " ++ decimal number ++ 10 ∷ rest
  pub left_is : left ≡ length text

-- The text does not begin with a whole part of the client, and this is how much is left of it where it stops being right.
abbrev pub IsClientStop : Shape → List Entry → ℕ → ℕ → Plan → List ℕ → ℕ → Type 0
IsClientStop shape entries number first plan text left = NoClient number text left ⊎ PartStops shape entries number first plan text left
