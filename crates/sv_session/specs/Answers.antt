-- What the loop's functions answer.
use Rattle.std.specs.Prelude.{◌≡◌, ℕ, ◌<◌, List, [], length, Option, Some, None}
use Rattle.sv_frame.specs.Frames.{first_frame, too_long, greatest_frame}
use Rattle.sv_link.specs.Ends.{Told}
use Rattle.sv_session.specs.Serving.{SessionCause}
use Rattle.sv_session.specs.Rounds.{Stand, TakesOffRequest, PostsOn, PostsLast, ReadsOn, ReadsLast, LoopGoesOn, Halts}
use Rattle.sv_session.specs.declared.outcome.SessionOut.{SessionOut}
use Rattle.sv_session.specs.declared.taking.Taken.{Taken}
use Rattle.sv_session.specs.declared.taking.Taken.TheVariants as taken

-- a request was taken off; or less than a frame waits; or there was no memory. The last two take nothing off
abbrev pub IsTakenOff : Taken → List ℕ → List ℕ → Type 0
IsTakenOff (taken.Request request) old new = TakesOffRequest old request new
IsTakenOff taken.NotYet old new = (new ≡ old) × (first_frame old ≡ None) × (too_long old ≡ None) × (length old < greatest_frame)
IsTakenOff taken.Memory old new = new ≡ old

-- a reply was put behind what is due, and the loop goes on; or it ends
abbrev pub IsReplyPosted : Option SessionOut → Option SessionOut → Told → List ℕ → Told → List ℕ → Type 0
IsReplyPosted None stop old due new left = (stop ≡ None) × PostsOn old due new left
IsReplyPosted (Some out) stop old due new left = PostsLast old due stop out new

-- all that was due was sent and more bytes came; or the loop ends
abbrev pub ReadsOnOrEnds : Option SessionOut → Told → List ℕ → List ℕ → Told → List ℕ → List ℕ → Type 0
ReadsOnOrEnds None old due inbox new after left = ReadsOn old due inbox new after × (left ≡ [])
ReadsOnOrEnds (Some out) old due inbox new after left = ReadsLast old due out new

-- the loop goes on, or it ends
abbrev pub IsRound : Option SessionOut → Stand → Stand → Type 0
IsRound None a b = LoopGoesOn a b
IsRound (Some out) a b = Halts a out b.told b.pass

-- the end's count of faults, where the loop goes on and where it ends
abbrev pub RoundCause : ℕ → ℕ → Option SessionOut → Type 0
RoundCause before now None = now ≡ before
RoundCause before now (Some out) = SessionCause before now out
