-- What becomes of messages that are to be sent together.
use Rattle.std.specs.Prelude.{◌≡◌, ◌≢◌, ℕ, ◌+◌, ◌≤◌, List, [], ◌++◌, length}
use mathlib.Core.List.{IsPrefix}
use Rattle.sv_frame.specs.Frames.{greatest_frame}
use Rattle.sv_link.specs.Ends.{Told, sending}
use Rattle.sv_link.specs.declared.ends.Sent.{Sent}
use Rattle.sv_link.specs.declared.ends.Sent.TheVariants as answers

-- A frame was put behind what waited, and some of it all was sent, in order. Where the answer is not Whole, the frame was not put, and what
-- waited still does, though a front part of it was sent.
pub record Posts (old : Told) (waiting frame : List ℕ) (answer : Sent) (new : Told) (left : List ℕ) : Type 0 where
  pub sent : List ℕ
  pub told : new ≡ sending old sent
  pub whole : answer ≡ answers.Whole → sent ++ left ≡ waiting ++ frame
  pub part : answer ≢ answers.Whole → IsPrefix sent waiting
  pub kept : answer ≢ answers.Whole → left ≡ waiting

-- nothing waits once all was sent. Any other answer leaves what waited
abbrev pub LeavesUnsent : Sent → List ℕ → List ℕ → Type 0
LeavesUnsent answers.Whole old new = new ≡ []
LeavesUnsent answers.Failed old new = new ≡ old
LeavesUnsent answers.Memory old new = new ≡ old

-- Nothing is sent where so many bytes more fit behind those that wait.
abbrev pub KeepsBack : List ℕ → ℕ → Told → Told → Type 0
KeepsBack waiting more old new = length waiting + more ≤ greatest_frame → new ≡ old
