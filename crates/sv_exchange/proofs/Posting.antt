-- What was sent of the messages that wait, and how much room they leave.
use Rattle.std.proofs.Common.{◌≡◌, ℕ, ◌+◌, ◌≤◌, Bool, true, false, List, [], ◌++◌, length, take, drop, refl, ap, arith, length-append}
use Rattle.std.specs.Prelude.{if◌then◌else◌}
use Rattle.std.proofs.lemmas.List.{take_all, take-append-drop}
use Rattle.sv_frame.specs.Frames.{frame}
use Rattle.sv_frame.proofs.Fronts.{length-frame}
use Rattle.sv_link.specs.Ends.{Told, Sends}
use Rattle.sv_link.specs.declared.ends.Sent.{Sent}
use Rattle.sv_link.specs.declared.ends.Sent.TheVariants.{Whole, Failed, Memory}
use Rattle.sv_exchange.specs.Outgoing.{Posts, LeavesUnsent, KeepsBack}

-- what waited was sent, and no frame was put yet
pub posted : (answer : Sent) (old new : Told) (waiting left : List ℕ) → Sends old waiting answer new → LeavesUnsent answer waiting left → Posts old waiting [] answer new left
posted Whole old new waiting left sends empty =
    record {
      sent = take sends.size waiting;
      told = sends.grew;
      whole = λ _. rw empty (ap (λ (l : List ℕ). l ++ []) (take_all sends.size waiting (omega (arith, sends.whole refl))));
      part = λ never. absurd (never refl);
      kept = λ never. absurd (never refl);
    }
posted Failed old new waiting left sends same =
    record {
      sent = take sends.size waiting;
      told = sends.grew;
      whole = λ e. absurd cc;
      part = λ _. (drop sends.size waiting, take-append-drop sends.size waiting);
      kept = λ _. same;
    }
posted Memory old new waiting left sends same =
    record {
      sent = take sends.size waiting;
      told = sends.grew;
      whole = λ e. absurd cc;
      part = λ _. (drop sends.size waiting, take-append-drop sends.size waiting);
      kept = λ _. same;
    }

-- a frame takes four bytes more than its payload
pub frame_room : (b : Bool) (before payload : List ℕ) → length (if b then before ++ frame payload else before) ≤ length before + (4 + length payload)
frame_room true before payload = omega (arith, length-append before (frame payload), length-frame payload)
frame_room false before payload = omega arith

-- What fits with its frame fits without.
pub kept_with : (waiting payload : List ℕ) (size : ℕ) (old new : Told) → size ≡ 4 + length payload → KeepsBack waiting size old new → KeepsBack waiting (length (frame payload)) old new
kept_with waiting payload size old new same kept = λ fits. kept (omega (arith, fits, same, length-frame payload))
