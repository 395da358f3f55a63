-- What a line asks. There is a definition for each function that reads.
use Rattle.std.specs.Prelude.{ℕ, ◌^◌, ◌==◌, if◌then◌else◌, List, [], ◌∷◌, map, Option, Some, None, is_none, codes}
use Rattle.sv_world.specs.declared.world.Shape.{Shape}
use Rattle.sv_world.specs.declared.check.BadAction.{BadAction}
use Rattle.sv_world.specs.declared.check.BadAction.TheVariants.{NoReads, TooManyReads, NotAscending, NoSuchObject, BadMask, BadSlot, NotWritable, BadAttr, TooLarge, TooDeep, BadOrigin}
use Rattle.sv_world.specs.Faults.{first_fault_of_action, cause_number}
use Rattle.sv_wire.specs.declared.message.Request.{Request}
use Rattle.sv_wire.specs.declared.message.Request.TheVariants as requests
use Rattle.sv_wire.specs.declared.message.Reply.{Reply}
use Rattle.sv_wire.specs.declared.message.Reply.TheVariants as replies
use Rattle.sv_wire.specs.declared.refusal.Refusal.TheVariants as refusals
use Rattle.sv_wire.specs.Nodes.{among}
use Rattle.sv_wire.specs.Refusals.{code_of}
use Rattle.sv_lines.specs.Reading.{◌>>=◌, when_read, behind_front, number_read}
use Rattle.sv_lines.specs.Asking.{request_read}
use Rattle.sv_entries.specs.declared.read.LineRequest.{LineRequest}
use Rattle.sv_entries.specs.declared.read.LineRequest.TheVariants as asked

-- ---- Why an action was refused

abbrev pub all_causes : List BadAction
all_causes = NoReads ∷ TooManyReads ∷ NotAscending ∷ NoSuchObject ∷ BadMask ∷ BadSlot ∷ NotWritable ∷ BadAttr ∷ TooLarge ∷ TooDeep ∷ BadOrigin ∷ []

-- The cause with a number.
unfoldable pub cause_numbered : ℕ → Option BadAction
cause_numbered = among (map (λ cause. (cause_number cause, cause)) all_causes)

-- The cause that a reply tells: that of the refusal of an action.
abbrev pub cause_in : Reply → Option BadAction
cause_in (replies.Refused code detail) = if code == code_of refusals.BadAction then cause_numbered detail else None
cause_in _ = None

-- The code and the detail of a refusal.
unfoldable pub refusal_read : List ℕ → Option (ℕ × ℕ)
refusal_read text = behind_front (codes "refused ") text >>= λ rest. number_read (2 ^ 32) rest >>= λ code. behind_front (32 ∷ []) code.1 >>= λ more. number_read (2 ^ 32) more >>= λ detail.
    Some (code.0, detail.0)

abbrev pub cause_of : Option (ℕ × ℕ) → Option BadAction
cause_of (Some refusal) = if refusal.0 == code_of refusals.BadAction then cause_numbered refusal.1 else None
cause_of None = None

-- The cause that the text of a reply tells.
unfoldable pub cause_read : List ℕ → Option BadAction
cause_read text = cause_of (refusal_read text)

-- ---- Requests

-- What the line of a request tells of it, before the text of a reply: the action of a Submit that is refused in the shape is left out.
abbrev pub asked_of : Shape → Request → List ℕ → LineRequest
asked_of shape (requests.Submit seq action) reply =
    if is_none (first_fault_of_action shape action) then asked.Whole (requests.Submit seq action) else asked.BadSubmit seq (cause_read reply)
asked_of shape request reply = asked.Whole request

-- A Submit whose action is left out.
unfoldable pub bad_submit_read : List ℕ → Option LineRequest
bad_submit_read text = behind_front (codes "submit ") text >>= λ rest. number_read (2 ^ 32) rest >>= λ seq. behind_front (codes " bad -> ") seq.1 >>= λ reply.
    Some (asked.BadSubmit seq.0 (cause_read reply))

unfoldable pub whole_read : Shape → List ℕ → Option LineRequest
whole_read shape text = request_read shape text >>= λ request. Some (asked.Whole request)

unfoldable pub line_request_read : Shape → List ℕ → Option LineRequest
line_request_read shape text =
    when_read (behind_front (codes "bad") text) (λ _. Some (asked.Whole requests.Bad))
    (when_read (bad_submit_read text) (λ found. Some found) (whole_read shape text))

-- The number of a line's entry, its session, and what was asked.
unfoldable pub line_read : Shape → List ℕ → Option (ℕ × ℕ × LineRequest)
line_read shape line = number_read (2 ^ 64) line >>= λ n. behind_front (codes " s") n.1 >>= λ more. number_read (2 ^ 64) more >>= λ session. behind_front (32 ∷ []) session.1 >>= λ last.
    line_request_read shape last >>= λ found. Some (n.0, session.0, found)
