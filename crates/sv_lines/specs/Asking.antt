-- The request that a line of a journal tells. There is a definition for each function that reads.
use Rattle.std.specs.Prelude.{ℕ, ◌^◌, ◌-◌, Bool, ◌&&◌, not, ◌==◌, nat_lt, cond, List, [], ◌∷◌, length, take, Option, Some, None, is_none, Result, Ok, Err, codes}
use Rattle.std.specs.List.{prefix_len}
use Rattle.sv_world.specs.declared.world.ClientId.{ClientId}
use Rattle.sv_world.specs.declared.world.Shape.{Shape}
use Rattle.sv_world.specs.declared.action.Action.{Action}
use Rattle.sv_world.specs.Faults.{first_fault_of_action}
use Rattle.sv_text.specs.declared.fault.TextFault.{TextFault}
use Rattle.sv_text.specs.Tokens.{tokens_of}
use Rattle.sv_text.specs.Reading.{reading}
use Rattle.sv_wire.specs.declared.message.Request.{Request}
use Rattle.sv_wire.specs.declared.message.Request.TheVariants as requests
use Rattle.sv_lines.specs.Reading.{◌>>=◌, when_read, behind_front, number_read, objects_read, results_read}

-- A byte of ASCII that is no line end, and no `>`.
abbrev pub is_plain : ℕ → Bool
is_plain c = nat_lt c 128 && (not (c == 62) && not (c == 10))

abbrev pub as_client : ℕ → ClientId
as_client n = record { 0 = n }

unfoldable pub join_read : List ℕ → Option Request
join_read text = number_read (2 ^ 16) text >>= λ client. behind_front (32 ∷ []) client.1 >>= λ more. number_read (2 ^ 32) more >>= λ life. behind_front (32 ∷ []) life.1 >>= λ last.
    objects_read last >>= λ interest. Some (requests.Join (as_client client.0) life.0 interest.0)

-- The text before an arrow.
unfoldable pub before_arrow : List ℕ → Option (List ℕ)
before_arrow text = cond (nat_lt (prefix_len is_plain text) 2) None (Some (take (prefix_len is_plain text - 2) text))

-- An action that is not refused in the shape.
unfoldable pub good_action : Shape → Action → Option Action
good_action shape action = cond (is_none (first_fault_of_action shape action)) (Some action) None

abbrev pub passed : Shape → Result Action TextFault → Option Action
passed shape (Ok action) = good_action shape action
passed shape (Err fault) = None

unfoldable pub action_read : Shape → List ℕ → Option Action
action_read shape text = cond (nat_lt (length text) (2 ^ 32)) (passed shape (reading (tokens_of text))) None

unfoldable pub submit_read : Shape → List ℕ → Option Request
submit_read shape text = number_read (2 ^ 32) text >>= λ seq. behind_front (32 ∷ []) seq.1 >>= λ more. before_arrow more >>= λ front. action_read shape front >>= λ action. Some (requests.Submit seq.0 action)

unfoldable pub done_read : List ℕ → Option Request
done_read text = results_read text >>= λ results. Some (requests.Done results.0)

unfoldable pub observe_read : List ℕ → Option Request
observe_read text = number_read (2 ^ 16) text >>= λ wait. behind_front (32 ∷ []) wait.1 >>= λ last. objects_read last >>= λ objects. Some (requests.Observe objects.0 wait.0)

unfoldable pub plain_read : List ℕ → Option Request
plain_read text =
    when_read (behind_front (codes "poll") text) (λ _. Some requests.Poll)
    (when_read (behind_front (codes "leave") text) (λ _. Some requests.Leave)
    (when_read (behind_front (codes "end") text) (λ _. Some requests.End) None))

unfoldable pub request_read : Shape → List ℕ → Option Request
request_read shape text =
    when_read (behind_front (codes "join c") text) join_read
    (when_read (behind_front (codes "submit ") text) (submit_read shape)
    (when_read (behind_front (codes "done ") text) done_read
    (when_read (behind_front (codes "observe ") text) observe_read (plain_read text))))

-- The session of a line, and its request.
unfoldable pub asked_read : Shape → List ℕ → Option (ℕ × Request)
asked_read shape line = number_read (2 ^ 32) line >>= λ n. behind_front (codes " s") n.1 >>= λ more. number_read (2 ^ 16) more >>= λ session. behind_front (32 ∷ []) session.1 >>= λ last.
    request_read shape last >>= λ request. Some (session.0, request)
