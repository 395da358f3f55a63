-- Reading actions and messages.
use Rattle.std.specs.Prelude.{◌≡◌, ℕ, ◌^◌, List, [], ◌∷◌, length, Result, Ok, Err, Option, ◌&&◌, ◌==◌, ◌-◌, nat_le, if◌then◌else◌}
use Rattle.std.specs.Int.{w32}
use Rattle.sv_world.specs.Limits.{most_reads, most_interest, most_items}
use Rattle.sv_world.specs.declared.action.Action.{Action}
use Rattle.sv_world.specs.declared.action.Point.{Point}
use Rattle.sv_wire.specs.declared.fault.Stop.{Stop}
use Rattle.sv_wire.specs.declared.fault.Malformed.{Malformed}
use Rattle.sv_wire.specs.declared.fault.WireFault.{WireFault}
use Rattle.sv_wire.specs.declared.fault.WireFault.TheVariants as faults
use Rattle.sv_wire.specs.declared.fault.WireCause.TheVariants.{Mask, Code, Rest}
use Rattle.sv_wire.specs.declared.message.Item.{Item}
use Rattle.sv_wire.specs.declared.message.ObjectValue.{ObjectValue}
use Rattle.sv_wire.specs.declared.message.Request.{Request}
use Rattle.sv_wire.specs.declared.message.Request.TheVariants as request
use Rattle.sv_wire.specs.declared.message.Reply.{Reply}
use Rattle.sv_wire.specs.declared.message.Reply.TheVariants as reply
use Rattle.sv_wire.specs.declared.kinds.RequestKind.{RequestKind}
use Rattle.sv_wire.specs.declared.kinds.RequestKind.TheVariants as request_kind
use Rattle.sv_wire.specs.declared.kinds.ReplyKind.{ReplyKind}
use Rattle.sv_wire.specs.declared.kinds.ReplyKind.TheVariants as reply_kind
use Rattle.sv_wire.specs.Steps.{Read, ◌>>=◌, stop, several}
use Rattle.sv_wire.specs.Fields.{most_held, most_seen, byte_from, number_from, int_from, count_from, objects_from, head_from, result_from}
use Rattle.sv_wire.specs.Nodes.{among, kind_in}
use Rattle.sv_wire.specs.Refusals.{last_code}
use Rattle.sv_wire.specs.Trees.{body_from}

-- a mask with no bit at or above the count of reads
unfoldable pub mask_from : ℕ → List ℕ → Read ℕ
mask_from count bytes = do
  mask ← number_from 2 bytes
  if nat_le (2 ^ count) mask.0 then stop bytes Mask else Ok (mask.0, mask.1)

unfoldable pub point_from : List ℕ → Read Point
point_from bytes = do
  x ← int_from w32 bytes
  y ← int_from w32 x.1
  Ok (record { x = x.0; y = y.0 }, y.1)

unfoldable pub action_from : List ℕ → Read Action
action_from bytes = do
  n ← count_from 1 most_reads bytes
  reads ← objects_from n.0 n.1
  mask ← mask_from n.0 reads.1
  origin ← point_from mask.1
  body ← body_from origin.1
  Ok (record { reads = reads.0; mask = mask.0; origin = origin.0; body = body.0 }, body.1)

unfoldable pub item_from : List ℕ → Read Item
item_from bytes = do
  pos ← number_from 4 bytes
  client ← number_from 2 pos.1
  seq ← number_from 4 client.1
  action ← action_from seq.1
  Ok (record { pos = pos.0; client = record { 0 = client.0 }; seq = seq.0; action = action.0 }, action.1)

unfoldable pub join_request_from : List ℕ → Read Request
join_request_from bytes = do
  client ← number_from 2 bytes
  life ← number_from 4 client.1
  n ← count_from 0 most_interest life.1
  interest ← objects_from n.0 n.1
  Ok (request.Join (record { 0 = client.0 }) life.0 interest.0, interest.1)

unfoldable pub submit_from : List ℕ → Read Request
submit_from bytes = do
  seq ← number_from 4 bytes
  action ← action_from seq.1
  Ok (request.Submit seq.0 action.0, action.1)

unfoldable pub done_from : List ℕ → Read Request
done_from bytes = do
  n ← count_from 1 most_items bytes
  results ← several result_from n.0 n.1
  Ok (request.Done results.0, results.1)

unfoldable pub observe_from : List ℕ → Read Request
observe_from bytes = do
  n ← count_from 1 most_reads bytes
  objects ← objects_from n.0 n.1
  wait ← number_from 2 objects.1
  Ok (request.Observe objects.0 wait.0, wait.1)

unfoldable pub request_kind_of : ℕ → Option RequestKind
request_kind_of = among
    ((0x01, request_kind.Join)
    ∷ (0x03, request_kind.Done)
    ∷ (0x04, request_kind.Poll)
    ∷ (0x05, request_kind.Leave)
    ∷ (0x06, request_kind.Submit)
    ∷ (0x07, request_kind.Observe)
    ∷ [])

abbrev pub request_of : RequestKind → List ℕ → Read Request
request_of request_kind.Join bytes = join_request_from bytes
request_of request_kind.Submit bytes = submit_from bytes
request_of request_kind.Done bytes = done_from bytes
request_of request_kind.Poll bytes = Ok (request.Poll, bytes)
request_of request_kind.Observe bytes = observe_from bytes
request_of request_kind.Leave bytes = Ok (request.Leave, bytes)

-- a request at the front of the bytes
unfoldable pub request_front : List ℕ → Read Request
request_front bytes = do
  b ← byte_from bytes
  kind ← kind_in (request_kind_of b.0) bytes
  request_of kind b.1

unfoldable pub welcome_from : List ℕ → Read Reply
welcome_from bytes = do
  commit ← number_from 4 bytes
  head ← head_from most_held commit.1
  Ok (reply.Welcome commit.0 head.0, head.1)

-- a head of at most so many objects, and the actions that are evaluated on it
unfoldable pub work_from : ℕ → List ℕ → Read (List ObjectValue × List Item)
work_from most bytes = do
  head ← head_from most bytes
  n ← count_from 0 most_items head.1
  items ← several item_from n.0 n.1
  Ok ((head.0, items.0), items.1)

unfoldable pub relay_from : List ℕ → Read Reply
relay_from bytes = do
  seq ← number_from 4 bytes
  commit ← number_from 4 seq.1
  work ← work_from most_held commit.1
  Ok (reply.Relay seq.0 commit.0 work.0.0 work.0.1, work.1)

unfoldable pub seen_from : List ℕ → Read Reply
seen_from bytes = do
  last ← number_from 4 bytes
  commit ← number_from 4 last.1
  work ← work_from most_seen commit.1
  Ok (reply.Seen last.0 commit.0 work.0.0 work.0.1, work.1)

unfoldable pub dropped_from : List ℕ → Read Reply
dropped_from bytes = do
  seq ← number_from 4 bytes
  chain ← number_from 4 seq.1
  far ← number_from 4 chain.1
  Ok (reply.Dropped seq.0 chain.0 far.0, far.1)

unfoldable pub denied_from : List ℕ → Read Reply
denied_from bytes = do
  seq ← number_from 4 bytes
  object ← number_from 2 seq.1
  Ok (reply.Denied seq.0 (record { 0 = object.0 }), object.1)

unfoldable pub settled_from : List ℕ → Read Reply
settled_from bytes = do
  seq ← number_from 4 bytes
  pos ← number_from 4 seq.1
  Ok (reply.Settled seq.0 pos.0, pos.1)

unfoldable pub noted_from : List ℕ → Read Reply
noted_from bytes = do
  commit ← number_from 4 bytes
  Ok (reply.Noted commit.0, commit.1)

-- the code of a refusal
unfoldable pub code_from : List ℕ → Read ℕ
code_from bytes = do
  n ← byte_from bytes
  if nat_le 1 n.0 && nat_le n.0 last_code then Ok (n.0, n.1) else stop bytes Code

unfoldable pub refused_from : List ℕ → Read Reply
refused_from bytes = do
  code ← code_from bytes
  detail ← number_from 4 code.1
  Ok (reply.Refused code.0 detail.0, detail.1)

unfoldable pub reply_kind_of : ℕ → Option ReplyKind
reply_kind_of = among
    ((0x81, reply_kind.Welcome)
    ∷ (0x84, reply_kind.Settled)
    ∷ (0x85, reply_kind.Noted)
    ∷ (0x86, reply_kind.Idle)
    ∷ (0x87, reply_kind.Refused)
    ∷ (0x88, reply_kind.Bye)
    ∷ (0x89, reply_kind.Relay)
    ∷ (0x8a, reply_kind.Dropped)
    ∷ (0x8b, reply_kind.Seen)
    ∷ (0x8c, reply_kind.Denied)
    ∷ [])

abbrev pub reply_of : ReplyKind → List ℕ → Read Reply
reply_of reply_kind.Welcome bytes = welcome_from bytes
reply_of reply_kind.Relay bytes = relay_from bytes
reply_of reply_kind.Dropped bytes = dropped_from bytes
reply_of reply_kind.Denied bytes = denied_from bytes
reply_of reply_kind.Seen bytes = seen_from bytes
reply_of reply_kind.Settled bytes = settled_from bytes
reply_of reply_kind.Noted bytes = noted_from bytes
reply_of reply_kind.Idle bytes = Ok (reply.Idle, bytes)
reply_of reply_kind.Refused bytes = refused_from bytes
reply_of reply_kind.Bye bytes = Ok (reply.Bye, bytes)

-- a reply at the front of the bytes
unfoldable pub reply_front : List ℕ → Read Reply
reply_front bytes = do
  b ← byte_from bytes
  kind ← kind_in (reply_kind_of b.0) bytes
  reply_of kind b.1

-- one message and nothing after it
unfoldable pub whole : {A : Type 0} → (List ℕ → Read A) → List ℕ → Result A Stop
whole reader bytes = do
  m ← reader bytes
  if length m.1 == 0 then Ok m.0 else stop m.1 Rest

-- The first refused field of a payload is not farther behind its first byte.
abbrev pub farthest_field : ℕ
farthest_field = 40000

-- The first refused field is named by the offset of its first byte.
abbrev pub placed : {A : Type 0} → List ℕ → Result A Stop → Result A Malformed
placed payload (Ok m) = Ok m
placed payload (Err s) = Err (record { at = length payload - s.left; cause = s.cause })

-- What a payload is read as: a message, or the first refused field from the left.
unfoldable pub request_at : List ℕ → Result Request Malformed
request_at payload = placed payload (whole request_front payload)

unfoldable pub reply_at : List ℕ → Result Reply Malformed
reply_at payload = placed payload (whole reply_front payload)

-- What a call answered is what reading gives, unless memory ran out.
abbrev pub Refuses : {A : Type 0} → WireFault → Result A Malformed → Type 0
Refuses faults.Memory read = Unit {0}
Refuses (faults.Malformed m) read = read ≡ Err m

abbrev pub Decodes : {A : Type 0} → Result A WireFault → Result A Malformed → Type 0
Decodes (Ok m) read = read ≡ Ok m
Decodes (Err e) read = Refuses e read
