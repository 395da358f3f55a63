-- What a trace says of its client: the values that it holds, its pending actions, its views, and the requests that it asked.
-- Events stand here with the latest first: `e ∷ t` is t, and then e. A trace itself has them in order.
use Rattle.std.specs.Prelude.{ℕ, suc, ℤ, Bool, true, false, ◌==◌, List, [], ◌∷◌, ◌++◌, map, reverse, Option, Some, None, unwrap_or, if◌then◌else◌}
use Rattle.std.specs.List.{zip}
use Rattle.sv_world.specs.declared.world.ClientId.{ClientId}
use Rattle.sv_world.specs.declared.world.ObjectId.{ObjectId}
use Rattle.sv_world.specs.Sets.{read_set, write_set}
use Rattle.sv_eval.specs.Evaluation.{effect_of}
use Rattle.sv_versions.specs.Held.{Held, read_below}
use Rattle.sv_pending.specs.Pending.{PendingAction, kept_of, redone, view_over}
use Rattle.sv_wire.specs.declared.message.ObjectValue.{ObjectValue}
use Rattle.sv_wire.specs.declared.message.Item.{Item}
use Rattle.sv_wire.specs.declared.message.Done1.{Done1}
use Rattle.sv_wire.specs.declared.message.Request.{Request}
use Rattle.sv_wire.specs.declared.message.Request.TheVariants as requests
use Rattle.sv_wire.specs.declared.message.Reply.{Reply}
use Rattle.sv_wire.specs.declared.message.Reply.TheVariants as replies
use Rattle.sv_client.specs.declared.trace.Event.{Event}
use Rattle.sv_client.specs.declared.trace.Event.TheVariants as events
use Rattle.sv_client.specs.declared.trace.Trace.{Trace}
use Rattle.sv_client.specs.Same.{are_same_values}

-- ---- Counts

abbrev pub is_join : Event → Bool
is_join (events.Join s) = true
is_join _ = false

-- How many sessions were begun.
abbrev pub joins : List Event → ℕ
joins [] = 0
joins (e ∷ t) = if is_join e then suc (joins t) else joins t

abbrev pub is_make : Event → Bool
is_make (events.Make action) = true
is_make _ = false

-- How many actions were made. The next one has the sequence number after that.
abbrev pub makes : List Event → ℕ
makes [] = 0
makes (e ∷ t) = if is_make e then suc (makes t) else makes t

-- The session that was begun last.
abbrev pub current_session : List Event → Option ℕ
current_session [] = None
current_session (events.Join s ∷ t) = Some s
current_session (_ ∷ t) = current_session t

abbrev pub is_session : Option ℕ → ℕ → Bool
is_session (Some n) s = n == s
is_session None s = false

-- ---- Values held

-- The values of a head, held at its reply's commit.
abbrev pub head_held : ℕ → List ObjectValue → List Held
head_held commit head = map (λ (h : ObjectValue). record { object = h.object.0; pos = commit; value = h.value }) head

-- The values of objects at a position.
abbrev pub held_at : ℕ → List ℕ → List (List ℤ) → List Held
held_at pos objects values = map (λ (p : ℕ × List ℤ). record { object = p.0; pos = pos; value = p.1 }) (zip objects values)

-- The result of an item: its action on what is held of each object that it reads at the greatest position below it.
abbrev pub item_result : List Held → Item → List (List ℤ)
item_result held item = (effect_of item.action (map (λ x. unwrap_or (read_below held x item.pos) []) (read_set item.action))).writes

abbrev pub item_held : List Held → Item → List Held
item_held held item = held_at item.pos (write_set item.action) (item_result held item)

-- What is held with the results of items, each computed on what the earlier ones left.
abbrev pub with_items : List Held → List Item → List Held
with_items held [] = held
with_items held (item ∷ items) = with_items (held ++ item_held held item) items

abbrev pub with_reply : List Held → Reply → List Held
with_reply held (replies.Welcome commit head) = held ++ head_held commit head
with_reply held (replies.Relay seq commit head items) = with_items (held ++ head_held commit head) items
with_reply held (replies.Seen last commit head items) = with_items (held ++ head_held commit head) items
with_reply held _ = held

-- All values that a client got or computed, in that order. None is ever dropped here.
abbrev pub held_of : List Event → List Held
held_of [] = []
held_of (events.Got s reply ∷ t) = with_reply (held_of t) reply
held_of (_ ∷ t) = held_of t

-- ---- Results reported

-- The results of items, one for each.
abbrev pub results_of : List Held → List Item → List Done1
results_of held [] = []
results_of held (item ∷ items) = record { pos = item.pos; values = item_result held item } ∷ results_of (held ++ item_held held item) items

-- A relay is answered by the Done with the results of its items, and so is what was seen, where it has items.
abbrev pub done_for : List Held → Reply → List Request
done_for held (replies.Relay seq commit head items) = requests.Done (results_of (held ++ head_held commit head) items) ∷ []
done_for held (replies.Seen last commit head []) = []
done_for held (replies.Seen last commit head (item ∷ items)) = requests.Done (results_of (held ++ head_held commit head) (item ∷ items)) ∷ []
done_for held _ = []

-- ---- Pending actions

abbrev pub last_values : List Done1 → Option (List (List ℤ))
last_values [] = None
last_values (d ∷ []) = Some d.values
last_values (d ∷ e ∷ ds) = last_values (e ∷ ds)

abbrev pub are_same : Option (List (List ℤ)) → Option (List (List ℤ)) → Bool
are_same (Some vs) (Some ws) = are_same_values vs ws
are_same _ _ = false

abbrev pub without_front : List PendingAction → List PendingAction
without_front [] = []
without_front (p ∷ ps) = ps

-- After the relay of the front's own action: the front is settled, and the others are redone where its result is not the one it kept.
abbrev pub settled_by : List Held → Option (List (List ℤ)) → List PendingAction → List PendingAction
settled_by held own [] = []
settled_by held own (p ∷ ps) = if are_same own p.kept then ps else redone held ps

-- What was seen tells news: it has a value or an item.
abbrev pub has_news : List ObjectValue → List Item → Bool
has_news [] [] = false
has_news _ _ = true

-- What a reply does to the pending actions, where `before` is held before it and `after` with it. A relay of the sequence number 0
-- answers a Poll.
abbrev pub pending_with : List Held → List Held → Reply → List PendingAction → List PendingAction
pending_with before after (replies.Relay seq commit head items) pending =
    if seq == 0 then pending else settled_by after (last_values (results_of (before ++ head_held commit head) items)) pending
pending_with before after (replies.Seen last commit head items) pending = if has_news head items then redone after pending else pending
pending_with before after (replies.Dropped seq chain far) pending = redone after (without_front pending)
pending_with before after (replies.Denied seq object) pending = redone after (without_front pending)
pending_with before after (replies.Settled seq pos) pending = redone after (without_front pending)
pending_with before after _ pending = pending

-- The actions that were made and are not settled, in order, each with its kept result.
abbrev pub pending_of : List Event → List PendingAction
pending_of [] = []
pending_of (events.Make action ∷ t) =
    pending_of t ++ record { seq = suc (makes t); action = action; kept = kept_of (held_of t) (pending_of t) action } ∷ []
pending_of (events.Got s reply ∷ t) = pending_with (held_of t) (with_reply (held_of t) reply) reply (pending_of t)
pending_of (_ ∷ t) = pending_of t

-- The view of an object: the stable value, overlaid by the client's own pending actions.
abbrev pub view_of : List Event → ℕ → Option (List ℤ)
view_of t x = view_over (held_of t) (pending_of t) x

-- ---- Requests

abbrev pub submit_of : PendingAction → Request
submit_of p = requests.Submit p.seq p.action

-- The requests that an event asks of session s, after the events t.
abbrev pub asked_by_event : ClientId → List ObjectId → List Event → Event → ℕ → List Request
asked_by_event client interest t (events.Join n) s =
    if n == s then requests.Join client (suc (joins t)) interest ∷ map submit_of (pending_of t) else []
asked_by_event client interest t (events.Make action) s =
    if is_session (current_session t) s then requests.Submit (suc (makes t)) action ∷ [] else []
asked_by_event client interest t events.Poll s = if is_session (current_session t) s then requests.Poll ∷ [] else []
asked_by_event client interest t (events.Observe objects wait) s = if is_session (current_session t) s then requests.Observe objects wait ∷ [] else []
asked_by_event client interest t events.Leave s = if is_session (current_session t) s then requests.Leave ∷ [] else []
asked_by_event client interest t (events.Got n reply) s = if n == s then done_for (held_of t) reply else []
asked_by_event client interest t _ s = []

abbrev pub asked : ClientId → List ObjectId → List Event → ℕ → List Request
asked client interest [] s = []
asked client interest (e ∷ t) s = asked client interest t s ++ asked_by_event client interest t e s

-- The requests of a session that a trace asks, in order.
abbrev pub requests_of : Trace → ℕ → List Request
requests_of trace s = asked trace.client trace.interest (reverse trace.events) s

-- The replies that were got in a session, in order.
abbrev pub got : List Event → ℕ → List Reply
got [] s = []
got (events.Got n reply ∷ t) s = if n == s then got t s ++ reply ∷ [] else got t s
got (_ ∷ t) s = got t s
