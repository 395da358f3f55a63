-- Which replies a client takes, and the first fault of one that it refuses.
-- Events stand here with the latest first: `e ∷ t` is t, and then e.
use Rattle.std.specs.Prelude.{ℕ, suc, Bool, false, ◌==◌, ◌&&◌, ◌||◌, not, nat_le, nat_lt, max, is_none, List, [], ◌∷◌, ◌++◌, map, length, drop, Option, Some, None, if◌then◌else◌}
use Rattle.std.specs.List.{list_any}
use Rattle.sv_world.specs.declared.world.ClientId.{ClientId}
use Rattle.sv_world.specs.declared.world.ObjectId.{ObjectId}
use Rattle.sv_world.specs.declared.world.Shape.{Shape}
use Rattle.sv_world.specs.Faults.{first_fault_of_action, is_ascending}
use Rattle.sv_world.specs.Limits.{most_positions}
use Rattle.sv_world.specs.Sets.{numbers_of, read_set}
use Rattle.sv_versions.specs.Held.{Held, read_below}
use Rattle.sv_pending.specs.Pending.{PendingAction}
use Rattle.sv_wire.specs.declared.message.ObjectValue.{ObjectValue}
use Rattle.sv_wire.specs.declared.message.Item.{Item}
use Rattle.sv_wire.specs.declared.message.Request.{Request}
use Rattle.sv_wire.specs.declared.message.Reply.{Reply}
use Rattle.sv_wire.specs.declared.message.Reply.TheVariants as replies
use Rattle.sv_client.specs.declared.kinds.Awaited.{Awaited}
use Rattle.sv_client.specs.declared.kinds.Awaited.TheVariants as kinds
use Rattle.sv_client.specs.declared.trace.Event.{Event}
use Rattle.sv_client.specs.declared.trace.Event.TheVariants as events
use Rattle.sv_client.specs.Same.{is_same_action}
use Rattle.sv_client.specs.Kinds.{kind_of, allows_awaited}
use Rattle.sv_client.specs.Traces.{current_session, held_of, head_held, item_held, pending_of, asked, got}

-- Who a client is: its number and its interest, and the shape of its world.
pub record Identity : Type 0 where
  pub client : ClientId
  pub interest : List ObjectId
  pub shape : Shape

-- ---- What is awaited, and what was told

-- The requests of a session that have no reply yet, in order.
abbrev pub unanswered : Identity → List Event → Option ℕ → List Request
unanswered who t None = []
unanswered who t (Some s) = drop (length (got t s)) (asked who.client who.interest t s)

-- The requests that have no reply yet: those of the session that was begun last. What was outstanding in an older session is forgotten.
abbrev pub outstanding : Identity → List Event → List Request
outstanding who t = unanswered who t (current_session t)

-- The commit that a reply tells. Settled tells none.
abbrev pub commit_in : Reply → Option ℕ
commit_in (replies.Welcome commit head) = Some commit
commit_in (replies.Relay seq commit head items) = Some commit
commit_in (replies.Seen last commit head items) = Some commit
commit_in (replies.Noted commit) = Some commit
commit_in _ = None

abbrev pub told_with : Option ℕ → ℕ → ℕ
told_with None told = told
told_with (Some commit) told = max commit told

abbrev pub told_by : Reply → ℕ → ℕ
told_by reply told = told_with (commit_in reply) told

-- The greatest commit that the client was told, 0 at first.
abbrev pub told : List Event → ℕ
told [] = 0
told (events.Got s reply ∷ t) = told_by reply (told t)
told (_ ∷ t) = told t

-- ---- Kinds

-- The replies that a request may have. Refused is never among them.
abbrev pub allows : Request → Reply → Bool
allows request reply = allows_awaited (kind_of request) reply

-- ---- Order

abbrev pub head_of : Reply → List ObjectValue
head_of (replies.Welcome commit head) = head
head_of (replies.Relay seq commit head items) = head
head_of (replies.Seen last commit head items) = head
head_of _ = []

abbrev pub items_of : Reply → List Item
items_of (replies.Relay seq commit head items) = items
items_of (replies.Seen last commit head items) = items
items_of _ = []

abbrev pub head_ascends : List ObjectValue → Bool
head_ascends head = is_ascending (map (λ (h : ObjectValue). h.object.0) head)

abbrev pub items_ascend : List Item → Bool
items_ascend items = is_ascending (map (λ (i : Item). i.pos) items)

abbrev pub begins_by : ℕ → List Item → Bool
begins_by commit [] = false
begins_by commit (item ∷ items) = nat_le item.pos commit

-- Some item stands at or below the commit, where items ascend: the first one does.
abbrev pub begins_low : Option ℕ → List Item → Bool
begins_low None items = false
begins_low (Some commit) items = begins_by commit items

abbrev pub goes_back : Option ℕ → ℕ → Bool
goes_back None told = false
goes_back (Some commit) told = nat_lt commit told

-- What was seen stands below its commit or below an item, or where no action may stand.
abbrev pub is_badly_cut : Reply → Bool
is_badly_cut (replies.Seen last commit head items) =
    nat_lt last commit || list_any (λ (i : Item). nat_lt last i.pos) items || nat_lt most_positions last
is_badly_cut _ = false

-- The objects of the head do not ascend, or the positions of the items do not; the first item stands at or below the reply's commit; this is
-- below a commit that was told before; or what was seen is badly cut.
abbrev pub is_disordered : ℕ → Reply → Bool
is_disordered told reply = not (head_ascends (head_of reply)) || not (items_ascend (items_of reply))
    || begins_low (commit_in reply) (items_of reply) || goes_back (commit_in reply) told || is_badly_cut reply

-- The same, after the events t.
abbrev pub is_out_of_order : List Event → Reply → Bool
is_out_of_order t reply = is_disordered (told t) reply

-- ---- Items

abbrev pub is_bad_head : Shape → List ObjectValue → Bool
is_bad_head shape head = list_any (λ (h : ObjectValue). nat_le shape.objects h.object.0 || not (length h.value == shape.attrs)) head

-- The reply to the Submit of a pending action is for that one.
abbrev pub is_for_front : ℕ → List PendingAction → Bool
is_for_front seq [] = false
is_for_front seq (p ∷ ps) = seq == p.seq

-- The item is the pending action as the client's own.
abbrev pub is_own : ClientId → PendingAction → Item → Bool
is_own id p item = item.client.0 == id.0 && item.seq == p.seq && is_same_action item.action p.action

-- The items end with the front pending action as the client's own.
abbrev pub ends_as_own : ClientId → List PendingAction → List Item → Bool
ends_as_own id (p ∷ ps) (item ∷ []) = is_own id p item
ends_as_own id (p ∷ ps) (item ∷ other ∷ items) = ends_as_own id (p ∷ ps) (other ∷ items)
ends_as_own id _ _ = false

abbrev pub has_bad_action : Shape → List Item → Bool
has_bad_action shape items = list_any (λ (i : Item). not (is_none (first_fault_of_action shape i.action))) items

-- What a relay must have besides good actions, by the kind of the request that it answers.
abbrev pub is_good_answer : ClientId → List PendingAction → Option Awaited → ℕ → List Item → Bool
is_good_answer id pending (Some kinds.Poll) seq items = seq == 0
is_good_answer id pending _ seq items = is_for_front seq pending && ends_as_own id pending items

abbrev pub is_bad_answer : ClientId → Shape → List PendingAction → Option Awaited → ℕ → List Item → Bool
is_bad_answer id shape pending kind seq items =
    length items == 0 || has_bad_action shape items || not (is_good_answer id pending kind seq items)

-- The head or an item is none of this world, or the reply is not for the front pending action.
abbrev pub is_unfit : ClientId → Shape → List PendingAction → Option Awaited → Reply → Bool
is_unfit id shape pending kind (replies.Welcome commit head) = is_bad_head shape head
is_unfit id shape pending kind (replies.Relay seq commit head items) =
    is_bad_head shape head || is_bad_answer id shape pending kind seq items
is_unfit id shape pending kind (replies.Seen last commit head items) = is_bad_head shape head || has_bad_action shape items
is_unfit id shape pending kind (replies.Dropped seq chain far) = not (is_for_front seq pending)
is_unfit id shape pending kind (replies.Denied seq object) = not (is_for_front seq pending)
is_unfit id shape pending kind (replies.Settled seq pos) = not (is_for_front seq pending)
is_unfit id shape pending kind _ = false

-- The same, of a client and of the request that is answered.
abbrev pub ends_with_front : Identity → List PendingAction → List Item → Bool
ends_with_front who pending items = ends_as_own who.client pending items

abbrev pub is_good_relay : Identity → List PendingAction → Request → ℕ → List Item → Bool
is_good_relay who pending request seq items = is_good_answer who.client pending (kind_of request) seq items

abbrev pub is_bad_relay : Identity → List PendingAction → Request → ℕ → List Item → Bool
is_bad_relay who pending request seq items = is_bad_answer who.client who.shape pending (kind_of request) seq items

abbrev pub has_bad_item : Identity → List PendingAction → Request → Reply → Bool
has_bad_item who pending request reply = is_unfit who.client who.shape pending (kind_of request) reply

-- ---- Missing values

-- The first of the objects that has no value below a position.
abbrev pub first_unheld : List Held → ℕ → List ℕ → Option ℕ
first_unheld held pos [] = None
first_unheld held pos (x ∷ xs) = if is_none (read_below held x pos) then Some x else first_unheld held pos xs

abbrev pub missing_at : ℕ → Option ℕ → Option (ℕ × ℕ) → Option (ℕ × ℕ)
missing_at pos (Some x) other = Some (pos, x)
missing_at pos None other = other

-- The first item, and the first object that it reads, of which no value below the item is held.
abbrev pub first_missing_of : List Held → List Item → Option (ℕ × ℕ)
first_missing_of held [] = None
first_missing_of held (item ∷ items) =
    missing_at item.pos (first_unheld held item.pos (read_set item.action)) (first_missing_of (held ++ item_held held item) items)

-- The objects that a request observes.
abbrev pub observed_by : Option Awaited → List ℕ
observed_by (Some (kinds.Observe objects)) = numbers_of objects
observed_by _ = []

-- The objects that the first of some requests observes.
abbrev pub observed_first : List Request → List ℕ
observed_first [] = []
observed_first (request ∷ requests) = observed_by (kind_of request)

-- The objects that the oldest outstanding request observes: those that are seen by the next reply.
abbrev pub observed_now : Identity → List Event → List ℕ
observed_now who t = observed_first (outstanding who t)

-- The first item that lacks a value, and the first object of which it does; and where none does, the first of the objects that are seen of which no
-- value at or below `last` is held.
abbrev pub first_missing_seen : List Held → List Item → ℕ → List ℕ → Option (ℕ × ℕ)
first_missing_seen held [] last xs = missing_at (suc last) (first_unheld held (suc last) xs) None
first_missing_seen held (item ∷ items) last xs =
    missing_at item.pos (first_unheld held item.pos (read_set item.action)) (first_missing_seen (held ++ item_held held item) items last xs)

abbrev pub missing_in : List Held → Option Awaited → Reply → Option (ℕ × ℕ)
missing_in held kind (replies.Relay seq commit head items) = first_missing_of (held ++ head_held commit head) items
missing_in held kind (replies.Seen last commit head items) = first_missing_seen (held ++ head_held commit head) items last (observed_by kind)
missing_in held kind _ = None

-- ---- The five faults

pub data Fault : Type 0 where
  Unasked : Fault
  WrongKind : Fault
  BadOrder : Fault
  BadItem : Fault
  Missing : ℕ → ℕ → Fault

abbrev pub missing_fault : Option (ℕ × ℕ) → Option Fault
missing_fault None = None
missing_fault (Some (pos, object)) = Some (Missing pos object)

abbrev pub fault_for : Identity → List Event → Request → Reply → Option Fault
fault_for who t request reply = if not (allows request reply) then Some WrongKind
    else if is_out_of_order t reply then Some BadOrder
    else if has_bad_item who (pending_of t) request reply then Some BadItem
    else missing_fault (missing_in (held_of t) (kind_of request) reply)

abbrev pub fault_after : Identity → List Event → List Request → Reply → Option Fault
fault_after who t [] reply = Some Unasked
fault_after who t (request ∷ requests) reply = fault_for who t request reply

-- The first of the five faults of a reply that applies, after the events t, where the oldest outstanding request is the one it answers.
abbrev pub first_fault_of_reply : Identity → List Event → Reply → Option Fault
first_fault_of_reply who t reply = fault_after who t (outstanding who t) reply
