-- What a client asks is within the grammar of messages, whatever it was replied.
use Rattle.std.proofs.Common.{◌≡◌, ℕ, suc, ◌≤◌, Bool, true, false, ◌&&◌, ◌||◌, nat_lt, nat_le, not, eqb, List, [], ◌∷◌, ◌++◌, length, map, ℤ, Option, None, refl, sym, ap, ◌∙◌, subst, zero-add, arith, eq-eqb}
use Rattle.std.specs.Prelude.{All, is_none, unwrap_or, if◌then◌else◌}
use Rattle.std.specs.List.{AllByRecursion, list_any}
use Rattle.std.proofs.lemmas.List.{length-map}
use Rattle.std.proofs.lemmas.List.Elements.{All-nil, All-cons, All-head, All-tail, All-from_recursion}
use Rattle.std.proofs.lemmas.Bool.{cond-true, or_parts, and_parts, ltb-true, leb-true}
use Rattle.sv_world.specs.Faults.{first_fault_of_action, is_ascending, may_be_observed, IsGoodAction}
use Rattle.sv_world.proofs.Good.{good_of_none}
use Rattle.sv_world.specs.declared.action.Action.{Action}
use Rattle.sv_world.specs.declared.world.ObjectId.{ObjectId}
use Rattle.sv_world.specs.declared.world.Shape.{Shape}
use Rattle.sv_world.specs.Limits.{most_reads}
use Rattle.sv_world.specs.Sets.{numbers_of, read_set}
use Rattle.sv_eval.proofs.Effects.{effect_counted}
use Rattle.sv_versions.specs.Held.{Held, read_below}
use Rattle.sv_pending.specs.Pending.{PendingAction, kept_of, redone_after, redone}
use Rattle.sv_pending.specs.Shapes.{IsLong}
use Rattle.sv_wire.specs.declared.message.Item.{Item}
use Rattle.sv_wire.specs.declared.message.Request.{Request}
use Rattle.sv_wire.specs.declared.message.Request.TheVariants as requests
use Rattle.sv_wire.specs.declared.message.Reply.{Reply}
use Rattle.sv_wire.specs.declared.message.Reply.TheVariants as replies
use Rattle.sv_wire.specs.Grammar.{IsWireValue, IsWireAction, IsWireResult, IsWireDone, IsWireObserved, IsWireRequest, IsWireReply}
use Rattle.sv_client.specs.declared.trace.Event.{Event}
use Rattle.sv_client.specs.declared.trace.Event.TheVariants as events
use Rattle.sv_client.specs.Traces.{joins, makes, head_held, item_result, item_held, with_reply, held_of, results_of, done_for, without_front, are_same, settled_by, pending_with, has_news, pending_of, submit_of}
use Rattle.sv_client.specs.Taking.{Identity, is_bad_head, is_bad_relay, is_good_relay, has_bad_item, observed_by, first_unheld, first_missing_of, missing_in, first_fault_of_reply}
use Rattle.sv_client.specs.Proper.{AreInTurn, IsGoodInterest, IsReadyToMake, MayCome, MayObserve}
use Rattle.sv_client.specs.Kinds.{kind_of}
use Rattle.sv_client.specs.Seen.{latest_session, newly_asked}
use Rattle.sv_client.specs.Answers.{got_now, IsServed}
use Rattle.sv_client.proofs.Takes.{newly_got}
use Rattle.sv_world.specs.Worlds.{IsGoodShape}
use Rattle.sv_client.proofs.Sendable.{wire_action, masked_fewer}
use Rattle.sv_client.proofs.Items.{results_count}
use Rattle.sv_client.proofs.Looking.{none_is}
use Rattle.sv_client.proofs.Wells.{is_well}
use Rattle.sv_client.proofs.Sizes.{AreLong, with_head, result_long, item_more, both_found, items_found, held_long}

-- ---- Pending actions

-- It can be sent, and its number is no 0.
abbrev pub IsWirePending : PendingAction → Type 0
IsWirePending p = IsWireAction p.action × (1 ≤ p.seq)

abbrev pub AreWirePending : List PendingAction → Type 0
AreWirePending ps = AllByRecursion IsWirePending ps

pushed : (ps : List PendingAction) (p : PendingAction) → AreWirePending ps → IsWirePending p → AreWirePending (ps ++ p ∷ [])
pushed [] p all h = (h, tt)
pushed (q ∷ ps) p all h = (all.0, pushed ps p all.1 h)

redone_from : (held : List Held) (earlier ps : List PendingAction) → AreWirePending earlier → AreWirePending ps → AreWirePending (redone_after held earlier ps)
redone_from held earlier [] before all = before
redone_from held earlier (p ∷ ps) before all =
    redone_from held (earlier ++ record p { kept = kept_of held earlier p.action } ∷ []) ps (pushed earlier (record p { kept = kept_of held earlier p.action }) before all.0) all.1

without : (ps : List PendingAction) → AreWirePending ps → AreWirePending (without_front ps)
without [] all = tt
without (p ∷ ps) all = all.1

either : (b : Bool) (ps qs : List PendingAction) → AreWirePending ps → AreWirePending qs → AreWirePending (if b then ps else qs)
either true ps qs s t = s
either false ps qs s t = t

settled : (held : List Held) (own : Option (List (List ℤ))) (ps : List PendingAction) → AreWirePending ps → AreWirePending (settled_by held own ps)
settled held own [] all = tt
settled held own (p ∷ ps) all = either (are_same own p.kept) ps (redone held ps) all.1 (redone_from held [] ps tt all.1)

replied : (before after : List Held) (reply : Reply) (ps : List PendingAction) → AreWirePending ps → AreWirePending (pending_with before after reply ps)
replied before after (replies.Relay seq commit head items) ps all = either (eqb seq 0) ps _ all (settled after _ ps all)
replied before after (replies.Seen last commit head items) ps all = either (has_news head items) _ ps (redone_from after [] ps tt all) all
replied before after (replies.Dropped seq chain far) ps all = redone_from after [] (without_front ps) tt (without ps all)
replied before after (replies.Denied seq object) ps all = redone_from after [] (without_front ps) tt (without ps all)
replied before after (replies.Settled seq pos) ps all = redone_from after [] (without_front ps) tt (without ps all)
replied before after (replies.Welcome commit head) ps all = all
replied before after (replies.Noted commit) ps all = all
replied before after replies.Idle ps all = all
replied before after (replies.Refused code detail) ps all = all
replied before after replies.Bye ps all = all

pub pending_in_turn : (who : Identity) (first : ℕ) (t : List Event) → AreInTurn who first t → AreWirePending (pending_of t)
pending_in_turn who first [] p = tt
pending_in_turn who first (events.Make a ∷ t) p =
    pushed (pending_of t) _ (pending_in_turn who first t p.1) (wire_action who.shape a (good_of_none who.shape a p.0.good), omega arith)
pending_in_turn who first (events.Got s reply ∷ t) p = replied (held_of t) (with_reply (held_of t) reply) reply (pending_of t) (pending_in_turn who first t p.1)
pending_in_turn who first (events.Join s ∷ t) p = pending_in_turn who first t p.1
pending_in_turn who first (events.Poll ∷ t) p = pending_in_turn who first t p.1
pending_in_turn who first (events.Observe os wait ∷ t) p = pending_in_turn who first t p.1
pending_in_turn who first (events.Leave ∷ t) p = pending_in_turn who first t p.1
pending_in_turn who first (events.Cut ∷ t) p = pending_in_turn who first t p.1
pending_in_turn who first (events.Quit ∷ t) p = pending_in_turn who first t p.1
pending_in_turn who first (events.Show objects ∷ t) p = pending_in_turn who first t p.1

submits_are : (ps : List PendingAction) → AreWirePending ps → AllByRecursion IsWireRequest (map submit_of ps)
submits_are [] all = tt
submits_are (p ∷ ps) all = (all.0.0, submits_are ps all.1)

-- ---- Joins, and requests of one

pub join_asks_messages : (who : Identity) (t : List Event) → IsGoodInterest who → AreInTurn who 0 t → All IsWireRequest (newly_asked who t (events.Join (joins t)))
join_asks_messages who t good p =
    let n = joins t in
    let list = requests.Join who.client (suc n) who.interest ∷ map submit_of (pending_of t) in
    let all : AllByRecursion IsWireRequest list = (record { few = good.few; ascending = good.ascending }, submits_are (pending_of t) (pending_in_turn who 0 t p)) in
    subst (All IsWireRequest) (sym (cond-true (eqb n n) list [] (eq-eqb n n refl))) (All-from_recursion IsWireRequest list all)

-- Objects that may be observed are within the grammar.
wire_observed : (n : ℕ) (os : List ObjectId) → may_be_observed n (numbers_of os) ≡ true → IsWireObserved os
wire_observed n os good =
    let f = and_parts (nat_lt 0 (length (numbers_of os)) && nat_le (length (numbers_of os)) most_reads && is_ascending (numbers_of os)) _ good in
    let g = and_parts (nat_lt 0 (length (numbers_of os)) && nat_le (length (numbers_of os)) most_reads) (is_ascending (numbers_of os)) f.0 in
    let h = and_parts (nat_lt 0 (length (numbers_of os))) (nat_le (length (numbers_of os)) most_reads) g.0 in
    let long = length-map os (λ (o : ObjectId). o.0) in
    let some = ltb-true 0 (length (numbers_of os)) h.0 in
    let few = leb-true (length (numbers_of os)) most_reads h.1 in
    record { some = omega (arith, some, long); few = omega (arith, few, long); ascending = g.1 }

only : (b : Bool) (q r : Request) → r ∷ [] ≡ (if b then q ∷ [] else []) → r ≡ q
only true q r e = cc
only false q r e = cc

pub make_asks_message : (who : Identity) (t : List Event) (a : Action) (request : Request) → IsReadyToMake who t a → request ∷ [] ≡ newly_asked who t (events.Make a) → IsWireRequest request
make_asks_message who t a request may e =
    subst IsWireRequest (sym (only _ _ request e)) (wire_action who.shape a (good_of_none who.shape a may.good))

pub poll_asks_message : (who : Identity) (t : List Event) (request : Request) → request ∷ [] ≡ newly_asked who t events.Poll → IsWireRequest request
poll_asks_message who t request e = subst IsWireRequest (sym (only _ requests.Poll request e)) tt

pub observe_asks_message : (who : Identity) (t : List Event) (os : List ObjectId) (wait : ℕ) (request : Request) → MayObserve who t os → request ∷ [] ≡ newly_asked who t (events.Observe os wait) → IsWireRequest request
observe_asks_message who t os wait request may e = subst IsWireRequest (sym (only _ (requests.Observe os wait) request e)) (wire_observed who.shape.objects os may.good)

pub leave_asks_message : (who : Identity) (t : List Event) (request : Request) → request ∷ [] ≡ newly_asked who t events.Leave → IsWireRequest request
leave_asks_message who t request e = subst IsWireRequest (sym (only _ requests.Leave request e)) tt

-- ---- Results

abbrev has_fault : Shape → Item → Bool
has_fault shape i = not (is_none (first_fault_of_action shape i.action))

module _ (shape : Shape) (good : IsGoodShape shape) where
  wire_value : (v : List ℤ) → IsLong shape.attrs v → IsWireValue v
  wire_value v e = (omega (arith, e, good.some_attrs), omega (arith, e, good.few_attrs))

  wire_values : (vs : List (List ℤ)) → All (IsLong shape.attrs) vs → All IsWireValue vs
  wire_values [] all = All-nil IsWireValue
  wire_values (v ∷ vs) all = All-cons IsWireValue v vs (wire_value v (All-head (IsLong shape.attrs) v vs all)) (wire_values vs (All-tail (IsLong shape.attrs) v vs all))

  result_is : (held : List Held) (item : Item) → AreLong shape.attrs held → IsGoodAction shape item.action → first_unheld held item.pos (read_set item.action) ≡ None →
      IsWireResult (record { pos = item.pos; values = item_result held item })
  result_is held item long action found =
      let a = item.action in
      let as_many = length-map (read_set a) (λ x. unwrap_or (read_below held x item.pos) []) ∙ length-map a.reads (λ (o : ObjectId). o.0) in
      let count = effect_counted a (map (λ x. unwrap_or (read_below held x item.pos) []) (read_set a)) as_many in
      let written = masked_fewer a.mask 0 (read_set a) in
      let reads = length-map a.reads (λ (o : ObjectId). o.0) in
      record {
        few = omega (arith, count, written, reads, action.few_reads);
        values = wire_values (item_result held item) (result_long shape.attrs held item long found);
      }

  results_are : (held : List Held) (items : List Item) → AreLong shape.attrs held → list_any (has_fault shape) items ≡ false → first_missing_of held items ≡ None →
      AllByRecursion IsWireResult (results_of held items)
  results_are held [] long fine found = tt
  results_are held (item ∷ items) long fine found =
      let f = or_parts (has_fault shape item) (list_any (has_fault shape) items) fine in
      let g = both_found shape.attrs item.pos (first_unheld held item.pos (read_set item.action)) (first_missing_of (held ++ item_held held item) items) found in (
        result_is held item long (good_of_none shape item.action (none_is (first_fault_of_action shape item.action) f.0)) g.0,
        results_are (held ++ item_held held item) items (item_more shape.attrs held item long g.0) f.1 g.1,
      )

some_items : (items : List Item) → eqb (length items) 0 ≡ false → 1 ≤ length items
some_items [] e = cc
some_items (i ∷ is) e = omega arith

-- The Done of items that have their values can be sent.
done_is : (shape : Shape) → IsGoodShape shape → (held : List Held) (items : List Item) → 1 ≤ length items → length items ≤ 33 → AreLong shape.attrs held → list_any (has_fault shape) items ≡ false →
    first_missing_of held items ≡ None → All IsWireRequest (requests.Done (results_of held items) ∷ [])
done_is shape good held items some few long fine found =
    let results = results_of held items in
    let done : IsWireDone results =
    record {
      some = omega (arith, results_count held items, some);
      few = omega (arith, results_count held items, few);
      each = All-from_recursion IsWireResult results (results_are shape good held items long fine found);
    } in
    All-cons IsWireRequest (requests.Done results) [] done (All-nil IsWireRequest)

dones_are : (who : Identity) (t : List Event) (request : Request) (reply : Reply) → IsGoodShape who.shape → AreInTurn who 0 t → IsWireReply reply →
    has_bad_item who (pending_of t) request reply ≡ false → missing_in (held_of t) (kind_of request) reply ≡ None → All IsWireRequest (done_for (held_of t) reply)
dones_are who t request (replies.Relay seq commit head items) shape p wire bad found =
    let f = or_parts (is_bad_head who.shape head) (is_bad_relay who (pending_of t) request seq items) bad in
    let g = or_parts (eqb (length items) 0 || list_any (has_fault who.shape) items) (not (is_good_relay who (pending_of t) request seq items)) f.1 in
    let h = or_parts (eqb (length items) 0) (list_any (has_fault who.shape) items) g.0 in
    let held = held_of t ++ head_held commit head in
    let long = with_head who.shape.attrs who.shape (held_of t) commit head refl (held_long who 0 t p) f.0 in
    done_is who.shape shape held items (some_items items h.0) wire.few long h.1 found
dones_are who t request (replies.Seen last commit head []) shape p wire bad found = All-nil IsWireRequest
dones_are who t request (replies.Seen last commit head (item ∷ items)) shape p wire bad found =
    let f = or_parts (is_bad_head who.shape head) (list_any (has_fault who.shape) (item ∷ items)) bad in
    let held = held_of t ++ head_held commit head in
    let long = with_head who.shape.attrs who.shape (held_of t) commit head refl (held_long who 0 t p) f.0 in
    done_is who.shape shape held (item ∷ items) (omega arith) wire.few long f.1 (items_found who.shape.attrs held (item ∷ items) last (observed_by (kind_of request)) found)
dones_are who t request (replies.Welcome commit head) shape p wire bad found = All-nil IsWireRequest
dones_are who t request (replies.Dropped seq chain far) shape p wire bad found = All-nil IsWireRequest
dones_are who t request (replies.Denied seq object) shape p wire bad found = All-nil IsWireRequest
dones_are who t request (replies.Settled seq pos) shape p wire bad found = All-nil IsWireRequest
dones_are who t request (replies.Noted commit) shape p wire bad found = All-nil IsWireRequest
dones_are who t request replies.Idle shape p wire bad found = All-nil IsWireRequest
dones_are who t request (replies.Refused code detail) shape p wire bad found = All-nil IsWireRequest
dones_are who t request replies.Bye shape p wire bad found = All-nil IsWireRequest

-- A reply that is within the grammar, and that a client takes, makes it ask what is within the grammar.
pub reply_asks_messages : (who : Identity) (t : List Event) (reply : Reply) → IsGoodShape who.shape → AreInTurn who 0 t → IsWireReply reply → first_fault_of_reply who t reply ≡ None →
    All IsWireRequest (newly_asked who t (got_now t reply))
reply_asks_messages who t reply shape p wire fine =
    let well = is_well who t reply fine in
    subst (All IsWireRequest) (sym (newly_got who t reply)) (dones_are who t well.request reply shape p wire well.good well.found)

-- ---- Whatever it asks

asks_if : (b : Bool) (r : Request) → IsWireRequest r → All IsWireRequest (if b then r ∷ [] else [])
asks_if true r w = All-cons IsWireRequest r [] w (All-nil IsWireRequest)
asks_if false r w = All-nil IsWireRequest

pub asks_messages : (who : Identity) (t : List Event) → IsGoodInterest who → AreInTurn who 0 t → (e : Event) → MayCome who 0 t e → IsServed who e → All IsWireRequest (newly_asked who t e)
asks_messages who t good p (events.Join s) may served =
    subst (λ (n : ℕ). All IsWireRequest (newly_asked who t (events.Join n))) (sym (may ∙ zero-add (joins t))) (join_asks_messages who t good p)
asks_messages who t good p (events.Make a) may served = asks_if _ (requests.Submit (suc (makes t)) a) (wire_action who.shape a (good_of_none who.shape a may.good))
asks_messages who t good p events.Poll may served = asks_if _ requests.Poll tt
asks_messages who t good p (events.Observe os wait) may served = asks_if _ (requests.Observe os wait) (wire_observed who.shape.objects os may.good)
asks_messages who t good p events.Leave may served = asks_if _ requests.Leave tt
asks_messages who t good p (events.Got s reply) may served =
    let same : latest_session t ≡ s = ap (λ (o : Option ℕ). unwrap_or o 0) may.current in
    subst (λ (n : ℕ). All IsWireRequest (newly_asked who t (events.Got n reply))) same (reply_asks_messages who t reply served.0 p served.1 may.taken)
asks_messages who t good p events.Cut may served = All-nil IsWireRequest
asks_messages who t good p events.Quit may served = All-nil IsWireRequest
asks_messages who t good p (events.Show os) may served = All-nil IsWireRequest
