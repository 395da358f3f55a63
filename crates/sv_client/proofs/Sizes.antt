-- Each value that a client holds, keeps or sees has the numbers of its world.
use Rattle.std.proofs.Common.{◌≡◌, ℕ, Bool, true, false, ◌||◌, not, eqb, List, [], ◌∷◌, ◌++◌, length, map, ℤ, Option, Some, None, refl, ap, ◌∙◌, eqb-true}
use Rattle.std.specs.Prelude.{All, nat_le, is_none, unwrap_or, if◌then◌else◌}
use Rattle.std.specs.Option.{IfSome}
use Rattle.std.proofs.lemmas.List.Elements.{All-nil, All-cons, All-append, All-head, All-tail}
use Rattle.std.proofs.lemmas.Bool.{or_parts, not-false}
use Rattle.sv_world.specs.declared.world.Shape.{Shape}
use Rattle.sv_world.specs.Sets.{read_set, write_set}
use Rattle.sv_eval.proofs.Effects.{effect_shaped}
use Rattle.sv_versions.specs.Held.{Held, read_below}
use Rattle.sv_versions.proofs.Laws.{read_below_has}
use Rattle.sv_pending.specs.Pending.{PendingAction, redone}
use Rattle.sv_pending.specs.Shapes.{IsLong, AreShaped}
use Rattle.sv_pending.proofs.Shapes.{view_shaped, kept_shaped, redone_shaped, shaped_push}
use Rattle.sv_wire.specs.declared.message.ObjectValue.{ObjectValue}
use Rattle.sv_wire.specs.declared.message.Item.{Item}
use Rattle.sv_wire.specs.declared.message.Request.{Request}
use Rattle.sv_wire.specs.declared.message.Reply.{Reply}
use Rattle.sv_wire.specs.declared.message.Reply.TheVariants as replies
use Rattle.sv_client.specs.declared.trace.Event.{Event}
use Rattle.sv_client.specs.declared.trace.Event.TheVariants as events
use Rattle.sv_client.specs.Traces.{head_held, held_at, item_result, item_held, with_items, with_reply, held_of, without_front, are_same, settled_by, pending_with, has_news, pending_of, view_of}
use Rattle.sv_client.specs.Taking.{Identity, is_bad_head, is_bad_relay, has_bad_action, has_bad_item, observed_by, first_unheld, missing_at, first_missing_of, first_missing_seen, missing_in}
use Rattle.sv_client.specs.Kinds.{kind_of}
use Rattle.sv_client.specs.Proper.{AreInTurn}
use Rattle.sv_client.proofs.Wells.{is_well}

-- ---- Tests

module _ (attrs : ℕ) where
  -- It holds values of the right length alone.
  abbrev pub AreLong : List Held → Type 0
  AreLong held = All (λ (h : Held). IsLong attrs h.value) held

  abbrev AllLong : List (List ℤ) → Type 0
  AllLong values = All (IsLong attrs) values

  at_long : (pos : ℕ) (objects : List ℕ) (values : List (List ℤ)) → AllLong values → AreLong (held_at pos objects values)
  at_long pos [] values a = All-nil (λ (h : Held). IsLong attrs h.value)
  at_long pos (o ∷ os) [] a = All-nil (λ (h : Held). IsLong attrs h.value)
  at_long pos (o ∷ os) (v ∷ vs) a =
      All-cons (λ (h : Held). IsLong attrs h.value) (record { object = o; pos = pos; value = v }) (held_at pos os vs) (All-head (IsLong attrs) v vs a) (at_long pos os vs (All-tail (IsLong attrs) v vs a))

  -- ---- Items

  abbrev read_at : List Held → ℕ → ℕ → List ℤ
  read_at held pos x = unwrap_or (read_below held x pos) []

  found_long : (o : Option (List ℤ)) → is_none o ≡ false → IfSome o (IsLong attrs) → IsLong attrs (unwrap_or o [])
  found_long None e a = cc
  found_long (Some v) e a = a

  or_missing : (b : Bool) (x : ℕ) (o : Option ℕ) → (if b then Some x else o) ≡ None → (b ≡ false) × (o ≡ None)
  or_missing true x o e = cc
  or_missing false x o e = (refl, e)

  reads_long : (held : List Held) (pos : ℕ) (xs : List ℕ) → AreLong held → first_unheld held pos xs ≡ None → AllLong (map (read_at held pos) xs)
  reads_long held pos [] a e = All-nil (IsLong attrs)
  reads_long held pos (x ∷ xs) a e =
      let f = or_missing (is_none (read_below held x pos)) x (first_unheld held pos xs) e in
      All-cons (IsLong attrs) (read_at held pos x) (map (read_at held pos) xs)
      (found_long (read_below held x pos) f.0 (read_below_has (IsLong attrs) held x pos a)) (reads_long held pos xs a f.1)

  pub result_long : (held : List Held) (item : Item) → AreLong held → first_unheld held item.pos (read_set item.action) ≡ None → AllLong (item_result held item)
  result_long held item a e = effect_shaped attrs item.action (map (read_at held item.pos) (read_set item.action)) (reads_long held item.pos (read_set item.action) a e)

  pub item_more : (held : List Held) (item : Item) → AreLong held → first_unheld held item.pos (read_set item.action) ≡ None → AreLong (held ++ item_held held item)
  item_more held item a e =
      All-append (λ (h : Held). IsLong attrs h.value) held (item_held held item) a (at_long item.pos (write_set item.action) (item_result held item) (result_long held item a e))

  pub both_found : (pos : ℕ) (o : Option ℕ) (rest : Option (ℕ × ℕ)) → missing_at pos o rest ≡ None → (o ≡ None) × (rest ≡ None)
  both_found pos (Some x) rest e = cc
  both_found pos None rest e = (refl, e)

  items_long : (held : List Held) (items : List Item) → AreLong held → first_missing_of held items ≡ None → AreLong (with_items held items)
  items_long held [] a e = a
  items_long held (item ∷ items) a e =
      let f = both_found item.pos (first_unheld held item.pos (read_set item.action)) (first_missing_of (held ++ item_held held item) items) e in
      items_long (held ++ item_held held item) items (item_more held item a f.0) f.1

  -- Where nothing is missing of what is seen, no item lacks a value.
  pub items_found : (held : List Held) (items : List Item) (last : ℕ) (xs : List ℕ) → first_missing_seen held items last xs ≡ None → first_missing_of held items ≡ None
  items_found held [] last xs e = refl
  items_found held (item ∷ items) last xs e =
      let f = both_found item.pos (first_unheld held item.pos (read_set item.action)) (first_missing_seen (held ++ item_held held item) items last xs) e in
      ap (λ (o : Option ℕ). missing_at item.pos o (first_missing_of (held ++ item_held held item) items)) f.0 ∙ items_found (held ++ item_held held item) items last xs f.1

  -- ---- Replies

  head_long : (shape : Shape) (commit : ℕ) (head : List ObjectValue) → shape.attrs ≡ attrs → is_bad_head shape head ≡ false → AreLong (head_held commit head)
  head_long shape commit [] s e = All-nil (λ (h : Held). IsLong attrs h.value)
  head_long shape commit (h ∷ head) s e =
      let f = or_parts (nat_le shape.objects h.object.0 || not (eqb (length h.value) shape.attrs)) (is_bad_head shape head) e in
      let g = or_parts (nat_le shape.objects h.object.0) (not (eqb (length h.value) shape.attrs)) f.0 in
      All-cons (λ (k : Held). IsLong attrs k.value) (record { object = h.object.0; pos = commit; value = h.value }) (head_held commit head)
      (eqb-true (length h.value) shape.attrs (not-false (eqb (length h.value) shape.attrs) g.1) ∙ s) (head_long shape commit head s f.1)

  pub with_head : (shape : Shape) (held : List Held) (commit : ℕ) (head : List ObjectValue) → shape.attrs ≡ attrs → AreLong held → is_bad_head shape head ≡ false → AreLong (held ++ head_held commit head)
  with_head shape held commit head s a e = All-append (λ (h : Held). IsLong attrs h.value) held (head_held commit head) a (head_long shape commit head s e)

  reply_long : (who : Identity) (held : List Held) (ps : List PendingAction) (request : Request) (reply : Reply) → who.shape.attrs ≡ attrs → AreLong held →
      has_bad_item who ps request reply ≡ false → missing_in held (kind_of request) reply ≡ None → AreLong (with_reply held reply)
  reply_long who held ps request (replies.Welcome commit head) s a b m = with_head who.shape held commit head s a b
  reply_long who held ps request (replies.Relay seq commit head items) s a b m =
      let f = or_parts (is_bad_head who.shape head) (is_bad_relay who ps request seq items) b in
      items_long (held ++ head_held commit head) items (with_head who.shape held commit head s a f.0) m
  reply_long who held ps request (replies.Seen last commit head items) s a b m =
      let f = or_parts (is_bad_head who.shape head) (has_bad_action who.shape items) b in
      items_long (held ++ head_held commit head) items (with_head who.shape held commit head s a f.0)
      (items_found (held ++ head_held commit head) items last (observed_by (kind_of request)) m)
  reply_long who held ps request (replies.Dropped seq chain far) s a b m = a
  reply_long who held ps request (replies.Denied seq object) s a b m = a
  reply_long who held ps request (replies.Settled seq pos) s a b m = a
  reply_long who held ps request (replies.Noted commit) s a b m = a
  reply_long who held ps request replies.Idle s a b m = a
  reply_long who held ps request (replies.Refused code detail) s a b m = a
  reply_long who held ps request replies.Bye s a b m = a

  front_shaped : (ps : List PendingAction) → AreShaped attrs ps → AreShaped attrs (without_front ps)
  front_shaped [] s = tt
  front_shaped (p ∷ ps) s = s.1

  either_shaped : (b : Bool) (ps qs : List PendingAction) → AreShaped attrs ps → AreShaped attrs qs → AreShaped attrs (if b then ps else qs)
  either_shaped true ps qs s t = s
  either_shaped false ps qs s t = t

  settled_shaped : (held : List Held) (own : Option (List (List ℤ))) (ps : List PendingAction) → AreLong held → AreShaped attrs ps → AreShaped attrs (settled_by held own ps)
  settled_shaped held own [] a s = tt
  settled_shaped held own (p ∷ ps) a s = either_shaped (are_same own p.kept) ps (redone held ps) s.1 (redone_shaped attrs held ps a)

  replied_shaped : (before after : List Held) (reply : Reply) (ps : List PendingAction) → AreLong after → AreShaped attrs ps → AreShaped attrs (pending_with before after reply ps)
  replied_shaped before after (replies.Relay seq commit head items) ps a s = either_shaped (eqb seq 0) ps _ s (settled_shaped after _ ps a s)
  replied_shaped before after (replies.Seen last commit head items) ps a s = either_shaped (has_news head items) _ ps (redone_shaped attrs after ps a) s
  replied_shaped before after (replies.Dropped seq chain far) ps a s = redone_shaped attrs after (without_front ps) a
  replied_shaped before after (replies.Denied seq object) ps a s = redone_shaped attrs after (without_front ps) a
  replied_shaped before after (replies.Settled seq pos) ps a s = redone_shaped attrs after (without_front ps) a
  replied_shaped before after (replies.Welcome commit head) ps a s = s
  replied_shaped before after (replies.Noted commit) ps a s = s
  replied_shaped before after replies.Idle ps a s = s
  replied_shaped before after (replies.Refused code detail) ps a s = s
  replied_shaped before after replies.Bye ps a s = s

-- ---- Traces

pub held_long : (who : Identity) (first : ℕ) (t : List Event) → AreInTurn who first t → AreLong who.shape.attrs (held_of t)
held_long who first [] p = All-nil (λ (h : Held). IsLong who.shape.attrs h.value)
held_long who first (events.Got s reply ∷ t) p =
    let well = is_well who t reply p.0.taken in
    reply_long who.shape.attrs who (held_of t) (pending_of t) well.request reply refl (held_long who first t p.1) well.good well.found
held_long who first (events.Join s ∷ t) p = held_long who first t p.1
held_long who first (events.Make a ∷ t) p = held_long who first t p.1
held_long who first (events.Poll ∷ t) p = held_long who first t p.1
held_long who first (events.Observe os wait ∷ t) p = held_long who first t p.1
held_long who first (events.Leave ∷ t) p = held_long who first t p.1
held_long who first (events.Cut ∷ t) p = held_long who first t p.1
held_long who first (events.Quit ∷ t) p = held_long who first t p.1
held_long who first (events.Show objects ∷ t) p = held_long who first t p.1

pub pending_shaped : (who : Identity) (first : ℕ) (t : List Event) → AreInTurn who first t → AreShaped who.shape.attrs (pending_of t)
pending_shaped who first [] p = tt
pending_shaped who first (events.Make a ∷ t) p =
    shaped_push who.shape.attrs (pending_of t) _ (pending_shaped who first t p.1) (kept_shaped who.shape.attrs (held_of t) (pending_of t) a (held_long who first t p.1) (pending_shaped who first t p.1))
pending_shaped who first (events.Got s reply ∷ t) p =
    replied_shaped who.shape.attrs (held_of t) (with_reply (held_of t) reply) reply (pending_of t) (held_long who first (events.Got s reply ∷ t) p) (pending_shaped who first t p.1)
pending_shaped who first (events.Join s ∷ t) p = pending_shaped who first t p.1
pending_shaped who first (events.Poll ∷ t) p = pending_shaped who first t p.1
pending_shaped who first (events.Observe os wait ∷ t) p = pending_shaped who first t p.1
pending_shaped who first (events.Leave ∷ t) p = pending_shaped who first t p.1
pending_shaped who first (events.Cut ∷ t) p = pending_shaped who first t p.1
pending_shaped who first (events.Quit ∷ t) p = pending_shaped who first t p.1
pending_shaped who first (events.Show objects ∷ t) p = pending_shaped who first t p.1

-- Each view has the numbers of the world.
pub views_in_turn : (who : Identity) (first : ℕ) (t : List Event) → AreInTurn who first t → (x : ℕ) → IfSome (view_of t x) (IsLong who.shape.attrs)
views_in_turn who first t p x = view_shaped who.shape.attrs x (held_of t) (pending_of t) (held_long who first t p) (pending_shaped who first t p)
