-- No value is held of an object that the world does not have.
use Rattle.std.proofs.Common.{◌≡◌, ℕ, ◌<◌, ◌≤◌, eqb, nat_le, List, [], ◌∷◌, ◌++◌, map, None, option_map, refl, ap, ◌∙◌, arith}
use Rattle.std.specs.Prelude.{ℤ, All}
use Rattle.std.specs.List.{count_by}
use Rattle.std.proofs.lemmas.Bool.{ne_eqb}
use Rattle.std.proofs.lemmas.List.Elements.{filter-append, All-nil, All-cons, All-head, All-tail}
use Rattle.sv_world.specs.declared.world.ObjectId.{ObjectId}
use Rattle.sv_world.specs.Sets.{read_set, write_set}
use Rattle.sv_eval.proofs.Masks.{at_mask_all}
use Rattle.sv_versions.specs.Held.{Held, versions_of, newest, latest, count_up_to, AnswersAbove}
use Rattle.sv_versions.proofs.Laws.{greatest_none}
use Rattle.sv_pending.specs.Made.{ReadsWithin}
use Rattle.sv_wire.specs.declared.message.ObjectValue.{ObjectValue}
use Rattle.sv_wire.specs.declared.message.Item.{Item}
use Rattle.sv_wire.specs.declared.message.Reply.{Reply}
use Rattle.sv_wire.specs.declared.message.Reply.TheVariants as replies
use Rattle.sv_client.specs.declared.trace.Event.{Event}
use Rattle.sv_client.specs.declared.trace.Event.TheVariants as events
use Rattle.sv_client.specs.Traces.{held_of, head_held, held_at, item_result, item_held, with_items, with_reply}
use Rattle.sv_client.specs.Taking.{Identity, told}
use Rattle.sv_client.specs.Proper.{AreInTurn}
use Rattle.sv_client.specs.Evaluating.{IsHeadWithin, ItemsReadWithin, IsFitting}
use Rattle.sv_client.proofs.Looking.{got_fits}

abbrev IsFree : ℕ → List Held → Type 0
IsFree x held = versions_of x held ≡ []

free-append : (x : ℕ) (held more : List Held) → IsFree x held → IsFree x more → IsFree x (held ++ more)
free-append x held more e h = filter-append (λ (k : Held). eqb k.object x) held more ∙ rw (e, h) refl

free_one : (x : ℕ) (k : Held) (held : List Held) → k.object < x → IsFree x held → IsFree x (k ∷ held)
free_one x k held l e = rw (ne_eqb k.object x (λ s. absurd (omega (arith, s, l)))) e

module _ (n x : ℕ) (over : n ≤ x) where
  head_free : (commit : ℕ) (head : List ObjectValue) → IsHeadWithin n head → IsFree x (head_held commit head)
  head_free commit [] w = refl
  head_free commit (h ∷ head) w =
      let low = All-head (λ (s : ObjectValue). s.object.0 < n) h head w in
      free_one x (record { object = h.object.0; pos = commit; value = h.value }) (head_held commit head) (omega (arith, low, over)) (head_free commit head (All-tail (λ (s : ObjectValue). s.object.0 < n) h head w))

  at_free : (pos : ℕ) (objects : List ℕ) (values : List (List ℤ)) → All (λ o. o < n) objects → IsFree x (held_at pos objects values)
  at_free pos [] values w = refl
  at_free pos (o ∷ os) [] w = refl
  at_free pos (o ∷ os) (v ∷ vs) w =
      let low = All-head (λ (k : ℕ). k < n) o os w in
      free_one x (record { object = o; pos = pos; value = v }) (held_at pos os vs) (omega (arith, low, over)) (at_free pos os vs (All-tail (λ (k : ℕ). k < n) o os w))

  numbers_within : (os : List ObjectId) → All (λ (o : ObjectId). o.0 < n) os → All (λ k. k < n) (map (λ (o : ObjectId). o.0) os)
  numbers_within [] w = All-nil (λ (k : ℕ). k < n)
  numbers_within (o ∷ os) w =
      All-cons (λ (k : ℕ). k < n) o.0 (map (λ (o : ObjectId). o.0) os) (All-head (λ (o : ObjectId). o.0 < n) o os w) (numbers_within os (All-tail (λ (o : ObjectId). o.0 < n) o os w))

  item_free : (held : List Held) (item : Item) → ReadsWithin n item.action → IsFree x (item_held held item)
  item_free held item w = at_free item.pos (write_set item.action) (item_result held item) (at_mask_all (λ k. k < n) item.action.mask 0 (read_set item.action) (numbers_within item.action.reads w))

  items_free : (held : List Held) (items : List Item) → IsFree x held → ItemsReadWithin n items → IsFree x (with_items held items)
  items_free held [] e w = e
  items_free held (i ∷ items) e w =
      items_free (held ++ item_held held i) items (free-append x held (item_held held i) e (item_free held i (All-head (λ (i : Item). ReadsWithin n i.action) i items w))) (All-tail (λ (i : Item). ReadsWithin n i.action) i items w)

  reply_free : (commit : ℕ) (held : List Held) (reply : Reply) → IsFree x held → IsFitting n commit reply → IsFree x (with_reply held reply)
  reply_free t held (replies.Welcome c h) e f = free-append x held (head_held c h) e (head_free c h f.head)
  reply_free t held (replies.Relay s c h is) e f = items_free (held ++ head_held c h) is (free-append x held (head_held c h) e (head_free c h f.head)) f.reads
  reply_free t held (replies.Seen l c h is) e f = items_free (held ++ head_held c h) is (free-append x held (head_held c h) e (head_free c h f.head)) f.reads
  reply_free t held (replies.Dropped s c a) e f = e
  reply_free t held (replies.Denied s o) e f = e
  reply_free t held (replies.Settled s p) e f = e
  reply_free t held (replies.Noted c) e f = e
  reply_free t held replies.Idle e f = e
  reply_free t held (replies.Refused c d) e f = e
  reply_free t held replies.Bye e f = e

pub none_held : (who : Identity) (first : ℕ) (t : List Event) → AreInTurn who first t → (x : ℕ) → who.shape.objects ≤ x → versions_of x (held_of t) ≡ []
none_held who first [] p x l = refl
none_held who first (events.Join s ∷ t) p x l = none_held who first t p.1 x l
none_held who first (events.Make a ∷ t) p x l = none_held who first t p.1 x l
none_held who first (events.Poll ∷ t) p x l = none_held who first t p.1 x l
none_held who first (events.Observe os wait ∷ t) p x l = none_held who first t p.1 x l
none_held who first (events.Leave ∷ t) p x l = none_held who first t p.1 x l
none_held who first (events.Got s reply ∷ t) p x l = reply_free who.shape.objects x l (told t) (held_of t) reply (none_held who first t p.1 x l) (got_fits who t reply p.0.taken)
none_held who first (events.Cut ∷ t) p x l = none_held who first t p.1 x l
none_held who first (events.Quit ∷ t) p x l = none_held who first t p.1 x l
none_held who first (events.Show os ∷ t) p x l = none_held who first t p.1 x l

pub none_latest : (who : Identity) (first : ℕ) (t : List Event) → AreInTurn who first t → (x : ℕ) → who.shape.objects ≤ x → latest (held_of t) x ≡ None
none_latest who first t p x l = ap (λ (hs : List Held). option_map (λ (h : Held). h.value) (newest hs)) (none_held who first t p x l)

pub none_old : (who : Identity) (first : ℕ) (t : List Event) (kept : List Held) (commit : ℕ) → AreInTurn who first t → AnswersAbove commit kept (held_of t) → (x pos : ℕ) → who.shape.objects ≤ x → count_up_to kept x pos ≡ 0
none_old who first t kept commit p a x pos l =
    let none : newest (versions_of x kept) ≡ None = a.last x ∙ ap newest (none_held who first t p x l) in
    ap (λ (hs : List Held). count_by (λ (h : Held). nat_le h.pos pos) hs) (greatest_none (versions_of x kept) none)
