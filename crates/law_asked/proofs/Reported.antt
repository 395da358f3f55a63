-- The results that a client reports are within the grammar, where what it holds is serial.
use Rattle.std.proofs.Common.{◌≡◌, ℕ, ◌^◌, ◌<◌, ◌≤◌, List, [], ◌∷◌, ◌++◌, length, map, ℤ, sym, subst, ◌∙◌, arith}
use Rattle.std.specs.Prelude.{slice_index_or, unwrap_or}
use Rattle.std.proofs.lemmas.List.{length-map}
use Rattle.std.specs.List.{AllByRecursion}
use Rattle.std.proofs.lemmas.List.Elements.{All-from_recursion}
use Rattle.sv_world.specs.Sets.{read_set, write_set}
use Rattle.sv_world.specs.declared.action.Action.{Action}
use Rattle.sv_world.specs.declared.world.ObjectId.{ObjectId}
use Rattle.sv_eval.specs.Serial.{serial_world}
use Rattle.sv_eval.proofs.Effects.{effect_counted}
use Rattle.sv_versions.specs.Held.{Held, read_below}
use Rattle.sv_wire.specs.declared.message.Item.{Item}
use Rattle.sv_wire.specs.declared.message.Done1.{Done1}
use Rattle.sv_wire.specs.declared.message.Request.TheVariants as requests
use Rattle.sv_wire.specs.declared.message.Reply.{Reply}
use Rattle.sv_wire.specs.declared.message.Reply.TheVariants as replies
use Rattle.sv_wire.specs.Grammar.{IsWireValue, IsWireResult}
use Rattle.sv_wire.specs.Ranges.{ValueFits, ResultFits}
use Rattle.sv_wire.specs.Laws.{IsRequest}
use Rattle.sv_client.specs.declared.trace.Event.{Event}
use Rattle.sv_client.specs.declared.trace.Event.TheVariants as events
use Rattle.sv_client.specs.Traces.{head_held, held_at, item_result, item_held, with_items, with_reply, held_of, results_of, done_for}
use Rattle.sv_client.specs.Taking.{items_of}
use Rattle.sv_client.proofs.Items.{results_count}
use Rattle.sv_client.proofs.Sendable.{masked_fewer}
use Rattle.law_system.specs.Serial.{IsSerial}
use Rattle.law_system.proofs.Asked.{IsPart, all, then_one}
use Rattle.law_system.proofs.Allowed.{brought-by}
use Rattle.law_system.proofs.Every.{each-left, each-right, each-more}
use Rattle.law_asked.proofs.Evaluated.{mask_fits}
use Rattle.law_asked.proofs.Worlds.{IsGoodValue}

-- An item whose action reads few objects, which are among so many.
pub record IsFineItem (objects : ℕ) (i : Item) : Type 0 where
  pub pos : i.pos < 2 ^ 32
  pub few : length i.action.reads ≤ 16
  pub within : AllByRecursion (λ x. x < objects) (read_set i.action)

module _ (attrs : ℕ) (opening : List (List ℤ)) (acts : List Action) (some : 1 ≤ attrs) (few : attrs ≤ 4)
    (good : (p x : ℕ) → x < length opening → IsGoodValue attrs (slice_index_or (serial_world opening acts p) x [])) where
  abbrev Serial : Held → Type 0
  Serial = IsSerial opening acts

  values-good : (pos : ℕ) (xs : List ℕ) (vs : List (List ℤ)) → length vs ≡ length xs → AllByRecursion (λ x. x < length opening) xs → AllByRecursion Serial (held_at pos xs vs) →
      AllByRecursion (IsGoodValue attrs) vs
  values-good pos [] [] e within h = tt
  values-good pos [] (v ∷ vs) e within h = absurd (omega arith)
  values-good pos (x ∷ xs) [] e within h = tt
  values-good pos (x ∷ xs) (v ∷ vs) e within h =
      (subst (IsGoodValue attrs) (sym h.0) (good pos x within.0), values-good pos xs vs (omega arith) within.1 h.1)

  wire-value : (v : List ℤ) → IsGoodValue attrs v → IsWireValue v
  wire-value v g = (omega (arith, g.count), omega (arith, g.count))

  abbrev IsFineResult : Done1 → Type 0
  IsFineResult d = IsWireResult d × ResultFits d

  result-fine : (held : List Held) (item : Item) → IsFineItem (length opening) item → AllByRecursion Serial (item_held held item) → IsFineResult (record { pos = item.pos; values = item_result held item })
  result-fine held item fine h =
      let a = item.action in
      let values = map (λ x. unwrap_or (read_below held x item.pos) []) (read_set a) in
      let as_many : length values ≡ length a.reads = length-map (read_set a) (λ x. unwrap_or (read_below held x item.pos) []) ∙ length-map a.reads (λ (o : ObjectId). o.0) in
      let count : length (item_result held item) ≡ length (write_set a) = effect_counted a values as_many in
      let written : length (write_set a) ≤ length (read_set a) = masked_fewer a.mask 0 (read_set a) in
      let reads : length (read_set a) ≡ length a.reads = length-map a.reads (λ (o : ObjectId). o.0) in
      let goods = values-good item.pos (write_set a) (item_result held item) count (mask_fits (λ x. x < length opening) a.mask 0 (read_set a) fine.within) h in (
        record {
          few = omega (arith, fine.few);
          values = All-from_recursion IsWireValue (item_result held item) (each-more (IsGoodValue attrs) IsWireValue wire-value (item_result held item) goods);
        },
        (fine.pos, each-more (IsGoodValue attrs) ValueFits (λ v g. g.fits) (item_result held item) goods),
      )

  -- ---- What is held grows

  items-front : (held : List Held) (items : List Item) → AllByRecursion Serial (with_items held items) → AllByRecursion Serial held
  items-front held [] h = h
  items-front held (item ∷ items) h = each-left Serial held (item_held held item) (items-front (held ++ item_held held item) items h)

  results-fine : (held : List Held) (items : List Item) → AllByRecursion (IsFineItem (length opening)) items → AllByRecursion Serial (with_items held items) → AllByRecursion IsFineResult (results_of held items)
  results-fine held [] fine h = tt
  results-fine held (item ∷ items) fine h = (
    result-fine held item fine.0 (each-right Serial held (item_held held item) (items-front (held ++ item_held held item) items h)),
    results-fine (held ++ item_held held item) items fine.1 h,
  )

  reply-front : (held : List Held) (reply : Reply) → AllByRecursion Serial (with_reply held reply) → AllByRecursion Serial held
  reply-front held (replies.Welcome commit head) h = each-left Serial held (head_held commit head) h
  reply-front held (replies.Relay seq commit head items) h = each-left Serial held (head_held commit head) (items-front (held ++ head_held commit head) items h)
  reply-front held (replies.Dropped seq chain far) h = h
  reply-front held (replies.Denied seq object) h = h
  reply-front held (replies.Seen last commit head items) h = each-left Serial held (head_held commit head) (items-front (held ++ head_held commit head) items h)
  reply-front held (replies.Settled seq pos) h = h
  reply-front held (replies.Noted commit) h = h
  reply-front held replies.Idle h = h
  reply-front held (replies.Refused code detail) h = h
  reply-front held replies.Bye h = h

  event-front : (e : Event) (t : List Event) → AllByRecursion Serial (held_of (e ∷ t)) → AllByRecursion Serial (held_of t)
  event-front (events.Got s reply) t h = reply-front (held_of t) reply h
  event-front (events.Join s) t h = h
  event-front (events.Make a) t h = h
  event-front events.Poll t h = h
  event-front (events.Observe objects wait) t h = h
  event-front events.Leave t h = h
  event-front events.Cut t h = h
  event-front events.Quit t h = h
  event-front (events.Show objects) t h = h

  held-part : (t u : List Event) → IsPart t u → AllByRecursion Serial (held_of u) → AllByRecursion Serial (held_of t)
  held-part t whole all h = h
  held-part t whole (then_one {u} e b) h = held-part t u b (event-front e u h)

  -- The Done for a reply that was got is a message.
  pub done-is : (s : ℕ) (reply : Reply) (results : List Done1) (before u : List Event) → IsPart (events.Got s reply ∷ before) u →
      done_for (held_of before) reply ≡ requests.Done results ∷ [] →
      AllByRecursion Serial (held_of u) → AllByRecursion (IsFineItem (length opening)) (items_of reply) → 1 ≤ length (items_of reply) → length (items_of reply) ≤ 33 →
      IsRequest (requests.Done results)
  done-is s reply results before u part asks h fine one most =
      let b = brought-by (held_of before) reply results asks in
      let items = items_of reply in
      let held = held_of before ++ head_held b.commit b.head in
      let own = results_of held items in
      let each : AllByRecursion IsFineResult own = results-fine held items fine (subst (AllByRecursion Serial) b.held_after (held-part (events.Got s reply ∷ before) u part h)) in
      subst (λ (l : List Done1). IsRequest (requests.Done l)) (sym b.results_are)
      (record {
        within =
            record {
              some = omega (arith, results_count held items, one);
              few = omega (arith, results_count held items, most);
              each = All-from_recursion IsWireResult own (each-more IsFineResult IsWireResult (λ d f. f.0) own each);
            };
        fits = each-more IsFineResult ResultFits (λ d f. f.1) own each;
      })
