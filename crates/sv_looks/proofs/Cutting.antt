-- Where values are serial, relays are sufficient and what was seen is whole, each snapshot is one cut.
use Rattle.std.proofs.Common.{◌≡◌, ℕ, zero, suc, ◌-◌, ◌<◌, ◌≤◌, true, ◌==◌, List, [], ◌∷◌, ◌++◌, map, reverse, length, ℤ, Option, Some, None, IfSome, option_map, slice_index_or, refl, sym, ap, ◌∙◌, subst, arith}
use Rattle.std.specs.Prelude.{All, unwrap_or, option_to_list}
use Rattle.std.specs.List.{AllByRecursion}
use Rattle.std.proofs.lemmas.Bool.{cond_both}
use Rattle.std.proofs.lemmas.List.Elements.{All-from_recursion, All-map, recursion_from_All}
use Rattle.sv_world.specs.Control.{last_writer}
use Rattle.sv_world.specs.Sets.{object_numbered, read_set}
use Rattle.sv_world.specs.declared.action.Action.{Action}
use Rattle.sv_world.specs.declared.world.ClientId.{ClientId}
use Rattle.sv_world.specs.declared.world.ObjectId.{ObjectId}
use Rattle.sv_world.specs.declared.world.Shape.{Shape}
use Rattle.sv_eval.specs.Serial.{serial_world}
use Rattle.sv_versions.specs.Held.{Held, read_below}
use Rattle.sv_pending.specs.Made.{ReadsWithin}
use Rattle.sv_wire.specs.declared.message.ObjectValue.{ObjectValue}
use Rattle.sv_wire.specs.declared.message.Item.{Item}
use Rattle.sv_wire.specs.declared.message.Reply.{Reply}
use Rattle.sv_wire.specs.declared.message.Reply.TheVariants as replies
use Rattle.sv_journal.specs.declared.entry.Entry.{Entry}
use Rattle.sv_journal.specs.History.{actions_of}
use Rattle.sv_client.specs.declared.trace.Event.{Event}
use Rattle.sv_client.specs.declared.trace.Event.TheVariants as events
use Rattle.sv_client.specs.declared.trace.Trace.{Trace}
use Rattle.sv_client.specs.Traces.{head_held, held_of, item_held, with_items, with_reply}
use Rattle.sv_client.specs.Taking.{Identity, observed_now, told}
use Rattle.sv_client.specs.Evaluating.{ItemsAreAbove, ItemsReadWithin}
use Rattle.sv_client.specs.Proper.{AreProper, MayGet, Proper, identity_of}
use Rattle.sv_client.specs.Answers.{got_now}
use Rattle.sv_client.proofs.Within.{seen_now_within}
use Rattle.law_system.specs.Cuts.{IsCut as IsWhole, IsSeenWhole, AreCuts, SeenAreCuts}
use Rattle.law_system.specs.Serial.{IsSerial, AreSerial, is_covered, AreSupplied, IsSufficient, AreSufficient, ValuesAreSerial, RelaysAreSufficient}
use Rattle.law_system.proofs.Covers.{covered-found}
use Rattle.law_system.proofs.Serials.{serial-since}
use Rattle.law_system.proofs.Tests.{any-left}
use Rattle.law_system.proofs.Every.{each-append, each-left}
use Rattle.sv_looks.specs.declared.snapshot.Snapshot.{Snapshot}
use Rattle.sv_looks.specs.Snapshots.{is_look, last_item, read_all_below, snapshot_at, snapshot_seen, snapshot_by, snapshots_in, snapshots_of, snapshots_of_trace}
use Rattle.sv_looks.specs.Cuts.{IsCut, IsShaped}
use Rattle.sv_looks.proofs.Lasts.{last_has}
use Rattle.sv_looks.proofs.Readable.{readable}

-- ---- Values held before others

before_items : (P : Held → Type 0) (items : List Item) (held : List Held) → AllByRecursion P (with_items held items) → AllByRecursion P held
before_items P [] held h = h
before_items P (item ∷ items) held h = each-left P held (item_held held item) (before_items P items (held ++ item_held held item) h)

before_reply : (P : Held → Type 0) (reply : Reply) (held : List Held) → AllByRecursion P (with_reply held reply) → AllByRecursion P held
before_reply P (replies.Welcome commit head) held h = each-left P held (head_held commit head) h
before_reply P (replies.Relay seq commit head items) held h = each-left P held (head_held commit head) (before_items P items (held ++ head_held commit head) h)
before_reply P (replies.Dropped seq chain far) held h = h
before_reply P (replies.Seen last commit head items) held h = each-left P held (head_held commit head) (before_items P items (held ++ head_held commit head) h)
before_reply P (replies.Denied seq object) held h = h
before_reply P (replies.Settled seq pos) held h = h
before_reply P (replies.Noted commit) held h = h
before_reply P replies.Idle held h = h
before_reply P (replies.Refused code detail) held h = h
before_reply P replies.Bye held h = h

-- ---- What the last item of a relay reads

abbrev IsCoveredBy : List Action → List Held → Item → Type 0
IsCoveredBy A held item = AllByRecursion (λ x. is_covered x (last_writer A x item.pos) item.pos held ≡ true) (read_set item.action)

more_covered : (A : List Action) (held more : List Held) (pos : ℕ) (xs : List ℕ) → AllByRecursion (λ x. is_covered x (last_writer A x pos) pos held ≡ true) xs →
    AllByRecursion (λ x. is_covered x (last_writer A x pos) pos (held ++ more) ≡ true) xs
more_covered A held more pos [] h = tt
more_covered A held more pos (x ∷ xs) h = (any-left _ held more h.0, more_covered A held more pos xs h.1)

last_covered : (A : List Action) (items : List Item) (held : List Held) (item : Item) → AreSupplied A held items → last_item items ≡ Some item →
    IsCoveredBy A (with_items held items) item
last_covered A [] held item h e = cc
last_covered A (x ∷ []) held item h e =
    let same : x ≡ item = cc in
    let mine = recursion_from_All (λ y. is_covered y (last_writer A y x.pos) x.pos held ≡ true) (read_set x.action) h.0 in
    subst (λ (i : Item). IsCoveredBy A (held ++ item_held held x) i) same (more_covered A held (item_held held x) x.pos (read_set x.action) mine)
last_covered A (x ∷ y ∷ items) held item h e = last_covered A (y ∷ items) (held ++ item_held held x) item h.1 e

module _ (opening : List (List ℤ)) (A : List Action) where
  -- A covered reading finds the serial value before the position.
  reads_serial : (held : List Held) (x n : ℕ) → AreSerial opening A held → is_covered x (last_writer A x (suc n)) (suc n) held ≡ true →
      unwrap_or (read_below held x (suc n)) [] ≡ slice_index_or (serial_world opening A n) x []
  reads_serial held x n serial covered =
      let f = covered-found x (suc n) (IsSerial opening A) (last_writer A x (suc n)) held serial covered in
      let h = f.0 in
      let low : last_writer A x (suc n) ≤ h.pos = f.1.1.0 in
      let high : h.pos < suc n = f.1.1.1.1.0 in
      ap (λ (o : Option Held). unwrap_or (option_map (λ (k : Held). k.value) o) []) f.1.0
      ∙ f.1.1.1.1.1
      ∙ ap (λ (y : ℕ). slice_index_or (serial_world opening A h.pos) y []) f.1.1.1.0
      ∙ sym (serial-since opening A x n h.pos low (omega (arith, high)))

  at_place : (held : List Held) (x pos : ℕ) → 0 < pos → AreSerial opening A held → is_covered x (last_writer A x pos) pos held ≡ true →
      unwrap_or (read_below held x pos) [] ≡ slice_index_or (serial_world opening A (pos - 1)) x []
  at_place held x zero l serial covered = absurd (omega (arith, l))
  at_place held x (suc n) l serial covered =
      let same : n ≡ suc n - 1 = omega arith in
      reads_serial held x n serial covered ∙ ap (λ (m : ℕ). slice_index_or (serial_world opening A m) x []) same

  all_at_place : (held : List Held) (pos : ℕ) (os : List ObjectId) → 0 < pos → AreSerial opening A held →
      AllByRecursion (λ x. is_covered x (last_writer A x pos) pos held ≡ true) (map (λ (o : ObjectId). o.0) os) →
      AllByRecursion (λ (o : ObjectId). unwrap_or (read_below held o.0 pos) [] ≡ slice_index_or (serial_world opening A (pos - 1)) o.0 []) os
  all_at_place held pos [] l serial covered = tt
  all_at_place held pos (o ∷ os) l serial covered = (at_place held o.0 pos l serial covered.0, all_at_place held pos os l serial covered.1)

  -- ---- One snapshot

  taken_cut : (client : ClientId) (seq : ℕ) (held : List Held) (item : Item) → 0 < item.pos → ReadsWithin (length opening) item.action → AreSerial opening A held →
      IsCoveredBy A held item → IsCut opening A (record { client = client; seq = Some seq; pos = item.pos; values = read_all_below held item.pos item.action.reads })
  taken_cut client seq held item l within serial covered = record {
    place = l;
    objects = All-map (λ (v : ObjectValue). v.object.0 < length opening) _ item.action.reads within;
    values = All-map (λ (v : ObjectValue). v.value ≡ slice_index_or (serial_world opening A (item.pos - 1)) v.object.0 []) _ item.action.reads
        (All-from_recursion _ item.action.reads (all_at_place held item.pos item.action.reads l serial covered));
  }

  look_cut : (client : ClientId) (seq : ℕ) (held : List Held) (o : Option Item) →
      IfSome o (λ item. (0 < item.pos) × (ReadsWithin (length opening) item.action × IsCoveredBy A held item)) → AreSerial opening A held →
      IfSome (snapshot_at client seq held o) (IsCut opening A)
  look_cut client seq held None h serial = tt
  look_cut client seq held (Some item) h serial =
      cond_both (is_look item.action) _ _ (λ (o : Option Snapshot). IfSome o (IsCut opening A)) (λ e. taken_cut client seq held item h.0 h.1.0 serial h.1.1) (λ e. tt)

  -- What was seen: each object is read there as it is in the serial world.
  seen_cut : (client : ClientId) (last : ℕ) (held : List Held) (xs : List ℕ) → All (λ x. x < length opening) xs → IsWhole opening A held last xs →
      IsCut opening A (snapshot_seen client last held xs)
  seen_cut client last held xs within whole = record {
    place = omega arith;
    objects = All-map (λ (v : ObjectValue). v.object.0 < length opening) _ (map object_numbered xs)
        (All-map (λ (o : ObjectId). o.0 < length opening) object_numbered xs within);
    values = All-map (λ (v : ObjectValue). v.value ≡ slice_index_or (serial_world opening A (suc last - 1)) v.object.0 []) _ (map object_numbered xs)
        (All-map (λ (o : ObjectId). unwrap_or (read_below held o.0 (suc last)) [] ≡ slice_index_or (serial_world opening A (suc last - 1)) o.0 []) object_numbered xs
        (λ i d l.
        let x = slice_index_or xs i d in
        let same : last ≡ suc last - 1 = omega arith in
        ap (λ (o : Option (List ℤ)). unwrap_or o []) (whole i d l) ∙ ap (λ (n : ℕ). slice_index_or (serial_world opening A n) x []) same));
  }

  relay_cut : (client : ClientId) (who : Identity) (first : ℕ) (t : List Event) (s : ℕ) (reply : Reply) → who.shape.objects ≡ length opening → AreProper who first t →
      MayGet who t s reply → AreSerial opening A (held_of (events.Got s reply ∷ t)) → IsSufficient A (held_of t) reply → IsSeenWhole opening A who t reply →
      IfSome (snapshot_by client (held_of (events.Got s reply ∷ t)) (observed_now who t) (events.Got s reply)) (IsCut opening A)
  relay_cut client who first t s (replies.Relay seq commit head items) count p m serial enough whole =
      let held = held_of (events.Got s (replies.Relay seq commit head items) ∷ t) in
      let reads = readable who t (events.Got s (replies.Relay seq commit head items)) m.taken in
      let bound = told (got_now t (replies.Relay seq commit head items) ∷ t) in
      cond_both (seq == 0) _ _ (λ (o : Option Snapshot). IfSome o (IsCut opening A)) (λ e. tt)
      (λ e. look_cut client seq held (last_item items) (go bound held reads.0 reads.1 enough (last_item items) refl) serial)
    where
      go : (bound : ℕ) (held : List Held) → ItemsReadWithin who.shape.objects items → ItemsAreAbove bound items → AreSupplied A (held_of t ++ head_held commit head) items →
          (o : Option Item) → last_item items ≡ o →
          IfSome o (λ item. (0 < item.pos) × (ReadsWithin (length opening) item.action × IsCoveredBy A (with_items (held_of t ++ head_held commit head) items) item))
      go bound held within high enough None e = tt
      go bound held within high enough (Some item) e =
          let l : bound < item.pos = last_has (λ (i : Item). bound < i.pos) items item high e in
          let r : ReadsWithin who.shape.objects item.action = last_has (λ (i : Item). ReadsWithin who.shape.objects i.action) items item within e in
          (omega (arith, l), (subst (λ (n : ℕ). ReadsWithin n item.action) count r, last_covered A items (held_of t ++ head_held commit head) item enough e))
  relay_cut client who first t s (replies.Welcome commit head) count p m serial enough whole = tt
  relay_cut client who first t s (replies.Dropped seq chain far) count p m serial enough whole = tt
  relay_cut client who first t s (replies.Seen last commit head items) count p m serial enough whole =
      seen_cut client last (held_of (events.Got s (replies.Seen last commit head items) ∷ t)) (observed_now who t)
      (subst (λ (n : ℕ). All (λ x. x < n) (observed_now who t)) count (seen_now_within who first t p)) whole
  relay_cut client who first t s (replies.Denied seq object) count p m serial enough whole = tt
  relay_cut client who first t s (replies.Settled seq pos) count p m serial enough whole = tt
  relay_cut client who first t s (replies.Noted commit) count p m serial enough whole = tt
  relay_cut client who first t s replies.Idle count p m serial enough whole = tt
  relay_cut client who first t s (replies.Refused code detail) count p m serial enough whole = tt
  relay_cut client who first t s replies.Bye count p m serial enough whole = tt

  -- ---- Whole traces

  one : (o : Option Snapshot) → IfSome o (IsCut opening A) → AllByRecursion (IsCut opening A) (option_to_list o)
  one None h = tt
  one (Some s) h = (h, tt)

  cuts_in : (who : Identity) (first : ℕ) (t : List Event) → who.shape.objects ≡ length opening → AreProper who first t →
      AreSerial opening A (held_of t) → AreSufficient A t → AreCuts opening A who t → AllByRecursion (IsCut opening A) (snapshots_in who t)
  cuts_in who first [] count p serial enough whole = tt
  cuts_in who first (events.Got s reply ∷ t) count p serial enough whole =
      each-append (IsCut opening A) (snapshots_in who t) _
      (cuts_in who first t count p.1 (before_reply (IsSerial opening A) reply (held_of t) serial) enough.1 whole.1)
      (one _ (relay_cut who.client who first t s reply count p.1 p.0 serial enough.0 whole.0))
  cuts_in who first (events.Join s ∷ t) count p serial enough whole = each-append (IsCut opening A) (snapshots_in who t) [] (cuts_in who first t count p.1 serial enough whole) tt
  cuts_in who first (events.Make action ∷ t) count p serial enough whole = each-append (IsCut opening A) (snapshots_in who t) [] (cuts_in who first t count p.1 serial enough whole) tt
  cuts_in who first (events.Poll ∷ t) count p serial enough whole = each-append (IsCut opening A) (snapshots_in who t) [] (cuts_in who first t count p.1 serial enough whole) tt
  cuts_in who first (events.Observe objects wait ∷ t) count p serial enough whole = each-append (IsCut opening A) (snapshots_in who t) [] (cuts_in who first t count p.1 serial enough whole) tt
  cuts_in who first (events.Leave ∷ t) count p serial enough whole = each-append (IsCut opening A) (snapshots_in who t) [] (cuts_in who first t count p.1 serial enough whole) tt
  cuts_in who first (events.Cut ∷ t) count p serial enough whole = each-append (IsCut opening A) (snapshots_in who t) [] (cuts_in who first t count p.1 serial enough whole) tt
  cuts_in who first (events.Quit ∷ t) count p serial enough whole = each-append (IsCut opening A) (snapshots_in who t) [] (cuts_in who first t count p.1 serial enough whole) tt
  cuts_in who first (events.Show os ∷ t) count p serial enough whole = each-append (IsCut opening A) (snapshots_in who t) [] (cuts_in who first t count p.1 serial enough whole) tt

  cuts_of : (shape : Shape) (Ls : List Trace) → shape.objects ≡ length opening → All (Proper shape) Ls →
      All (λ (L : Trace). AreSerial opening A (held_of (reverse L.events))) Ls → All (λ (L : Trace). AreSufficient A (reverse L.events)) Ls →
      All (λ (L : Trace). AreCuts opening A (identity_of shape L) (reverse L.events)) Ls → AllByRecursion (IsCut opening A) (snapshots_of shape Ls)
  cuts_of shape [] count p serial enough whole = tt
  cuts_of shape (L ∷ Ls) count p serial enough whole =
      let proper : Proper shape L = p 0 L (omega arith) in
      each-append (IsCut opening A) (snapshots_of_trace shape L) (snapshots_of shape Ls)
      (cuts_in (identity_of shape L) L.first (reverse L.events) count proper.events (serial 0 L (omega arith)) (enough 0 L (omega arith)) (whole 0 L (omega arith)))
      (cuts_of shape Ls count (λ i d l. p (suc i) d (omega arith)) (λ i d l. serial (suc i) d (omega arith)) (λ i d l. enough (suc i) d (omega arith))
      (λ i d l. whole (suc i) d (omega arith)))

-- Each snapshot that the traces tell is one cut through the journal's serial execution.
pub cuts_are : (shape : Shape) (opening : List (List ℤ)) (h : List Entry) (Ls : List Trace) → length opening ≡ shape.objects → All (Proper shape) Ls →
    ValuesAreSerial opening h Ls → RelaysAreSufficient h Ls → SeenAreCuts shape opening h Ls → All (IsCut opening (actions_of h)) (snapshots_of shape Ls)
cuts_are shape opening h Ls count p serial enough whole =
    All-from_recursion (IsCut opening (actions_of h)) (snapshots_of shape Ls) (cuts_of opening (actions_of h) shape Ls (sym count) p serial.held enough whole)

-- ---- The numbers of values

pub shaped_are : (shape : Shape) (opening : List (List ℤ)) (A : List Action) (ss : List Snapshot) →
    ((p : ℕ) → length (serial_world opening A p) ≡ length opening) → ((p : ℕ) → All (λ v. length v ≡ shape.attrs) (serial_world opening A p)) →
    All (IsCut opening A) ss → All (IsShaped shape) ss
shaped_are shape opening A ss long shaped cuts = λ k d l.
    let cut : IsCut opening A (slice_index_or ss k d) = cuts k d l in
    let s = slice_index_or ss k d in
    λ i e m.
    let v = slice_index_or s.values i e in
    let world = serial_world opening A (s.pos - 1) in
    ap (λ (x : List ℤ). length x) (cut.values i e m) ∙ shaped (s.pos - 1) v.object.0 [] (subst (λ (n : ℕ). v.object.0 < n) (sym (long (s.pos - 1))) (cut.objects i e m))
