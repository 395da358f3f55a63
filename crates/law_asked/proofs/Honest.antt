-- Each request that a client asks is a message, though its server may hear other values of it.
use Rattle.std.proofs.Common.{◌≡◌, ℕ, ◌^◌, ◌<◌, ◌≤◌, true, ◌&&◌, nat_le, nat_lt, leb-true, ltb-true, List, [], ◌∷◌, length, reverse, Some, None, slice_get, sym, subst, arith}
use Rattle.std.specs.Prelude.{All, slice_index_or}
use Rattle.std.specs.List.{AllByRecursion}
use Rattle.std.proofs.lemmas.Bool.{and_parts}
use Rattle.std.proofs.lemmas.List.{length-map}
use Rattle.std.proofs.lemmas.List.Elements.{recursion_from_All, All-from_recursion}
use Rattle.sv_world.specs.Control.{is_in}
use Rattle.sv_world.specs.Sets.{numbers_of, read_set}
use Rattle.sv_world.specs.Faults.{first_fault_of_action, is_ascending, may_be_observed, IsGoodAction}
use Rattle.sv_world.proofs.Members.{is_in-head, is_in-tail}
use Rattle.sv_world.proofs.Good.{good_of_none}
use Rattle.sv_world.specs.declared.action.Action.{Action}
use Rattle.sv_world.specs.declared.world.ClientId.{ClientId}
use Rattle.sv_world.specs.declared.world.ObjectId.{ObjectId}
use Rattle.sv_world.specs.declared.world.Shape.{Shape}
use Rattle.sv_eval.specs.Serial.{serial_world}
use Rattle.sv_wire.specs.declared.message.Request.{Request}
use Rattle.sv_wire.specs.declared.message.Request.TheVariants as requests
use Rattle.sv_world.specs.Ranges.{ObjectFits}
use Rattle.sv_wire.specs.Ranges.{ValueFits, ActionFits}
use Rattle.sv_wire.specs.Laws.{IsRequest}
use Rattle.sv_journal.specs.declared.entry.Entry.{Entry}
use Rattle.sv_journal.specs.History.{Authored, accepted, actions_of}
use Rattle.sv_journal.specs.Answer.{Rules}
use Rattle.sv_journal.specs.Serving.{plain}
use Rattle.sv_journal.specs.Sessions.{positions_in}
use Rattle.sv_journal.specs.Text.{NamesAccepted}
use Rattle.sv_journal.specs.Laws.{most_sent, AreWithinLimits, ServedRelaysNameAccepted, ServedRelaysAreSmall, ServedActionsAreGood}
use Rattle.sv_journal.proofs.Plain.{plain-keeping, plain-legal}
use Rattle.sv_client.specs.declared.trace.Event.{Event}
use Rattle.sv_client.specs.declared.trace.Event.TheVariants as events
use Rattle.sv_client.specs.declared.trace.Trace.{Trace}
use Rattle.sv_client.specs.Traces.{held_of, requests_of}
use Rattle.sv_client.specs.Taking.{Identity, items_of}
use Rattle.sv_client.specs.Proper.{IsGoodInterest, identity_of}
use Rattle.sv_client.proofs.Sendable.{wire_action}
use Rattle.law_system.specs.Clients.{AreClientEvents}
use Rattle.law_system.specs.Fits.{FitsOne}
use Rattle.law_system.specs.Served.{FitsButValues}
use Rattle.law_system.specs.Laws.{ReplicasAreSerial}
use Rattle.law_system.specs.Serial.{AreSerial}
use Rattle.law_system.proofs.Asking.{fits-but_values}
use Rattle.law_system.proofs.Asked.{done-when}
use Rattle.law_system.proofs.Leaving.{join-asked}
use Rattle.law_system.proofs.Relays.{observed-within}
use Rattle.law_system.proofs.Allowed.{asked-good}
use Rattle.law_system.proofs.Window.{submit-most}
use Rattle.law_asked.specs.Asked.{EventFits, CountsFit, HasNumbers, RequestsAreMessages, ServedRequestsFit}
use Rattle.law_system.proofs.Every.{each-at, each-map, each-more, each-place, each-reverse}
use Rattle.law_asked.proofs.Worlds.{HasFit, IsGoodValue, serial_good}
use Rattle.law_asked.proofs.Made.{Makes, Asks, asked-have}
use Rattle.law_asked.proofs.Owned.{actions-fit}
use Rattle.law_asked.proofs.Items.{got-items}
use Rattle.law_asked.proofs.Reported.{IsFineItem, done-is}

-- ---- Actions

-- An action that may be made, with numbers of its types.
abbrev IsMade : Shape → Action → Type 0
IsMade shape a = (first_fault_of_action shape a ≡ None) × ActionFits a

made : (who : Identity) (t : List Event) → AreClientEvents who t → AllByRecursion EventFits t → AllByRecursion (Makes (IsMade who.shape)) t
made who [] p f = tt
made who (events.Make a ∷ t) p f = ((p.0.good, f.0), made who t p.1 f.1)
made who (events.Join s ∷ t) p f = (tt, made who t p.1 f.1)
made who (events.Poll ∷ t) p f = (tt, made who t p.1 f.1)
made who (events.Observe objects wait ∷ t) p f = (f.0, made who t p.1 f.1)
made who (events.Leave ∷ t) p f = (tt, made who t p.1 f.1)
made who (events.Got s reply ∷ t) p f = (tt, made who t p.1 f.1)
made who (events.Cut ∷ t) p f = (tt, made who t p.1 f.1)
made who (events.Quit ∷ t) p f = (tt, made who t p.1 f.1)
made who (events.Show objects ∷ t) p f = (tt, made who t p.1 f.1)

-- ---- Each request

join-is : (who : Identity) (life : ℕ) → who.client.0 < 65536 → IsGoodInterest who → who.shape.objects ≤ 2 ^ 16 → life < 2 ^ 32 → IsRequest (requests.Join who.client life who.interest)
join-is who life named good objects few =
    record {
      within = record { few = good.few; ascending = good.ascending };
      fits = (
        omega (arith, named),
        omega (arith, few),
        each-more (λ (o : ObjectId). o.0 < who.shape.objects) ObjectFits (λ o l. omega (arith, l, objects)) who.interest (recursion_from_All (λ (o : ObjectId). o.0 < who.shape.objects) who.interest good.objects),
      );
    }

submit-is : (shape : Shape) (n : ℕ) (a : Action) → n < 2 ^ 32 → IsMade shape a → IsRequest (requests.Submit n a)
submit-is shape n a few m = record { within = wire_action shape a (good_of_none shape a m.0); fits = (omega (arith, few), m.1) }

within-few : (n : ℕ) (xs : List ObjectId) → ((x : ℕ) → is_in x (numbers_of xs) ≡ true → x < n) → n ≤ 2 ^ 16 → AllByRecursion ObjectFits xs
within-few n [] f few = tt
within-few n (x ∷ xs) f few = (omega (arith, f x.0 (is_in-head x.0 (numbers_of xs)), few), within-few n xs (λ y m. f y (is_in-tail y x.0 (numbers_of xs) m)) few)

observe-is : (n : ℕ) (xs : List ObjectId) (wait : ℕ) → n ≤ 2 ^ 16 → may_be_observed n (numbers_of xs) ≡ true → wait < 2 ^ 16 → IsRequest (requests.Observe xs wait)
observe-is n xs wait few good short =
    let all = and_parts (nat_lt 0 (length (numbers_of xs)) && nat_le (length (numbers_of xs)) 16 && is_ascending (numbers_of xs)) _ good in
    let ordered = and_parts (nat_lt 0 (length (numbers_of xs)) && nat_le (length (numbers_of xs)) 16) (is_ascending (numbers_of xs)) all.0 in
    let counted = and_parts (nat_lt 0 (length (numbers_of xs))) (nat_le (length (numbers_of xs)) 16) ordered.0 in
    let count : length (numbers_of xs) ≡ length xs = length-map xs (λ (o : ObjectId). o.0) in
    record {
      within = record {
        some = omega (arith, count, ltb-true 0 (length (numbers_of xs)) counted.0);
        few = omega (arith, count, leb-true (length (numbers_of xs)) 16 counted.1);
        ascending = ordered.1;
      };
      fits = (within-few n xs (observed-within n (numbers_of xs) good) few, short);
    }

module _ (r : Rules) (H : List Entry) (L : Trace) (s : ℕ) (limits : AreWithinLimits r) (numbers : HasNumbers r H (L ∷ [])) (one : FitsButValues r.world.shape H L)
    (named : All (λ (e : Entry). NamesAccepted (length (accepted H)) e.reply) H) (small : All (λ (e : Entry). length (positions_in e.reply) ≤ most_sent r e.reply) H)
    (goods : All (λ (a : Authored). first_fault_of_action r.world.shape a.action ≡ None) (accepted H)) (fit : All ActionFits (actions_of H))
    (held-serial : AreSerial r.world.values (actions_of H) (held_of (reverse L.events))) where
  abbrev whole : List Event
  whole = reverse L.events

  abbrev who : Identity
  who = identity_of r.world.shape L

  events-fit : AllByRecursion EventFits L.events
  events-fit = recursion_from_All EventFits L.events (recursion_from_All (λ (M : Trace). All EventFits M.events) (L ∷ []) numbers.made).0

  counts : CountsFit L
  counts = (recursion_from_All CountsFit (L ∷ []) numbers.counts).0

  good-actions : AllByRecursion (λ (a : Authored). IsGoodAction r.world.shape a.action) (accepted H)
  good-actions =
      each-more (λ (a : Authored). first_fault_of_action r.world.shape a.action ≡ None) (λ (a : Authored). IsGoodAction r.world.shape a.action)
      (λ a g. good_of_none r.world.shape a.action g) (accepted H) (recursion_from_All (λ (a : Authored). first_fault_of_action r.world.shape a.action ≡ None) (accepted H) goods)

  within : All (λ a. All (λ y. y < length r.world.values) (read_set a)) (actions_of H)
  within =
      All-from_recursion (λ a. All (λ y. y < length r.world.values) (read_set a)) (actions_of H)
      (each-map (λ (a : Authored). a.action) (λ a. All (λ y. y < length r.world.values) (read_set a)) (accepted H)
      (each-more (λ (a : Authored). IsGoodAction r.world.shape a.action) (λ (a : Authored). All (λ y. y < length r.world.values) (read_set a.action))
      (λ a g. subst (λ (n : ℕ). All (λ y. y < n) (read_set a.action)) (sym limits.objects) g.objects) (accepted H) good-actions))

  good : (p x : ℕ) → x < length r.world.values → IsGoodValue r.world.shape.attrs (slice_index_or (serial_world r.world.values (actions_of H) p) x [])
  good p x below =
      serial_good r.world.shape.attrs r.world.values (actions_of H) p x limits.attrs within
      (each-more ActionFits HasFit (λ a f. f.body) (actions_of H) (recursion_from_All ActionFits (actions_of H) fit))
      (recursion_from_All ValueFits r.world.values numbers.opening) below

  asks : (n : ℕ) (q : Request) → slice_get (requests_of L s) n ≡ Some q → Asks (IsMade r.world.shape) q
  asks n q there =
      let makings = made who whole one.trace.events (each-reverse EventFits L.events events-fit) in
      each-at (Asks (IsMade r.world.shape)) (requests_of L s) n q (asked-have (IsMade r.world.shape) L.client L.interest whole s makings) there

  each : (n : ℕ) (q : Request) → slice_get (requests_of L s) n ≡ Some q → IsRequest q
  each n (requests.Join client life interest) there =
      let j = join-asked who whole one.trace.events s n client life interest there in
      let is = join-is who life one.trace.client one.trace.interest numbers.objects (omega (arith, j.among, counts.lives)) in
      subst (λ (c : ClientId). IsRequest (requests.Join c life interest)) (sym j.client_is) (subst (λ (o : List ObjectId). IsRequest (requests.Join who.client life o)) (sym j.interest_is) is)
  each n (requests.Submit seq a) there =
      let most = submit-most who whole one.trace.events s n seq a there in
      submit-is r.world.shape seq a (omega (arith, most, counts.actions)) (asks n (requests.Submit seq a) there)
  each n (requests.Done results) there =
      let d = done-when who whole s n results there in
      let items = got-items r H L one limits.bound numbers.positions named small (All-from_recursion (λ (a : Authored). IsGoodAction r.world.shape a.action) (accepted H) good-actions) s d.reply results d.before d.part d.asks in
      done-is r.world.shape.attrs r.world.values (actions_of H) limits.some_attrs limits.few_attrs good s d.reply results d.before whole d.part d.asks held-serial
      (subst (λ (n : ℕ). AllByRecursion (IsFineItem n) (items_of d.reply)) (sym limits.objects) items.each) items.some items.few
  each n requests.Poll there = record { within = tt; fits = tt }
  each n (requests.Observe objects wait) there =
      observe-is r.world.shape.objects objects wait numbers.objects (asked-good who whole one.trace.events s n objects wait there) (asks n (requests.Observe objects wait) there)
  each n requests.Leave there = record { within = tt; fits = tt }
  each n requests.Bad there = absurd (asks n requests.Bad there)
  each n requests.End there = absurd (asks n requests.End there)

  all-requests : All IsRequest (requests_of L s)
  all-requests = All-from_recursion IsRequest (requests_of L s) (each-place IsRequest (requests_of L s) each)

pub served_requests_fit : ServedRelaysNameAccepted → ServedRelaysAreSmall → ServedActionsAreGood → ServedRequestsFit
served_requests_fit names small goods k r h L s law limits numbers fit legal one serial =
    all-requests r h L s limits numbers one (names k r h law legal) (small k r h law legal) (goods k r h law legal) fit serial

-- What a run is given has numbers of their types for each of its traces.
for-one : (r : Rules) (h : List Entry) (Ls : List Trace) (i : ℕ) (L : Trace) → HasNumbers r h Ls → slice_get Ls i ≡ Some L → HasNumbers r h (L ∷ [])
for-one r h Ls i L numbers member =
    let P = λ (M : Trace). All EventFits M.events in
    record {
      objects = numbers.objects;
      opening = numbers.opening;
      made = All-from_recursion P (L ∷ []) (each-at P Ls i L (recursion_from_All P Ls numbers.made) member, tt);
      counts = All-from_recursion CountsFit (L ∷ []) (each-at CountsFit Ls i L (recursion_from_All CountsFit Ls numbers.counts) member, tt);
      positions = numbers.positions;
    }

pub requests_are_messages : ServedRelaysNameAccepted → ServedRelaysAreSmall → ServedActionsAreGood → ReplicasAreSerial → RequestsAreMessages
requests_are_messages names small goods serial r h Ls i L s limits numbers legal fits member =
    let one = each-at (FitsOne r.world.shape h) Ls i L (recursion_from_All (FitsOne r.world.shape h) Ls fits.each) member in
    let P = λ (M : Trace). AreSerial r.world.values (actions_of h) (held_of (reverse M.events)) in
    let held = each-at P Ls i L (recursion_from_All P Ls (serial r h Ls limits.objects legal fits).held) member in
    let fit = All-from_recursion ActionFits (actions_of h) (actions-fit r h Ls fits numbers.made) in
    served_requests_fit names small goods plain r h L s plain-keeping limits (for-one r h Ls i L numbers member) fit (plain-legal r h legal)
    (fits-but_values r.world.shape h L one) held
