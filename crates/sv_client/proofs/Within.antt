-- What is outstanding observes objects of the world.
use Rattle.std.proofs.Common.{◌≡◌, ℕ, ◌<◌, Bool, true, false, nat_lt, nat_le, eqb, zero, suc, ◌&&◌, List, [], ◌∷◌, length, drop, map, slice_get, Option, Some, None, subst}
use Rattle.std.specs.Prelude.{if◌then◌else◌, All}
use Rattle.std.specs.List.{list_all}
use Rattle.std.proofs.lemmas.Bool.{and_parts, ltb-true}
use Rattle.std.proofs.lemmas.List.Elements.{All-nil, All-cons, All-head, All-tail, All-append, All-map}
use Rattle.sv_world.specs.declared.world.ObjectId.{ObjectId}
use Rattle.sv_world.specs.Limits.{most_reads}
use Rattle.sv_world.specs.Sets.{numbers_of}
use Rattle.sv_world.specs.Faults.{is_ascending, may_be_observed}
use Rattle.sv_versions.specs.Held.{Held}
use Rattle.sv_pending.specs.Pending.{PendingAction}
use Rattle.sv_wire.specs.declared.message.Reply.{Reply}
use Rattle.sv_wire.specs.declared.message.Reply.TheVariants as replies
use Rattle.sv_wire.specs.declared.message.Request.{Request}
use Rattle.sv_client.specs.declared.kinds.Awaited.{Awaited}
use Rattle.sv_client.specs.declared.kinds.Awaited.TheVariants as kinds
use Rattle.sv_client.specs.declared.trace.Event.{Event}
use Rattle.sv_client.specs.declared.trace.Event.TheVariants as events
use Rattle.sv_client.specs.Kinds.{kind_of}
use Rattle.sv_client.specs.Traces.{current_session, is_session, asked, asked_by_event, got, done_for, held_of, pending_of, submit_of}
use Rattle.sv_client.specs.Taking.{Identity, outstanding, unanswered, observed_by, observed_first, observed_now}
use Rattle.sv_client.specs.Proper.{AreProper, AreInTurn}
use Rattle.sv_client.specs.Evaluating.{AreWithin, AsksWithin}
use Rattle.sv_client.proofs.Sessions.{in_turn}

all_within : (n : ℕ) (os : List ObjectId) → list_all (λ x. nat_lt x n) (numbers_of os) ≡ true → AreWithin n os
all_within n [] e = All-nil (λ (o : ObjectId). o.0 < n)
all_within n (o ∷ os) e =
    let f = and_parts (nat_lt o.0 n) (list_all (λ x. nat_lt x n) (numbers_of os)) e in
    All-cons (λ (o : ObjectId). o.0 < n) o os (ltb-true o.0 n f.0) (all_within n os f.1)

-- Objects that may be observed are of the world.
pub observed_within : (n : ℕ) (os : List ObjectId) → may_be_observed n (numbers_of os) ≡ true → AreWithin n os
observed_within n os e =
    all_within n os (and_parts (nat_lt 0 (length (numbers_of os)) && nat_le (length (numbers_of os)) most_reads && is_ascending (numbers_of os)) (list_all (λ x. nat_lt x n) (numbers_of os)) e).1

abbrev KindWithin : ℕ → Option Awaited → Type 0
KindWithin n None = Unit {0}
KindWithin n (Some kind) = AsksWithin n kind

abbrev RequestWithin : ℕ → Request → Type 0
RequestWithin n request = KindWithin n (kind_of request)

module _ (n : ℕ) where
  no_object : AreWithin n []
  no_object = All-nil (λ (o : ObjectId). o.0 < n)

  none_asked : All (RequestWithin n) []
  none_asked = All-nil (RequestWithin n)

  one_asked : (r : Request) → RequestWithin n r → All (RequestWithin n) (r ∷ [])
  one_asked r w = All-cons (RequestWithin n) r [] w none_asked

  if_asked : (b : Bool) (rs : List Request) → All (RequestWithin n) rs → All (RequestWithin n) (if b then rs else [])
  if_asked true rs w = w
  if_asked false rs w = none_asked

  submits_within : (ps : List PendingAction) → All (RequestWithin n) (map submit_of ps)
  submits_within [] = none_asked
  submits_within (p ∷ ps) = All-cons (RequestWithin n) (submit_of p) (map submit_of ps) no_object (submits_within ps)

  done_within : (held : List Held) (reply : Reply) → All (RequestWithin n) (done_for held reply)
  done_within held (replies.Welcome c h) = none_asked
  done_within held (replies.Relay s c h is) = one_asked _ no_object
  done_within held (replies.Seen l c h []) = none_asked
  done_within held (replies.Seen l c h (i ∷ is)) = one_asked _ no_object
  done_within held (replies.Dropped s c f) = none_asked
  done_within held (replies.Denied s o) = none_asked
  done_within held (replies.Settled s p) = none_asked
  done_within held (replies.Noted c) = none_asked
  done_within held replies.Idle = none_asked
  done_within held (replies.Refused c d) = none_asked
  done_within held replies.Bye = none_asked

  drop_within : (k : ℕ) (rs : List Request) → All (RequestWithin n) rs → All (RequestWithin n) (drop k rs)
  drop_within zero rs w = w
  drop_within (suc k) [] w = w
  drop_within (suc k) (r ∷ rs) w = drop_within k rs (All-tail (RequestWithin n) r rs w)

  kinds_within : (ks : List Awaited) (rs : List Request) → map (λ k. Some k) ks ≡ map kind_of rs → All (RequestWithin n) rs → All (AsksWithin n) ks
  kinds_within [] rs e w = All-nil (AsksWithin n)
  kinds_within (k ∷ ks) [] e w = cc
  kinds_within (k ∷ ks) (r ∷ rs) e w =
      let first : kind_of r ≡ Some k = cc in
      let rest : map (λ k. Some k) ks ≡ map kind_of rs = cc in
      All-cons (AsksWithin n) k ks (subst (KindWithin n) first (All-head (RequestWithin n) r rs w)) (kinds_within ks rs rest (All-tail (RequestWithin n) r rs w))

event_within : (who : Identity) (first : ℕ) (t : List Event) (e : Event) → AreInTurn who first (e ∷ t) → (k : ℕ)
    → All (RequestWithin who.shape.objects) (asked_by_event who.client who.interest t e k)
event_within who first t (events.Join s) p k =
    if_asked who.shape.objects (eqb s k) _ (All-cons (RequestWithin who.shape.objects) _ (map submit_of (pending_of t)) (no_object who.shape.objects) (submits_within who.shape.objects (pending_of t)))
event_within who first t (events.Make a) p k = if_asked who.shape.objects (is_session (current_session t) k) _ (one_asked who.shape.objects _ (no_object who.shape.objects))
event_within who first t events.Poll p k = if_asked who.shape.objects (is_session (current_session t) k) _ (one_asked who.shape.objects _ (no_object who.shape.objects))
event_within who first t (events.Observe os wait) p k =
    if_asked who.shape.objects (is_session (current_session t) k) _ (one_asked who.shape.objects _ (observed_within who.shape.objects os p.0.good))
event_within who first t events.Leave p k = if_asked who.shape.objects (is_session (current_session t) k) _ (one_asked who.shape.objects _ (no_object who.shape.objects))
event_within who first t (events.Got s reply) p k = if_asked who.shape.objects (eqb s k) _ (done_within who.shape.objects (held_of t) reply)
event_within who first t events.Cut p k = none_asked who.shape.objects
event_within who first t events.Quit p k = none_asked who.shape.objects
event_within who first t (events.Show os) p k = none_asked who.shape.objects

asked_within : (who : Identity) (first : ℕ) (t : List Event) → AreInTurn who first t → (k : ℕ) → All (RequestWithin who.shape.objects) (asked who.client who.interest t k)
asked_within who first [] p k = none_asked who.shape.objects
asked_within who first (e ∷ t) p k =
    All-append (RequestWithin who.shape.objects) (asked who.client who.interest t k) (asked_by_event who.client who.interest t e k) (asked_within who first t p.1 k) (event_within who first t e p k)

outstanding_within : (who : Identity) (first : ℕ) (t : List Event) → AreInTurn who first t → All (RequestWithin who.shape.objects) (outstanding who t)
outstanding_within who first t p = go (current_session t)
  where
    go : (o : Option ℕ) → All (RequestWithin who.shape.objects) (unanswered who t o)
    go None = none_asked who.shape.objects
    go (Some s) = drop_within who.shape.objects (length (got t s)) (asked who.client who.interest t s) (asked_within who first t p s)

pub awaited_within : (who : Identity) (first : ℕ) (t : List Event) (ks : List Awaited) → AreInTurn who first t → map (λ k. Some k) ks ≡ map kind_of (outstanding who t) → All (AsksWithin who.shape.objects) ks
awaited_within who first t ks p e = kinds_within who.shape.objects ks (outstanding who t) e (outstanding_within who first t p)

-- ---- What the oldest request observes

pub first_within : (n : ℕ) (ks : List Awaited) (k : Awaited) → All (AsksWithin n) ks → slice_get ks 0 ≡ Some k → AsksWithin n k
first_within n [] k w e = cc
first_within n (j ∷ ks) k w e = let same : j ≡ k = cc in subst (AsksWithin n) same (All-head (AsksWithin n) j ks w)

seen_within : (n : ℕ) (o : Option Awaited) → KindWithin n o → All (λ x. x < n) (observed_by o)
seen_within n None w = All-nil (λ x. x < n)
seen_within n (Some (kinds.Observe objects)) w = All-map (λ x. x < n) (λ (o : ObjectId). o.0) objects w
seen_within n (Some kinds.Join) w = All-nil (λ x. x < n)
seen_within n (Some kinds.Submit) w = All-nil (λ x. x < n)
seen_within n (Some kinds.Done) w = All-nil (λ x. x < n)
seen_within n (Some kinds.Poll) w = All-nil (λ x. x < n)
seen_within n (Some kinds.Leave) w = All-nil (λ x. x < n)

pub seen_now_within : (who : Identity) (first : ℕ) (t : List Event) → AreProper who first t → All (λ x. x < who.shape.objects) (observed_now who t)
seen_now_within who first t p = go (outstanding who t) (outstanding_within who first t (in_turn who first t p))
  where
    go : (rs : List Request) → All (RequestWithin who.shape.objects) rs → All (λ x. x < who.shape.objects) (observed_first rs)
    go [] w = All-nil (λ x. x < who.shape.objects)
    go (r ∷ rs) w = seen_within who.shape.objects (kind_of r) (All-head (RequestWithin who.shape.objects) r rs w)
