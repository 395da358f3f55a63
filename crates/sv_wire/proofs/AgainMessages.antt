-- What was written is read again, whatever follows it: actions and messages.
use Rattle.std.proofs.Common.{◌≡◌, ℕ, ◌^◌, ◌<◌, ◌≤◌, List, [], ◌∷◌, ◌++◌, length, Result, Ok, FitsSigned, refl, sym, ap, ◌∙◌, append_assoc, arith}
use Rattle.std.specs.List.{flat_map, AllByRecursion}
use Rattle.std.specs.Int.{w32}
use Rattle.std.proofs.lemmas.Bool.{lt-leb, le-leb}
use Rattle.std.proofs.lemmas.List.{append-nil}
use Rattle.std.proofs.lemmas.List.Elements.{recursion_from_All}
use Rattle.byteorder.specs.Endian.{big_bytes}
use Rattle.sv_world.specs.declared.action.Action.{Action}
use Rattle.sv_world.specs.declared.action.Point.{Point}
use Rattle.sv_world.specs.declared.world.ObjectId.{ObjectId}
use Rattle.sv_world.specs.Ranges.{ObjectFits}
use Rattle.sv_wire.specs.declared.fault.Stop.{Stop}
use Rattle.sv_wire.specs.declared.message.ObjectValue.{ObjectValue}
use Rattle.sv_wire.specs.declared.message.Item.{Item}
use Rattle.sv_wire.specs.declared.message.Request.{Request}
use Rattle.sv_wire.specs.declared.message.Request.TheVariants.{Join, Submit, Done, Poll, Observe, Leave, Bad, End}
use Rattle.sv_wire.specs.declared.message.Reply.{Reply}
use Rattle.sv_wire.specs.declared.message.Reply.TheVariants.{Welcome, Relay, Dropped, Denied, Seen, Settled, Noted, Idle, Refused, Bye}
use Rattle.sv_wire.specs.Steps.{Read}
use Rattle.sv_wire.specs.Fields.{byte_from, result_from}
use Rattle.sv_wire.specs.Messages.{mask_from, point_from, action_from, item_from, join_request_from, submit_from, done_from, observe_from, request_front, request_kind_of, welcome_from, work_from, relay_from, seen_from, dropped_from, denied_from, settled_from, noted_from, code_from, refused_from, reply_front, reply_kind_of, whole, placed, request_at, reply_at}
use Rattle.sv_wire.specs.Spelling.{int_bytes, object_bytes, head_bytes, result_bytes, point_bytes, body_bytes, action_bytes, item_bytes, work_bytes, request_bytes, reply_bytes}
use Rattle.sv_wire.specs.Grammar.{IsWireHead, IsWireResult, IsWireAction, IsWireObserved, IsWireWork, IsWireRequest, IsWireReply}
use Rattle.sv_wire.specs.Laws.{RequestsDiffer, RepliesDiffer, RequestsAreApart, RepliesAreApart, KindsAreApart}
use Rattle.sv_wire.specs.Ranges.{HeldFits, ResultFits, ActionFits, ItemFits, RequestFits, ReplyFits}
use Rattle.sv_wire.proofs.Again.{number_again, int32_again, count_again, several_again, objects_again, head_again, result_again, both_of_each}
use Rattle.sv_wire.proofs.AgainTrees.{body_again}

mask_again : (count mask : ℕ) (rest : List ℕ) → mask < 2 ^ 16 → mask < 2 ^ count → mask_from count (big_bytes 2 mask ++ rest) ≡ Ok (mask, rest)
unfolding mask_from
mask_again count mask rest fits few = rw (number_again 2 mask rest (omega arith), lt-leb (2 ^ count) mask few) refl

point_again : (p : Point) (rest : List ℕ) → FitsSigned w32 p.x → FitsSigned w32 p.y → point_from (point_bytes p ++ rest) ≡ Ok (p, rest)
unfolding point_from
point_again p rest fx fy =
    ap point_from (append_assoc (int_bytes w32 p.x) (int_bytes w32 p.y) rest)
    ∙ rw (int32_again p.x (int_bytes w32 p.y ++ rest) fx, int32_again p.y rest fy) refl

action_again : (a : Action) (rest : List ℕ) → IsWireAction a × ActionFits a → action_from (action_bytes a ++ rest) ≡ Ok (a, rest)
unfolding action_from
action_again a rest h =
    let objects = flat_map object_bytes a.reads in
    let mask = big_bytes 2 a.mask in
    let point = point_bytes a.origin in
    let body = body_bytes a.body in
    let regrouped : action_bytes a ++ rest ≡ length a.reads ∷ (objects ++ (mask ++ (point ++ (body ++ rest)))) =
    ap (λ (t : List ℕ). length a.reads ∷ t)
    (append_assoc (objects ++ mask ++ point) body rest ∙ append_assoc (objects ++ mask) point (body ++ rest) ∙ append_assoc objects mask (point ++ (body ++ rest))) in
    ap action_from regrouped
    ∙ rw (
      count_again 1 16 (length a.reads) (objects ++ (mask ++ (point ++ (body ++ rest)))) h.0.some_reads h.0.few_reads,
      objects_again a.reads (mask ++ (point ++ (body ++ rest))) h.0.ascending h.1.reads,
      mask_again (length a.reads) a.mask (point ++ (body ++ rest)) h.1.mask h.0.mask,
      point_again a.origin (body ++ rest) h.1.x h.1.y,
      body_again a.body rest h.1.body h.0.shallow h.0.few_nodes,
    ) refl

item_again : (i : Item) (rest : List ℕ) → IsWireAction i.action × ItemFits i → item_from (item_bytes i ++ rest) ≡ Ok (i, rest)
unfolding item_from
item_again i rest h =
    let pos = big_bytes 4 i.pos in
    let client = big_bytes 2 i.client.0 in
    let seq = big_bytes 4 i.seq in
    let action = action_bytes i.action in
    let regrouped : item_bytes i ++ rest ≡ pos ++ (client ++ (seq ++ (action ++ rest))) =
    append_assoc (pos ++ client ++ seq) action rest ∙ append_assoc (pos ++ client) seq (action ++ rest) ∙ append_assoc pos client (seq ++ (action ++ rest)) in
    ap item_from regrouped
    ∙ rw (
      number_again 4 i.pos (client ++ (seq ++ (action ++ rest))) (omega (arith, h.1.pos)),
      number_again 2 i.client.0 (seq ++ (action ++ rest)) (omega (arith, h.1.client)),
      number_again 4 i.seq (action ++ rest) (omega (arith, h.1.seq)),
      action_again i.action rest (h.0, h.1.action),
    ) refl

observe_again : (objects : List ObjectId) (wait : ℕ) (rest : List ℕ) → IsWireObserved objects → AllByRecursion ObjectFits objects → wait < 2 ^ 16
    → observe_from (length objects ∷ (flat_map object_bytes objects ++ (big_bytes 2 wait ++ rest))) ≡ Ok (Observe objects wait, rest)
unfolding observe_from
observe_again objects wait rest is fits lt =
    rw (
      count_again 1 16 (length objects) (flat_map object_bytes objects ++ (big_bytes 2 wait ++ rest)) is.some is.few,
      objects_again objects (big_bytes 2 wait ++ rest) is.ascending fits,
      number_again 2 wait rest (omega arith),
    ) refl

-- A request at the front, whatever follows it.
pub request_again : (m : Request) (rest : List ℕ) → IsWireRequest m → RequestFits m → request_front (request_bytes m ++ rest) ≡ Ok (m, rest)
unfolding request_front request_bytes request_kind_of byte_from join_request_from submit_from done_from
request_again (Join client life interest) rest is fits =
    let objects = flat_map object_bytes interest in
    let read : join_request_from (big_bytes 2 client.0 ++ (big_bytes 4 life ++ (length interest ∷ (objects ++ rest)))) ≡ Ok (Join client life interest, rest) =
    rw (
      number_again 2 client.0 (big_bytes 4 life ++ (length interest ∷ (objects ++ rest))) (omega (arith, fits.0)),
      number_again 4 life (length interest ∷ (objects ++ rest)) (omega (arith, fits.1)),
      count_again 0 64 (length interest) (objects ++ rest) (omega arith) is.few,
      objects_again interest rest is.ascending fits.2,
    ) refl in
    read
request_again (Submit seq action) rest is fits =
    let read : submit_from (big_bytes 4 seq ++ (action_bytes action ++ rest)) ≡ Ok (Submit seq action, rest) =
    rw (number_again 4 seq (action_bytes action ++ rest) (omega (arith, fits.0)), action_again action rest (is, fits.1)) refl in
    read
request_again (Done results) rest is fits =
    let each = both_of_each IsWireResult ResultFits results (recursion_from_All IsWireResult results is.each) fits in
    rw (
      count_again 1 33 (length results) (flat_map result_bytes results ++ rest) is.some is.few,
      several_again result_from result_bytes (λ r. IsWireResult r × ResultFits r) result_again results rest each,
    ) refl
request_again Poll rest is fits = refl
request_again (Observe objects wait) rest is fits =
    let list = length objects ∷ flat_map object_bytes objects in
    ap observe_from (append_assoc list (big_bytes 2 wait) rest) ∙ observe_again objects wait rest is fits.0 fits.1
request_again Leave rest is fits = refl
request_again Bad rest is fits = absurd is
request_again End rest is fits = absurd is

welcome_again : (commit : ℕ) (head : List ObjectValue) (rest : List ℕ) → IsWireHead head → commit < 2 ^ 32 → AllByRecursion HeldFits head → welcome_from (big_bytes 4 commit ++ (head_bytes head ++ rest)) ≡ Ok (Welcome commit head, rest)
unfolding welcome_from
welcome_again commit head rest is lt fits = rw (number_again 4 commit (head_bytes head ++ rest) (omega arith), head_again 528 head rest (omega arith) is fits) refl

work_again : (most : ℕ) (head : List ObjectValue) (items : List Item) (rest : List ℕ) → most ≤ 65535 → IsWireWork most head items → AllByRecursion HeldFits head → AllByRecursion ItemFits items
    → work_from most (work_bytes head items ++ rest) ≡ Ok ((head, items), rest)
unfolding work_from
work_again most head items rest small is heads fit =
    let each = both_of_each (λ (i : Item). IsWireAction i.action) ItemFits items (recursion_from_All (λ (i : Item). IsWireAction i.action) items is.each) fit in
    let last = flat_map item_bytes items ++ rest in
    ap (work_from most) (append_assoc (head_bytes head) (length items ∷ flat_map item_bytes items) rest)
    ∙ rw (
      head_again most head (length items ∷ last) small is.base heads,
      count_again 0 33 (length items) last (omega arith) is.few,
      several_again item_from item_bytes (λ (i : Item). IsWireAction i.action × ItemFits i) item_again items rest each,
    ) refl

relay_again : (seq commit : ℕ) (head : List ObjectValue) (items : List Item) (rest : List ℕ) → IsWireReply (Relay seq commit head items) → ReplyFits (Relay seq commit head items)
    → relay_from (big_bytes 4 seq ++ (big_bytes 4 commit ++ (work_bytes head items ++ rest))) ≡ Ok (Relay seq commit head items, rest)
unfolding relay_from
relay_again seq commit head items rest is fits =
    rw (
      number_again 4 seq (big_bytes 4 commit ++ (work_bytes head items ++ rest)) (omega (arith, fits.0)),
      number_again 4 commit (work_bytes head items ++ rest) (omega (arith, fits.1)),
      work_again 528 head items rest (omega arith) is fits.2 fits.3,
    ) refl

seen_again : (last commit : ℕ) (head : List ObjectValue) (items : List Item) (rest : List ℕ) → IsWireReply (Seen last commit head items) → ReplyFits (Seen last commit head items)
    → seen_from (big_bytes 4 last ++ (big_bytes 4 commit ++ (work_bytes head items ++ rest))) ≡ Ok (Seen last commit head items, rest)
unfolding seen_from
seen_again last commit head items rest is fits =
    rw (
      number_again 4 last (big_bytes 4 commit ++ (work_bytes head items ++ rest)) (omega (arith, fits.0)),
      number_again 4 commit (work_bytes head items ++ rest) (omega (arith, fits.1)),
      work_again 544 head items rest (omega arith) is fits.2 fits.3,
    ) refl

regrouped : (a b c d : List ℕ) → a ++ b ++ c ++ d ≡ a ++ (b ++ (c ++ d))
regrouped a b c d = append_assoc (a ++ b) c d ∙ append_assoc a b (c ++ d)

-- A reply at the front, whatever follows it.
pub reply_again : (m : Reply) (rest : List ℕ) → IsWireReply m → ReplyFits m → reply_front (reply_bytes m ++ rest) ≡ Ok (m, rest)
unfolding reply_front reply_bytes reply_kind_of byte_from dropped_from denied_from settled_from noted_from code_from refused_from
reply_again (Welcome commit head) rest is fits =
    let regrouped : big_bytes 4 commit ++ head_bytes head ++ rest ≡ big_bytes 4 commit ++ (head_bytes head ++ rest) = append_assoc (big_bytes 4 commit) (head_bytes head) rest in
    ap welcome_from regrouped ∙ welcome_again commit head rest is fits.0 fits.1
reply_again (Relay seq commit head items) rest is fits =
    ap relay_from (regrouped (big_bytes 4 seq) (big_bytes 4 commit) (work_bytes head items) rest) ∙ relay_again seq commit head items rest is fits
reply_again (Dropped seq chain far) rest is fits =
    let read : dropped_from (big_bytes 4 seq ++ (big_bytes 4 chain ++ (big_bytes 4 far ++ rest))) ≡ Ok (Dropped seq chain far, rest) =
    rw (number_again 4 seq (big_bytes 4 chain ++ (big_bytes 4 far ++ rest)) (omega (arith, fits.0)), number_again 4 chain (big_bytes 4 far ++ rest) (omega (arith, fits.1)), number_again 4 far rest (omega (arith, fits.2))) refl in
    read
reply_again (Denied seq object) rest is fits =
    let read : denied_from (big_bytes 4 seq ++ (object_bytes object ++ rest)) ≡ Ok (Denied seq object, rest) =
    rw (number_again 4 seq (object_bytes object ++ rest) (omega (arith, fits.0)), number_again 2 object.0 rest (omega (arith, fits.1))) refl in
    read
reply_again (Seen last commit head items) rest is fits =
    ap seen_from (regrouped (big_bytes 4 last) (big_bytes 4 commit) (work_bytes head items) rest) ∙ seen_again last commit head items rest is fits
reply_again (Settled seq position) rest is fits =
    let read : settled_from (big_bytes 4 seq ++ (big_bytes 4 position ++ rest)) ≡ Ok (Settled seq position, rest) =
    rw (number_again 4 seq (big_bytes 4 position ++ rest) (omega (arith, fits.0)), number_again 4 position rest (omega (arith, fits.1))) refl in
    read
reply_again (Noted commit) rest is fits = rw (number_again 4 commit rest (omega (arith, fits))) refl
reply_again Idle rest is fits = refl
reply_again (Refused code detail) rest is fits = rw (le-leb 1 code is.0, le-leb code 12 is.1, number_again 4 detail rest (omega (arith, fits.1))) refl
reply_again Bye rest is fits = refl

-- A whole payload is read as its message.
whole_is : {A : Type 0} (reader : List ℕ → Read A) (bytes : List ℕ) (m : A) → reader (bytes ++ []) ≡ Ok (m, []) → whole reader bytes ≡ Ok m
unfolding whole
whole_is reader bytes m h =
    let e : reader bytes ≡ Ok (m, []) = ap reader (sym (append-nil bytes)) ∙ h in
    rw e refl

pub request_is_read : (m : Request) → IsWireRequest m → RequestFits m → request_at (request_bytes m) ≡ Ok m
unfolding request_at
request_is_read m is fits = ap (placed (request_bytes m)) (whole_is request_front (request_bytes m) m (request_again m [] is fits))

pub reply_is_read : (m : Reply) → IsWireReply m → ReplyFits m → reply_at (reply_bytes m) ≡ Ok m
unfolding reply_at
reply_is_read m is fits = ap (placed (reply_bytes m)) (whole_is reply_front (reply_bytes m) m (reply_again m [] is fits))

abbrev both : {A : Type 0} → A → List ℕ → A × List ℕ
both m rest = (m, rest)

abbrev read : {A : Type 0} → A → List ℕ → Result (A × List ℕ) Stop
read m rest = Ok (m, rest)

same_read : {A : Type 0} (m n : A) (x y : List ℕ) → read m x ≡ read n y → m ≡ n
same_read {A = A} m n x y e = let p : both m x ≡ both n y = cc in ap (λ (q : A × List ℕ). q.0) p

-- No payload begins another one.
pub requests_apart : RequestsAreApart
requests_apart m n x y p q e = same_read m n x y (sym (request_again m x p.within p.fits) ∙ ap request_front e ∙ request_again n y q.within q.fits)

pub replies_apart : RepliesAreApart
replies_apart m n x y p q e = same_read m n x y (sym (reply_again m x p.within p.fits) ∙ ap reply_front e ∙ reply_again n y q.within q.fits)

pub requests_differ : RequestsDiffer
requests_differ m n p q e = requests_apart m n [] [] p q (ap (λ (t : List ℕ). t ++ []) e)

pub replies_differ : RepliesDiffer
replies_differ m n p q e = replies_apart m n [] [] p q (ap (λ (t : List ℕ). t ++ []) e)

-- A reply's payload is no request.
not_request : (n : Reply) (y : List ℕ) (x : Request × List ℕ) → request_front (reply_bytes n ++ y) ≡ Ok x → ⊥
unfolding request_front reply_bytes request_kind_of byte_from
not_request (Welcome commit head) y x e = cc
not_request (Relay seq commit head items) y x e = cc
not_request (Dropped seq chain far) y x e = cc
not_request (Denied seq object) y x e = cc
not_request (Seen last commit head items) y x e = cc
not_request (Settled seq position) y x e = cc
not_request (Noted commit) y x e = cc
not_request Idle y x e = cc
not_request (Refused code detail) y x e = cc
not_request Bye y x e = cc

pub kinds_apart : KindsAreApart
kinds_apart m n x y p q e = not_request n y (m, x) (sym (ap request_front e) ∙ request_again m x p.within p.fits)
