-- What is read is spelled so, each byte of it: actions and messages.
use Rattle.std.proofs.Common.{◌≡◌, ℕ, ◌^◌, ◌<◌, ◌≤◌, cond, leb, eqb, ◌&&◌, List, [], ◌∷◌, ◌++◌, length, Some, Result, Ok, Err, refl, sym, ap, subst, ◌∙◌, arith}
use Rattle.std.specs.List.{flat_map}
use Rattle.std.specs.Int.{w32}
use Rattle.std.proofs.lemmas.Bool.{leb-false, eqb-true}
use Rattle.std.proofs.lemmas.List.{append-nil, nil_from_length}
use Rattle.std.proofs.lemmas.List.Elements.{All-from_recursion}
use Rattle.byteorder.specs.Endian.{big_bytes}
use Rattle.sv_world.specs.Trees.{body_nodes, body_depth}
use Rattle.sv_world.specs.declared.action.Action.{Action}
use Rattle.sv_world.specs.declared.action.Point.{Point}
use Rattle.sv_world.specs.declared.action.Stmt.{Stmt}
use Rattle.sv_wire.specs.declared.fault.Stop.{Stop}
use Rattle.sv_wire.specs.declared.fault.WireCause.TheVariants.{Mask, Code, Rest}
use Rattle.sv_wire.specs.declared.message.Item.{Item}
use Rattle.sv_wire.specs.declared.message.ObjectValue.{ObjectValue}
use Rattle.sv_wire.specs.declared.message.Request.{Request}
use Rattle.sv_wire.specs.declared.message.Request.TheVariants as request
use Rattle.sv_wire.specs.declared.message.Reply.{Reply}
use Rattle.sv_wire.specs.declared.message.Reply.TheVariants as reply
use Rattle.sv_wire.specs.declared.kinds.RequestKind.{RequestKind}
use Rattle.sv_wire.specs.declared.kinds.RequestKind.TheVariants as request_kind
use Rattle.sv_wire.specs.declared.kinds.ReplyKind.{ReplyKind}
use Rattle.sv_wire.specs.declared.kinds.ReplyKind.TheVariants as reply_kind
use Rattle.sv_wire.specs.Steps.{◌>>=◌, Read, stop, several}
use Rattle.sv_wire.specs.Fields.{byte_from, number_from, int_from, count_from, objects_from, head_from, result_from}
use Rattle.sv_wire.specs.Nodes.{kind_in}
use Rattle.sv_wire.specs.Trees.{list_by, stmt_from, body_from}
use Rattle.sv_wire.specs.Messages.{mask_from, point_from, action_from, item_from, join_request_from, submit_from, done_from, observe_from, request_of, request_front, request_kind_of, welcome_from, work_from, relay_from, seen_from, dropped_from, denied_from, settled_from, noted_from, code_from, refused_from, reply_of, reply_front, reply_kind_of, whole, placed, request_at, reply_at}
use Rattle.sv_wire.specs.Spelling.{object_bytes, head_bytes, result_bytes, point_bytes, body_bytes, action_bytes, item_bytes, work_bytes, request_bytes, reply_bytes}
use Rattle.sv_wire.specs.Grammar.{IsWireResult, IsWireAction, IsWireWork, IsWireRequest, IsWireReply}
use Rattle.sv_wire.proofs.Near.{ok_is}
use Rattle.sv_wire.proofs.NearFields.{bind_ok, kept_if, kept_unless, count_is, within}
use Rattle.sv_wire.proofs.NearTrees.{list_near, stmt_near}
use Rattle.sv_wire.proofs.Found.{IsBytes, Takes, after, byte_takes, exact2, exact4, number_takes, int32_takes, count_takes, several_takes, objects_takes, head_takes, result_takes}
use Rattle.sv_wire.proofs.FoundTrees.{among_found, kind_ok, list_found, stmt_found}

body_takes : (bytes : List ℕ) (x : List Stmt × List ℕ) → IsBytes bytes → body_from bytes ≡ Ok x → Takes bytes (body_bytes x.0) x.1 × (body_nodes x.0 ≤ 64) × (body_depth x.0 ≤ 8)
unfolding body_from
body_takes bytes x fits e =
    let b = bind_ok (list_by (λ n rest. stmt_from 8 n rest) 0 bytes) (λ body. Ok (body.0, body.2)) x e in
    let near = (list_near (λ n rest. stmt_from 8 n rest) (stmt_near 8) 0 bytes (omega arith)).ok b.0 b.1 in
    let t = list_found (λ n rest. stmt_from 8 n rest) 8 (stmt_found 8) 0 bytes b.0 fits b.1 in
    let few : body_nodes b.0.0 ≤ 64 = omega (arith, near.1, t.nodes_are) in
    subst (λ (y : List Stmt × List ℕ). Takes bytes (body_bytes y.0) y.1 × (body_nodes y.0 ≤ 64) × (body_depth y.0 ≤ 8)) (ok_is (b.0.0, b.0.2) x b.2) (t.takes, few, t.is_within)

mask_takes : (count : ℕ) (bytes : List ℕ) (x : ℕ × List ℕ) → IsBytes bytes → mask_from count bytes ≡ Ok x → Takes bytes (big_bytes 2 x.0) x.1 × (x.0 < 2 ^ count)
unfolding mask_from
mask_takes count bytes x fits e =
    let n = bind_ok (number_from 2 bytes) (λ mask. cond (leb (2 ^ count) mask.0) (stop bytes Mask) (Ok (mask.0, mask.1))) x e in
    let g = kept_unless (leb (2 ^ count) n.0.0) (n.0.0, n.0.1) x _ n.2 in
    let t = number_takes 2 exact2 bytes n.0 fits n.1 in
    subst (λ (y : ℕ × List ℕ). Takes bytes (big_bytes 2 y.0) y.1 × (y.0 < 2 ^ count)) g.1 (t.0, leb-false (2 ^ count) n.0.0 g.0)

point_takes : (bytes : List ℕ) (x : Point × List ℕ) → IsBytes bytes → point_from bytes ≡ Ok x → Takes bytes (point_bytes x.0) x.1
unfolding point_from
point_takes bytes x fits e =
    let a = bind_ok (int_from w32 bytes) (λ x. int_from w32 x.1 >>= λ y. Ok (record { x = x.0; y = y.0 }, y.1)) x e in
    let b = bind_ok (int_from w32 a.0.1) (λ y. Ok (record { x = a.0.0; y = y.0 }, y.1)) x a.2 in
    let p = int32_takes bytes a.0 fits a.1 in
    let q = int32_takes a.0.1 b.0 p.bytes_left b.1 in
    subst (λ (y : Point × List ℕ). Takes bytes (point_bytes y.0) y.1) (ok_is (record { x = a.0.0; y = b.0.0 }, b.0.1) x b.2) (after p q)

abbrev action_with : ℕ → List ℕ → Read Action
action_with n bytes = objects_from n bytes >>= λ reads. mask_from n reads.1 >>= λ mask. point_from mask.1 >>= λ origin. body_from origin.1 >>= λ body. Ok (record { reads = reads.0; mask = mask.0; origin = origin.0; body = body.0 }, body.1)

action_takes : (bytes : List ℕ) (x : Action × List ℕ) → IsBytes bytes → action_from bytes ≡ Ok x → Takes bytes (action_bytes x.0) x.1 × IsWireAction x.0
unfolding action_from
action_takes bytes x fits e =
    let n = bind_ok (count_from 1 16 bytes) (λ n. action_with n.0 n.1) x e in
    let r = bind_ok (objects_from n.0.0 n.0.1) (λ reads. mask_from n.0.0 reads.1 >>= λ mask. point_from mask.1 >>= λ origin. body_from origin.1 >>= λ body. Ok (record { reads = reads.0; mask = mask.0; origin = origin.0; body = body.0 }, body.1)) x n.2 in
    let m = bind_ok (mask_from n.0.0 r.0.1) (λ mask. point_from mask.1 >>= λ origin. body_from origin.1 >>= λ body. Ok (record { reads = r.0.0; mask = mask.0; origin = origin.0; body = body.0 }, body.1)) x r.2 in
    let p = bind_ok (point_from m.0.1) (λ origin. body_from origin.1 >>= λ body. Ok (record { reads = r.0.0; mask = m.0.0; origin = origin.0; body = body.0 }, body.1)) x m.2 in
    let b = bind_ok (body_from p.0.1) (λ body. Ok (record { reads = r.0.0; mask = m.0.0; origin = p.0.0; body = body.0 }, body.1)) x p.2 in
    let few = count_is 1 16 bytes n.0 n.1 in
    let tn = count_takes 1 16 bytes n.0 fits n.1 in
    let tr = objects_takes n.0.0 n.0.1 r.0 tn.bytes_left r.1 in
    let tm = mask_takes n.0.0 r.0.1 m.0 tr.0.bytes_left m.1 in
    let tp = point_takes m.0.1 p.0 tm.0.bytes_left p.1 in
    let tb = body_takes p.0.1 b.0 tp.bytes_left b.1 in
    let front : Takes bytes (length r.0.0 ∷ flat_map object_bytes r.0.0) r.0.1 = subst (λ (k : ℕ). Takes bytes (k ∷ flat_map object_bytes r.0.0) r.0.1) (sym tr.1) (after tn tr.0) in
    let mask : m.0.0 < 2 ^ length r.0.0 = subst (λ (k : ℕ). m.0.0 < 2 ^ k) (sym tr.1) tm.1 in
    subst (λ (y : Action × List ℕ). Takes bytes (action_bytes y.0) y.1 × IsWireAction y.0) (ok_is (record { reads = r.0.0; mask = m.0.0; origin = p.0.0; body = b.0.0 }, b.0.1) x b.2) (
      after (after (after front tm.0) tp) tb.0,
      record {
        some_reads = omega (arith, few.0, tr.1);
        few_reads = omega (arith, few.1, tr.1);
        ascending = tr.2;
        mask = mask;
        few_nodes = tb.1;
        shallow = tb.2;
      },
    )

item_takes : (bytes : List ℕ) (x : Item × List ℕ) → IsBytes bytes → item_from bytes ≡ Ok x → Takes bytes (item_bytes x.0) x.1 × IsWireAction x.0.action
unfolding item_from
item_takes bytes x fits e =
    let p = bind_ok (number_from 4 bytes) (λ pos. number_from 2 pos.1 >>= λ client. number_from 4 client.1 >>= λ seq. action_from seq.1 >>= λ action. Ok (record { pos = pos.0; client = record { 0 = client.0 }; seq = seq.0; action = action.0 }, action.1)) x e in
    let c = bind_ok (number_from 2 p.0.1) (λ client. number_from 4 client.1 >>= λ seq. action_from seq.1 >>= λ action. Ok (record { pos = p.0.0; client = record { 0 = client.0 }; seq = seq.0; action = action.0 }, action.1)) x p.2 in
    let s = bind_ok (number_from 4 c.0.1) (λ seq. action_from seq.1 >>= λ action. Ok (record { pos = p.0.0; client = record { 0 = c.0.0 }; seq = seq.0; action = action.0 }, action.1)) x c.2 in
    let a = bind_ok (action_from s.0.1) (λ action. Ok (record { pos = p.0.0; client = record { 0 = c.0.0 }; seq = s.0.0; action = action.0 }, action.1)) x s.2 in
    let tp = number_takes 4 exact4 bytes p.0 fits p.1 in
    let tc = number_takes 2 exact2 p.0.1 c.0 tp.0.bytes_left c.1 in
    let ts = number_takes 4 exact4 c.0.1 s.0 tc.0.bytes_left s.1 in
    let ta = action_takes s.0.1 a.0 ts.0.bytes_left a.1 in
    subst (λ (y : Item × List ℕ). Takes bytes (item_bytes y.0) y.1 × IsWireAction y.0.action) (ok_is (record { pos = p.0.0; client = record { 0 = c.0.0 }; seq = s.0.0; action = a.0.0 }, a.0.1) x a.2)
    (after (after (after tp.0 tc.0) ts.0) ta.0, ta.1)

-- ---- requests

-- The rest of a message behind its kind: its text, and that it is within the grammar.
abbrev RequestRest : ℕ → List ℕ → Request × List ℕ → Type 0
RequestRest b bytes x = (t : List ℕ) × Takes bytes t x.1 × (request_bytes x.0 ≡ b ∷ t) × IsWireRequest x.0

join_takes : (bytes : List ℕ) (x : Request × List ℕ) → IsBytes bytes → join_request_from bytes ≡ Ok x → RequestRest 0x01 bytes x
unfolding join_request_from request_bytes
join_takes bytes x fits e =
    let c = bind_ok (number_from 2 bytes) (λ client. number_from 4 client.1 >>= λ life. count_from 0 64 life.1 >>= λ n. objects_from n.0 n.1 >>= λ interest. Ok (request.Join (record { 0 = client.0 }) life.0 interest.0, interest.1)) x e in
    let l = bind_ok (number_from 4 c.0.1) (λ life. count_from 0 64 life.1 >>= λ n. objects_from n.0 n.1 >>= λ interest. Ok (request.Join (record { 0 = c.0.0 }) life.0 interest.0, interest.1)) x c.2 in
    let n = bind_ok (count_from 0 64 l.0.1) (λ n. objects_from n.0 n.1 >>= λ interest. Ok (request.Join (record { 0 = c.0.0 }) l.0.0 interest.0, interest.1)) x l.2 in
    let o = bind_ok (objects_from n.0.0 n.0.1) (λ interest. Ok (request.Join (record { 0 = c.0.0 }) l.0.0 interest.0, interest.1)) x n.2 in
    let tc = number_takes 2 exact2 bytes c.0 fits c.1 in
    let tl = number_takes 4 exact4 c.0.1 l.0 tc.0.bytes_left l.1 in
    let tn = count_takes 0 64 l.0.1 n.0 tl.0.bytes_left n.1 in
    let few = count_is 0 64 l.0.1 n.0 n.1 in
    let to = objects_takes n.0.0 n.0.1 o.0 tn.bytes_left o.1 in
    let list : Takes l.0.1 (length o.0.0 ∷ flat_map object_bytes o.0.0) o.0.1 = subst (λ (k : ℕ). Takes l.0.1 (k ∷ flat_map object_bytes o.0.0) o.0.1) (sym to.1) (after tn to.0) in
    subst (λ (y : Request × List ℕ). RequestRest 0x01 bytes y) (ok_is (request.Join (record { 0 = c.0.0 }) l.0.0 o.0.0, o.0.1) x o.2)
    (big_bytes 2 c.0.0 ++ big_bytes 4 l.0.0 ++ length o.0.0 ∷ flat_map object_bytes o.0.0, after (after tc.0 tl.0) list, refl, record { few = omega (arith, few.1, to.1); ascending = to.2 })

submit_takes : (bytes : List ℕ) (x : Request × List ℕ) → IsBytes bytes → submit_from bytes ≡ Ok x → RequestRest 0x06 bytes x
unfolding submit_from request_bytes
submit_takes bytes x fits e =
    let s = bind_ok (number_from 4 bytes) (λ seq. action_from seq.1 >>= λ action. Ok (request.Submit seq.0 action.0, action.1)) x e in
    let a = bind_ok (action_from s.0.1) (λ action. Ok (request.Submit s.0.0 action.0, action.1)) x s.2 in
    let ts = number_takes 4 exact4 bytes s.0 fits s.1 in
    let ta = action_takes s.0.1 a.0 ts.0.bytes_left a.1 in
    subst (λ (y : Request × List ℕ). RequestRest 0x06 bytes y) (ok_is (request.Submit s.0.0 a.0.0, a.0.1) x a.2)
    (big_bytes 4 s.0.0 ++ action_bytes a.0.0, after ts.0 ta.0, refl, ta.1)

done_takes : (bytes : List ℕ) (x : Request × List ℕ) → IsBytes bytes → done_from bytes ≡ Ok x → RequestRest 0x03 bytes x
unfolding done_from request_bytes
done_takes bytes x fits e =
    let n = bind_ok (count_from 1 33 bytes) (λ n. several result_from n.0 n.1 >>= λ results. Ok (request.Done results.0, results.1)) x e in
    let r = bind_ok (several result_from n.0.0 n.0.1) (λ results. Ok (request.Done results.0, results.1)) x n.2 in
    let tn = count_takes 1 33 bytes n.0 fits n.1 in
    let few = count_is 1 33 bytes n.0 n.1 in
    let tr = several_takes result_from result_bytes IsWireResult result_takes n.0.0 n.0.1 r.0 tn.bytes_left r.1 in
    subst (λ (y : Request × List ℕ). RequestRest 0x03 bytes y) (ok_is (request.Done r.0.0, r.0.1) x r.2) (
      length r.0.0 ∷ flat_map result_bytes r.0.0,
      subst (λ (k : ℕ). Takes bytes (k ∷ flat_map result_bytes r.0.0) r.0.1) (sym tr.1) (after tn tr.0),
      refl,
      record { some = omega (arith, few.0, tr.1); few = omega (arith, few.1, tr.1); each = All-from_recursion IsWireResult r.0.0 tr.2 },
    )

observe_takes : (bytes : List ℕ) (x : Request × List ℕ) → IsBytes bytes → observe_from bytes ≡ Ok x → RequestRest 0x07 bytes x
unfolding observe_from request_bytes
observe_takes bytes x fits e =
    let n = bind_ok (count_from 1 16 bytes) (λ n. objects_from n.0 n.1 >>= λ objects. number_from 2 objects.1 >>= λ wait. Ok (request.Observe objects.0 wait.0, wait.1)) x e in
    let o = bind_ok (objects_from n.0.0 n.0.1) (λ objects. number_from 2 objects.1 >>= λ wait. Ok (request.Observe objects.0 wait.0, wait.1)) x n.2 in
    let w = bind_ok (number_from 2 o.0.1) (λ wait. Ok (request.Observe o.0.0 wait.0, wait.1)) x o.2 in
    let tn = count_takes 1 16 bytes n.0 fits n.1 in
    let few = count_is 1 16 bytes n.0 n.1 in
    let to = objects_takes n.0.0 n.0.1 o.0 tn.bytes_left o.1 in
    let tw = number_takes 2 exact2 o.0.1 w.0 to.0.bytes_left w.1 in
    let list : Takes bytes (length o.0.0 ∷ flat_map object_bytes o.0.0) o.0.1 = subst (λ (k : ℕ). Takes bytes (k ∷ flat_map object_bytes o.0.0) o.0.1) (sym to.1) (after tn to.0) in
    subst (λ (y : Request × List ℕ). RequestRest 0x07 bytes y) (ok_is (request.Observe o.0.0 w.0.0, w.0.1) x w.2) (
      length o.0.0 ∷ flat_map object_bytes o.0.0 ++ big_bytes 2 w.0.0,
      after list tw.0,
      refl,
      record { some = omega (arith, few.0, to.1); few = omega (arith, few.1, to.1); ascending = to.2 },
    )

abbrev request_byte : RequestKind → ℕ
request_byte request_kind.Join = 0x01
request_byte request_kind.Submit = 0x06
request_byte request_kind.Done = 0x03
request_byte request_kind.Poll = 0x04
request_byte request_kind.Observe = 0x07
request_byte request_kind.Leave = 0x05

abbrev request_table : List (ℕ × RequestKind)
request_table = ((0x01, request_kind.Join)
    ∷ (0x03, request_kind.Done)
    ∷ (0x04, request_kind.Poll)
    ∷ (0x05, request_kind.Leave)
    ∷ (0x06, request_kind.Submit)
    ∷ (0x07, request_kind.Observe)
    ∷ [])

request_byte_is : (b : ℕ) (k : RequestKind) → request_kind_of b ≡ Some k → b ≡ request_byte k
unfolding request_kind_of
request_byte_is b k e = among_found request_byte request_table (refl, (refl, (refl, (refl, (refl, (refl, tt)))))) b k e

request_of_takes : (kind : RequestKind) (bytes : List ℕ) (x : Request × List ℕ) → IsBytes bytes → request_of kind bytes ≡ Ok x → RequestRest (request_byte kind) bytes x
unfolding request_bytes
request_of_takes request_kind.Join bytes x fits e = join_takes bytes x fits e
request_of_takes request_kind.Submit bytes x fits e = submit_takes bytes x fits e
request_of_takes request_kind.Done bytes x fits e = done_takes bytes x fits e
request_of_takes request_kind.Poll bytes x fits e =
    subst (λ (y : Request × List ℕ). RequestRest 0x04 bytes y) (ok_is (request.Poll, bytes) x e) ([], record { parts = refl; bytes_left = fits }, refl, tt)
request_of_takes request_kind.Observe bytes x fits e = observe_takes bytes x fits e
request_of_takes request_kind.Leave bytes x fits e =
    subst (λ (y : Request × List ℕ). RequestRest 0x05 bytes y) (ok_is (request.Leave, bytes) x e) ([], record { parts = refl; bytes_left = fits }, refl, tt)

request_takes : (bytes : List ℕ) (x : Request × List ℕ) → IsBytes bytes → request_front bytes ≡ Ok x → Takes bytes (request_bytes x.0) x.1 × IsWireRequest x.0
unfolding request_front
request_takes bytes x fits e =
    let b = bind_ok (byte_from bytes) (λ b. kind_in (request_kind_of b.0) bytes >>= λ kind. request_of kind b.1) x e in
    let k = bind_ok (kind_in (request_kind_of b.0.0) bytes) (λ kind. request_of kind b.0.1) x b.2 in
    let tb = byte_takes bytes b.0 fits b.1 in
    let named = request_byte_is b.0.0 k.0 (kind_ok (request_kind_of b.0.0) bytes k.0 k.1) in
    let r = request_of_takes k.0 b.0.1 x tb.0.bytes_left k.2 in
    let front : Takes bytes (request_byte k.0 ∷ []) b.0.1 = subst (λ (n : ℕ). Takes bytes (n ∷ []) b.0.1) named tb.0 in
    (subst (λ (t : List ℕ). Takes bytes t x.1) (sym r.2) (after front r.1), r.3)

-- nothing stands after a whole message
whole_ok : {A : Type 0} (reader : List ℕ → Read A) (bytes : List ℕ) (m : A) → whole reader bytes ≡ Ok m → reader bytes ≡ Ok (m, [])
unfolding whole
whole_ok {A = A} reader bytes m e =
    let x = bind_ok (reader bytes) (λ x. cond (eqb (length x.1) 0) (Ok x.0) (stop x.1 Rest)) m e in
    let g = kept_if (eqb (length x.0.1) 0) x.0.0 m _ x.2 in
    let nothing : x.0.1 ≡ [] = nil_from_length x.0.1 (eqb-true _ _ g.0) in
    x.1 ∙ ap (λ (p : A × List ℕ). Ok p) (ap (λ (rest : List ℕ). (x.0.0, rest)) nothing ∙ ap (λ (a : A). (a, [])) g.1)

placed_ok : {A : Type 0} (payload : List ℕ) (read : Result A Stop) (m : A) → placed payload read ≡ Ok m → read ≡ Ok m
placed_ok payload (Ok x) m e = ap Ok cc
placed_ok payload (Err s) m e = absurd cc

-- What is read from a payload is within the grammar, and the payload is its bytes.
pub request_found : (payload : List ℕ) (m : Request) → IsBytes payload → request_at payload ≡ Ok m → IsWireRequest m × (payload ≡ request_bytes m)
unfolding request_at
request_found payload m fits e =
    let r = request_takes payload (m, []) fits (whole_ok request_front payload m (placed_ok payload (whole request_front payload) m e)) in
    (r.1, r.0.parts ∙ append-nil (request_bytes m))

-- ---- replies

abbrev ReplyRest : ℕ → List ℕ → Reply × List ℕ → Type 0
ReplyRest b bytes x = (t : List ℕ) × Takes bytes t x.1 × (reply_bytes x.0 ≡ b ∷ t) × IsWireReply x.0

welcome_takes : (bytes : List ℕ) (x : Reply × List ℕ) → IsBytes bytes → welcome_from bytes ≡ Ok x → ReplyRest 0x81 bytes x
unfolding welcome_from reply_bytes
welcome_takes bytes x fits e =
    let c = bind_ok (number_from 4 bytes) (λ commit. head_from 528 commit.1 >>= λ head. Ok (reply.Welcome commit.0 head.0, head.1)) x e in
    let h = bind_ok (head_from 528 c.0.1) (λ head. Ok (reply.Welcome c.0.0 head.0, head.1)) x c.2 in
    let tc = number_takes 4 exact4 bytes c.0 fits c.1 in
    let th = head_takes 528 c.0.1 h.0 tc.0.bytes_left h.1 in
    subst (λ (y : Reply × List ℕ). ReplyRest 0x81 bytes y) (ok_is (reply.Welcome c.0.0 h.0.0, h.0.1) x h.2)
    (big_bytes 4 c.0.0 ++ head_bytes h.0.0, after tc.0 th.0, refl, th.1)

work_takes : (most : ℕ) (bytes : List ℕ) (x : (List ObjectValue × List Item) × List ℕ) → IsBytes bytes → work_from most bytes ≡ Ok x → Takes bytes (work_bytes x.0.0 x.0.1) x.1 × IsWireWork most x.0.0 x.0.1
unfolding work_from
work_takes most bytes x fits e =
    let h = bind_ok (head_from most bytes) (λ head. count_from 0 33 head.1 >>= λ n. several item_from n.0 n.1 >>= λ items. Ok ((head.0, items.0), items.1)) x e in
    let n = bind_ok (count_from 0 33 h.0.1) (λ n. several item_from n.0 n.1 >>= λ items. Ok ((h.0.0, items.0), items.1)) x h.2 in
    let i = bind_ok (several item_from n.0.0 n.0.1) (λ items. Ok ((h.0.0, items.0), items.1)) x n.2 in
    let th = head_takes most bytes h.0 fits h.1 in
    let tn = count_takes 0 33 h.0.1 n.0 th.0.bytes_left n.1 in
    let few = count_is 0 33 h.0.1 n.0 n.1 in
    let ti = several_takes item_from item_bytes (λ (i : Item). IsWireAction i.action) item_takes n.0.0 n.0.1 i.0 tn.bytes_left i.1 in
    let list : Takes h.0.1 (length i.0.0 ∷ flat_map item_bytes i.0.0) i.0.1 = subst (λ (k : ℕ). Takes h.0.1 (k ∷ flat_map item_bytes i.0.0) i.0.1) (sym ti.1) (after tn ti.0) in
    subst (λ (y : (List ObjectValue × List Item) × List ℕ). Takes bytes (work_bytes y.0.0 y.0.1) y.1 × IsWireWork most y.0.0 y.0.1) (ok_is ((h.0.0, i.0.0), i.0.1) x i.2)
    (after th.0 list, record { base = th.1; few = omega (arith, few.1, ti.1); each = All-from_recursion (λ (i : Item). IsWireAction i.action) i.0.0 ti.2 })

relay_takes : (bytes : List ℕ) (x : Reply × List ℕ) → IsBytes bytes → relay_from bytes ≡ Ok x → ReplyRest 0x89 bytes x
unfolding relay_from reply_bytes
relay_takes bytes x fits e =
    let s = bind_ok (number_from 4 bytes) (λ seq. number_from 4 seq.1 >>= λ commit. work_from 528 commit.1 >>= λ work. Ok (reply.Relay seq.0 commit.0 work.0.0 work.0.1, work.1)) x e in
    let c = bind_ok (number_from 4 s.0.1) (λ commit. work_from 528 commit.1 >>= λ work. Ok (reply.Relay s.0.0 commit.0 work.0.0 work.0.1, work.1)) x s.2 in
    let w = bind_ok (work_from 528 c.0.1) (λ work. Ok (reply.Relay s.0.0 c.0.0 work.0.0 work.0.1, work.1)) x c.2 in
    let ts = number_takes 4 exact4 bytes s.0 fits s.1 in
    let tc = number_takes 4 exact4 s.0.1 c.0 ts.0.bytes_left c.1 in
    let tw = work_takes 528 c.0.1 w.0 tc.0.bytes_left w.1 in
    subst (λ (y : Reply × List ℕ). ReplyRest 0x89 bytes y) (ok_is (reply.Relay s.0.0 c.0.0 w.0.0.0 w.0.0.1, w.0.1) x w.2)
    (big_bytes 4 s.0.0 ++ big_bytes 4 c.0.0 ++ work_bytes w.0.0.0 w.0.0.1, after (after ts.0 tc.0) tw.0, refl, tw.1)

seen_takes : (bytes : List ℕ) (x : Reply × List ℕ) → IsBytes bytes → seen_from bytes ≡ Ok x → ReplyRest 0x8b bytes x
unfolding seen_from reply_bytes
seen_takes bytes x fits e =
    let l = bind_ok (number_from 4 bytes) (λ last. number_from 4 last.1 >>= λ commit. work_from 544 commit.1 >>= λ work. Ok (reply.Seen last.0 commit.0 work.0.0 work.0.1, work.1)) x e in
    let c = bind_ok (number_from 4 l.0.1) (λ commit. work_from 544 commit.1 >>= λ work. Ok (reply.Seen l.0.0 commit.0 work.0.0 work.0.1, work.1)) x l.2 in
    let w = bind_ok (work_from 544 c.0.1) (λ work. Ok (reply.Seen l.0.0 c.0.0 work.0.0 work.0.1, work.1)) x c.2 in
    let tl = number_takes 4 exact4 bytes l.0 fits l.1 in
    let tc = number_takes 4 exact4 l.0.1 c.0 tl.0.bytes_left c.1 in
    let tw = work_takes 544 c.0.1 w.0 tc.0.bytes_left w.1 in
    subst (λ (y : Reply × List ℕ). ReplyRest 0x8b bytes y) (ok_is (reply.Seen l.0.0 c.0.0 w.0.0.0 w.0.0.1, w.0.1) x w.2)
    (big_bytes 4 l.0.0 ++ big_bytes 4 c.0.0 ++ work_bytes w.0.0.0 w.0.0.1, after (after tl.0 tc.0) tw.0, refl, tw.1)

denied_takes : (bytes : List ℕ) (x : Reply × List ℕ) → IsBytes bytes → denied_from bytes ≡ Ok x → ReplyRest 0x8c bytes x
unfolding denied_from reply_bytes
denied_takes bytes x fits e =
    let s = bind_ok (number_from 4 bytes) (λ seq. number_from 2 seq.1 >>= λ object. Ok (reply.Denied seq.0 (record { 0 = object.0 }), object.1)) x e in
    let o = bind_ok (number_from 2 s.0.1) (λ object. Ok (reply.Denied s.0.0 (record { 0 = object.0 }), object.1)) x s.2 in
    let ts = number_takes 4 exact4 bytes s.0 fits s.1 in
    let to = number_takes 2 exact2 s.0.1 o.0 ts.0.bytes_left o.1 in
    subst (λ (y : Reply × List ℕ). ReplyRest 0x8c bytes y) (ok_is (reply.Denied s.0.0 (record { 0 = o.0.0 }), o.0.1) x o.2)
    (big_bytes 4 s.0.0 ++ big_bytes 2 o.0.0, after ts.0 to.0, refl, tt)

dropped_takes : (bytes : List ℕ) (x : Reply × List ℕ) → IsBytes bytes → dropped_from bytes ≡ Ok x → ReplyRest 0x8a bytes x
unfolding dropped_from reply_bytes
dropped_takes bytes x fits e =
    let s = bind_ok (number_from 4 bytes) (λ seq. number_from 4 seq.1 >>= λ chain. number_from 4 chain.1 >>= λ far. Ok (reply.Dropped seq.0 chain.0 far.0, far.1)) x e in
    let c = bind_ok (number_from 4 s.0.1) (λ chain. number_from 4 chain.1 >>= λ far. Ok (reply.Dropped s.0.0 chain.0 far.0, far.1)) x s.2 in
    let f = bind_ok (number_from 4 c.0.1) (λ far. Ok (reply.Dropped s.0.0 c.0.0 far.0, far.1)) x c.2 in
    let ts = number_takes 4 exact4 bytes s.0 fits s.1 in
    let tc = number_takes 4 exact4 s.0.1 c.0 ts.0.bytes_left c.1 in
    let tf = number_takes 4 exact4 c.0.1 f.0 tc.0.bytes_left f.1 in
    subst (λ (y : Reply × List ℕ). ReplyRest 0x8a bytes y) (ok_is (reply.Dropped s.0.0 c.0.0 f.0.0, f.0.1) x f.2)
    (big_bytes 4 s.0.0 ++ big_bytes 4 c.0.0 ++ big_bytes 4 f.0.0, after (after ts.0 tc.0) tf.0, refl, tt)

settled_takes : (bytes : List ℕ) (x : Reply × List ℕ) → IsBytes bytes → settled_from bytes ≡ Ok x → ReplyRest 0x84 bytes x
unfolding settled_from reply_bytes
settled_takes bytes x fits e =
    let s = bind_ok (number_from 4 bytes) (λ seq. number_from 4 seq.1 >>= λ pos. Ok (reply.Settled seq.0 pos.0, pos.1)) x e in
    let p = bind_ok (number_from 4 s.0.1) (λ pos. Ok (reply.Settled s.0.0 pos.0, pos.1)) x s.2 in
    let ts = number_takes 4 exact4 bytes s.0 fits s.1 in
    let tp = number_takes 4 exact4 s.0.1 p.0 ts.0.bytes_left p.1 in
    subst (λ (y : Reply × List ℕ). ReplyRest 0x84 bytes y) (ok_is (reply.Settled s.0.0 p.0.0, p.0.1) x p.2)
    (big_bytes 4 s.0.0 ++ big_bytes 4 p.0.0, after ts.0 tp.0, refl, tt)

noted_takes : (bytes : List ℕ) (x : Reply × List ℕ) → IsBytes bytes → noted_from bytes ≡ Ok x → ReplyRest 0x85 bytes x
unfolding noted_from reply_bytes
noted_takes bytes x fits e =
    let c = bind_ok (number_from 4 bytes) (λ commit. Ok (reply.Noted commit.0, commit.1)) x e in
    let tc = number_takes 4 exact4 bytes c.0 fits c.1 in
    subst (λ (y : Reply × List ℕ). ReplyRest 0x85 bytes y) (ok_is (reply.Noted c.0.0, c.0.1) x c.2) (big_bytes 4 c.0.0, tc.0, refl, tt)

refused_takes : (bytes : List ℕ) (x : Reply × List ℕ) → IsBytes bytes → refused_from bytes ≡ Ok x → ReplyRest 0x87 bytes x
unfolding refused_from code_from reply_bytes
refused_takes bytes x fits e =
    let c = bind_ok (byte_from bytes >>= λ n. cond (leb 1 n.0 && leb n.0 12) (Ok (n.0, n.1)) (stop bytes Code)) (λ code. number_from 4 code.1 >>= λ detail. Ok (reply.Refused code.0 detail.0, detail.1)) x e in
    let b = bind_ok (byte_from bytes) (λ n. cond (leb 1 n.0 && leb n.0 12) (Ok (n.0, n.1)) (stop bytes Code)) c.0 c.1 in
    let g = kept_if (leb 1 b.0.0 && leb b.0.0 12) (b.0.0, b.0.1) c.0 _ b.2 in
    let d = bind_ok (number_from 4 c.0.1) (λ detail. Ok (reply.Refused c.0.0 detail.0, detail.1)) x c.2 in
    let tb = byte_takes bytes b.0 fits b.1 in
    let tc : Takes bytes (c.0.0 ∷ []) c.0.1 × ((1 ≤ c.0.0) × (c.0.0 ≤ 12)) = subst (λ (y : ℕ × List ℕ). Takes bytes (y.0 ∷ []) y.1 × ((1 ≤ y.0) × (y.0 ≤ 12))) g.1 (tb.0, within 1 12 b.0.0 g.0) in
    let td = number_takes 4 exact4 c.0.1 d.0 tc.0.bytes_left d.1 in
    subst (λ (y : Reply × List ℕ). ReplyRest 0x87 bytes y) (ok_is (reply.Refused c.0.0 d.0.0, d.0.1) x d.2) (c.0.0 ∷ big_bytes 4 d.0.0, after tc.0 td.0, refl, tc.1)

abbrev reply_byte : ReplyKind → ℕ
reply_byte reply_kind.Welcome = 0x81
reply_byte reply_kind.Relay = 0x89
reply_byte reply_kind.Dropped = 0x8a
reply_byte reply_kind.Denied = 0x8c
reply_byte reply_kind.Seen = 0x8b
reply_byte reply_kind.Settled = 0x84
reply_byte reply_kind.Noted = 0x85
reply_byte reply_kind.Idle = 0x86
reply_byte reply_kind.Refused = 0x87
reply_byte reply_kind.Bye = 0x88

abbrev reply_table : List (ℕ × ReplyKind)
reply_table = ((0x81, reply_kind.Welcome)
    ∷ (0x84, reply_kind.Settled)
    ∷ (0x85, reply_kind.Noted)
    ∷ (0x86, reply_kind.Idle)
    ∷ (0x87, reply_kind.Refused)
    ∷ (0x88, reply_kind.Bye)
    ∷ (0x89, reply_kind.Relay)
    ∷ (0x8a, reply_kind.Dropped)
    ∷ (0x8b, reply_kind.Seen)
    ∷ (0x8c, reply_kind.Denied)
    ∷ [])

reply_byte_is : (b : ℕ) (k : ReplyKind) → reply_kind_of b ≡ Some k → b ≡ reply_byte k
unfolding reply_kind_of
reply_byte_is b k e = among_found reply_byte reply_table (refl, (refl, (refl, (refl, (refl, (refl, (refl, (refl, (refl, (refl, tt)))))))))) b k e

reply_of_takes : (kind : ReplyKind) (bytes : List ℕ) (x : Reply × List ℕ) → IsBytes bytes → reply_of kind bytes ≡ Ok x → ReplyRest (reply_byte kind) bytes x
unfolding reply_bytes
reply_of_takes reply_kind.Welcome bytes x fits e = welcome_takes bytes x fits e
reply_of_takes reply_kind.Relay bytes x fits e = relay_takes bytes x fits e
reply_of_takes reply_kind.Dropped bytes x fits e = dropped_takes bytes x fits e
reply_of_takes reply_kind.Denied bytes x fits e = denied_takes bytes x fits e
reply_of_takes reply_kind.Seen bytes x fits e = seen_takes bytes x fits e
reply_of_takes reply_kind.Settled bytes x fits e = settled_takes bytes x fits e
reply_of_takes reply_kind.Noted bytes x fits e = noted_takes bytes x fits e
reply_of_takes reply_kind.Idle bytes x fits e =
    subst (λ (y : Reply × List ℕ). ReplyRest 0x86 bytes y) (ok_is (reply.Idle, bytes) x e) ([], record { parts = refl; bytes_left = fits }, refl, tt)
reply_of_takes reply_kind.Refused bytes x fits e = refused_takes bytes x fits e
reply_of_takes reply_kind.Bye bytes x fits e =
    subst (λ (y : Reply × List ℕ). ReplyRest 0x88 bytes y) (ok_is (reply.Bye, bytes) x e) ([], record { parts = refl; bytes_left = fits }, refl, tt)

reply_takes : (bytes : List ℕ) (x : Reply × List ℕ) → IsBytes bytes → reply_front bytes ≡ Ok x → Takes bytes (reply_bytes x.0) x.1 × IsWireReply x.0
unfolding reply_front
reply_takes bytes x fits e =
    let b = bind_ok (byte_from bytes) (λ b. kind_in (reply_kind_of b.0) bytes >>= λ kind. reply_of kind b.1) x e in
    let k = bind_ok (kind_in (reply_kind_of b.0.0) bytes) (λ kind. reply_of kind b.0.1) x b.2 in
    let tb = byte_takes bytes b.0 fits b.1 in
    let named = reply_byte_is b.0.0 k.0 (kind_ok (reply_kind_of b.0.0) bytes k.0 k.1) in
    let r = reply_of_takes k.0 b.0.1 x tb.0.bytes_left k.2 in
    let front : Takes bytes (reply_byte k.0 ∷ []) b.0.1 = subst (λ (n : ℕ). Takes bytes (n ∷ []) b.0.1) named tb.0 in
    (subst (λ (t : List ℕ). Takes bytes t x.1) (sym r.2) (after front r.1), r.3)

pub reply_found : (payload : List ℕ) (m : Reply) → IsBytes payload → reply_at payload ≡ Ok m → IsWireReply m × (payload ≡ reply_bytes m)
unfolding reply_at
reply_found payload m fits e =
    let r = reply_takes payload (m, []) fits (whole_ok reply_front payload m (placed_ok payload (whole reply_front payload) m e)) in
    (r.1, r.0.parts ∙ append-nil (reply_bytes m))
