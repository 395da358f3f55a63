-- How many bytes a message has at most.
use Rattle.std.proofs.Common.{◌≡◌, ℕ, suc, ◌+◌, ◌*◌, ◌≤◌, Bool, true, false, cond, List, [], ◌∷◌, length, Option, Some, None, Result, Ok, Err, eqb, refl, sym, ap, arith}
use Rattle.std.specs.Int.{w32}
use Rattle.sv_wire.specs.declared.fault.Stop.{Stop}
use Rattle.sv_wire.specs.declared.kinds.RequestKind.{RequestKind}
use Rattle.sv_wire.specs.declared.kinds.RequestKind.TheVariants as request_kind
use Rattle.sv_wire.specs.declared.kinds.ReplyKind.{ReplyKind}
use Rattle.sv_wire.specs.declared.kinds.ReplyKind.TheVariants as reply_kind
use Rattle.sv_wire.specs.declared.fault.WireCause.TheVariants.{Short, Kind, Rest}
use Rattle.sv_wire.specs.Steps.{◌>>=◌, Read, stop, several}
use Rattle.sv_wire.specs.Fields.{byte_from, number_from, int_from, count_from, objects_from, head_from, result_from}
use Rattle.sv_wire.specs.Trees.{body_from}
use Rattle.sv_wire.specs.Messages.{mask_from, point_from, action_from, item_from, join_request_from, submit_from, done_from, observe_from, request_of, request_front, request_kind_of, welcome_from, work_from, relay_from, seen_from, dropped_from, denied_from, settled_from, noted_from, code_from, refused_from, reply_of, reply_front, reply_kind_of, whole}
use Rattle.sv_wire.specs.Nodes.{kind_in}
use Rattle.sv_wire.proofs.Near.{left2, Near, near_done, near_stop, near_more, near_then, near_check, checked_unless, checked_if, several_near, err_is, failed_is}
use Rattle.sv_wire.proofs.NearFields.{byte_near, number_near, int_near, count_near, count_is, objects_near, head_near, result_near}
use Rattle.sv_wire.proofs.NearTrees.{body_near}

mask_near : (count : ℕ) (bytes : List ℕ) → Near left2 2 (length bytes) (mask_from count bytes)
unfolding mask_from
mask_near count bytes = near_check left2 left2 2 (length bytes) (number_from 2 bytes) _ (number_near 2 bytes) (λ n. checked_unless left2 (length n.1) (length bytes) _ _ _ refl refl)

point_near : (bytes : List ℕ) → Near left2 8 (length bytes) (point_from bytes)
unfolding point_from
point_near bytes =
    near_then left2 left2 4 4 8 (length bytes) (int_from w32 bytes) _ (omega arith) (int_near w32 bytes)
    (λ x _. near_then left2 left2 4 0 4 (length x.1) (int_from w32 x.1) _ (omega arith) (int_near w32 x.1)
    (λ y _. near_done left2 0 (length y.1) _ (omega arith) (omega arith)))

action_near : (bytes : List ℕ) → Near left2 620 (length bytes) (action_from bytes)
unfolding action_from
action_near bytes =
    near_then left2 left2 1 619 620 (length bytes) (count_from 1 16 bytes) _ (omega arith) (count_near 1 16 bytes)
    (λ n e. let few = count_is 1 16 bytes n e in
    near_then left2 left2 (n.0 * 2) 587 619 (length n.1) (objects_from n.0 n.1) _ (omega arith) (objects_near n.0 n.1)
    (λ reads _. near_then left2 left2 2 585 587 (length reads.1) (mask_from n.0 reads.1) _ (omega arith) (mask_near n.0 reads.1)
    (λ mask _. near_then left2 left2 8 577 585 (length mask.1) (point_from mask.1) _ (omega arith) (point_near mask.1)
    (λ origin _. near_then left2 left2 577 0 577 (length origin.1) (body_from origin.1) _ (omega arith) (body_near origin.1)
    (λ body _. near_done left2 0 (length body.1) _ (omega arith) (omega arith))))))

item_near : (bytes : List ℕ) → Near left2 630 (length bytes) (item_from bytes)
unfolding item_from
item_near bytes =
    near_then left2 left2 4 626 630 (length bytes) (number_from 4 bytes) _ (omega arith) (number_near 4 bytes)
    (λ pos _. near_then left2 left2 2 624 626 (length pos.1) (number_from 2 pos.1) _ (omega arith) (number_near 2 pos.1)
    (λ client _. near_then left2 left2 4 620 624 (length client.1) (number_from 4 client.1) _ (omega arith) (number_near 4 client.1)
    (λ seq _. near_then left2 left2 620 0 620 (length seq.1) (action_from seq.1) _ (omega arith) (action_near seq.1)
    (λ action _. near_done left2 0 (length action.1) _ (omega arith) (omega arith)))))

join_near : (bytes : List ℕ) → Near left2 135 (length bytes) (join_request_from bytes)
unfolding join_request_from
join_near bytes =
    near_then left2 left2 2 133 135 (length bytes) (number_from 2 bytes) _ (omega arith) (number_near 2 bytes)
    (λ client _. near_then left2 left2 4 129 133 (length client.1) (number_from 4 client.1) _ (omega arith) (number_near 4 client.1)
    (λ life _. near_then left2 left2 1 128 129 (length life.1) (count_from 0 64 life.1) _ (omega arith) (count_near 0 64 life.1)
    (λ n e. let few = count_is 0 64 life.1 n e in
    near_then left2 left2 (n.0 * 2) 0 128 (length n.1) (objects_from n.0 n.1) _ (omega arith) (objects_near n.0 n.1)
    (λ interest _. near_done left2 0 (length interest.1) _ (omega arith) (omega arith)))))

submit_near : (bytes : List ℕ) → Near left2 624 (length bytes) (submit_from bytes)
unfolding submit_from
submit_near bytes =
    near_then left2 left2 4 620 624 (length bytes) (number_from 4 bytes) _ (omega arith) (number_near 4 bytes)
    (λ seq _. near_then left2 left2 620 0 620 (length seq.1) (action_from seq.1) _ (omega arith) (action_near seq.1)
    (λ action _. near_done left2 0 (length action.1) _ (omega arith) (omega arith)))

done_near : (bytes : List ℕ) → Near left2 17590 (length bytes) (done_from bytes)
unfolding done_from
done_near bytes =
    near_then left2 left2 1 17589 17590 (length bytes) (count_from 1 33 bytes) _ (omega arith) (count_near 1 33 bytes)
    (λ n e. let few = count_is 1 33 bytes n e in
    near_then left2 left2 (n.0 * 533) 0 17589 (length n.1) (several result_from n.0 n.1) _ (omega arith) (several_near result_from 533 result_near n.0 n.1)
    (λ results _. near_done left2 0 (length results.1) _ (omega arith) (omega arith)))

observe_near : (bytes : List ℕ) → Near left2 35 (length bytes) (observe_from bytes)
unfolding observe_from
observe_near bytes =
    near_then left2 left2 1 34 35 (length bytes) (count_from 1 16 bytes) _ (omega arith) (count_near 1 16 bytes)
    (λ n e. let few = count_is 1 16 bytes n e in
    near_then left2 left2 (n.0 * 2) 2 34 (length n.1) (objects_from n.0 n.1) _ (omega arith) (objects_near n.0 n.1)
    (λ objects _. near_then left2 left2 2 0 2 (length objects.1) (number_from 2 objects.1) _ (omega arith) (number_near 2 objects.1)
    (λ wait _. near_done left2 0 (length wait.1) _ (omega arith) (omega arith))))

request_of_near : (kind : RequestKind) (bytes : List ℕ) → Near left2 39999 (length bytes) (request_of kind bytes)
request_of_near request_kind.Join bytes = near_more left2 135 39999 (length bytes) (join_request_from bytes) (omega arith) (join_near bytes)
request_of_near request_kind.Submit bytes = near_more left2 624 39999 (length bytes) (submit_from bytes) (omega arith) (submit_near bytes)
request_of_near request_kind.Done bytes = near_more left2 17590 39999 (length bytes) (done_from bytes) (omega arith) (done_near bytes)
request_of_near request_kind.Poll bytes = near_done left2 39999 (length bytes) _ (omega arith) (omega arith)
request_of_near request_kind.Observe bytes = near_more left2 35 39999 (length bytes) (observe_from bytes) (omega arith) (observe_near bytes)
request_of_near request_kind.Leave bytes = near_done left2 39999 (length bytes) _ (omega arith) (omega arith)

welcome_near : (bytes : List ℕ) → Near left2 18486 (length bytes) (welcome_from bytes)
unfolding welcome_from
welcome_near bytes =
    near_then left2 left2 4 18482 18486 (length bytes) (number_from 4 bytes) _ (omega arith) (number_near 4 bytes)
    (λ commit _. near_then left2 left2 18482 0 18482 (length commit.1) (head_from 528 commit.1) _ (omega arith) (head_near 528 commit.1)
    (λ head _. near_done left2 0 (length head.1) _ (omega arith) (omega arith)))

work_near : (most : ℕ) (bytes : List ℕ) → Near left2 (most * 35 + 20793) (length bytes) (work_from most bytes)
unfolding work_from
work_near most bytes =
    near_then left2 left2 (most * 35 + 2) 20791 (most * 35 + 20793) (length bytes) (head_from most bytes) _ (omega arith) (head_near most bytes)
    (λ head _. near_then left2 left2 1 20790 20791 (length head.1) (count_from 0 33 head.1) _ (omega arith) (count_near 0 33 head.1)
    (λ n e. let few = count_is 0 33 head.1 n e in
    near_then left2 left2 (n.0 * 630) 0 20790 (length n.1) (several item_from n.0 n.1) _ (omega arith) (several_near item_from 630 item_near n.0 n.1)
    (λ items _. near_done left2 0 (length items.1) _ (omega arith) (omega arith))))

relay_near : (bytes : List ℕ) → Near left2 39281 (length bytes) (relay_from bytes)
unfolding relay_from
relay_near bytes =
    near_then left2 left2 4 39277 39281 (length bytes) (number_from 4 bytes) _ (omega arith) (number_near 4 bytes)
    (λ seq _. near_then left2 left2 4 39273 39277 (length seq.1) (number_from 4 seq.1) _ (omega arith) (number_near 4 seq.1)
    (λ commit _. near_then left2 left2 39273 0 39273 (length commit.1) (work_from 528 commit.1) _ (omega arith) (work_near 528 commit.1)
    (λ work _. near_done left2 0 (length work.1) _ (omega arith) (omega arith))))

seen_near : (bytes : List ℕ) → Near left2 39841 (length bytes) (seen_from bytes)
unfolding seen_from
seen_near bytes =
    near_then left2 left2 4 39837 39841 (length bytes) (number_from 4 bytes) _ (omega arith) (number_near 4 bytes)
    (λ last _. near_then left2 left2 4 39833 39837 (length last.1) (number_from 4 last.1) _ (omega arith) (number_near 4 last.1)
    (λ commit _. near_then left2 left2 39833 0 39833 (length commit.1) (work_from 544 commit.1) _ (omega arith) (work_near 544 commit.1)
    (λ work _. near_done left2 0 (length work.1) _ (omega arith) (omega arith))))

dropped_near : (bytes : List ℕ) → Near left2 12 (length bytes) (dropped_from bytes)
unfolding dropped_from
dropped_near bytes =
    near_then left2 left2 4 8 12 (length bytes) (number_from 4 bytes) _ (omega arith) (number_near 4 bytes)
    (λ seq _. near_then left2 left2 4 4 8 (length seq.1) (number_from 4 seq.1) _ (omega arith) (number_near 4 seq.1)
    (λ chain _. near_then left2 left2 4 0 4 (length chain.1) (number_from 4 chain.1) _ (omega arith) (number_near 4 chain.1)
    (λ far _. near_done left2 0 (length far.1) _ (omega arith) (omega arith))))

denied_near : (bytes : List ℕ) → Near left2 6 (length bytes) (denied_from bytes)
unfolding denied_from
denied_near bytes =
    near_then left2 left2 4 2 6 (length bytes) (number_from 4 bytes) _ (omega arith) (number_near 4 bytes)
    (λ seq _. near_then left2 left2 2 0 2 (length seq.1) (number_from 2 seq.1) _ (omega arith) (number_near 2 seq.1)
    (λ object _. near_done left2 0 (length object.1) _ (omega arith) (omega arith)))

settled_near : (bytes : List ℕ) → Near left2 8 (length bytes) (settled_from bytes)
unfolding settled_from
settled_near bytes =
    near_then left2 left2 4 4 8 (length bytes) (number_from 4 bytes) _ (omega arith) (number_near 4 bytes)
    (λ seq _. near_then left2 left2 4 0 4 (length seq.1) (number_from 4 seq.1) _ (omega arith) (number_near 4 seq.1)
    (λ pos _. near_done left2 0 (length pos.1) _ (omega arith) (omega arith)))

noted_near : (bytes : List ℕ) → Near left2 4 (length bytes) (noted_from bytes)
unfolding noted_from
noted_near bytes =
    near_then left2 left2 4 0 4 (length bytes) (number_from 4 bytes) _ (omega arith) (number_near 4 bytes)
    (λ commit _. near_done left2 0 (length commit.1) _ (omega arith) (omega arith))

code_near : (bytes : List ℕ) → Near left2 1 (length bytes) (code_from bytes)
unfolding code_from
code_near bytes = near_check left2 left2 1 (length bytes) (byte_from bytes) _ (byte_near bytes) (λ n. checked_if left2 (length n.1) (length bytes) _ _ _ refl refl)

refused_near : (bytes : List ℕ) → Near left2 5 (length bytes) (refused_from bytes)
unfolding refused_from
refused_near bytes =
    near_then left2 left2 1 4 5 (length bytes) (code_from bytes) _ (omega arith) (code_near bytes)
    (λ code _. near_then left2 left2 4 0 4 (length code.1) (number_from 4 code.1) _ (omega arith) (number_near 4 code.1)
    (λ detail _. near_done left2 0 (length detail.1) _ (omega arith) (omega arith)))

reply_of_near : (kind : ReplyKind) (bytes : List ℕ) → Near left2 39999 (length bytes) (reply_of kind bytes)
reply_of_near reply_kind.Welcome bytes = near_more left2 18486 39999 (length bytes) (welcome_from bytes) (omega arith) (welcome_near bytes)
reply_of_near reply_kind.Relay bytes = near_more left2 39281 39999 (length bytes) (relay_from bytes) (omega arith) (relay_near bytes)
reply_of_near reply_kind.Dropped bytes = near_more left2 12 39999 (length bytes) (dropped_from bytes) (omega arith) (dropped_near bytes)
reply_of_near reply_kind.Denied bytes = near_more left2 6 39999 (length bytes) (denied_from bytes) (omega arith) (denied_near bytes)
reply_of_near reply_kind.Seen bytes = near_more left2 39841 39999 (length bytes) (seen_from bytes) (omega arith) (seen_near bytes)
reply_of_near reply_kind.Settled bytes = near_more left2 8 39999 (length bytes) (settled_from bytes) (omega arith) (settled_near bytes)
reply_of_near reply_kind.Noted bytes = near_more left2 4 39999 (length bytes) (noted_from bytes) (omega arith) (noted_near bytes)
reply_of_near reply_kind.Idle bytes = near_done left2 39999 (length bytes) _ (omega arith) (omega arith)
reply_of_near reply_kind.Refused bytes = near_more left2 5 39999 (length bytes) (refused_from bytes) (omega arith) (refused_near bytes)
reply_of_near reply_kind.Bye bytes = near_done left2 39999 (length bytes) _ (omega arith) (omega arith)

near_shift : {X : Type 0} (left : X → ℕ) (c n : ℕ) (read : Result X Stop) → Near left c n read → Near left (c + 1) (suc n) read
near_shift left c n read near =
    record {
      ok = λ x e. let a = near.ok x e in (omega arith, omega arith);
      err = λ s e. let a = near.err s e in (omega arith, omega arith);
    }

request_by_near : (o : Option RequestKind) (b : ℕ) (bytes : List ℕ) → Near left2 40000 (suc (length bytes)) (kind_in o (b ∷ bytes) >>= λ kind. request_of kind bytes)
request_by_near None b bytes = near_stop left2 40000 (suc (length bytes)) (record { left = length (b ∷ bytes); cause = Kind }) refl
request_by_near (Some kind) b bytes = near_shift left2 39999 (length bytes) (request_of kind bytes) (request_of_near kind bytes)

request_front_near : (bytes : List ℕ) → Near left2 40000 (length bytes) (request_front bytes)
unfolding request_front byte_from
request_front_near [] = near_stop left2 40000 0 (record { left = 0; cause = Short }) refl
request_front_near (b ∷ bytes) = request_by_near (request_kind_of b) b bytes

reply_by_near : (o : Option ReplyKind) (b : ℕ) (bytes : List ℕ) → Near left2 40000 (suc (length bytes)) (kind_in o (b ∷ bytes) >>= λ kind. reply_of kind bytes)
reply_by_near None b bytes = near_stop left2 40000 (suc (length bytes)) (record { left = length (b ∷ bytes); cause = Kind }) refl
reply_by_near (Some kind) b bytes = near_shift left2 39999 (length bytes) (reply_of kind bytes) (reply_of_near kind bytes)

reply_front_near : (bytes : List ℕ) → Near left2 40000 (length bytes) (reply_front bytes)
unfolding reply_front byte_from
reply_front_near [] = near_stop left2 40000 0 (record { left = 0; cause = Short }) refl
reply_front_near (b ∷ bytes) = reply_by_near (reply_kind_of b) b bytes

-- where a refused field is
abbrev pub IsPlace : ℕ → Stop → Type 0
IsPlace n s = (s.left ≤ n) × (n ≤ s.left + 40000)

rest_is : {A : Type 0} (b : Bool) (m : A) (rest : List ℕ) (s : Stop) → cond b (Ok m) (stop rest Rest) ≡ Err s → s.left ≡ length rest
rest_is true m rest s e = absurd cc
rest_is {A = A} false m rest s e = sym (ap (λ (t : Stop). t.left) (err_is {X = A} (record { left = length rest; cause = Rest }) s e))

ended_near : {A : Type 0} (n : ℕ) (read : Read A) → Near left2 40000 n read → (s : Stop) → (read >>= λ m. cond (eqb (length m.1) 0) (Ok m.0) (stop m.1 Rest)) ≡ Err s → IsPlace n s
ended_near n (Ok m) near s e =
    let a = near.ok m refl in
    let h = rest_is (eqb (length m.1) 0) m.0 m.1 s e in
    (omega arith, omega arith)
ended_near {A = A} n (Err t) near s e = near.err s (failed_is {X = A} {Y = A × List ℕ} t s e)

pub request_place : (bytes : List ℕ) (s : Stop) → whole request_front bytes ≡ Err s → IsPlace (length bytes) s
unfolding whole
request_place bytes s e = ended_near (length bytes) (request_front bytes) (request_front_near bytes) s e

pub reply_place : (bytes : List ℕ) (s : Stop) → whole reply_front bytes ≡ Err s → IsPlace (length bytes) s
unfolding whole
reply_place bytes s e = ended_near (length bytes) (reply_front bytes) (reply_front_near bytes) s e
