-- What was asked is read from the line of each entry.
use Rattle.std.proofs.Common.{◌≡◌, ℕ, ◌^◌, ◌<◌, eqb, List, [], ◌∷◌, ◌++◌, map, Bool, true, false, cond, Option, Some, None, is_none, Result, refl, subst, ap, ◌∙◌, arith, decimal, append_assoc}
use Rattle.std.specs.Prelude.{codes}
use Rattle.std.proofs.lemmas.Bool.{eqb-true}
use Rattle.sv_world.specs.declared.world.Shape.{Shape}
use Rattle.sv_world.specs.declared.action.Action.{Action}
use Rattle.sv_world.specs.declared.check.BadAction.{BadAction}
use Rattle.sv_world.specs.declared.check.BadAction.TheVariants.{NoReads, TooManyReads, NotAscending, NoSuchObject, BadMask, BadSlot, NotWritable, BadAttr, TooLarge, TooDeep, BadOrigin}
use Rattle.sv_world.specs.Faults.{first_fault_of_action, cause_number}
use Rattle.sv_wire.specs.Ranges.{RequestFits, ReplyFits}
use Rattle.sv_wire.specs.declared.message.Request.{Request}
use Rattle.sv_wire.specs.declared.message.Request.TheVariants as requests
use Rattle.sv_wire.specs.declared.message.Reply.{Reply}
use Rattle.sv_wire.specs.declared.message.Reply.TheVariants as replies
use Rattle.sv_wire.specs.Nodes.{among}
use Rattle.sv_text.specs.Canonical.{canonical}
use Rattle.sv_journal.specs.Text.{action_text, request_text}
use Rattle.sv_lines.specs.declared.stop.LineFault.{LineFault}
use Rattle.sv_lines.specs.Reading.{Gives, behind_front}
use Rattle.sv_lines.specs.Asking.{request_read}
use Rattle.sv_lines.specs.Told.{IsTold, asking_text}
use Rattle.sv_lines.proofs.Numerals.{front_there, number_is_read}
use Rattle.sv_lines.proofs.ReadLists.{byte_there}
use Rattle.sv_lines.proofs.ReadRequests.{request_is_read, asking_parts}
use Rattle.sv_lines.proofs.Requests.{arrow, submit_parts}
use Rattle.sv_entries.specs.declared.read.LineRequest.{LineRequest}
use Rattle.sv_entries.specs.declared.read.LineRequest.TheVariants as asked
use Rattle.sv_entries.specs.Lines.{sent_text}
use Rattle.sv_entries.specs.Asking.{all_causes, cause_numbered, cause_in, refusal_read, cause_read, asked_of, bad_submit_read, whole_read, line_request_read, line_read}

-- ---- Causes

pub cause_has_number : (cause : BadAction) → cause_numbered (cause_number cause) ≡ Some cause
unfolding cause_numbered
cause_has_number NoReads = refl
cause_has_number TooManyReads = refl
cause_has_number NotAscending = refl
cause_has_number NoSuchObject = refl
cause_has_number BadMask = refl
cause_has_number BadSlot = refl
cause_has_number NotWritable = refl
cause_has_number BadAttr = refl
cause_has_number TooLarge = refl
cause_has_number TooDeep = refl
cause_has_number BadOrigin = refl

found_by_number : (n : ℕ) (causes : List BadAction) (cause : BadAction) → among (map (λ c. (cause_number c, c)) causes) n ≡ Some cause → n ≡ cause_number cause
found_by_number n [] cause e = absurd cc
found_by_number n (c ∷ cs) cause e = go (eqb n (cause_number c)) refl e (found_by_number n cs cause)
  where
    some_is : Some c ≡ Some cause → c ≡ cause
    some_is f = cc

    go : (b : Bool) → eqb n (cause_number c) ≡ b → cond b (Some c) (among (map (λ d. (cause_number d, d)) cs) n) ≡ Some cause →
        (among (map (λ d. (cause_number d, d)) cs) n ≡ Some cause → n ≡ cause_number cause) → n ≡ cause_number cause
    go true i f more = eqb-true n (cause_number c) i ∙ ap cause_number (some_is f)
    go false i f more = more f

pub number_of_cause : (n : ℕ) (cause : BadAction) → cause_numbered n ≡ Some cause → n ≡ cause_number cause
unfolding cause_numbered
number_of_cause n cause e = found_by_number n all_causes cause e

refused_parts : (code detail : ℕ) (rest : List ℕ) → sent_text (replies.Refused code detail) ++ 10 ∷ rest ≡ codes "refused " ++ (decimal code ++ (32 ∷ (decimal detail ++ (10 ∷ rest))))
refused_parts code detail rest =
    let two = codes "refused " ++ decimal code in
    append_assoc (two ++ codes " ") (decimal detail) (10 ∷ rest) ∙ append_assoc two (codes " ") (decimal detail ++ (10 ∷ rest))
    ∙ append_assoc (codes "refused ") (decimal code) (32 ∷ (decimal detail ++ (10 ∷ rest)))

refused_is_read : (code detail : ℕ) (rest : List ℕ) → code < 2 ^ 32 → detail < 2 ^ 32 → refusal_read (codes "refused " ++ (decimal code ++ (32 ∷ (decimal detail ++ (10 ∷ rest))))) ≡ Some (code, detail)
unfolding refusal_read
refused_is_read code detail rest f g =
    let last = decimal detail ++ (10 ∷ rest) in
    let more = decimal code ++ (32 ∷ last) in
    rw (
      front_there (codes "refused ") more,
      number_is_read (2 ^ 32) (omega arith) code (32 ∷ last) f refl,
      byte_there 32 last,
      number_is_read (2 ^ 32) (omega arith) detail (10 ∷ rest) g refl,
    ) refl

pub cause_is_read : (reply : Reply) (rest : List ℕ) → ReplyFits reply → cause_read (sent_text reply ++ 10 ∷ rest) ≡ cause_in reply
unfolding cause_read refusal_read behind_front
cause_is_read (replies.Refused code detail) rest f = ap cause_read (refused_parts code detail rest) ∙ rw (refused_is_read code detail rest (omega (arith, f.0)) f.1) refl
cause_is_read (replies.Welcome commit head) rest f = refl
cause_is_read (replies.Relay seq commit head items) rest f = refl
cause_is_read (replies.Dropped seq chain far) rest f = refl
cause_is_read (replies.Denied seq object) rest f = refl
cause_is_read (replies.Seen last commit head items) rest f = refl
cause_is_read (replies.Settled seq pos) rest f = refl
cause_is_read (replies.Noted commit) rest f = refl
cause_is_read replies.Idle rest f = refl
cause_is_read replies.Bye rest f = refl

-- ---- Requests that a line tells whole

whole_by : (shape : Shape) (text : List ℕ) (r : Request) → behind_front (codes "bad") text ≡ None → bad_submit_read text ≡ None → request_read shape text ≡ Some r →
    line_request_read shape text ≡ Some (asked.Whole r)
unfolding line_request_read whole_read
whole_by shape text r e f g = rw (e, f, g) refl

no_submit : (text : List ℕ) → behind_front (codes "submit ") text ≡ None → bad_submit_read text ≡ None
unfolding bad_submit_read
no_submit text e = rw e refl

-- ---- Submits

submit_no_bad : (rest : List ℕ) → behind_front (codes "bad") (codes "submit " ++ rest) ≡ None
unfolding behind_front
submit_no_bad rest = refl

action_no_bad : (a : Action) (x : List ℕ) → behind_front (codes " bad -> ") (32 ∷ (canonical a ++ x)) ≡ None
unfolding behind_front canonical
action_no_bad a x = refl

good_no_bad : (seq : ℕ) (a : Action) (x : List ℕ) → seq < 2 ^ 32 → bad_submit_read (codes "submit " ++ (decimal seq ++ (32 ∷ (canonical a ++ x)))) ≡ None
unfolding bad_submit_read
good_no_bad seq a x f =
    let last = 32 ∷ (canonical a ++ x) in
    rw (front_there (codes "submit ") (decimal seq ++ last), number_is_read (2 ^ 32) (omega arith) seq last f refl, action_no_bad a x) refl

bad_parts : (shape : Shape) (seq : ℕ) (a : Action) (x : List ℕ) (cause : BadAction) → first_fault_of_action shape a ≡ Some cause →
    request_text shape (requests.Submit seq a) ++ arrow x ≡ codes "submit " ++ (decimal seq ++ (codes " bad -> " ++ x))
bad_parts shape seq a x cause is =
    let two = codes "submit " ++ decimal seq in
    let bad : action_text shape a ≡ codes "bad" = rw is refl in
    ap (λ (t : List ℕ). (two ++ codes " " ++ t) ++ arrow x) bad ∙ append_assoc (two ++ codes " ") (codes "bad") (arrow x) ∙ append_assoc two (codes " ") (codes "bad -> " ++ x)
    ∙ append_assoc (codes "submit ") (decimal seq) (codes " bad -> " ++ x)

bad_is_read : (seq : ℕ) (x : List ℕ) → seq < 2 ^ 32 → bad_submit_read (codes "submit " ++ (decimal seq ++ (codes " bad -> " ++ x))) ≡ Some (asked.BadSubmit seq (cause_read x))
unfolding bad_submit_read
bad_is_read seq x f =
    let last = codes " bad -> " ++ x in
    rw (front_there (codes "submit ") (decimal seq ++ last), number_is_read (2 ^ 32) (omega arith) seq last f refl, front_there (codes " bad -> ") x) refl

left_out_by : (shape : Shape) (text : List ℕ) (found : LineRequest) → behind_front (codes "bad") text ≡ None → bad_submit_read text ≡ Some found → line_request_read shape text ≡ Some found
unfolding line_request_read
left_out_by shape text found e f = rw (e, f) refl

submit_asked : (shape : Shape) (seq : ℕ) (a : Action) (x : List ℕ) → RequestFits (requests.Submit seq a) → (o : Option BadAction) → first_fault_of_action shape a ≡ o →
    line_request_read shape (request_text shape (requests.Submit seq a) ++ arrow x) ≡ Some (cond (is_none o) (asked.Whole (requests.Submit seq a)) (asked.BadSubmit seq (cause_read x)))
submit_asked shape seq a x f None is =
    let parts = submit_parts shape seq a (arrow x) is in
    whole_by shape (request_text shape (requests.Submit seq a) ++ arrow x) (requests.Submit seq a)
    (ap (behind_front (codes "bad")) parts ∙ submit_no_bad (decimal seq ++ (32 ∷ (canonical a ++ arrow x))))
    (ap bad_submit_read parts ∙ good_no_bad seq a (arrow x) f.0)
    (request_is_read shape (requests.Submit seq a) x (f, is))
submit_asked shape seq a x f (Some cause) is =
    let parts = bad_parts shape seq a x cause is in
    left_out_by shape (request_text shape (requests.Submit seq a) ++ arrow x) (asked.BadSubmit seq (cause_read x))
    (ap (behind_front (codes "bad")) parts ∙ submit_no_bad (decimal seq ++ (codes " bad -> " ++ x)))
    (ap bad_submit_read parts ∙ bad_is_read seq x f.0)

-- ---- All requests

other_asked : (shape : Shape) (r : Request) (x : List ℕ) → IsTold shape r → behind_front (codes "bad") (request_text shape r ++ arrow x) ≡ None →
    behind_front (codes "submit ") (request_text shape r ++ arrow x) ≡ None → line_request_read shape (request_text shape r ++ arrow x) ≡ Some (asked.Whole r)
other_asked shape r x f e g = whole_by shape (request_text shape r ++ arrow x) r e (no_submit (request_text shape r ++ arrow x) g) (request_is_read shape r x f)

request_asked : (shape : Shape) (r : Request) (x : List ℕ) → RequestFits r → line_request_read shape (request_text shape r ++ arrow x) ≡ Some (asked_of shape r x)
unfolding line_request_read behind_front
request_asked shape (requests.Join client life interest) x f = other_asked shape (requests.Join client life interest) x f refl refl
request_asked shape (requests.Submit seq action) x f = submit_asked shape seq action x f (first_fault_of_action shape action) refl
request_asked shape (requests.Done results) x f = other_asked shape (requests.Done results) x f refl refl
request_asked shape requests.Poll x f = other_asked shape requests.Poll x f refl refl
request_asked shape (requests.Observe objects wait) x f = other_asked shape (requests.Observe objects wait) x f refl refl
request_asked shape requests.Leave x f = other_asked shape requests.Leave x f refl refl
request_asked shape requests.Bad x f = refl
request_asked shape requests.End x f = other_asked shape requests.End x f refl refl

pub line_is_read : (shape : Shape) (n session : ℕ) (r : Request) (reply : List ℕ) → n < 2 ^ 64 → session < 2 ^ 64 → RequestFits r →
    line_read shape (asking_text shape n session r ++ reply) ≡ Some (n, session, asked_of shape r reply)
unfolding line_read
line_is_read shape n session r reply f g h =
    let last = request_text shape r ++ arrow reply in
    let more = decimal session ++ (32 ∷ last) in
    ap (line_read shape) (asking_parts shape n session r reply)
    ∙ rw (
      number_is_read (2 ^ 64) (omega arith) n (codes " s" ++ more) f refl,
      front_there (codes " s") more,
      number_is_read (2 ^ 64) (omega arith) session (32 ∷ last) g refl,
      byte_there 32 last,
      request_asked shape r reply h,
    ) refl

-- What a reader gives of a text, it gives of an equal one.
pub gives_on : {X Y : Type 0} (view : X → Y) (r : Result X LineFault) (o p : Option Y) → o ≡ p → Gives view r o → Gives view r p
gives_on view r o p e g = subst (Gives view r) e g
