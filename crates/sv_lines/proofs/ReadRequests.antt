-- Each request is read from the line of its entry, and what is read is a request that a line tells.
use Rattle.std.proofs.Common.{◌≡◌, ℕ, ◌+◌, ◌-◌, ◌^◌, ◌<◌, ◌≤◌, ltb, Bool, true, false, cond, List, [], ◌∷◌, ◌++◌, length, length-append, take, Option, Some, None, is_none, Result, Ok, Err, refl, ap, subst, ◌∙◌, arith, decimal, append_assoc}
use Rattle.std.specs.Prelude.{codes, IfSome}
use Rattle.std.specs.List.{prefix_len}
use Rattle.std.specs.Str.{IsUtf8}
use Rattle.std.proofs.Math.Seq.{take-append_seam}
use Rattle.std.proofs.lemmas.Bool.{lt-ltb}
use Rattle.std.proofs.lemmas.Bool.Decides.{nat_tests}
use Rattle.sv_world.specs.declared.world.ObjectId.{ObjectId}
use Rattle.sv_world.specs.declared.world.ClientId.{ClientId}
use Rattle.sv_world.specs.declared.world.Shape.{Shape}
use Rattle.sv_world.specs.declared.action.Action.{Action}
use Rattle.sv_world.specs.declared.check.BadAction.{BadAction}
use Rattle.sv_world.specs.Faults.{first_fault_of_action}
use Rattle.sv_wire.specs.Ranges.{RequestFits}
use Rattle.sv_wire.specs.declared.message.Done1.{Done1}
use Rattle.sv_wire.specs.declared.message.Request.{Request}
use Rattle.sv_wire.specs.declared.message.Request.TheVariants as requests
use Rattle.sv_text.specs.declared.fault.TextFault.{TextFault}
use Rattle.sv_text.specs.Canonical.{canonical}
use Rattle.sv_text.specs.Tokens.{tokens_of}
use Rattle.sv_text.specs.Reading.{reading}
use Rattle.sv_text.proofs.StandingAction.{canonical_again}
use Rattle.sv_journal.specs.Pieces.{bracketed, objects_text, result_text}
use Rattle.sv_journal.specs.Text.{request_text}
use Rattle.sv_lines.specs.Reading.{◌>>=◌, when_read, behind_front, number_read, objects_read, results_read}
use Rattle.sv_lines.specs.Asking.{is_plain, join_read, before_arrow, good_action, passed, action_read, submit_read, done_read, observe_read, plain_read, request_read, asked_read}
use Rattle.sv_lines.specs.Told.{IsTold, asking_text}
use Rattle.sv_lines.proofs.Numerals.{front_there, front_is_text, front_stops, number_is_read}
use Rattle.sv_lines.proofs.ReadLists.{byte_there, objects_are_read, results_are_read}
use Rattle.sv_lines.proofs.Requests.{arrow, join_parts, submit_parts, observe_parts, split_arrow}
use Rattle.sv_lines.proofs.Plain.{IsPlain, then_plain, plain_action}
use Rattle.sv_lines.proofs.Printable.{printable}
use Rattle.sv_lines.proofs.Short.{short_action}

-- ---- The text before an arrow

plain_low : (c : ℕ) → is_plain c ≡ true → c < 128
plain_low c h = grind (arith, nat_tests)

pub plain_is_text : (text : List ℕ) (k : ℕ) → k ≤ prefix_len is_plain text → IsUtf8 (take k text)
plain_is_text text k h = front_is_text is_plain plain_low text k h

arrow_is_found : (s x : List ℕ) → IsPlain s → before_arrow (s ++ arrow x) ≡ Some s
unfolding before_arrow
arrow_is_found s x f =
    let front = s ++ (32 ∷ 45 ∷ []) in
    let n = prefix_len is_plain (s ++ arrow x) in
    let long : n ≡ length s + 2 =
    ap (prefix_len is_plain) (split_arrow s x) ∙ front_stops is_plain front (62 ∷ 32 ∷ x) (then_plain s (32 ∷ 45 ∷ []) f refl) refl ∙ length-append s (32 ∷ 45 ∷ []) in
    let many : ltb n 2 ≡ false = grind (arith, nat_tests, long) in
    let cut : n - 2 ≡ length s = omega (arith, long) in
    rw many (ap (λ (k : ℕ). Some (take k (s ++ arrow x))) cut ∙ ap Some (take-append_seam s (arrow x)))

pub action_is_read : (shape : Shape) (a : Action) → IsTold shape (requests.Submit 0 a) → action_read shape (canonical a) ≡ Some a
unfolding action_read good_action
action_is_read shape a told =
    let p = printable shape a told.0.1 told.1 in
    rw (lt-ltb (length (canonical a)) (2 ^ 32) (short_action a p), canonical_again a p, told.1) refl

-- ---- Requests

join_is_read : (shape : Shape) (client : ClientId) (life : ℕ) (interest : List ObjectId) (x : List ℕ) → IsTold shape (requests.Join client life interest) →
    request_read shape (request_text shape (requests.Join client life interest) ++ arrow x) ≡ Some (requests.Join client life interest)
unfolding request_read join_read
join_is_read shape client life interest x f =
    let last = objects_text interest ++ arrow x in
    let more = decimal life ++ (32 ∷ last) in
    let rest = decimal client.0 ++ (32 ∷ more) in
    ap (request_read shape) (join_parts client.0 life interest (arrow x))
    ∙ rw (
      front_there (codes "join c") rest,
      number_is_read (2 ^ 16) (omega arith) client.0 (32 ∷ more) f.0 refl,
      byte_there 32 more,
      number_is_read (2 ^ 32) (omega arith) life (32 ∷ last) f.1 refl,
      byte_there 32 last,
      objects_are_read interest (arrow x) f.2 tt,
    ) refl

submit_no_join : (rest : List ℕ) → behind_front (codes "join c") (codes "submit " ++ rest) ≡ None
unfolding behind_front
submit_no_join rest = refl

done_no_join : (rest : List ℕ) → behind_front (codes "join c") (codes "done " ++ rest) ≡ None
unfolding behind_front
done_no_join rest = refl

done_no_submit : (rest : List ℕ) → behind_front (codes "submit ") (codes "done " ++ rest) ≡ None
unfolding behind_front
done_no_submit rest = refl

observe_no_join : (rest : List ℕ) → behind_front (codes "join c") (codes "observe " ++ rest) ≡ None
unfolding behind_front
observe_no_join rest = refl

observe_no_submit : (rest : List ℕ) → behind_front (codes "submit ") (codes "observe " ++ rest) ≡ None
unfolding behind_front
observe_no_submit rest = refl

observe_no_done : (rest : List ℕ) → behind_front (codes "done ") (codes "observe " ++ rest) ≡ None
unfolding behind_front
observe_no_done rest = refl

submit_is_read : (shape : Shape) (seq : ℕ) (a : Action) (x : List ℕ) → IsTold shape (requests.Submit seq a) →
    request_read shape (request_text shape (requests.Submit seq a) ++ arrow x) ≡ Some (requests.Submit seq a)
unfolding request_read submit_read
submit_is_read shape seq a x f =
    let last = canonical a ++ arrow x in
    let rest = decimal seq ++ (32 ∷ last) in
    let none : behind_front (codes "join c") (codes "submit " ++ rest) ≡ None = submit_no_join rest in
    ap (request_read shape) (submit_parts shape seq a (arrow x) f.1)
    ∙ rw (
      none,
      front_there (codes "submit ") rest,
      number_is_read (2 ^ 32) (omega arith) seq (32 ∷ last) f.0.0 refl,
      byte_there 32 last,
      arrow_is_found (canonical a) x (plain_action a (printable shape a f.0.1 f.1)),
      action_is_read shape a ((omega arith, f.0.1), f.1),
    ) refl

done_is_read : (shape : Shape) (ds : List Done1) (x : List ℕ) → IsTold shape (requests.Done ds) → request_read shape (request_text shape (requests.Done ds) ++ arrow x) ≡ Some (requests.Done ds)
unfolding request_read done_read
done_is_read shape ds x f =
    let rest = bracketed result_text ds ++ arrow x in
    ap (request_read shape) (append_assoc (codes "done ") (bracketed result_text ds) (arrow x))
    ∙ rw (done_no_join rest, done_no_submit rest, front_there (codes "done ") rest, results_are_read ds (arrow x) f tt) refl

observe_is_read : (shape : Shape) (objects : List ObjectId) (wait : ℕ) (x : List ℕ) → IsTold shape (requests.Observe objects wait) →
    request_read shape (request_text shape (requests.Observe objects wait) ++ arrow x) ≡ Some (requests.Observe objects wait)
unfolding request_read observe_read
observe_is_read shape objects wait x f =
    let last = objects_text objects ++ arrow x in
    let rest = decimal wait ++ (32 ∷ last) in
    ap (request_read shape) (observe_parts wait objects (arrow x))
    ∙ rw (
      observe_no_join rest,
      observe_no_submit rest,
      observe_no_done rest,
      front_there (codes "observe ") rest,
      number_is_read (2 ^ 16) (omega arith) wait (32 ∷ last) f.1 refl,
      byte_there 32 last,
      objects_are_read objects (arrow x) f.0 tt,
    ) refl

pub request_is_read : (shape : Shape) (r : Request) (x : List ℕ) → IsTold shape r → request_read shape (request_text shape r ++ arrow x) ≡ Some r
unfolding request_read plain_read behind_front
request_is_read shape (requests.Join client life interest) x f = join_is_read shape client life interest x f
request_is_read shape (requests.Submit seq action) x f = submit_is_read shape seq action x f
request_is_read shape (requests.Done results) x f = done_is_read shape results x f
request_is_read shape requests.Poll x f = refl
request_is_read shape (requests.Observe objects wait) x f = observe_is_read shape objects wait x f
request_is_read shape requests.Leave x f = refl
request_is_read shape requests.End x f = refl
request_is_read shape requests.Bad x f = absurd f

-- ---- Lines

pub asking_parts : (shape : Shape) (n session : ℕ) (r : Request) (reply : List ℕ) → asking_text shape n session r ++ reply
    ≡ decimal n ++ (codes " s" ++ (decimal session ++ (32 ∷ (request_text shape r ++ arrow reply))))
asking_parts shape n session r reply =
    let two = decimal n ++ codes " s" in
    let four = two ++ decimal session ++ codes " " in
    let t = request_text shape r in
    append_assoc (four ++ t) (codes " -> ") reply ∙ append_assoc four t (arrow reply) ∙ append_assoc (two ++ decimal session) (codes " ") (t ++ arrow reply)
    ∙ append_assoc two (decimal session) (32 ∷ (t ++ arrow reply)) ∙ append_assoc (decimal n) (codes " s") (decimal session ++ (32 ∷ (t ++ arrow reply)))

pub asked_is_read : (shape : Shape) (n session : ℕ) (r : Request) (reply : List ℕ) → n < 2 ^ 32 → session < 2 ^ 16 → IsTold shape r →
    asked_read shape (asking_text shape n session r ++ reply) ≡ Some (session, r)
unfolding asked_read
asked_is_read shape n session r reply f g h =
    let last = request_text shape r ++ arrow reply in
    let more = decimal session ++ (32 ∷ last) in
    ap (asked_read shape) (asking_parts shape n session r reply)
    ∙ rw (
      number_is_read (2 ^ 32) (omega arith) n (codes " s" ++ more) f refl,
      front_there (codes " s") more,
      number_is_read (2 ^ 16) (omega arith) session (32 ∷ last) g refl,
      byte_there 32 last,
      request_is_read shape r reply h,
    ) refl

-- ---- What is read

-- What a line tells of a request that was read, but for its numbers.
abbrev pub IsAsked : Shape → Request → Type 0
IsAsked shape (requests.Submit seq action) = first_fault_of_action shape action ≡ None
IsAsked shape requests.Bad = ⊥
IsAsked shape request = Unit {0}

good_is : (shape : Shape) (b a : Action) → good_action shape b ≡ Some a → first_fault_of_action shape a ≡ None
unfolding good_action
good_is shape b a e = go (first_fault_of_action shape b) refl e
  where
    some_is : Some b ≡ Some a → b ≡ a
    some_is f = cc

    go : (o : Option BadAction) → first_fault_of_action shape b ≡ o → cond (is_none o) (Some b) None ≡ Some a → first_fault_of_action shape a ≡ None
    go None i g = subst (λ (c : Action). first_fault_of_action shape c ≡ None) (some_is g) i
    go (Some x) i g = absurd cc

passed_good : (shape : Shape) (r : Result Action TextFault) (a : Action) → passed shape r ≡ Some a → first_fault_of_action shape a ≡ None
passed_good shape (Ok b) a e = good_is shape b a e
passed_good shape (Err f) a e = absurd cc

read_good : (shape : Shape) (text : List ℕ) (a : Action) → action_read shape text ≡ Some a → first_fault_of_action shape a ≡ None
unfolding action_read
read_good shape text a e = go (ltb (length text) (2 ^ 32)) e
  where
    go : (b : Bool) → cond b (passed shape (reading (tokens_of text))) None ≡ Some a → first_fault_of_action shape a ≡ None
    go true g = passed_good shape (reading (tokens_of text)) a g
    go false g = absurd cc

-- What is read has a property.
module _ {B : Type 0} (P : B → Type 0) where
  then_all : {A : Type 0} (o : Option A) (f : A → Option B) → ((a : A) → o ≡ Some a → IfSome (f a) P) → IfSome (o >>= f) P
  then_all (Some a) f h = h a refl
  then_all None f h = tt

  when_read_all : {A : Type 0} (o : Option A) (f : A → Option B) (other : Option B) → ((a : A) → IfSome (f a) P) → IfSome other P → IfSome (when_read o f other) P
  when_read_all (Some a) f other h g = h a
  when_read_all None f other h g = g

module _ (shape : Shape) where
  abbrev Asked : Request → Type 0
  Asked r = IsAsked shape r

  join_asked : (text : List ℕ) → IfSome (join_read text) Asked
  unfolding join_read
  join_asked text =
      then_all Asked (number_read (2 ^ 16) text) _ (λ c i. then_all Asked (behind_front (32 ∷ []) c.1) _ (λ m j. then_all Asked (number_read (2 ^ 32) m) _ (λ l k.
      then_all Asked (behind_front (32 ∷ []) l.1) _ (λ q n. then_all Asked (objects_read q) _ (λ o p. tt)))))

  submit_asked : (text : List ℕ) → IfSome (submit_read shape text) Asked
  unfolding submit_read
  submit_asked text =
      then_all Asked (number_read (2 ^ 32) text) _ (λ s i. then_all Asked (behind_front (32 ∷ []) s.1) _ (λ m j. then_all Asked (before_arrow m) _ (λ front k.
      then_all Asked (action_read shape front) _ (λ a n. read_good shape front a n))))

  done_asked : (text : List ℕ) → IfSome (done_read text) Asked
  unfolding done_read
  done_asked text = then_all Asked (results_read text) _ (λ ds i. tt)

  observe_asked : (text : List ℕ) → IfSome (observe_read text) Asked
  unfolding observe_read
  observe_asked text =
      then_all Asked (number_read (2 ^ 16) text) _ (λ w i. then_all Asked (behind_front (32 ∷ []) w.1) _ (λ m j. then_all Asked (objects_read m) _ (λ o k. tt)))

  plain_asked : (text : List ℕ) → IfSome (plain_read text) Asked
  unfolding plain_read
  plain_asked text =
      when_read_all Asked (behind_front (codes "poll") text) _ _ (λ r. tt)
      (when_read_all Asked (behind_front (codes "leave") text) _ _ (λ r. tt) (when_read_all Asked (behind_front (codes "end") text) _ None (λ r. tt) tt))

  request_asked : (text : List ℕ) → IfSome (request_read shape text) Asked
  unfolding request_read
  request_asked text =
      when_read_all Asked (behind_front (codes "join c") text) join_read _ join_asked
      (when_read_all Asked (behind_front (codes "submit ") text) (submit_read shape) _ submit_asked
      (when_read_all Asked (behind_front (codes "done ") text) done_read _ done_asked
      (when_read_all Asked (behind_front (codes "observe ") text) observe_read (plain_read text) observe_asked (plain_asked text))))

  abbrev Second : ℕ × Request → Type 0
  Second x = IsAsked shape x.1

  with_session : (session : ℕ) (o : Option Request) → IfSome o Asked → IfSome (o >>= λ r. Some (session, r)) Second
  with_session session (Some r) h = h
  with_session session None h = tt

  line_asked : (line : List ℕ) → IfSome (asked_read shape line) Second
  unfolding asked_read
  line_asked line =
      then_all Second (number_read (2 ^ 32) line) _ (λ n i. then_all Second (behind_front (codes " s") n.1) _ (λ m j. then_all Second (number_read (2 ^ 16) m) _ (λ s k.
      then_all Second (behind_front (32 ∷ []) s.1) _ (λ q l. with_session s.0 (request_read shape q) (request_asked q)))))

told_by : (shape : Shape) (r : Request) → IsAsked shape r → RequestFits r → IsTold shape r
told_by shape (requests.Join client life interest) asked fits = fits
told_by shape (requests.Submit seq action) asked fits = (fits, asked)
told_by shape (requests.Done results) asked fits = fits
told_by shape requests.Poll asked fits = tt
told_by shape (requests.Observe objects wait) asked fits = fits
told_by shape requests.Leave asked fits = tt
told_by shape requests.Bad asked fits = absurd asked
told_by shape requests.End asked fits = tt

pub asked_is_told : (shape : Shape) (line : List ℕ) (session : ℕ) (r : Request) → asked_read shape line ≡ Some (session, r) → RequestFits r → IsTold shape r
asked_is_told shape line session r e fits = told_by shape r (subst (λ (o : Option (ℕ × Request)). IfSome o (λ x. IsAsked shape x.1)) e (line_asked shape line)) fits
