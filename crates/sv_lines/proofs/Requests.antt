-- A request's text, before the arrow and the reply, tells the request.
use Rattle.std.proofs.Common.{◌≡◌, ℕ, List, [], ◌∷◌, ◌++◌, get_or, None, refl, sym, ap, ◌∙◌, arith, decimal, append_assoc}
use Rattle.std.specs.Prelude.{codes}
use Rattle.std.proofs.lemmas.List.{append_cancel_left, append_cancel_right}
use Rattle.sv_world.specs.declared.world.Shape.{Shape}
use Rattle.sv_world.specs.declared.world.ObjectId.{ObjectId}
use Rattle.sv_world.specs.declared.world.ClientId.{ClientId}
use Rattle.sv_world.specs.declared.action.Action.{Action}
use Rattle.sv_world.specs.Faults.{first_fault_of_action}
use Rattle.sv_wire.specs.declared.message.Request.{Request}
use Rattle.sv_wire.specs.declared.message.Request.TheVariants as requests
use Rattle.sv_wire.specs.declared.message.Done1.{Done1}
use Rattle.sv_text.specs.Canonical.{canonical}
use Rattle.sv_text.proofs.StandingAction.{canonical_injective}
use Rattle.sv_journal.specs.Pieces.{bracketed, objects_text, result_text}
use Rattle.sv_journal.specs.Text.{action_text, request_text}
use Rattle.sv_lines.specs.Told.{IsTold}
use Rattle.sv_lines.proofs.Splitting.{others_are, class_split, number_split}
use Rattle.sv_lines.proofs.Telling.{objects_tell, results_tell}
use Rattle.sv_lines.specs.Asking.{is_plain}
use Rattle.sv_lines.proofs.Plain.{IsPlain, then_plain, plain_action}
use Rattle.sv_lines.proofs.Printable.{printable}

-- The arrow, and what comes behind it.
abbrev pub arrow : List ℕ → List ℕ
arrow x = 32 ∷ 45 ∷ 62 ∷ 32 ∷ x

under_arrow : (x y : List ℕ) → arrow x ≡ arrow y → x ≡ y
under_arrow x y e = append_cancel_left (codes " -> ") x y e

first_byte : (s t : List ℕ) → s ≡ t → get_or s 0 0 ≡ get_or t 0 0
first_byte s t e = ap (λ (l : List ℕ). get_or l 0 0) e

-- ---- Joins

pub join_parts : (client life : ℕ) (interest : List ObjectId) (z : List ℕ) →
    (codes "join c" ++ decimal client ++ codes " " ++ decimal life ++ codes " " ++ objects_text interest) ++ z
    ≡ codes "join c" ++ (decimal client ++ (32 ∷ (decimal life ++ (32 ∷ (objects_text interest ++ z)))))
join_parts client life interest z =
    let o = objects_text interest in
    let four = codes "join c" ++ decimal client ++ codes " " ++ decimal life in
    let two = codes "join c" ++ decimal client in
    append_assoc (four ++ codes " ") o z ∙ append_assoc four (codes " ") (o ++ z) ∙ append_assoc (two ++ codes " ") (decimal life) (32 ∷ (o ++ z))
    ∙ append_assoc two (codes " ") (decimal life ++ (32 ∷ (o ++ z))) ∙ append_assoc (codes "join c") (decimal client) (32 ∷ (decimal life ++ (32 ∷ (o ++ z))))

same_join : (c d : ClientId) (l m : ℕ) (i j : List ObjectId) → c.0 ≡ d.0 → l ≡ m → i ≡ j → requests.Join c l i ≡ requests.Join d m j
same_join c d l m i j f g h =
    ap (λ (n : ℕ). requests.Join (record { 0 = n }) l i) f ∙ ap (λ (n : ℕ). requests.Join d n i) g ∙ ap (λ (os : List ObjectId). requests.Join d m os) h

joins_tell : (shape : Shape) (c d : ClientId) (l m : ℕ) (i j : List ObjectId) (x y : List ℕ) → IsTold shape (requests.Join c l i) → IsTold shape (requests.Join d m j) →
    request_text shape (requests.Join c l i) ++ arrow x ≡ request_text shape (requests.Join d m j) ++ arrow y → (requests.Join c l i ≡ requests.Join d m j) × (x ≡ y)
joins_tell shape c d l m i j x y p q e =
    let xi = objects_text i ++ arrow x in
    let yj = objects_text j ++ arrow y in
    let xl = decimal l ++ (32 ∷ xi) in
    let ym = decimal m ++ (32 ∷ yj) in
    let inner = append_cancel_left (codes "join c") (decimal c.0 ++ (32 ∷ xl)) (decimal d.0 ++ (32 ∷ ym)) (sym (join_parts c.0 l i (arrow x)) ∙ e ∙ join_parts d.0 m j (arrow y)) in
    let one = number_split c.0 d.0 (32 ∷ xl) (32 ∷ ym) (omega (arith, p.0)) (omega (arith, q.0)) refl refl inner in
    let two = number_split l m (32 ∷ xi) (32 ∷ yj) (omega (arith, p.1)) (omega (arith, q.1)) refl refl (others_are 32 32 xl ym one.1) in
    let three = objects_tell i j (arrow x) (arrow y) p.2 q.2 tt tt (others_are 32 32 xi yj two.1) in
    (same_join c d l m i j one.0 two.0 three.0, under_arrow x y three.1)

-- ---- Submits

pub submit_parts : (shape : Shape) (seq : ℕ) (a : Action) (z : List ℕ) → first_fault_of_action shape a ≡ None →
    request_text shape (requests.Submit seq a) ++ z ≡ codes "submit " ++ (decimal seq ++ (32 ∷ (canonical a ++ z)))
submit_parts shape seq a z none =
    let two = codes "submit " ++ decimal seq in
    let good : action_text shape a ≡ canonical a = rw none refl in
    ap (λ (t : List ℕ). (two ++ codes " " ++ t) ++ z) good ∙ append_assoc (two ++ codes " ") (canonical a) z ∙ append_assoc two (codes " ") (canonical a ++ z)
    ∙ append_assoc (codes "submit ") (decimal seq) (32 ∷ (canonical a ++ z))

pub split_arrow : (s x : List ℕ) → s ++ arrow x ≡ (s ++ (32 ∷ 45 ∷ [])) ++ (62 ∷ 32 ∷ x)
split_arrow s x = sym (append_assoc s (32 ∷ 45 ∷ []) (62 ∷ 32 ∷ x))

pub plain_texts_split : (s t x y : List ℕ) → IsPlain s → IsPlain t → s ++ arrow x ≡ t ++ arrow y → (s ≡ t) × (x ≡ y)
plain_texts_split s t x y f g e =
    let parts = class_split is_plain (s ++ (32 ∷ 45 ∷ [])) (t ++ (32 ∷ 45 ∷ [])) (62 ∷ 32 ∷ x) (62 ∷ 32 ∷ y) (then_plain s (32 ∷ 45 ∷ []) f refl) (then_plain t (32 ∷ 45 ∷ []) g refl) refl refl
    (sym (split_arrow s x) ∙ e ∙ split_arrow t y) in
    (append_cancel_right s t (32 ∷ 45 ∷ []) parts.0, append_cancel_left (62 ∷ 32 ∷ []) x y parts.1)

submits_tell : (shape : Shape) (seq seq2 : ℕ) (a b : Action) (x y : List ℕ) → IsTold shape (requests.Submit seq a) → IsTold shape (requests.Submit seq2 b) →
    request_text shape (requests.Submit seq a) ++ arrow x ≡ request_text shape (requests.Submit seq2 b) ++ arrow y → (requests.Submit seq a ≡ requests.Submit seq2 b) × (x ≡ y)
submits_tell shape seq seq2 a b x y p q e =
    let xa = canonical a ++ arrow x in
    let yb = canonical b ++ arrow y in
    let inner = append_cancel_left (codes "submit ") (decimal seq ++ (32 ∷ xa)) (decimal seq2 ++ (32 ∷ yb)) (sym (submit_parts shape seq a (arrow x) p.1) ∙ e ∙ submit_parts shape seq2 b (arrow y) q.1) in
    let one = number_split seq seq2 (32 ∷ xa) (32 ∷ yb) (omega (arith, p.0.0)) (omega (arith, q.0.0)) refl refl inner in
    let fa = printable shape a p.0.1 p.1 in
    let fb = printable shape b q.0.1 q.1 in
    let two = plain_texts_split (canonical a) (canonical b) x y (plain_action a fa) (plain_action b fb) (others_are 32 32 xa yb one.1) in
    (ap (λ (n : ℕ). requests.Submit n a) one.0 ∙ ap (λ (c : Action). requests.Submit seq2 c) (canonical_injective a b fa fb two.0), two.1)

-- ---- Dones

dones_tell : (shape : Shape) (ds es : List Done1) (x y : List ℕ) → IsTold shape (requests.Done ds) → IsTold shape (requests.Done es) →
    request_text shape (requests.Done ds) ++ arrow x ≡ request_text shape (requests.Done es) ++ arrow y → (requests.Done ds ≡ requests.Done es) × (x ≡ y)
dones_tell shape ds es x y p q e =
    let inner = append_cancel_left (codes "done ") (bracketed result_text ds ++ arrow x) (bracketed result_text es ++ arrow y)
    (sym (append_assoc (codes "done ") (bracketed result_text ds) (arrow x)) ∙ e ∙ append_assoc (codes "done ") (bracketed result_text es) (arrow y)) in
    let one = results_tell ds es (arrow x) (arrow y) p q tt tt inner in
    (ap (λ (rs : List Done1). requests.Done rs) one.0, under_arrow x y one.1)

-- ---- Observing

pub observe_parts : (wait : ℕ) (objects : List ObjectId) (z : List ℕ) →
    (codes "observe " ++ decimal wait ++ codes " " ++ objects_text objects) ++ z ≡ codes "observe " ++ (decimal wait ++ (32 ∷ (objects_text objects ++ z)))
observe_parts wait objects z =
    let two = codes "observe " ++ decimal wait in
    append_assoc (two ++ codes " ") (objects_text objects) z ∙ append_assoc two (codes " ") (objects_text objects ++ z)
    ∙ append_assoc (codes "observe ") (decimal wait) (32 ∷ (objects_text objects ++ z))

observes_tell : (shape : Shape) (i j : List ObjectId) (w v : ℕ) (x y : List ℕ) → IsTold shape (requests.Observe i w) → IsTold shape (requests.Observe j v) →
    request_text shape (requests.Observe i w) ++ arrow x ≡ request_text shape (requests.Observe j v) ++ arrow y → (requests.Observe i w ≡ requests.Observe j v) × (x ≡ y)
observes_tell shape i j w v x y p q e =
    let xi = objects_text i ++ arrow x in
    let yj = objects_text j ++ arrow y in
    let inner = append_cancel_left (codes "observe ") (decimal w ++ (32 ∷ xi)) (decimal v ++ (32 ∷ yj)) (sym (observe_parts w i (arrow x)) ∙ e ∙ observe_parts v j (arrow y)) in
    let one = number_split w v (32 ∷ xi) (32 ∷ yj) (omega (arith, p.1)) (omega (arith, q.1)) refl refl inner in
    let two = objects_tell i j (arrow x) (arrow y) p.0 q.0 tt tt (others_are 32 32 xi yj one.1) in
    (ap (λ (n : ℕ). requests.Observe i n) one.0 ∙ ap (λ (os : List ObjectId). requests.Observe os v) two.0, under_arrow x y two.1)

-- ---- All requests

pub request_tells : (shape : Shape) (r o : Request) (x y : List ℕ) → IsTold shape r → IsTold shape o → request_text shape r ++ arrow x ≡ request_text shape o ++ arrow y → (r ≡ o) × (x ≡ y)
request_tells shape (requests.Join client life interest) (requests.Join client2 life2 interest2) x y p q e = joins_tell shape client client2 life life2 interest interest2 x y p q e
request_tells shape (requests.Join client life interest) (requests.Submit seq2 action2) x y p q e = (let heads : 106 ≡ 115 = first_byte _ _ e in absurd (omega (arith, heads)))
request_tells shape (requests.Join client life interest) (requests.Done results2) x y p q e = (let heads : 106 ≡ 100 = first_byte _ _ e in absurd (omega (arith, heads)))
request_tells shape (requests.Join client life interest) requests.Poll x y p q e = (let heads : 106 ≡ 112 = first_byte _ _ e in absurd (omega (arith, heads)))
request_tells shape (requests.Join client life interest) (requests.Observe objects2 wait2) x y p q e = (let heads : 106 ≡ 111 = first_byte _ _ e in absurd (omega (arith, heads)))
request_tells shape (requests.Join client life interest) requests.Leave x y p q e = (let heads : 106 ≡ 108 = first_byte _ _ e in absurd (omega (arith, heads)))
request_tells shape (requests.Join client life interest) requests.End x y p q e = (let heads : 106 ≡ 101 = first_byte _ _ e in absurd (omega (arith, heads)))
request_tells shape (requests.Join client life interest) requests.Bad x y p q e = absurd q
request_tells shape (requests.Submit seq action) (requests.Join client2 life2 interest2) x y p q e = (let heads : 115 ≡ 106 = first_byte _ _ e in absurd (omega (arith, heads)))
request_tells shape (requests.Submit seq action) (requests.Submit seq2 action2) x y p q e = submits_tell shape seq seq2 action action2 x y p q e
request_tells shape (requests.Submit seq action) (requests.Done results2) x y p q e = (let heads : 115 ≡ 100 = first_byte _ _ e in absurd (omega (arith, heads)))
request_tells shape (requests.Submit seq action) requests.Poll x y p q e = (let heads : 115 ≡ 112 = first_byte _ _ e in absurd (omega (arith, heads)))
request_tells shape (requests.Submit seq action) (requests.Observe objects2 wait2) x y p q e = (let heads : 115 ≡ 111 = first_byte _ _ e in absurd (omega (arith, heads)))
request_tells shape (requests.Submit seq action) requests.Leave x y p q e = (let heads : 115 ≡ 108 = first_byte _ _ e in absurd (omega (arith, heads)))
request_tells shape (requests.Submit seq action) requests.End x y p q e = (let heads : 115 ≡ 101 = first_byte _ _ e in absurd (omega (arith, heads)))
request_tells shape (requests.Submit seq action) requests.Bad x y p q e = absurd q
request_tells shape (requests.Done results) (requests.Join client2 life2 interest2) x y p q e = (let heads : 100 ≡ 106 = first_byte _ _ e in absurd (omega (arith, heads)))
request_tells shape (requests.Done results) (requests.Submit seq2 action2) x y p q e = (let heads : 100 ≡ 115 = first_byte _ _ e in absurd (omega (arith, heads)))
request_tells shape (requests.Done results) (requests.Done results2) x y p q e = dones_tell shape results results2 x y p q e
request_tells shape (requests.Done results) requests.Poll x y p q e = (let heads : 100 ≡ 112 = first_byte _ _ e in absurd (omega (arith, heads)))
request_tells shape (requests.Done results) (requests.Observe objects2 wait2) x y p q e = (let heads : 100 ≡ 111 = first_byte _ _ e in absurd (omega (arith, heads)))
request_tells shape (requests.Done results) requests.Leave x y p q e = (let heads : 100 ≡ 108 = first_byte _ _ e in absurd (omega (arith, heads)))
request_tells shape (requests.Done results) requests.End x y p q e = (let heads : 100 ≡ 101 = first_byte _ _ e in absurd (omega (arith, heads)))
request_tells shape (requests.Done results) requests.Bad x y p q e = absurd q
request_tells shape requests.Poll (requests.Join client2 life2 interest2) x y p q e = (let heads : 112 ≡ 106 = first_byte _ _ e in absurd (omega (arith, heads)))
request_tells shape requests.Poll (requests.Submit seq2 action2) x y p q e = (let heads : 112 ≡ 115 = first_byte _ _ e in absurd (omega (arith, heads)))
request_tells shape requests.Poll (requests.Done results2) x y p q e = (let heads : 112 ≡ 100 = first_byte _ _ e in absurd (omega (arith, heads)))
request_tells shape requests.Poll requests.Poll x y p q e = (refl, under_arrow x y (append_cancel_left (codes "poll") (arrow x) (arrow y) e))
request_tells shape requests.Poll (requests.Observe objects2 wait2) x y p q e = (let heads : 112 ≡ 111 = first_byte _ _ e in absurd (omega (arith, heads)))
request_tells shape requests.Poll requests.Leave x y p q e = (let heads : 112 ≡ 108 = first_byte _ _ e in absurd (omega (arith, heads)))
request_tells shape requests.Poll requests.End x y p q e = (let heads : 112 ≡ 101 = first_byte _ _ e in absurd (omega (arith, heads)))
request_tells shape requests.Poll requests.Bad x y p q e = absurd q
request_tells shape (requests.Observe objects wait) (requests.Join client2 life2 interest2) x y p q e = (let heads : 111 ≡ 106 = first_byte _ _ e in absurd (omega (arith, heads)))
request_tells shape (requests.Observe objects wait) (requests.Submit seq2 action2) x y p q e = (let heads : 111 ≡ 115 = first_byte _ _ e in absurd (omega (arith, heads)))
request_tells shape (requests.Observe objects wait) (requests.Done results2) x y p q e = (let heads : 111 ≡ 100 = first_byte _ _ e in absurd (omega (arith, heads)))
request_tells shape (requests.Observe objects wait) requests.Poll x y p q e = (let heads : 111 ≡ 112 = first_byte _ _ e in absurd (omega (arith, heads)))
request_tells shape (requests.Observe objects wait) (requests.Observe objects2 wait2) x y p q e = observes_tell shape objects objects2 wait wait2 x y p q e
request_tells shape (requests.Observe objects wait) requests.Leave x y p q e = (let heads : 111 ≡ 108 = first_byte _ _ e in absurd (omega (arith, heads)))
request_tells shape (requests.Observe objects wait) requests.End x y p q e = (let heads : 111 ≡ 101 = first_byte _ _ e in absurd (omega (arith, heads)))
request_tells shape (requests.Observe objects wait) requests.Bad x y p q e = absurd q
request_tells shape requests.Leave (requests.Join client2 life2 interest2) x y p q e = (let heads : 108 ≡ 106 = first_byte _ _ e in absurd (omega (arith, heads)))
request_tells shape requests.Leave (requests.Submit seq2 action2) x y p q e = (let heads : 108 ≡ 115 = first_byte _ _ e in absurd (omega (arith, heads)))
request_tells shape requests.Leave (requests.Done results2) x y p q e = (let heads : 108 ≡ 100 = first_byte _ _ e in absurd (omega (arith, heads)))
request_tells shape requests.Leave requests.Poll x y p q e = (let heads : 108 ≡ 112 = first_byte _ _ e in absurd (omega (arith, heads)))
request_tells shape requests.Leave (requests.Observe objects2 wait2) x y p q e = (let heads : 108 ≡ 111 = first_byte _ _ e in absurd (omega (arith, heads)))
request_tells shape requests.Leave requests.Leave x y p q e = (refl, under_arrow x y (append_cancel_left (codes "leave") (arrow x) (arrow y) e))
request_tells shape requests.Leave requests.End x y p q e = (let heads : 108 ≡ 101 = first_byte _ _ e in absurd (omega (arith, heads)))
request_tells shape requests.Leave requests.Bad x y p q e = absurd q
request_tells shape requests.End (requests.Join client2 life2 interest2) x y p q e = (let heads : 101 ≡ 106 = first_byte _ _ e in absurd (omega (arith, heads)))
request_tells shape requests.End (requests.Submit seq2 action2) x y p q e = (let heads : 101 ≡ 115 = first_byte _ _ e in absurd (omega (arith, heads)))
request_tells shape requests.End (requests.Done results2) x y p q e = (let heads : 101 ≡ 100 = first_byte _ _ e in absurd (omega (arith, heads)))
request_tells shape requests.End requests.Poll x y p q e = (let heads : 101 ≡ 112 = first_byte _ _ e in absurd (omega (arith, heads)))
request_tells shape requests.End (requests.Observe objects2 wait2) x y p q e = (let heads : 101 ≡ 111 = first_byte _ _ e in absurd (omega (arith, heads)))
request_tells shape requests.End requests.Leave x y p q e = (let heads : 101 ≡ 108 = first_byte _ _ e in absurd (omega (arith, heads)))
request_tells shape requests.End requests.End x y p q e = (refl, under_arrow x y (append_cancel_left (codes "end") (arrow x) (arrow y) e))
request_tells shape requests.End requests.Bad x y p q e = absurd q
request_tells shape requests.Bad o x y p q e = absurd p
