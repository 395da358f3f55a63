-- Each client that takes the first of its sessions' lawful deliveries holds serial values alone, and each of its relays is sufficient.
use Rattle.std.proofs.Common.{◌≡◌, ℕ, zero, suc, ◌<◌, ◌==◌, ◌⊎◌, inl, inr, List, [], ◌∷◌, ◌++◌, length, ℤ, refl, sym, ap, ◌∙◌, subst, arith, eq-eqb}
use Rattle.std.specs.Prelude.{All}
use Rattle.std.specs.List.{AllByRecursion}
use Rattle.std.proofs.lemmas.Bool.{cond-true, cond-false, cases_Bool}
use Rattle.std.proofs.lemmas.List.{append-nil}
use Rattle.std.proofs.lemmas.List.Elements.{recursion_from_All}
use Rattle.sv_world.specs.Control.{action_at}
use Rattle.sv_world.specs.Faults.{IsGoodAction}
use Rattle.sv_world.specs.Sets.{read_set}
use Rattle.sv_world.specs.declared.world.Shape.{Shape}
use Rattle.sv_world.specs.declared.action.Action.{Action}
use Rattle.sv_versions.specs.Held.{Held}
use Rattle.sv_wire.specs.declared.message.Done1.{Done1}
use Rattle.sv_wire.specs.declared.message.Request.{Request}
use Rattle.sv_wire.specs.declared.message.Request.TheVariants as requests
use Rattle.sv_wire.specs.declared.message.Reply.{Reply}
use Rattle.sv_wire.specs.declared.message.Reply.TheVariants as replies
use Rattle.sv_journal.specs.History.{Authored}
use Rattle.sv_client.specs.declared.trace.Event.{Event}
use Rattle.sv_client.specs.declared.trace.Event.TheVariants as events
use Rattle.sv_client.specs.Traces.{head_held, held_of, results_of, done_for}
use Rattle.law_system.specs.Fronts.{IsFront}
use Rattle.law_system.specs.Serial.{AreSerial, AreSupplied, AreSufficient}
use Rattle.law_system.specs.Delivery.{Delivery, Telling, AreLawful, tellings_to, telling_in, tellings_got}
use Rattle.law_system.proofs.Fronts.{front-then, front-append, get-last, fronts-same}
use Rattle.law_system.proofs.Tests.{any-left}
use Rattle.law_system.proofs.Every.{each-append, each-more}
use Rattle.law_system.proofs.Items.{actions_in, IsPlain, items-keep}
use Rattle.law_system.proofs.Relays.{Knows}
use Rattle.law_system.specs.Journals.{IsSerialResult}
use Rattle.law_system.proofs.Tellings.{IsTaken, AreTaken, with_telling, telling_of, taken-more, knows-taken, IsTakenWell, delivery-taken, told-at}

-- Each position's action has what the check promises, also where it is blank.
pub plain-at : (shape : Shape) (A : List Authored) → All (λ (a : Authored). IsGoodAction shape a.action) A → (k : ℕ) → IsPlain shape.objects (action_at (actions_in A) k)
plain-at shape A good zero = (refl, tt)
plain-at shape [] good (suc k) = (refl, tt)
plain-at shape (a ∷ A) good (suc zero) =
    let g : IsGoodAction shape a.action = good 0 a (omega arith) in
    (g.ascending, recursion_from_All (λ (x : ℕ). x < shape.objects) (read_set a.action) g.objects)
plain-at shape (a ∷ A) good (suc (suc k)) = plain-at shape A (λ i d l. good (suc i) d (omega arith)) (suc k)

-- The results reported of a reply, where these values are held before it.
abbrev pub IsReported : List (List ℤ) → List Action → List Held → Reply → Type 0
IsReported opening A held (replies.Relay seq commit head items) = AllByRecursion (IsSerialResult opening A) (results_of (held ++ head_held commit head) items)
IsReported opening A held (replies.Seen last commit head items) = AllByRecursion (IsSerialResult opening A) (results_of (held ++ head_held commit head) items)
IsReported opening A held _ = Unit {0}

abbrev pub first-results : List Request → List Done1
first-results (requests.Done results ∷ qs) = results
first-results _ = []

-- So are those of the Done that it asks for.
pub reported-done : (opening : List (List ℤ)) (A : List Action) (held : List Held) (reply : Reply) (results : List Done1) → done_for held reply ≡ requests.Done results ∷ [] →
    IsReported opening A held reply → AllByRecursion (IsSerialResult opening A) results
reported-done opening A held (replies.Relay seq commit head items) results e h = subst (AllByRecursion (IsSerialResult opening A)) (ap first-results e) h
reported-done opening A held (replies.Seen last commit head []) results e h = cc
reported-done opening A held (replies.Seen last commit head (item ∷ items)) results e h = subst (AllByRecursion (IsSerialResult opening A)) (ap first-results e) h
reported-done opening A held (replies.Welcome commit head) results e h = cc
reported-done opening A held (replies.Dropped seq chain far) results e h = cc
reported-done opening A held (replies.Denied seq object) results e h = cc
reported-done opening A held (replies.Settled seq pos) results e h = cc
reported-done opening A held (replies.Noted commit) results e h = cc
reported-done opening A held replies.Idle results e h = cc
reported-done opening A held (replies.Refused code detail) results e h = cc
reported-done opening A held replies.Bye results e h = cc

-- The results reported of each relay that was got, and of what was seen, are those of the serial execution.
abbrev pub AreReported : List (List ℤ) → List Action → List Event → Type 0
AreReported opening A [] = Unit {0}
AreReported opening A (events.Got s reply ∷ t) = IsReported opening A (held_of t) reply × AreReported opening A t
AreReported opening A (_ ∷ t) = AreReported opening A t

got-mine : (s : ℕ) (r : Reply) (t : List Event) → tellings_got (events.Got s r ∷ t) s ≡ tellings_got t s ++ telling_in r
got-mine s r t = cond-true (s == s) _ _ (eq-eqb s s refl)

got-cases : (s : ℕ) (r : Reply) (t : List Event) (n : ℕ) →
    (tellings_got (events.Got s r ∷ t) n ≡ tellings_got t n ++ telling_in r) ⊎ (tellings_got (events.Got s r ∷ t) n ≡ tellings_got t n)
got-cases s r t n =
    elim (cases_Bool (s == n)) [ inl e ↦ inl (cond-true (s == n) _ _ e) | inr e ↦ inr (cond-false (s == n) _ _ e) ]

got-front : (s : ℕ) (r : Reply) (t : List Event) (n : ℕ) → IsFront (tellings_got t n) (tellings_got (events.Got s r ∷ t) n)
got-front s r t n =
    elim (got-cases s r t n) [
      | inl e ↦ subst (IsFront (tellings_got t n)) (sym e) (front-append (tellings_got t n) (telling_in r))
      | inr e ↦ subst (IsFront (tellings_got t n)) (sym e) (λ i x h. h)
    ]

module _ (objects : ℕ) (opening : List (List ℤ)) (count : length opening ≡ objects) (A : List Authored) (plain : (k : ℕ) → IsPlain objects (action_at (actions_in A) k))
    (ds : List Delivery) (lawful : AreLawful objects opening (actions_in A) ds) where
  abbrev AreFronts : List Event → Type 0
  AreFronts t = (s : ℕ) → IsFront (tellings_got t s) (tellings_to A ds s)

  -- What holds after the events.
  pub record IsWell (t : List Event) : Type 0 where
    pub serial : AreSerial opening (actions_in A) (held_of t)
    pub sufficient : AreSufficient (actions_in A) t
    pub taken : (s : ℕ) → AreTaken (held_of t) (tellings_got t s)
    pub reported : AreReported opening (actions_in A) t

  earlier-front : (s : ℕ) (r : Reply) (t : List Event) → AreFronts (events.Got s r ∷ t) → AreFronts t
  earlier-front s r t f n = front-then (tellings_got t n) (tellings_got (events.Got s r ∷ t) n) (tellings_to A ds n) (got-front s r t n) (f n)

  -- The telling of a reply is that of a delivery that is taken well.
  pub record IsTellingTaken (held : List Held) (T : Telling) : Type 0 where
    pub supplied : AreSupplied (actions_in A) (held ++ head_held T.commit T.head) T.items
    pub serial : AreSerial opening (actions_in A) (with_telling held T)
    pub taken : IsTaken (with_telling held T) T
    pub reported : AllByRecursion (IsSerialResult opening (actions_in A)) (results_of (held ++ head_held T.commit T.head) T.items)

  of-delivery : (held : List Held) (d : Delivery) → IsTakenWell objects opening count A plain held d → IsTellingTaken held (telling_of A d)
  of-delivery held d w = record { supplied = w.supplied; serial = w.serial; taken = w.taken; reported = w.reported }

  telling-taken : (s : ℕ) (r : Reply) (t : List Event) (T : Telling) → telling_in r ≡ T ∷ [] → AreFronts (events.Got s r ∷ t) → IsWell t → IsTellingTaken (held_of t) T
  telling-taken s r t T e f w =
      let mine = tellings_got t s in
      let now : tellings_got (events.Got s r ∷ t) s ≡ mine ++ T ∷ [] = got-mine s r t ∙ ap (λ (l : List Telling). mine ++ l) e in
      let front : IsFront (mine ++ T ∷ []) (tellings_to A ds s) = subst (λ (l : List Telling). IsFront l (tellings_to A ds s)) now (f s) in
      let told = told-at objects opening count A plain ds lawful s (length mine) T (front (length mine) T (get-last mine T)) in
      let same : mine ≡ tellings_to A told.earlier s =
      fronts-same mine (tellings_to A told.earlier s) (tellings_to A ds s)
      (front-then mine (mine ++ T ∷ []) (tellings_to A ds s) (front-append mine (T ∷ [])) front) told.before (sym told.as_many) in
      let known = knows-taken A (held_of t) s told.earlier (subst (AreTaken (held_of t)) same (w.taken s)) in
      let well = delivery-taken objects opening count A plain (held_of t) told.earlier told.delivery w.serial
      (subst (λ (n : ℕ). Knows (actions_in A) told.earlier n (held_of t)) (sym told.session) known) told.lawful in
      subst (IsTellingTaken (held_of t)) (sym told.telling) (of-delivery (held_of t) told.delivery well)

  more-taken : (held : List Held) (T : Telling) → (tellings : List Telling) → AreTaken held tellings → AreTaken (with_telling held T) tellings
  more-taken held T tellings h =
      each-more (IsTaken held) (IsTaken (with_telling held T))
      (taken-more held (with_telling held T) (λ p g. items-keep p (held ++ head_held T.commit T.head) T.items (any-left p held (head_held T.commit T.head) g))) tellings h

  taken-now : (s : ℕ) (r : Reply) (t : List Event) (T : Telling) → telling_in r ≡ T ∷ [] → IsWell t → IsTaken (with_telling (held_of t) T) T → (n : ℕ) →
      AreTaken (with_telling (held_of t) T) (tellings_got (events.Got s r ∷ t) n)
  taken-now s r t T e w here n =
      let before = more-taken (held_of t) T (tellings_got t n) (w.taken n) in
      elim (got-cases s r t n) [
        | inl g ↦ subst (AreTaken (with_telling (held_of t) T)) (sym (g ∙ ap (λ (l : List Telling). tellings_got t n ++ l) e))
            (each-append (IsTaken (with_telling (held_of t) T)) (tellings_got t n) (T ∷ []) before (here, tt))
        | inr g ↦ subst (AreTaken (with_telling (held_of t) T)) (sym g) before
      ]

  taken-silent : (s : ℕ) (r : Reply) (t : List Event) → telling_in r ≡ [] → IsWell t → (n : ℕ) → AreTaken (held_of t) (tellings_got (events.Got s r ∷ t) n)
  taken-silent s r t e w n =
      elim (got-cases s r t n) [
        | inl g ↦ subst (AreTaken (held_of t)) (sym (g ∙ ap (λ (l : List Telling). tellings_got t n ++ l) e ∙ append-nil (tellings_got t n))) (w.taken n)
        | inr g ↦ subst (AreTaken (held_of t)) (sym g) (w.taken n)
      ]

  got-well : (s : ℕ) (r : Reply) (t : List Event) → AreFronts (events.Got s r ∷ t) → IsWell t → IsWell (events.Got s r ∷ t)
  got-well s (replies.Welcome commit head) t f w =
      let T : Telling = record { commit = commit; head = head; items = [] } in
      let g = telling-taken s (replies.Welcome commit head) t T refl f w in
      record { serial = g.serial; sufficient = (tt, w.sufficient); taken = taken-now s (replies.Welcome commit head) t T refl w g.taken; reported = (tt, w.reported) }
  got-well s (replies.Relay seq commit head items) t f w =
      let T : Telling = record { commit = commit; head = head; items = items } in
      let g = telling-taken s (replies.Relay seq commit head items) t T refl f w in
      record { serial = g.serial; sufficient = (g.supplied, w.sufficient); taken = taken-now s (replies.Relay seq commit head items) t T refl w g.taken; reported = (g.reported, w.reported) }
  got-well s (replies.Dropped seq chain far) t f w =
      record { serial = w.serial; sufficient = (tt, w.sufficient); taken = taken-silent s (replies.Dropped seq chain far) t refl w; reported = (tt, w.reported) }
  got-well s (replies.Denied seq object) t f w =
      record { serial = w.serial; sufficient = (tt, w.sufficient); taken = taken-silent s (replies.Denied seq object) t refl w; reported = (tt, w.reported) }
  got-well s (replies.Seen last commit head items) t f w =
      let T : Telling = record { commit = commit; head = head; items = items } in
      let g = telling-taken s (replies.Seen last commit head items) t T refl f w in
      record { serial = g.serial; sufficient = (g.supplied, w.sufficient); taken = taken-now s (replies.Seen last commit head items) t T refl w g.taken; reported = (g.reported, w.reported) }
  got-well s (replies.Settled seq pos) t f w =
      record { serial = w.serial; sufficient = (tt, w.sufficient); taken = taken-silent s (replies.Settled seq pos) t refl w; reported = (tt, w.reported) }
  got-well s (replies.Noted commit) t f w =
      record { serial = w.serial; sufficient = (tt, w.sufficient); taken = taken-silent s (replies.Noted commit) t refl w; reported = (tt, w.reported) }
  got-well s replies.Idle t f w =
      record { serial = w.serial; sufficient = (tt, w.sufficient); taken = taken-silent s replies.Idle t refl w; reported = (tt, w.reported) }
  got-well s (replies.Refused code detail) t f w =
      record { serial = w.serial; sufficient = (tt, w.sufficient); taken = taken-silent s (replies.Refused code detail) t refl w; reported = (tt, w.reported) }
  got-well s replies.Bye t f w =
      record { serial = w.serial; sufficient = (tt, w.sufficient); taken = taken-silent s replies.Bye t refl w; reported = (tt, w.reported) }

  pub all-well : (t : List Event) → AreFronts t → IsWell t
  all-well [] f = record { serial = tt; sufficient = tt; taken = λ s. tt; reported = tt }
  all-well (events.Got s r ∷ t) f = got-well s r t f (all-well t (earlier-front s r t f))
  all-well (events.Join s ∷ t) f = let w = all-well t f in record { serial = w.serial; sufficient = w.sufficient; taken = w.taken; reported = w.reported }
  all-well (events.Make action ∷ t) f = let w = all-well t f in record { serial = w.serial; sufficient = w.sufficient; taken = w.taken; reported = w.reported }
  all-well (events.Poll ∷ t) f = let w = all-well t f in record { serial = w.serial; sufficient = w.sufficient; taken = w.taken; reported = w.reported }
  all-well (events.Observe objects wait ∷ t) f = let w = all-well t f in record { serial = w.serial; sufficient = w.sufficient; taken = w.taken; reported = w.reported }
  all-well (events.Leave ∷ t) f = let w = all-well t f in record { serial = w.serial; sufficient = w.sufficient; taken = w.taken; reported = w.reported }
  all-well (events.Cut ∷ t) f = let w = all-well t f in record { serial = w.serial; sufficient = w.sufficient; taken = w.taken; reported = w.reported }
  all-well (events.Quit ∷ t) f = let w = all-well t f in record { serial = w.serial; sufficient = w.sufficient; taken = w.taken; reported = w.reported }
  all-well (events.Show objects' ∷ t) f = let w = all-well t f in record { serial = w.serial; sufficient = w.sufficient; taken = w.taken; reported = w.reported }
