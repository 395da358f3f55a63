-- What a client that took a session's first deliveries holds of them, and what it holds after one more.
use Rattle.std.proofs.Common.{◌≡◌, ℕ, ◌≤◌, Bool, true, ◌&&◌, ◌==◌, ◌⊎◌, inl, inr, List, [], ◌∷◌, ◌++◌, map, filter, length, Some, slice_get, ℤ, refl, sym, ap, ◌∙◌, subst, eqb-true, true≢false}
use Rattle.std.specs.List.{list_any, AllByRecursion}
use Rattle.std.proofs.lemmas.Bool.{cond-true, cond-false, cases_Bool, and_parts, and_left}
use Rattle.std.proofs.lemmas.Option.{none-some}
use Rattle.sv_world.specs.Control.{is_in, action_at}
use Rattle.sv_world.specs.Faults.{is_ascending}
use Rattle.sv_world.specs.Sets.{write_set}
use Rattle.sv_world.specs.declared.action.Action.{Action}
use Rattle.sv_world.proofs.Members.{is_in-head, is_in-tail, is_in-one, is_in-cons_cases, is_in-append_cases, is_in-filter_parts}
use Rattle.sv_versions.specs.Held.{Held}
use Rattle.sv_wire.specs.declared.message.Item.{Item}
use Rattle.sv_journal.specs.History.{Authored, item_at}
use Rattle.sv_client.specs.Traces.{head_held, with_items, results_of}
use Rattle.law_system.specs.Fronts.{IsFront}
use Rattle.law_system.specs.Serial.{IsSerial, AreSerial, AreSupplied}
use Rattle.law_system.specs.Delivery.{Delivery, Telling, told_positions, told_commits, head_objects, IsRelayed, IsShown, IsLawful, AreLawful, tellings_to}
use Rattle.law_system.proofs.Tests.{any-right}
use Rattle.law_system.proofs.Every.{each-append, each-left, each-last, each-more}
use Rattle.law_system.proofs.Fronts.{front-all, front-then, front-append, get-push_cases}
use Rattle.law_system.proofs.Covers.{is_held}
use Rattle.law_system.proofs.Items.{actions_in, item-action, IsPlain, AreWaiting, items-keep, items-have, items-supplied}
use Rattle.law_system.specs.Journals.{IsSerialResult}
use Rattle.law_system.proofs.Reported.{items-reported}
use Rattle.law_system.proofs.Relays.{head-has, Knows, relay-ascending, relay-serving, shown-ascending, shown-serving, serving-waiting}

-- All that a telling tells is held: the values of its head at its commit, and of each item those of what it writes at its position.
abbrev pub IsTaken : List Held → Telling → Type 0
IsTaken held T = ((x : ℕ) → is_in x (head_objects T.head) ≡ true → is_held x T.commit held ≡ true)
    × AllByRecursion (λ (item : Item). (x : ℕ) → is_in x (write_set item.action) ≡ true → is_held x item.pos held ≡ true) T.items

abbrev pub AreTaken : List Held → List Telling → Type 0
AreTaken held tellings = AllByRecursion (IsTaken held) tellings

-- What is held with a telling's head and items.
abbrev pub with_telling : List Held → Telling → List Held
with_telling held T = with_items (held ++ head_held T.commit T.head) T.items

abbrev pub telling_of : List Authored → Delivery → Telling
telling_of A d = record { commit = d.commit; head = d.head; items = map (item_at A) d.positions }

-- What was taken stays taken.
pub taken-more : (held more : List Held) → ((p : Held → Bool) → list_any p held ≡ true → list_any p more ≡ true) → (T : Telling) → IsTaken held T → IsTaken more T
taken-more held more keeps T t = (
  λ x m. keeps (λ h. h.object == x && h.pos == T.commit) (t.0 x m),
  each-more (λ (item : Item). (x : ℕ) → is_in x (write_set item.action) ≡ true → is_held x item.pos held ≡ true)
      (λ (item : Item). (x : ℕ) → is_in x (write_set item.action) ≡ true → is_held x item.pos more ≡ true)
      (λ item f x m. keeps (λ h. h.object == x && h.pos == item.pos) (f x m)) T.items t.1,
)

item-taken : (A : List Authored) (held : List Held) (ks : List ℕ) (k x : ℕ) →
    AllByRecursion (λ (item : Item). (x : ℕ) → is_in x (write_set item.action) ≡ true → is_held x item.pos held ≡ true) (map (item_at A) ks) →
    is_in k ks ≡ true → is_in x (write_set (action_at (actions_in A) k)) ≡ true → is_held x k held ≡ true
item-taken A held [] k x h m w = cc
item-taken A held (j ∷ js) k x h m w =
    elim (is_in-cons_cases k j js m) [
      | inl e ↦ subst (λ (n : ℕ). is_held x n held ≡ true) (sym e)
          (h.0 x (subst (λ (a : Action). is_in x (write_set a) ≡ true) (ap (action_at (actions_in A)) e ∙ sym (item-action A j)) w))
      | inr r ↦ item-taken A held js k x h.1 r w
    ]

module _ (A : List Authored) (held : List Held) (s : ℕ) where
  commits-held : (ds : List Delivery) → AreTaken held (tellings_to A ds s) → (x q : ℕ) → is_in q (told_commits ds s x) ≡ true → is_held x q held ≡ true
  commits-held [] taken x q m = cc
  commits-held (d ∷ ds) taken x q m =
      let T = telling_of A d in
      let earlier = λ (t : AreTaken held (tellings_to A ds s)) (n : is_in q (told_commits ds s x) ≡ true). commits-held ds t x q n in
      let test : Bool = d.session == s && is_in x (head_objects d.head) in
      elim (cases_Bool (d.session == s)) [
        | inr e ↦ earlier (subst (AreTaken held) (cond-false (d.session == s) _ _ e) taken)
            (subst (λ (l : List ℕ). is_in q l ≡ true) (cond-false test _ _ (and_left (d.session == s) (is_in x (head_objects d.head)) e)) m)
        | inl e ↦
            (let all : AreTaken held (tellings_to A ds s ++ T ∷ []) = subst (AreTaken held) (cond-true (d.session == s) _ _ e) taken in
            let before = each-left (IsTaken held) (tellings_to A ds s) (T ∷ []) all in
            elim (cases_Bool test) [
              | inr f ↦ earlier before (subst (λ (l : List ℕ). is_in q l ≡ true) (cond-false test _ _ f) m)
              | inl f ↦ elim (is_in-append_cases q (told_commits ds s x) (d.commit ∷ []) (subst (λ (l : List ℕ). is_in q l ≡ true) (cond-true test _ _ f) m)) [
                | inl n ↦ earlier before n
                | inr n ↦ subst (λ (p : ℕ). is_held x p held ≡ true) (sym (is_in-one q d.commit n))
                    ((each-last (IsTaken held) (tellings_to A ds s) T all).0 x (and_parts (d.session == s) (is_in x (head_objects d.head)) f).1)
              ]
            ])
      ]

  positions-held : (ds : List Delivery) → AreTaken held (tellings_to A ds s) → (x q : ℕ) → is_in q (told_positions ds s) ≡ true →
      is_in x (write_set (action_at (actions_in A) q)) ≡ true → is_held x q held ≡ true
  positions-held [] taken x q m w = cc
  positions-held (d ∷ ds) taken x q m w =
      let T = telling_of A d in
      let earlier = λ (t : AreTaken held (tellings_to A ds s)) (n : is_in q (told_positions ds s) ≡ true). positions-held ds t x q n w in
      elim (cases_Bool (d.session == s)) [
        | inr e ↦ earlier (subst (AreTaken held) (cond-false (d.session == s) _ _ e) taken) (subst (λ (l : List ℕ). is_in q l ≡ true) (cond-false (d.session == s) _ _ e) m)
        | inl e ↦
            (let all : AreTaken held (tellings_to A ds s ++ T ∷ []) = subst (AreTaken held) (cond-true (d.session == s) _ _ e) taken in
            elim (is_in-append_cases q (told_positions ds s) d.positions (subst (λ (l : List ℕ). is_in q l ≡ true) (cond-true (d.session == s) _ _ e) m)) [
              | inl n ↦ earlier (each-left (IsTaken held) (tellings_to A ds s) (T ∷ []) all) n
              | inr n ↦ item-taken A held d.positions q x (each-last (IsTaken held) (tellings_to A ds s) T all).1 n w
            ])
      ]

  -- Where all of a session's deliveries are taken, all that it knows is held.
  pub knows-taken : (ds : List Delivery) → AreTaken held (tellings_to A ds s) → Knows (actions_in A) ds s held
  knows-taken ds taken x q m =
      let test = λ (p : ℕ). is_in x (write_set (action_at (actions_in A) p)) in
      elim (is_in-append_cases q (told_commits ds s x) (filter test (told_positions ds s)) m) [
        | inl c ↦ commits-held ds taken x q c
        | inr f ↦ (let p = is_in-filter_parts test q (told_positions ds s) f in positions-held ds taken x q p.0 p.1)
      ]

module _ (objects : ℕ) (opening : List (List ℤ)) (count : length opening ≡ objects) (A : List Authored) (plain : (k : ℕ) → IsPlain objects (action_at (actions_in A) k)) where
  -- What one more lawful delivery gives to one who knows what the session was told before.
  pub record IsTakenWell (held : List Held) (d : Delivery) : Type 0 where
    pub supplied : AreSupplied (actions_in A) (held ++ head_held d.commit d.head) (map (item_at A) d.positions)
    pub serial : AreSerial opening (actions_in A) (with_telling held (telling_of A d))
    pub taken : IsTaken (with_telling held (telling_of A d)) (telling_of A d)
    pub reported : AllByRecursion (IsSerialResult opening (actions_in A)) (results_of (held ++ head_held d.commit d.head) (map (item_at A) d.positions))

  waiting-of : (held : List Held) (ds : List Delivery) (d : Delivery) → Knows (actions_in A) ds d.session held → d.count ≤ length (actions_in A) →
      (d.positions ≡ []) ⊎ (IsRelayed objects (actions_in A) ds d ⊎ IsShown objects (actions_in A) ds d) →
      (is_ascending d.positions ≡ true) × AreWaiting (actions_in A) (held ++ head_held d.commit d.head) d.positions
  waiting-of held ds d known all (inl e) =
      subst (λ (ks : List ℕ). (is_ascending ks ≡ true) × AreWaiting (actions_in A) (held ++ head_held d.commit d.head) ks) (sym e) (refl, λ k m x r. absurd (true≢false (sym m)))
  waiting-of held ds d known all (inr (inl r)) =
      (relay-ascending objects (actions_in A) plain ds d r, serving-waiting objects (actions_in A) ds d held known (relay-serving objects (actions_in A) plain ds d r))
  waiting-of held ds d known all (inr (inr r)) =
      (shown-ascending objects (actions_in A) plain ds d all r, serving-waiting objects (actions_in A) ds d held known (shown-serving objects (actions_in A) plain ds d all r))

  items-taken : (held : List Held) (ks js : List ℕ) → ((k : ℕ) → is_in k js ≡ true → is_in k ks ≡ true) →
      AllByRecursion (λ (item : Item). (x : ℕ) → is_in x (write_set item.action) ≡ true → is_held x item.pos (with_items held (map (item_at A) ks)) ≡ true) (map (item_at A) js)
  items-taken held ks [] within = tt
  items-taken held ks (j ∷ js) within = (
    λ x m. items-have A held ks j x (within j (is_in-head j js)) (subst (λ (a : Action). is_in x (write_set a) ≡ true) (item-action A j) m),
    items-taken held ks js (λ k m. within k (is_in-tail k j js m)),
  )

  pub delivery-taken : (held : List Held) (ds : List Delivery) (d : Delivery) → AreSerial opening (actions_in A) held → Knows (actions_in A) ds d.session held →
      IsLawful objects opening (actions_in A) ds d → IsTakenWell held d
  delivery-taken held ds d serial known lawful =
      let heads = head_held d.commit d.head in
      let w = waiting-of held ds d known lawful.count lawful.relayed in
      let all : AreSerial opening (actions_in A) (held ++ heads) = each-append (IsSerial opening (actions_in A)) held heads serial lawful.serial in
      let items = items-supplied objects opening count A plain d.positions (held ++ heads) w.0 all w.1 in
      record {
        supplied = items.0;
        serial = items.1;
        reported = items-reported objects opening count A plain d.positions (held ++ heads) w.0 all w.1;
        taken = (
          λ x m. items-keep (λ h. h.object == x && h.pos == d.commit) (held ++ heads) (map (item_at A) d.positions)
              (any-right (λ h. h.object == x && h.pos == d.commit) held heads (head-has d.commit d.head x m)),
          items-taken (held ++ heads) d.positions d.positions (λ k m. m),
        );
      }

  -- A telling of a session's deliveries is one of them, which is lawful after those before it.
  pub record IsTold (ds : List Delivery) (s n : ℕ) (T : Telling) : Type 0 where
    pub delivery : Delivery
    pub earlier : List Delivery
    pub lawful : IsLawful objects opening (actions_in A) earlier delivery
    pub session : delivery.session ≡ s
    pub telling : T ≡ telling_of A delivery
    pub as_many : length (tellings_to A earlier s) ≡ n
    pub before : IsFront (tellings_to A earlier s) (tellings_to A ds s)

  told-later : (ds more : List Delivery) (s n : ℕ) (T : Telling) → IsFront (tellings_to A ds s) (tellings_to A more s) → IsTold ds s n T → IsTold more s n T
  told-later ds more s n T f t = record {
    delivery = t.delivery;
    earlier = t.earlier;
    lawful = t.lawful;
    session = t.session;
    telling = t.telling;
    as_many = t.as_many;
    before = front-then (tellings_to A t.earlier s) (tellings_to A ds s) (tellings_to A more s) t.before f;
  }

  pub told-at : (ds : List Delivery) → AreLawful objects opening (actions_in A) ds → (s n : ℕ) (T : Telling) → slice_get (tellings_to A ds s) n ≡ Some T → IsTold ds s n T
  told-at [] lawful s n T e = absurd (none-some T e)
  told-at (d ∷ ds) lawful s n T e =
      let all = tellings_to A ds s in
      let less = told-at ds lawful.1 s n T in
      elim (cases_Bool (d.session == s)) [
        | inr f ↦
            (let same : tellings_to A (d ∷ ds) s ≡ all = cond-false (d.session == s) _ _ f in
            told-later ds (d ∷ ds) s n T (subst (IsFront all) (sym same) (front-all all))
            (less (subst (λ (l : List Telling). slice_get l n ≡ Some T) same e)))
        | inl f ↦
            (let same : tellings_to A (d ∷ ds) s ≡ all ++ telling_of A d ∷ [] = cond-true (d.session == s) _ _ f in
            let front : IsFront all (tellings_to A (d ∷ ds) s) = subst (IsFront all) (sym same) (front-append all (telling_of A d ∷ [])) in
            elim (get-push_cases all (telling_of A d) n T (subst (λ (l : List Telling). slice_get l n ≡ Some T) same e)) [
              | inl g ↦ told-later ds (d ∷ ds) s n T front (less g)
              | inr g ↦ record {
                delivery = d;
                earlier = ds;
                lawful = lawful.0;
                session = eqb-true d.session s f;
                telling = g.1;
                as_many = sym g.0;
                before = front;
              }
            ])
      ]
