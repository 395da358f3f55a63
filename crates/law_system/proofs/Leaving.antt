-- The Joins that a trace asks, and that nothing is asked after a Leave.
use Rattle.std.proofs.Common.{◌≡◌, ℕ, zero, suc, ◌+◌, ◌<◌, ◌≤◌, Bool, true, false, ◌==◌, inl, inr, List, [], ◌∷◌, ◌++◌, map, drop, length, Option, Some, None, slice_get, refl, sym, ap, ◌∙◌, subst, arith, eqb-true, eq-eqb, true≢false, append-nil}
use Rattle.std.specs.Prelude.{if◌then◌else◌}
use Rattle.std.proofs.lemmas.Bool.{cond-true, cond-false, cases_Bool}
use Rattle.std.proofs.lemmas.List.{length-append}
use Rattle.std.proofs.lemmas.Option.{none-some, same_Some, slice_get_within}
use Rattle.sv_world.specs.declared.world.ClientId.{ClientId}
use Rattle.sv_world.specs.declared.world.ObjectId.{ObjectId}
use Rattle.sv_versions.specs.Held.{Held}
use Rattle.sv_pending.specs.Pending.{PendingAction}
use Rattle.sv_wire.specs.declared.message.Request.{Request}
use Rattle.sv_wire.specs.declared.message.Request.TheVariants as requests
use Rattle.sv_wire.specs.declared.message.Reply.{Reply}
use Rattle.sv_wire.specs.declared.message.Reply.TheVariants as replies
use Rattle.sv_client.specs.declared.trace.Event.{Event}
use Rattle.sv_client.specs.declared.trace.Event.TheVariants as events
use Rattle.sv_client.specs.Traces.{joins, makes, current_session, is_session, held_of, done_for, pending_of, submit_of, asked_by_event, asked, got}
use Rattle.sv_client.specs.Taking.{Identity, allows, unanswered}
use Rattle.sv_client.specs.Proper.{in_session}
use Rattle.law_system.specs.Clients.{MayComeNext, AreClientEvents}
use Rattle.law_system.proofs.Asked.{get-append_cases, may-answer, IsBegun, begun-or_not, begun-older}
use Rattle.law_system.proofs.Joined.{session_at, at-join, at-more}
use Rattle.law_system.proofs.Places.{drop-none}

-- A Join that a trace asks is the first request of its session, and its life says which Join of the trace it is.
pub record IsJoinAsked (who : Identity) (t : List Event) (s i : ℕ) (client : ClientId) (life : ℕ) (interest : List ObjectId) : Type 0 where
  pub client_is : client ≡ who.client
  pub interest_is : interest ≡ who.interest
  pub numbered : session_at t life ≡ Some s
  pub among : life ≤ joins t
  pub low : 0 < life
  pub place : i ≡ 0

abbrev join_client : Request → ClientId → ClientId
join_client (requests.Join client life interest) d = client
join_client _ d = d

abbrev join_life : Request → ℕ
join_life (requests.Join client life interest) = life
join_life _ = 0

abbrev join_interest : Request → List ObjectId
join_interest (requests.Join client life interest) = interest
join_interest _ = []

abbrev pub is_join_request : Request → Bool
is_join_request (requests.Join client life interest) = true
is_join_request _ = false

abbrev pub is_leave : Request → Bool
is_leave requests.Leave = true
is_leave _ = false

no-join_submits : (ps : List PendingAction) (j : ℕ) (q : Request) → slice_get (map submit_of ps) j ≡ Some q → (is_join_request q ≡ false) × (is_leave q ≡ false)
no-join_submits [] j q e = absurd (none-some q e)
no-join_submits (p ∷ ps) zero q e = (let f : requests.Submit p.seq p.action ≡ q = same_Some _ q e in (ap is_join_request (sym f), ap is_leave (sym f)))
no-join_submits (p ∷ ps) (suc j) q e = no-join_submits ps j q e

one-if : (b : Bool) (p q : Request) (j : ℕ) → slice_get (if b then p ∷ [] else []) j ≡ Some q → (b ≡ true) × ((j ≡ 0) × (p ≡ q))
one-if true p q zero e = (refl, (refl, same_Some p q e))
one-if true p q (suc j) e = absurd (none-some q e)
one-if false p q j e = absurd (none-some q e)

no-join_done : (b : Bool) (held : List Held) (r : Reply) (j : ℕ) (q : Request) → slice_get (if b then done_for held r else []) j ≡ Some q → (is_join_request q ≡ false) × (is_leave q ≡ false)
no-join_done false held r j q e = absurd (none-some q e)
no-join_done true held (replies.Relay seq commit head items) zero q e = (let f = same_Some _ q e in (ap is_join_request (sym f), ap is_leave (sym f)))
no-join_done true held (replies.Relay seq commit head items) (suc j) q e = absurd (none-some q e)
no-join_done true held (replies.Welcome commit head) j q e = absurd (none-some q e)
no-join_done true held (replies.Dropped seq chain far) j q e = absurd (none-some q e)
no-join_done true held (replies.Denied seq object) j q e = absurd (none-some q e)
no-join_done true held (replies.Seen last commit head []) j q e = absurd (none-some q e)
no-join_done true held (replies.Seen last commit head (item ∷ items)) zero q e = (let f = same_Some _ q e in (ap is_join_request (sym f), ap is_leave (sym f)))
no-join_done true held (replies.Seen last commit head (item ∷ items)) (suc j) q e = absurd (none-some q e)
no-join_done true held (replies.Settled seq pos) j q e = absurd (none-some q e)
no-join_done true held (replies.Noted commit) j q e = absurd (none-some q e)
no-join_done true held replies.Idle j q e = absurd (none-some q e)
no-join_done true held (replies.Refused code detail) j q e = absurd (none-some q e)
no-join_done true held replies.Bye j q e = absurd (none-some q e)

module _ (who : Identity) where
  abbrev here : List Event → ℕ → List Request
  here t s = asked who.client who.interest t s

  joined-more : (t : List Event) (e : Event) (s i : ℕ) (client : ClientId) (life : ℕ) (interest : List ObjectId) → joins t ≤ joins (e ∷ t) →
      IsJoinAsked who t s i client life interest → IsJoinAsked who (e ∷ t) s i client life interest
  joined-more t e s i client life interest l a = record {
    client_is = a.client_is;
    interest_is = a.interest_is;
    numbered = at-more e t life s a.numbered;
    among = (let m : life ≤ joins t = a.among in omega arith);
    low = a.low;
    place = a.place;
  }

  join-now : (t : List Event) (m s j : ℕ) (client : ClientId) (life : ℕ) (interest : List ObjectId) → MayComeNext who t (events.Join m) → AreClientEvents who t →
      slice_get (asked_by_event who.client who.interest t (events.Join m) s) j ≡ Some (requests.Join client life interest) →
      IsJoinAsked who (events.Join m ∷ t) s (length (here t s) + j) client life interest
  join-now t m s j client life interest may p e =
      let now = requests.Join who.client (suc (joins t)) who.interest ∷ map submit_of (pending_of t) in
      elim (cases_Bool (m == s)) [
        | inr f ↦ absurd (none-some (requests.Join client life interest) (sym (ap (λ (l : List Request). slice_get l j) (cond-false (m == s) now [] f)) ∙ e))
        | inl f ↦
            (let is : m ≡ s = eqb-true m s f in
            let there : slice_get now j ≡ Some (requests.Join client life interest) = sym (ap (λ (l : List Request). slice_get l j) (cond-true (m == s) now [] f)) ∙ e in
            elim (begun-or_not who t p s) [
              | inr b ↦ (let older : s < m = begun-older who t m may s b in absurd (omega (arith, older, is)))
              | inl b ↦ at j there is (ap length b.0)
            ])
      ]
    where
      at : (j : ℕ) → slice_get (requests.Join who.client (suc (joins t)) who.interest ∷ map submit_of (pending_of t)) j ≡ Some (requests.Join client life interest) → m ≡ s → length (here t s) ≡ 0 →
          IsJoinAsked who (events.Join m ∷ t) s (length (here t s) + j) client life interest
      at zero there is none =
          let f : requests.Join who.client (suc (joins t)) who.interest ≡ requests.Join client life interest = same_Some _ _ there in
          let l : suc (joins t) ≡ life = ap join_life f in
          record {
            client_is = sym (ap (λ (q : Request). join_client q who.client) f);
            interest_is = sym (ap join_interest f);
            numbered = ap (session_at (events.Join m ∷ t)) (sym l) ∙ at-join t m ∙ ap Some is;
            among = omega arith;
            low = omega arith;
            place = omega arith;
          }
      at (suc i) there is none = absurd (true≢false ((no-join_submits (pending_of t) i (requests.Join client life interest) there).0))

  no-join_if : (b : Bool) (p : Request) (j : ℕ) (client : ClientId) (life : ℕ) (interest : List ObjectId) → is_join_request p ≡ false → slice_get (if b then p ∷ [] else []) j ≡ Some (requests.Join client life interest) → ⊥
  no-join_if b p j client life interest f e = true≢false (sym (ap is_join_request (one-if b p (requests.Join client life interest) j e).1.1) ∙ f)

  pub join-asked : (t : List Event) → AreClientEvents who t → (s i : ℕ) (client : ClientId) (life : ℕ) (interest : List ObjectId) →
      slice_get (asked who.client who.interest t s) i ≡ Some (requests.Join client life interest) → IsJoinAsked who t s i client life interest
  join-asked [] p s i client life interest e = absurd (none-some (requests.Join client life interest) e)
  join-asked (ev ∷ t) p s i client life interest e =
      let before = join-asked t p.1 s i client life interest in
      elim (get-append_cases (here t s) (asked_by_event who.client who.interest t ev s) i (requests.Join client life interest) e) [
        | inl f ↦ joined-more t ev s i client life interest (grows ev) (before f)
        | inr f ↦ subst (λ (n : ℕ). IsJoinAsked who (ev ∷ t) s n client life interest) (sym f.1.0) (now ev p.0 f.0 f.1.1)
      ]
    where
      grows : (ev : Event) → joins t ≤ joins (ev ∷ t)
      grows (events.Join m) = omega arith
      grows (events.Got m r) = omega arith
      grows (events.Make action) = omega arith
      grows events.Poll = omega arith
      grows (events.Observe objects wait) = omega arith
      grows events.Leave = omega arith
      grows events.Cut = omega arith
      grows events.Quit = omega arith
      grows (events.Show objects) = omega arith

      now : (ev : Event) → MayComeNext who t ev → (j : ℕ) → slice_get (asked_by_event who.client who.interest t ev s) j ≡ Some (requests.Join client life interest) →
          IsJoinAsked who (ev ∷ t) s (length (here t s) + j) client life interest
      now (events.Join m) may j g = join-now t m s j client life interest may p.1 g
      now (events.Got m r) may j g = absurd (true≢false (no-join_done (m == s) (held_of t) r j (requests.Join client life interest) g).0)
      now (events.Make action) may j g = absurd (no-join_if (is_session (current_session t) s) (requests.Submit (suc (makes t)) action) j client life interest refl g)
      now events.Poll may j g = absurd (no-join_if (is_session (current_session t) s) requests.Poll j client life interest refl g)
      now (events.Observe objects wait) may j g = absurd (no-join_if (is_session (current_session t) s) (requests.Observe objects wait) j client life interest refl g)
      now events.Leave may j g = absurd (no-join_if (is_session (current_session t) s) requests.Leave j client life interest refl g)
      now events.Cut may j g = absurd (none-some (requests.Join client life interest) g)
      now events.Quit may j g = absurd (none-some (requests.Join client life interest) g)
      now (events.Show objects) may j g = absurd (none-some (requests.Join client life interest) g)

  -- ---- Leaves

  -- A Leave is the last request of its session, all before it was answered, and the client is in that session no more.
  pub record IsLeaveLast (t : List Event) (s i : ℕ) : Type 0 where
    pub last : length (asked who.client who.interest t s) ≡ suc i
    pub answered : i ≤ length (got t s)
    pub out : current_session t ≡ Some s → in_session t ≡ false
    pub begun : IsBegun who t s

  begun-of : (t : List Event) → AreClientEvents who t → (s i : ℕ) (q : Request) → slice_get (here t s) i ≡ Some q → IsBegun who t s
  begun-of t p s i q e =
      elim (begun-or_not who t p s) [ inr b ↦ b | inl b ↦ absurd (none-some q (sym (ap (λ (qs : List Request). slice_get qs i) b.0) ∙ e)) ]

  leave-now : (t : List Event) (s : ℕ) → AreClientEvents who (events.Leave ∷ t) → current_session t ≡ Some s → (j : ℕ) → j ≡ 0 →
      slice_get (here (events.Leave ∷ t) s) (length (here t s) + j) ≡ Some requests.Leave → IsLeaveLast (events.Leave ∷ t) s (length (here t s) + j)
  leave-now t s p c j z there =
      let mine : is_session (current_session t) s ≡ true = ap (λ (o : Option ℕ). is_session o s) c ∙ eq-eqb s s refl in
      let one : length (here (events.Leave ∷ t) s) ≡ length (here t s) + 1 =
      ap (λ (qs : List Request). length (here t s ++ qs)) (cond-true (is_session (current_session t) s) (requests.Leave ∷ []) [] mine) ∙ length-append (here t s) (requests.Leave ∷ []) in
      let none : drop (length (got t s)) (here t s) ≡ [] = subst (λ (o : Option ℕ). unanswered who t o ≡ []) c p.0.settled in
      let most : length (here t s) ≤ length (got t s) = drop-none (length (got t s)) (here t s) none in
      record {
        last = omega arith;
        answered = omega arith;
        out = λ x. refl;
        begun = begun-of (events.Leave ∷ t) p s (length (here t s) + j) requests.Leave there;
      }

  -- one more event that asks nothing in the session
  leave-still : (t : List Event) (e : Event) (s i : ℕ) → AreClientEvents who (e ∷ t) → asked_by_event who.client who.interest t e s ≡ [] → length (got t s) ≤ length (got (e ∷ t) s) →
      (current_session (e ∷ t) ≡ Some s → in_session (e ∷ t) ≡ false) → slice_get (here (e ∷ t) s) i ≡ Some requests.Leave → IsLeaveLast t s i → IsLeaveLast (e ∷ t) s i
  leave-still t e s i p none more out there b = record {
    last = ap length (ap (λ (qs : List Request). here t s ++ qs) none ∙ append-nil (here t s)) ∙ b.last;
    answered = (let a : i ≤ length (got t s) = b.answered in omega arith);
    out = out;
    begun = begun-of (e ∷ t) p s i requests.Leave there;
  }

  bye-only : (r : Reply) → allows requests.Leave r ≡ true → (held : List Held) → done_for held r ≡ []
  bye-only replies.Bye k held = refl
  bye-only (replies.Relay seq commit head items) k held = absurd (true≢false (sym k))
  bye-only (replies.Welcome commit head) k held = refl
  bye-only (replies.Dropped seq chain far) k held = refl
  bye-only (replies.Denied seq object) k held = refl
  bye-only (replies.Seen last commit head items) k held = absurd (true≢false (sym k))
  bye-only (replies.Settled seq pos) k held = refl
  bye-only (replies.Noted commit) k held = refl
  bye-only replies.Idle k held = refl
  bye-only (replies.Refused code detail) k held = refl

  -- After a Leave a reply asks nothing, since it answers the Leave.
  got-asks_none : (t : List Event) (m : ℕ) (r : Reply) (s i : ℕ) → AreClientEvents who (events.Got m r ∷ t) → slice_get (here t s) i ≡ Some requests.Leave → IsLeaveLast t s i →
      asked_by_event who.client who.interest t (events.Got m r) s ≡ []
  got-asks_none t m r s i p there b =
      elim (cases_Bool (m == s)) [
        | inr f ↦ cond-false (m == s) _ _ f
        | inl f ↦
            (let a = may-answer who t m r p.0 in
            let is : m ≡ s = eqb-true m s f in
            let asks : slice_get (here t s) (length (got t s)) ≡ Some a.request = subst (λ (n : ℕ). slice_get (here t n) (length (got t n)) ≡ Some a.request) is a.asked_there in
            let within : length (got t s) < length (here t s) = slice_get_within (here t s) (length (got t s)) a.request asks in
            let last : length (here t s) ≡ suc i = b.last in
            let answered : i ≤ length (got t s) = b.answered in
            let same_place : length (got t s) ≡ i = omega arith in
            let q : a.request ≡ requests.Leave = same_Some a.request requests.Leave (sym asks ∙ ap (slice_get (here t s)) same_place ∙ there) in
            cond-true (m == s) _ _ f ∙ bye-only r (subst (λ (x : Request). allows x r ≡ true) q a.kind) (held_of t))
      ]

  got-longer : (t : List Event) (m : ℕ) (r : Reply) (s : ℕ) → length (got t s) ≤ length (got (events.Got m r ∷ t) s)
  got-longer t m r s =
      elim (cases_Bool (m == s)) [
        | inr f ↦ (let e : length (got (events.Got m r ∷ t) s) ≡ length (got t s) = ap length (cond-false (m == s) (got t s ++ r ∷ []) (got t s) f) in omega arith)
        | inl f ↦ (let e : length (got (events.Got m r ∷ t) s) ≡ length (got t s) + 1 = ap length (cond-true (m == s) (got t s ++ r ∷ []) (got t s) f) ∙ length-append (got t s) (r ∷ []) in omega arith)
      ]

  -- asks nothing where the client is out of the session
  out-asks_none : (t : List Event) (s : ℕ) (q : Request) → in_session t ≡ true → (current_session t ≡ Some s → in_session t ≡ false) → (if is_session (current_session t) s then q ∷ [] else []) ≡ []
  out-asks_none t s q joined out = go (current_session t) out
    where
      go : (o : Option ℕ) → (o ≡ Some s → in_session t ≡ false) → (if is_session o s then q ∷ [] else []) ≡ []
      go None f = refl
      go (Some n) f = elim (cases_Bool (n == s)) [ inr e ↦ cond-false (n == s) (q ∷ []) [] e | inl e ↦ absurd (true≢false (sym joined ∙ f (ap Some (eqb-true n s e)))) ]

  leave-later : (t : List Event) (ev : Event) (s i : ℕ) → AreClientEvents who (ev ∷ t) → slice_get (here t s) i ≡ Some requests.Leave → slice_get (here (ev ∷ t) s) i ≡ Some requests.Leave → IsLeaveLast t s i → IsLeaveLast (ev ∷ t) s i
  leave-later t (events.Got m r) s i p there now b = leave-still t (events.Got m r) s i p (got-asks_none t m r s i p there b) (got-longer t m r s) b.out now b
  leave-later t (events.Make action) s i p there now b = leave-still t (events.Make action) s i p (out-asks_none t s _ p.0.joined b.out) (omega arith) b.out now b
  leave-later t events.Poll s i p there now b = leave-still t events.Poll s i p (out-asks_none t s _ p.0.joined b.out) (omega arith) b.out now b
  leave-later t (events.Observe objects wait) s i p there now b = leave-still t (events.Observe objects wait) s i p (out-asks_none t s _ p.0.joined b.out) (omega arith) b.out now b
  leave-later t events.Leave s i p there now b = leave-still t events.Leave s i p (out-asks_none t s _ p.0.joined b.out) (omega arith) (λ x. refl) now b
  leave-later t events.Cut s i p there now b = leave-still t events.Cut s i p refl (omega arith) b.out now b
  leave-later t events.Quit s i p there now b = leave-still t events.Quit s i p refl (omega arith) b.out now b
  leave-later t (events.Show objects) s i p there now b = leave-still t (events.Show objects) s i p refl (omega arith) b.out now b
  leave-later t (events.Join m) s i p there now b =
      let older : s < m = begun-older who t m p.0 s b.begun in
      let other : m ≡ s → ⊥ = λ (e : m ≡ s). absurd (omega arith) in
      leave-still t (events.Join m) s i p
      (elim (cases_Bool (m == s)) [ inr f ↦ cond-false (m == s) _ _ f | inl f ↦ absurd (other (eqb-true m s f)) ])
      (omega arith) (λ x. absurd (other (same_Some m s x))) now b

  pub leave-last : (t : List Event) → AreClientEvents who t → (s i : ℕ) → slice_get (asked who.client who.interest t s) i ≡ Some requests.Leave → IsLeaveLast t s i
  leave-last [] p s i e = absurd (none-some requests.Leave e)
  leave-last (ev ∷ t) p s i e =
      let before = leave-last t p.1 s i in
      elim (get-append_cases (here t s) (asked_by_event who.client who.interest t ev s) i requests.Leave e) [
        | inl f ↦ leave-later t ev s i p f e (before f)
        | inr f ↦ subst (IsLeaveLast (ev ∷ t) s) (sym f.1.0) (now ev p f.0 f.1.1 (subst (λ (n : ℕ). slice_get (here (ev ∷ t) s) n ≡ Some requests.Leave) f.1.0 e))
      ]
    where
      no-leave_if : (b : Bool) (q : Request) (j : ℕ) → is_leave q ≡ false → slice_get (if b then q ∷ [] else []) j ≡ Some requests.Leave → ⊥
      no-leave_if b q j f e = true≢false (sym (ap is_leave (one-if b q requests.Leave j e).1.1) ∙ f)

      no-leave_join : (b : Bool) (q : Request) (ps : List PendingAction) (j : ℕ) → is_leave q ≡ false → slice_get (if b then q ∷ map submit_of ps else []) j ≡ Some requests.Leave → ⊥
      no-leave_join true q ps zero f e = true≢false (sym (ap is_leave (same_Some q requests.Leave e)) ∙ f)
      no-leave_join true q ps (suc j) f e = true≢false (no-join_submits ps j requests.Leave e).1
      no-leave_join false q ps j f e = none-some requests.Leave e

      session-is : (o : Option ℕ) (s : ℕ) → is_session o s ≡ true → o ≡ Some s
      session-is None s e = absurd (true≢false (sym e))
      session-is (Some n) s e = ap Some (eqb-true n s e)

      now : (ev : Event) → AreClientEvents who (ev ∷ t) → (j : ℕ) → slice_get (asked_by_event who.client who.interest t ev s) j ≡ Some requests.Leave →
          slice_get (here (ev ∷ t) s) (length (here t s) + j) ≡ Some requests.Leave → IsLeaveLast (ev ∷ t) s (length (here t s) + j)
      now events.Leave q j g there =
          let o = one-if (is_session (current_session t) s) requests.Leave requests.Leave j g in
          leave-now t s q (session-is (current_session t) s o.0) j o.1.0 there
      now (events.Join m) q j g there = absurd (no-leave_join (m == s) _ (pending_of t) j refl g)
      now (events.Got m r) q j g there = absurd (true≢false (no-join_done (m == s) (held_of t) r j requests.Leave g).1)
      now (events.Make action) q j g there = absurd (no-leave_if (is_session (current_session t) s) _ j refl g)
      now events.Poll q j g there = absurd (no-leave_if (is_session (current_session t) s) _ j refl g)
      now (events.Observe objects wait) q j g there = absurd (no-leave_if (is_session (current_session t) s) _ j refl g)
      now events.Cut q j g there = absurd (none-some requests.Leave g)
      now events.Quit q j g there = absurd (none-some requests.Leave g)
      now (events.Show objects) q j g there = absurd (none-some requests.Leave g)
