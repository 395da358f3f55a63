-- Requests of a session by the time of their actions: what was answered is settled; what older sessions asked was made before the last Join; and a
-- Submit after a Poll is of an action made after it.
use Rattle.std.proofs.Common.{◌≡◌, ℕ, zero, suc, ◌+◌, ◌<◌, ◌≤◌, Bool, true, false, ◌==◌, inl, inr, List, [], ◌∷◌, ◌++◌, map, length, Option, Some, None, slice_get, refl, sym, ap, ◌∙◌, subst, arith, eqb-true, true≢false}
use Rattle.std.specs.Prelude.{if◌then◌else◌}
use Rattle.std.proofs.lemmas.Bool.{cond-true, cond-false, cases_Bool, cases_eq, ne_eqb}
use Rattle.std.proofs.lemmas.List.{length-append}
use Rattle.std.proofs.lemmas.Option.{none-some, same_Some, slice_get_within}
use Rattle.sv_world.specs.declared.action.Action.{Action}
use Rattle.sv_pending.specs.Pending.{PendingAction}
use Rattle.sv_wire.specs.declared.message.Request.{Request}
use Rattle.sv_wire.specs.declared.message.Request.TheVariants as requests
use Rattle.sv_wire.specs.declared.message.Reply.{Reply}
use Rattle.sv_wire.specs.declared.message.Reply.TheVariants as replies
use Rattle.sv_versions.specs.Held.{Held}
use Rattle.sv_client.specs.declared.trace.Event.{Event}
use Rattle.sv_client.specs.declared.trace.Event.TheVariants as events
use Rattle.sv_client.specs.Traces.{joins, makes, current_session, is_session, held_of, with_reply, done_for, pending_of, submit_of, asked_by_event, asked, got}
use Rattle.sv_client.specs.Taking.{Identity}
use Rattle.law_system.specs.Clients.{AreClientEvents}
use Rattle.law_system.proofs.Asked.{get-append_cases, may-answer, begun-or_not, begun-older}
use Rattle.law_system.proofs.Pendings.{Numbered, keys, without_first, settles, keys-with, settled, counted, got-fewer, keys-made}
use Rattle.law_system.proofs.Aligned.{is_submit, settles-submit}
use Rattle.law_system.proofs.Window.{next-front, submit-most, no-submit}

get-left : {X : Type 0} (xs ys : List X) (i : ℕ) (x : X) → i < length xs → slice_get (xs ++ ys) i ≡ Some x → slice_get xs i ≡ Some x
get-left xs ys i x l e =
    elim (get-append_cases xs ys i x e) [ inl f ↦ f | inr f ↦ (let p : i ≡ length xs + f.0 = f.1.0 in absurd (omega arith)) ]

-- A request that may be sent positions of others: a Poll or an Observe.
abbrev pub is_look : Request → Bool
is_look requests.Poll = true
is_look (requests.Observe objects wait) = true
is_look _ = false

module _ (who : Identity) where
  abbrev here : List Event → ℕ → List Request
  here t s = asked who.client who.interest t s

  settled-got : (m : ℕ) (r : Reply) (t : List Event) → AreClientEvents who t → (settled t ≤ settled (events.Got m r ∷ t)) × (settles r ≡ true → 0 < length (keys (pending_of t)) → suc (settled t) ≤ settled (events.Got m r ∷ t))
  settled-got m r t p =
      let ks = keys (pending_of t) in
      let with = keys-with (held_of t) (with_reply (held_of t) r) r (pending_of t) in
      let within : length ks ≤ makes t = (counted who t p).within in
      elim (cases_Bool (settles r)) [
        | inr f ↦ (let e : length (keys (pending_of (events.Got m r ∷ t))) ≡ length ks = ap length (with ∙ cond-false (settles r) (without_first ks) ks f) in (omega arith, λ x l. absurd (true≢false (sym x ∙ f))))
        | inl f ↦ (let e : length (keys (pending_of (events.Got m r ∷ t))) ≡ length (without_first ks) = ap length (with ∙ cond-true (settles r) (without_first ks) ks f) in
            let fewer : length (without_first ks) ≤ length ks = fewer' ks in
            (omega arith, λ x l. (let less : suc (length (without_first ks)) ≤ length ks = one_less ks l in omega arith)))
      ]
    where
      fewer' : (ks : List Numbered) → length (without_first ks) ≤ length ks
      fewer' [] = omega arith
      fewer' (k ∷ ks) = omega arith

      one_less : (ks : List Numbered) → 0 < length ks → suc (length (without_first ks)) ≤ length ks
      one_less [] l = absurd (omega arith)
      one_less (k ∷ ks) l = omega arith

  settled-made : (action : Action) (t : List Event) → AreClientEvents who t → settled t ≤ settled (events.Make action ∷ t)
  settled-made action t p =
      let within : length (keys (pending_of t)) ≤ makes t = (counted who t p).within in
      let more : length (keys (pending_of (events.Make action ∷ t))) ≡ length (keys (pending_of t)) + 1 = ap length (keys-made who action t) ∙ length-append (keys (pending_of t)) ((suc (makes t), action) ∷ []) in
      omega arith

  -- A Submit whose reply was got is of a settled action.
  pub answered-settled : (t : List Event) → AreClientEvents who t → (s i n : ℕ) (a : Action) → i < length (got t s) → slice_get (asked who.client who.interest t s) i ≡ Some (requests.Submit n a) → n ≤ settled t
  answered-settled [] p s i n a l e = absurd (omega arith)
  answered-settled (events.Got m r ∷ t) p s i n a l e =
      let before = answered-settled t p.1 s i n a in
      let grows = settled-got m r t p.1 in
      let fewer : length (got t s) ≤ length (here t s) = got-fewer who t p.1 s in
      let old : i < length (got t s) → n ≤ settled (events.Got m r ∷ t) = λ k. (let q : n ≤ settled t = before k (get-left (here t s) _ i (requests.Submit n a) (omega arith) e) in let w : settled t ≤ settled (events.Got m r ∷ t) = grows.0 in omega arith) in
      elim (cases_Bool (m == s)) [
        | inr f ↦ old (let c : length (got (events.Got m r ∷ t) s) ≡ length (got t s) = ap length (cond-false (m == s) (got t s ++ r ∷ []) (got t s) f) in omega arith)
        | inl f ↦
            (let c : length (got (events.Got m r ∷ t) s) ≡ length (got t s) + 1 = ap length (cond-true (m == s) (got t s ++ r ∷ []) (got t s) f) ∙ length-append (got t s) (r ∷ []) in
            elim (cases_eq i (length (got t s))) [
              | inr d ↦ old (omega arith)
              | inl d ↦
                  (let ans = may-answer who t m r p.0 in
                  let is : m ≡ s = eqb-true m s f in
                  let asks : slice_get (here t s) (length (got t s)) ≡ Some ans.request = subst (λ (k : ℕ). slice_get (here t k) (length (got t k)) ≡ Some ans.request) is ans.asked_there in
                  let within : length (got t s) < length (here t s) = slice_get_within (here t s) (length (got t s)) ans.request asks in
                  let now : slice_get (here t s) (length (got t s)) ≡ Some (requests.Submit n a) = ap (slice_get (here t s)) (sym d) ∙ get-left (here t s) _ i (requests.Submit n a) (omega arith) e in
                  let request : ans.request ≡ requests.Submit n a = same_Some ans.request (requests.Submit n a) (sym asks ∙ now) in
                  let front = next-front who t p.1 s n a (ans.current ∙ ap Some is) now in
                  let sets : settles r ≡ true = settles-submit who t ans.request r (counted who t p.1) ans.kind ans.good ∙ ap is_submit request in
                  let some : 0 < length (keys (pending_of t)) = (let z : length (keys (pending_of t)) ≡ suc (length front.0) = ap length front.1.0 in omega arith) in
                  let more : suc (settled t) ≤ settled (events.Got m r ∷ t) = grows.1 sets some in
                  let number : n ≡ suc (settled t) = front.1.1 in
                  omega arith)
            ])
      ]
  answered-settled (events.Join m ∷ t) p s i n a l e =
      (let fewer : length (got t s) ≤ length (here t s) = got-fewer who t p.1 s in answered-settled t p.1 s i n a l (get-left (here t s) _ i (requests.Submit n a) (omega arith) e))
  answered-settled (events.Make action ∷ t) p s i n a l e =
      (let fewer : length (got t s) ≤ length (here t s) = got-fewer who t p.1 s in
      let q : n ≤ settled t = answered-settled t p.1 s i n a l (get-left (here t s) _ i (requests.Submit n a) (omega arith) e) in
      let w : settled t ≤ settled (events.Make action ∷ t) = settled-made action t p.1 in omega arith)
  answered-settled (events.Poll ∷ t) p s i n a l e =
      (let fewer : length (got t s) ≤ length (here t s) = got-fewer who t p.1 s in answered-settled t p.1 s i n a l (get-left (here t s) _ i (requests.Submit n a) (omega arith) e))
  answered-settled (events.Observe objects wait ∷ t) p s i n a l e =
      (let fewer : length (got t s) ≤ length (here t s) = got-fewer who t p.1 s in answered-settled t p.1 s i n a l (get-left (here t s) _ i (requests.Submit n a) (omega arith) e))
  answered-settled (events.Leave ∷ t) p s i n a l e =
      (let fewer : length (got t s) ≤ length (here t s) = got-fewer who t p.1 s in answered-settled t p.1 s i n a l (get-left (here t s) _ i (requests.Submit n a) (omega arith) e))
  answered-settled (events.Cut ∷ t) p s i n a l e =
      (let fewer : length (got t s) ≤ length (here t s) = got-fewer who t p.1 s in answered-settled t p.1 s i n a l (get-left (here t s) _ i (requests.Submit n a) (omega arith) e))
  answered-settled (events.Quit ∷ t) p s i n a l e =
      (let fewer : length (got t s) ≤ length (here t s) = got-fewer who t p.1 s in answered-settled t p.1 s i n a l (get-left (here t s) _ i (requests.Submit n a) (omega arith) e))
  answered-settled (events.Show objects ∷ t) p s i n a l e =
      (let fewer : length (got t s) ≤ length (here t s) = got-fewer who t p.1 s in answered-settled t p.1 s i n a l (get-left (here t s) _ i (requests.Submit n a) (omega arith) e))

  -- ---- Before and after the last Join

  -- How many actions were made before the last Join.
  abbrev pub joined_makes : List Event → ℕ
  joined_makes [] = 0
  joined_makes (events.Join m ∷ t) = makes t
  joined_makes (_ ∷ t) = joined_makes t

  joined-most : (t : List Event) → joined_makes t ≤ makes t
  joined-most [] = omega arith
  joined-most (events.Join m ∷ t) = omega arith
  joined-most (events.Make action ∷ t) = (let l : joined_makes t ≤ makes t = joined-most t in omega arith)
  joined-most (events.Got m r ∷ t) = joined-most t
  joined-most (events.Poll ∷ t) = joined-most t
  joined-most (events.Observe objects wait ∷ t) = joined-most t
  joined-most (events.Leave ∷ t) = joined-most t
  joined-most (events.Cut ∷ t) = joined-most t
  joined-most (events.Quit ∷ t) = joined-most t
  joined-most (events.Show objects ∷ t) = joined-most t

  other-none : (o : Option ℕ) (s n : ℕ) (q : Request) → o ≡ Some s → (s ≡ n → ⊥) → (if is_session o n then q ∷ [] else []) ≡ []
  other-none None s n q c f = refl
  other-none (Some m) s n q c f = cond-false (m == n) (q ∷ []) [] (ne_eqb m n (λ x. f (sym (same_Some m s c) ∙ x)))

  asked-as_before : (t : List Event) (ev : Event) (n j k : ℕ) (a : Action) → asked_by_event who.client who.interest t ev n ≡ [] →
      slice_get (here (ev ∷ t) n) j ≡ Some (requests.Submit k a) → slice_get (here t n) j ≡ Some (requests.Submit k a)
  asked-as_before t ev n j k a none e =
      elim (get-append_cases (here t n) (asked_by_event who.client who.interest t ev n) j (requests.Submit k a) e) [
        | inl f ↦ f
        | inr f ↦ absurd (none-some (requests.Submit k a) (sym (ap (λ (qs : List Request). slice_get qs f.0) none) ∙ f.1.1))
      ]

  -- A Submit of an older session is of an action made before the last Join.
  pub older-made : (t : List Event) → AreClientEvents who t → (s n j k : ℕ) (a : Action) → current_session t ≡ Some s → (s ≡ n → ⊥) →
      slice_get (asked who.client who.interest t n) j ≡ Some (requests.Submit k a) → k ≤ joined_makes t
  older-made [] p s n j k a c f e = absurd (none-some s c)
  older-made (events.Join m ∷ t) p s n j k a c f e =
      submit-most who t p.1 n j k a (asked-as_before t (events.Join m) n j k a (cond-false (m == n) _ _ (ne_eqb m n (λ x. f (sym (same_Some m s c) ∙ x)))) e)
  older-made (events.Got m r ∷ t) p s n j k a c f e =
      older-made t p.1 s n j k a c f (asked-as_before t (events.Got m r) n j k a (cond-false (m == n) _ _ (ne_eqb m n (λ x. f (sym (same_Some m s (sym p.0.current ∙ c)) ∙ x)))) e)
  older-made (events.Make action ∷ t) p s n j k a c f e = older-made t p.1 s n j k a c f (asked-as_before t (events.Make action) n j k a (other-none (current_session t) s n _ c f) e)
  older-made (events.Poll ∷ t) p s n j k a c f e = older-made t p.1 s n j k a c f (asked-as_before t events.Poll n j k a (other-none (current_session t) s n _ c f) e)
  older-made (events.Observe objects wait ∷ t) p s n j k a c f e = older-made t p.1 s n j k a c f (asked-as_before t (events.Observe objects wait) n j k a (other-none (current_session t) s n _ c f) e)
  older-made (events.Leave ∷ t) p s n j k a c f e = older-made t p.1 s n j k a c f (asked-as_before t events.Leave n j k a (other-none (current_session t) s n _ c f) e)
  older-made (events.Cut ∷ t) p s n j k a c f e = older-made t p.1 s n j k a c f (asked-as_before t events.Cut n j k a refl e)
  older-made (events.Quit ∷ t) p s n j k a c f e = older-made t p.1 s n j k a c f (asked-as_before t events.Quit n j k a refl e)
  older-made (events.Show objects ∷ t) p s n j k a c f e = older-made t p.1 s n j k a c f (asked-as_before t (events.Show objects) n j k a refl e)

  pub no-submit_done : (b : Bool) (held : List Held) (r : Reply) (j k : ℕ) (a : Action) → slice_get (if b then done_for held r else []) j ≡ Some (requests.Submit k a) → ⊥
  no-submit_done false held r j k a e = none-some (requests.Submit k a) e
  no-submit_done true held (replies.Relay seq commit head items) zero k a e = true≢false (sym (ap is_submit (same_Some _ (requests.Submit k a) e)))
  no-submit_done true held (replies.Relay seq commit head items) (suc j) k a e = none-some (requests.Submit k a) e
  no-submit_done true held (replies.Welcome commit head) j k a e = none-some (requests.Submit k a) e
  no-submit_done true held (replies.Dropped seq chain far) j k a e = none-some (requests.Submit k a) e
  no-submit_done true held (replies.Denied seq object) j k a e = none-some (requests.Submit k a) e
  no-submit_done true held (replies.Seen last commit head []) j k a e = none-some (requests.Submit k a) e
  no-submit_done true held (replies.Seen last commit head (item ∷ items)) zero k a e = true≢false (sym (ap is_submit (same_Some _ (requests.Submit k a) e)))
  no-submit_done true held (replies.Seen last commit head (item ∷ items)) (suc j) k a e = none-some (requests.Submit k a) e
  no-submit_done true held (replies.Settled seq pos) j k a e = none-some (requests.Submit k a) e
  no-submit_done true held (replies.Noted commit) j k a e = none-some (requests.Submit k a) e
  no-submit_done true held replies.Idle j k a e = none-some (requests.Submit k a) e
  no-submit_done true held (replies.Refused code detail) j k a e = none-some (requests.Submit k a) e
  no-submit_done true held replies.Bye j k a e = none-some (requests.Submit k a) e

  made-now : (b : Bool) (m : ℕ) (action : Action) (j k : ℕ) (a : Action) → slice_get (if b then requests.Submit m action ∷ [] else []) j ≡ Some (requests.Submit k a) → m ≡ k
  made-now true m action zero k a e = ap number (same_Some (requests.Submit m action) (requests.Submit k a) e)
    where
      number : Request → ℕ
      number (requests.Submit n b) = n
      number _ = 0
  made-now true m action (suc j) k a e = absurd (none-some (requests.Submit k a) e)
  made-now false m action j k a e = absurd (none-some (requests.Submit k a) e)

  no-look_submits : (ps : List PendingAction) (j : ℕ) (w : Request) → is_look w ≡ true → slice_get (map submit_of ps) j ≡ Some w → ⊥
  no-look_submits [] j w look e = none-some w e
  no-look_submits (p ∷ ps) zero w look e = true≢false (sym look ∙ sym (ap is_look (same_Some (requests.Submit p.seq p.action) w e)))
  no-look_submits (p ∷ ps) (suc j) w look e = no-look_submits ps j w look e

  no-look_join : (b : Bool) (m : ℕ) (ps : List PendingAction) (j : ℕ) (w : Request) → is_look w ≡ true → slice_get (if b then requests.Join who.client m who.interest ∷ map submit_of ps else []) j ≡ Some w → ⊥
  no-look_join true m ps zero w look e = true≢false (sym look ∙ sym (ap is_look (same_Some (requests.Join who.client m who.interest) w e)))
  no-look_join true m ps (suc j) w look e = no-look_submits ps j w look e
  no-look_join false m ps j w look e = none-some w e

  earlier-asked : (t : List Event) (ev : Event) (s i n : ℕ) (q p : Request) → i < n → slice_get (here t s) n ≡ Some p → slice_get (here (ev ∷ t) s) i ≡ Some q → slice_get (here t s) i ≡ Some q
  earlier-asked t ev s i n q p l e f = (let w : n < length (here t s) = slice_get_within (here t s) n p e in get-left (here t s) (asked_by_event who.client who.interest t ev s) i q (omega arith) f)

  -- In the current session a Submit that is asked after a Poll or an Observe is of an action made after the Join.
  pub after-look : (t : List Event) → AreClientEvents who t → (s i n k : ℕ) (a : Action) (w : Request) → is_look w ≡ true → current_session t ≡ Some s → i < n →
      slice_get (asked who.client who.interest t s) i ≡ Some w → slice_get (asked who.client who.interest t s) n ≡ Some (requests.Submit k a) → joined_makes t < k
  after-look [] p s i n k a w look c l e f = absurd (none-some s c)
  after-look (ev ∷ t) p s i n k a w look c l e f =
      elim (get-append_cases (here t s) (asked_by_event who.client who.interest t ev s) n (requests.Submit k a) f) [
        | inl g ↦ left ev p c (earlier-asked t ev s i n w (requests.Submit k a) l g e) g (after-look t p.1 s i n k a w look)
        | inr g ↦ now ev p c g.0 g.1.0 g.1.1 e
      ]
    where
      left : (ev : Event) → AreClientEvents who (ev ∷ t) → current_session (ev ∷ t) ≡ Some s → slice_get (here t s) i ≡ Some w → slice_get (here t s) n ≡ Some (requests.Submit k a) →
          (current_session t ≡ Some s → i < n → slice_get (here t s) i ≡ Some w → slice_get (here t s) n ≡ Some (requests.Submit k a) → joined_makes t < k) → joined_makes (ev ∷ t) < k
      left (events.Join m) q c x y before =
          elim (begun-or_not who t q.1 s) [
            | inl z ↦ absurd (none-some w (sym (ap (λ (qs : List Request). slice_get qs i) z.0) ∙ x))
            | inr z ↦ (let older : s < m = begun-older who t m q.0 s z in let is : m ≡ s = same_Some m s c in absurd (omega (arith, older, is)))
          ]
      left (events.Got m r) q c x y before = before c l x y
      left (events.Make action) q c x y before = before c l x y
      left events.Poll q c x y before = before c l x y
      left (events.Observe objects wait) q c x y before = before c l x y
      left events.Leave q c x y before = before c l x y
      left events.Cut q c x y before = before c l x y
      left events.Quit q c x y before = before c l x y
      left (events.Show objects) q c x y before = before c l x y

      now : (ev : Event) → AreClientEvents who (ev ∷ t) → current_session (ev ∷ t) ≡ Some s → (j : ℕ) → n ≡ length (here t s) + j →
          slice_get (asked_by_event who.client who.interest t ev s) j ≡ Some (requests.Submit k a) → slice_get (here (ev ∷ t) s) i ≡ Some w → joined_makes (ev ∷ t) < k
      now (events.Make action) q c j z g x =
          (let m : suc (makes t) ≡ k = made-now (is_session (current_session t) s) (suc (makes t)) action j k a g in let w' : joined_makes t ≤ makes t = joined-most t in omega arith)
      now (events.Join m) q c j z g x =
          elim (begun-or_not who t q.1 s) [
            | inl y ↦ absurd (no-look_join (m == s) (suc (joins t)) (pending_of t) i w look (sym (ap (λ (qs : List Request). slice_get (qs ++ asked_by_event who.client who.interest t (events.Join m) s) i) y.0) ∙ x))
            | inr y ↦ (let older : s < m = begun-older who t m q.0 s y in let is : m ≡ s = same_Some m s c in absurd (omega (arith, older, is)))
          ]
      now (events.Got m r) q c j z g x = absurd (no-submit_done (m == s) (held_of t) r j k a g)
      now events.Poll q c j z g x = absurd (no-submit (is_session (current_session t) s) requests.Poll j k a refl g)
      now (events.Observe objects wait) q c j z g x = absurd (no-submit (is_session (current_session t) s) (requests.Observe objects wait) j k a refl g)
      now events.Leave q c j z g x = absurd (no-submit (is_session (current_session t) s) requests.Leave j k a refl g)
      now events.Cut q c j z g x = absurd (none-some (requests.Submit k a) g)
      now events.Quit q c j z g x = absurd (none-some (requests.Submit k a) g)
      now (events.Show objects) q c j z g x = absurd (none-some (requests.Submit k a) g)
