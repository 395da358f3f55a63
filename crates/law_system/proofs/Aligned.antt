-- The outstanding Submits of the current session are the pending actions, in order; what was answered before is settled.
use Rattle.std.proofs.Common.{◌≡◌, ℕ, zero, suc, ◌+◌, ◌<◌, ◌≤◌, Bool, true, false, not, ◌==◌, inl, inr, List, [], ◌∷◌, ◌++◌, map, drop, length, Option, Some, slice_get, refl, sym, ap, ap₂, ◌∙◌, subst, arith, eqb-true, eq-eqb, true≢false, append-nil, add-one}
use Rattle.std.specs.Prelude.{if◌then◌else◌}
use Rattle.std.proofs.lemmas.Bool.{cond-true, cond-false, and_parts, or_parts, ne_eqb, not-false}
use Rattle.std.proofs.lemmas.List.{length-append, drop-append-le}
use Rattle.std.proofs.lemmas.Option.{none-some, same_Some, slice_get_within}
use Rattle.sv_world.specs.declared.action.Action.{Action}
use Rattle.sv_pending.specs.Pending.{PendingAction}
use Rattle.sv_wire.specs.declared.message.Request.{Request}
use Rattle.sv_wire.specs.declared.message.Request.TheVariants as requests
use Rattle.sv_wire.specs.declared.message.Reply.{Reply}
use Rattle.sv_wire.specs.declared.message.Reply.TheVariants as replies
use Rattle.sv_client.specs.declared.trace.Event.{Event}
use Rattle.sv_client.specs.declared.trace.Event.TheVariants as events
use Rattle.sv_client.specs.Traces.{joins, makes, current_session, is_session, held_of, with_reply, pending_of, submit_of, asked_by_event, asked, got}
use Rattle.sv_client.specs.Taking.{Identity, allows, is_for_front, ends_with_front, is_good_relay, is_bad_relay, is_bad_head, has_bad_item}
use Rattle.law_system.specs.Clients.{AreClientEvents}
use Rattle.law_system.proofs.Asked.{may-answer, begun-or_not, begun-older}
use Rattle.law_system.proofs.Pendings.{Numbered, keys, without_first, settles, keys-with, AreFrom, settled, IsCounted, counted, submitted_by, submits, submits-append, submits-pending, keys-made, got-fewer, IsAligned, waiting-more, quiet, quiet-if, quiet-got}

abbrev pub is_submit : Request → Bool
is_submit (requests.Submit seq a) = true
is_submit _ = false

front-number : (seq : ℕ) (ps : List PendingAction) (n : ℕ) → AreFrom n (keys ps) → is_for_front seq ps ≡ true → seq ≡ n
front-number seq [] n f e = absurd (true≢false (sym e))
front-number seq (p ∷ ps) n f e = eqb-true seq p.seq e ∙ f.0

not-zero : (seq n : ℕ) → seq ≡ suc n → (seq == 0) ≡ false
not-zero seq n e = ne_eqb seq 0 (λ z. let f : suc n ≡ 0 = sym e ∙ z in absurd (omega arith))

-- A reply that a client takes settles the front exactly where it answers a Submit.
pub settles-submit : (who : Identity) (t : List Event) (q : Request) (r : Reply) → IsCounted t → allows q r ≡ true → has_bad_item who (pending_of t) q r ≡ false → settles r ≡ is_submit q
settles-submit who t (requests.Submit seq a) (replies.Relay n commit head items) c k g =
    let bad : is_bad_relay who (pending_of t) (requests.Submit seq a) n items ≡ false = (or_parts (is_bad_head who.shape head) (is_bad_relay who (pending_of t) (requests.Submit seq a) n items) g).1 in
    let good : is_good_relay who (pending_of t) (requests.Submit seq a) n items ≡ true = not-false (is_good_relay who (pending_of t) (requests.Submit seq a) n items) (or_parts _ (not (is_good_relay who (pending_of t) (requests.Submit seq a) n items)) bad).1 in
    let front : is_for_front n (pending_of t) ≡ true = (and_parts (is_for_front n (pending_of t)) (ends_with_front who (pending_of t) items) good).0 in
    ap not (not-zero n (settled t) (front-number n (pending_of t) (suc (settled t)) c.numbered front))
settles-submit who t (requests.Submit seq a) (replies.Dropped n chain far) c k g = refl
settles-submit who t (requests.Submit seq a) (replies.Denied n object) c k g = refl
settles-submit who t (requests.Submit seq a) (replies.Settled n pos) c k g = refl
settles-submit who t (requests.Submit seq a) (replies.Seen last commit head items) c k g = absurd (true≢false (sym k))
settles-submit who t (requests.Submit seq a) (replies.Welcome commit head) c k g = absurd (true≢false (sym k))
settles-submit who t (requests.Submit seq a) (replies.Noted commit) c k g = absurd (true≢false (sym k))
settles-submit who t (requests.Submit seq a) replies.Idle c k g = absurd (true≢false (sym k))
settles-submit who t (requests.Submit seq a) (replies.Refused code detail) c k g = absurd (true≢false (sym k))
settles-submit who t (requests.Submit seq a) replies.Bye c k g = absurd (true≢false (sym k))
settles-submit who t requests.Poll (replies.Relay n commit head items) c k g =
    let bad : is_bad_relay who (pending_of t) requests.Poll n items ≡ false = (or_parts (is_bad_head who.shape head) (is_bad_relay who (pending_of t) requests.Poll n items) g).1 in
    let good : (n == 0) ≡ true = not-false (n == 0) (or_parts _ (not (n == 0)) bad).1 in
    ap not good
settles-submit who t requests.Poll replies.Idle c k g = refl
settles-submit who t requests.Poll (replies.Dropped n chain far) c k g = absurd (true≢false (sym k))
settles-submit who t requests.Poll (replies.Denied n object) c k g = absurd (true≢false (sym k))
settles-submit who t requests.Poll (replies.Settled n pos) c k g = absurd (true≢false (sym k))
settles-submit who t requests.Poll (replies.Seen last commit head items) c k g = refl
settles-submit who t requests.Poll (replies.Welcome commit head) c k g = absurd (true≢false (sym k))
settles-submit who t requests.Poll (replies.Noted commit) c k g = absurd (true≢false (sym k))
settles-submit who t requests.Poll (replies.Refused code detail) c k g = absurd (true≢false (sym k))
settles-submit who t requests.Poll replies.Bye c k g = absurd (true≢false (sym k))
settles-submit who t (requests.Observe objects wait) (replies.Seen last commit head items) c k g = refl
settles-submit who t (requests.Observe objects wait) (replies.Relay n commit head items) c k g = absurd (true≢false (sym k))
settles-submit who t (requests.Observe objects wait) (replies.Dropped n chain far) c k g = absurd (true≢false (sym k))
settles-submit who t (requests.Observe objects wait) (replies.Denied n object) c k g = absurd (true≢false (sym k))
settles-submit who t (requests.Observe objects wait) (replies.Settled n pos) c k g = absurd (true≢false (sym k))
settles-submit who t (requests.Observe objects wait) (replies.Welcome commit head) c k g = refl
settles-submit who t (requests.Observe objects wait) (replies.Noted commit) c k g = refl
settles-submit who t (requests.Observe objects wait) replies.Idle c k g = refl
settles-submit who t (requests.Observe objects wait) (replies.Refused code detail) c k g = refl
settles-submit who t (requests.Observe objects wait) replies.Bye c k g = refl
settles-submit who t (requests.Join client life interest) (replies.Welcome commit head) c k g = refl
settles-submit who t (requests.Join client life interest) (replies.Relay n commit head items) c k g = absurd (true≢false (sym k))
settles-submit who t (requests.Join client life interest) (replies.Dropped n chain far) c k g = absurd (true≢false (sym k))
settles-submit who t (requests.Join client life interest) (replies.Denied n object) c k g = absurd (true≢false (sym k))
settles-submit who t (requests.Join client life interest) (replies.Settled n pos) c k g = absurd (true≢false (sym k))
settles-submit who t (requests.Join client life interest) (replies.Seen last commit head items) c k g = refl
settles-submit who t (requests.Join client life interest) (replies.Noted commit) c k g = refl
settles-submit who t (requests.Join client life interest) replies.Idle c k g = refl
settles-submit who t (requests.Join client life interest) (replies.Refused code detail) c k g = refl
settles-submit who t (requests.Join client life interest) replies.Bye c k g = refl
settles-submit who t (requests.Done results) (replies.Noted commit) c k g = refl
settles-submit who t (requests.Done results) (replies.Relay n commit head items) c k g = absurd (true≢false (sym k))
settles-submit who t (requests.Done results) (replies.Dropped n chain far) c k g = absurd (true≢false (sym k))
settles-submit who t (requests.Done results) (replies.Denied n object) c k g = absurd (true≢false (sym k))
settles-submit who t (requests.Done results) (replies.Settled n pos) c k g = absurd (true≢false (sym k))
settles-submit who t (requests.Done results) (replies.Seen last commit head items) c k g = refl
settles-submit who t (requests.Done results) (replies.Welcome commit head) c k g = refl
settles-submit who t (requests.Done results) replies.Idle c k g = refl
settles-submit who t (requests.Done results) (replies.Refused code detail) c k g = refl
settles-submit who t (requests.Done results) replies.Bye c k g = refl
settles-submit who t requests.Leave replies.Bye c k g = refl
settles-submit who t requests.Leave (replies.Relay n commit head items) c k g = absurd (true≢false (sym k))
settles-submit who t requests.Leave (replies.Dropped n chain far) c k g = absurd (true≢false (sym k))
settles-submit who t requests.Leave (replies.Denied n object) c k g = absurd (true≢false (sym k))
settles-submit who t requests.Leave (replies.Settled n pos) c k g = absurd (true≢false (sym k))
settles-submit who t requests.Leave (replies.Seen last commit head items) c k g = refl
settles-submit who t requests.Leave (replies.Welcome commit head) c k g = refl
settles-submit who t requests.Leave (replies.Noted commit) c k g = refl
settles-submit who t requests.Leave replies.Idle c k g = refl
settles-submit who t requests.Leave (replies.Refused code detail) c k g = refl
settles-submit who t requests.Bad r c k g = absurd (true≢false (sym k ∙ bad-none r))
  where
    bad-none : (r : Reply) → allows requests.Bad r ≡ false
    bad-none (replies.Relay n commit head items) = refl
    bad-none (replies.Dropped n chain far) = refl
    bad-none (replies.Denied n object) = refl
    bad-none (replies.Seen last commit head items) = refl
    bad-none (replies.Settled n pos) = refl
    bad-none (replies.Welcome commit head) = refl
    bad-none (replies.Noted commit) = refl
    bad-none replies.Idle = refl
    bad-none (replies.Refused code detail) = refl
    bad-none replies.Bye = refl
settles-submit who t requests.End r c k g = absurd (true≢false (sym k ∙ end-none r))
  where
    end-none : (r : Reply) → allows requests.End r ≡ false
    end-none (replies.Relay n commit head items) = refl
    end-none (replies.Dropped n chain far) = refl
    end-none (replies.Denied n object) = refl
    end-none (replies.Seen last commit head items) = refl
    end-none (replies.Settled n pos) = refl
    end-none (replies.Welcome commit head) = refl
    end-none (replies.Noted commit) = refl
    end-none replies.Idle = refl
    end-none (replies.Refused code detail) = refl
    end-none replies.Bye = refl

pub drop-one : {X : Type 0} (n : ℕ) (xs : List X) (x : X) → slice_get xs n ≡ Some x → drop n xs ≡ x ∷ drop (suc n) xs
drop-one zero [] x e = absurd (none-some x e)
drop-one zero (y ∷ ys) x e = ap (λ z. z ∷ ys) (same_Some y x e)
drop-one (suc n) [] x e = absurd (none-some x e)
drop-one (suc n) (y ∷ ys) x e = drop-one n ys x e

rest-of : (q : Request) (b : Bool) (ks js : List Numbered) → b ≡ is_submit q → submitted_by q ++ ks ≡ js → ks ≡ (if b then without_first js else js)
rest-of (requests.Submit seq a) b ks js e f = ap without_first f ∙ sym (cond-true b (without_first js) js e)
rest-of (requests.Join client life interest) b ks js e f = f ∙ sym (cond-false b (without_first js) js e)
rest-of (requests.Done results) b ks js e f = f ∙ sym (cond-false b (without_first js) js e)
rest-of requests.Poll b ks js e f = f ∙ sym (cond-false b (without_first js) js e)
rest-of (requests.Observe objects wait) b ks js e f = f ∙ sym (cond-false b (without_first js) js e)
rest-of requests.Leave b ks js e f = f ∙ sym (cond-false b (without_first js) js e)
rest-of requests.Bad b ks js e f = f ∙ sym (cond-false b (without_first js) js e)
rest-of requests.End b ks js e f = f ∙ sym (cond-false b (without_first js) js e)

module _ (who : Identity) where
  aligned-got : (r : Reply) (t : List Event) (s : ℕ) → AreClientEvents who (events.Got s r ∷ t) → IsAligned who t s → IsAligned who (events.Got s r ∷ t) s
  aligned-got r t s p a =
      let ans = may-answer who t s r p.0 in
      let n = length (got t s) in
      let qs = asked who.client who.interest t s in
      let more = asked_by_event who.client who.interest t (events.Got s r) s in
      let within : n < length qs = slice_get_within qs n ans.request ans.asked_there in
      let got_now : length (got (events.Got s r ∷ t) s) ≡ suc n = ap length (cond-true (s == s) (got t s ++ r ∷ []) (got t s) (eq-eqb s s refl)) ∙ length-append (got t s) (r ∷ []) ∙ add-one n in
      let rest : submits (drop (suc n) qs) ≡ (if settles r then without_first (keys (pending_of t)) else keys (pending_of t)) =
      rest-of ans.request (settles r) (submits (drop (suc n) qs)) (keys (pending_of t)) (settles-submit who t ans.request r (counted who t p.1) ans.kind ans.good)
      (sym (ap submits (drop-one n qs ans.request ans.asked_there)) ∙ a) in
      ap (λ (m : ℕ). submits (drop m (qs ++ more))) got_now
      ∙ ap submits (drop-append-le (suc n) qs more (omega arith))
      ∙ submits-append (drop (suc n) qs) more
      ∙ ap (λ (ks : List Numbered). submits (drop (suc n) qs) ++ ks) (quiet-got who s r t s)
      ∙ append-nil (submits (drop (suc n) qs))
      ∙ rest
      ∙ sym (keys-with (held_of t) (with_reply (held_of t) r) r (pending_of t))

  aligned-join : (t : List Event) (s : ℕ) → AreClientEvents who (events.Join s ∷ t) → IsAligned who (events.Join s ∷ t) s
  aligned-join t s p =
      let now = requests.Join who.client (suc (joins t)) who.interest ∷ map submit_of (pending_of t) in
      elim (begun-or_not who t p.1 s) [
        | inr b ↦ (let older : s < s = begun-older who t s p.0 s b in absurd (omega arith))
        | inl b ↦
            (let few : length (got t s) ≤ length (asked who.client who.interest t s) = got-fewer who t p.1 s in
            let none : length (asked who.client who.interest t s) ≡ 0 = ap length b.0 in
            let zero' : length (got t s) ≡ 0 = omega arith in
            ap₂ (λ (n : ℕ) (qs : List Request). submits (drop n (qs ++ (if s == s then now else [])))) zero' b.0
            ∙ ap submits (cond-true (s == s) now [] (eq-eqb s s refl))
            ∙ submits-pending (pending_of t))
      ]

  aligned-make : (action : Action) (t : List Event) (s : ℕ) → AreClientEvents who (events.Make action ∷ t) → current_session t ≡ Some s → IsAligned who t s → IsAligned who (events.Make action ∷ t) s
  aligned-make action t s p c a =
      let q = requests.Submit (suc (makes t)) action in
      let mine : is_session (current_session t) s ≡ true = ap (λ (o : Option ℕ). is_session o s) c ∙ eq-eqb s s refl in
      waiting-more who t s (if is_session (current_session t) s then q ∷ [] else []) (got-fewer who t p.1 s)
      ∙ ap₂ (λ (ks : List Numbered) (qs : List Request). ks ++ submits qs) a (cond-true (is_session (current_session t) s) (q ∷ []) [] mine)
      ∙ sym (keys-made who action t)

  pub aligned : (t : List Event) → AreClientEvents who t → (s : ℕ) → current_session t ≡ Some s → IsAligned who t s
  aligned [] p s c = absurd (none-some s c)
  aligned (events.Join m ∷ t) p s c =
      let e : m ≡ s = same_Some m s c in
      subst (λ (n : ℕ). IsAligned who (events.Join m ∷ t) n) e (aligned-join t m p)
  aligned (events.Got m r ∷ t) p s c =
      let before = aligned t p.1 s c in
      let e : m ≡ s = same_Some m s (sym p.0.current ∙ c) in
      subst (λ (n : ℕ). IsAligned who (events.Got n r ∷ t) s) (sym e)
      (aligned-got r t s (subst (λ (n : ℕ). AreClientEvents who (events.Got n r ∷ t)) e p) before)
  aligned (events.Make action ∷ t) p s c = aligned-make action t s p c (aligned t p.1 s c)
  aligned (events.Poll ∷ t) p s c = quiet who t s (if is_session (current_session t) s then requests.Poll ∷ [] else []) (quiet-if who (is_session (current_session t) s) requests.Poll refl) (got-fewer who t p.1 s) (aligned t p.1 s c)
  aligned (events.Observe objects wait ∷ t) p s c = quiet who t s (if is_session (current_session t) s then requests.Observe objects wait ∷ [] else []) (quiet-if who (is_session (current_session t) s) (requests.Observe objects wait) refl) (got-fewer who t p.1 s) (aligned t p.1 s c)
  aligned (events.Leave ∷ t) p s c = quiet who t s (if is_session (current_session t) s then requests.Leave ∷ [] else []) (quiet-if who (is_session (current_session t) s) requests.Leave refl) (got-fewer who t p.1 s) (aligned t p.1 s c)
  aligned (events.Cut ∷ t) p s c = quiet who t s [] refl (got-fewer who t p.1 s) (aligned t p.1 s c)
  aligned (events.Quit ∷ t) p s c = quiet who t s [] refl (got-fewer who t p.1 s) (aligned t p.1 s c)
  aligned (events.Show objects ∷ t) p s c = quiet who t s [] refl (got-fewer who t p.1 s) (aligned t p.1 s c)
