-- Each Submit that a trace asks is of an action that it made: the one with the Submit's number. So two Submits of one number are of one action.
use Rattle.std.proofs.Common.{◌≡◌, ℕ, zero, suc, ◌==◌, Bool, true, false, inl, inr, List, [], ◌∷◌, ◌++◌, map, length, Some, slice_get, refl, sym, ap, ◌∙◌, subst, arith, add-one, true≢false}
use Rattle.std.specs.Prelude.{if◌then◌else◌}
use Rattle.std.specs.List.{AllByRecursion}
use Rattle.std.proofs.lemmas.Bool.{cond_both}
use Rattle.std.proofs.lemmas.List.{length-append}
use Rattle.std.proofs.lemmas.Option.{none-some, same_Some}
use Rattle.sv_world.specs.Control.{blank}
use Rattle.sv_world.specs.declared.action.Action.{Action}
use Rattle.sv_pending.specs.Pending.{PendingAction}
use Rattle.sv_wire.specs.declared.message.Request.{Request}
use Rattle.sv_wire.specs.declared.message.Request.TheVariants as requests
use Rattle.sv_client.specs.declared.trace.Event.{Event}
use Rattle.sv_client.specs.declared.trace.Event.TheVariants as events
use Rattle.sv_client.specs.Traces.{joins, makes, current_session, is_session, held_of, with_reply, pending_of, submit_of, asked_by_event, asked}
use Rattle.sv_client.specs.Taking.{Identity}
use Rattle.law_system.proofs.Fronts.{front-append, get-last}
use Rattle.law_system.proofs.Every.{each-append, each-more}
use Rattle.law_system.proofs.Asked.{get-append_cases}
use Rattle.law_system.proofs.Pendings.{Numbered, keys, without_first, settles, keys-with, keys-made}
use Rattle.law_system.proofs.Aligned.{is_submit}
use Rattle.law_system.proofs.Resent.{no-submit_done}
use Rattle.law_system.proofs.Window.{no-submit}

-- The actions that a trace made, in order.
abbrev pub made : List Event → List Action
made [] = []
made (events.Make action ∷ t) = made t ++ action ∷ []
made (_ ∷ t) = made t

-- The action is the one made with the number.
abbrev pub IsMade : List Event → Numbered → Type 0
IsMade t k = (m : ℕ) × ((k.0 ≡ suc m) × (slice_get (made t) m ≡ Some k.1))

pub made-same : (t : List Event) (n : ℕ) (a b : Action) → IsMade t (n, a) → IsMade t (n, b) → a ≡ b
made-same t n a b x y =
    let p : n ≡ suc x.0 = x.1.0 in
    let q : n ≡ suc y.0 = y.1.0 in
    let z : x.0 ≡ y.0 = omega arith in
    same_Some a b (sym x.1.1 ∙ ap (slice_get (made t)) z ∙ y.1.1)

made-count : (t : List Event) → length (made t) ≡ makes t
made-count [] = refl
made-count (events.Make action ∷ t) = length-append (made t) (action ∷ []) ∙ add-one (length (made t)) ∙ ap suc (made-count t)
made-count (events.Got s r ∷ t) = made-count t
made-count (events.Join s ∷ t) = made-count t
made-count (events.Poll ∷ t) = made-count t
made-count (events.Observe objects wait ∷ t) = made-count t
made-count (events.Leave ∷ t) = made-count t
made-count (events.Cut ∷ t) = made-count t
made-count (events.Quit ∷ t) = made-count t
made-count (events.Show objects ∷ t) = made-count t

made-later : (e : Event) (t : List Event) (k : Numbered) → IsMade t k → IsMade (e ∷ t) k
made-later (events.Make action) t k m = (m.0, (m.1.0, front-append (made t) (action ∷ []) m.0 k.1 m.1.1))
made-later (events.Got s r) t k m = m
made-later (events.Join s) t k m = m
made-later events.Poll t k m = m
made-later (events.Observe objects wait) t k m = m
made-later events.Leave t k m = m
made-later events.Cut t k m = m
made-later events.Quit t k m = m
made-later (events.Show objects) t k m = m

made-now : (action : Action) (t : List Event) → IsMade (events.Make action ∷ t) (suc (makes t), action)
made-now action t = (makes t, (refl, ap (slice_get (made t ++ action ∷ [])) (sym (made-count t)) ∙ get-last (made t) action))

each-rest : (P : Numbered → Type 0) (ks : List Numbered) → AllByRecursion P ks → AllByRecursion P (without_first ks)
each-rest P [] h = tt
each-rest P (k ∷ ks) h = h.1

abbrev submitted_key : Request → Numbered
submitted_key (requests.Submit n a) = (n, a)
submitted_key _ = (0, blank)

submits-made : (P : Numbered → Type 0) (ps : List PendingAction) → AllByRecursion P (keys ps) → (j n : ℕ) (a : Action) → slice_get (map submit_of ps) j ≡ Some (requests.Submit n a) → P (n, a)
submits-made P [] h j n a e = absurd (none-some (requests.Submit n a) e)
submits-made P (p ∷ ps) h zero n a e = subst P (ap submitted_key (same_Some (requests.Submit p.seq p.action) (requests.Submit n a) e)) h.0
submits-made P (p ∷ ps) h (suc j) n a e = submits-made P ps h.1 j n a e

submit-if : (P : Numbered → Type 0) (b : Bool) (m : ℕ) (c : Action) → P (m, c) → (j n : ℕ) (a : Action) →
    slice_get (if b then requests.Submit m c ∷ [] else []) j ≡ Some (requests.Submit n a) → P (n, a)
submit-if P true m c h zero n a e = subst P (ap submitted_key (same_Some (requests.Submit m c) (requests.Submit n a) e)) h
submit-if P true m c h (suc j) n a e = absurd (none-some (requests.Submit n a) e)
submit-if P false m c h j n a e = absurd (none-some (requests.Submit n a) e)

module _ (who : Identity) where
  -- Each pending action was made, with its number.
  pending-made : (t : List Event) → AllByRecursion (IsMade t) (keys (pending_of t))
  pending-made [] = tt
  pending-made (events.Make action ∷ t) =
      let now = events.Make action ∷ t in
      subst (AllByRecursion (IsMade now)) (sym (keys-made who action t))
      (each-append (IsMade now) (keys (pending_of t)) ((suc (makes t), action) ∷ [])
      (each-more (IsMade t) (IsMade now) (λ k m. made-later (events.Make action) t k m) (keys (pending_of t)) (pending-made t)) (made-now action t, tt))
  pending-made (events.Got s r ∷ t) =
      let before = pending-made t in
      let ks = keys (pending_of t) in
      subst (AllByRecursion (IsMade t)) (sym (keys-with (held_of t) (with_reply (held_of t) r) r (pending_of t)))
      (cond_both (settles r) (without_first ks) ks (AllByRecursion (IsMade t)) (λ e. each-rest (IsMade t) ks before) (λ e. before))
  pending-made (events.Join s ∷ t) = pending-made t
  pending-made (events.Poll ∷ t) = pending-made t
  pending-made (events.Observe objects wait ∷ t) = pending-made t
  pending-made (events.Leave ∷ t) = pending-made t
  pending-made (events.Cut ∷ t) = pending-made t
  pending-made (events.Quit ∷ t) = pending-made t
  pending-made (events.Show objects ∷ t) = pending-made t

  join-made : (t : List Event) (b : Bool) (j n : ℕ) (a : Action) →
      slice_get (if b then requests.Join who.client (suc (joins t)) who.interest ∷ map submit_of (pending_of t) else []) j ≡ Some (requests.Submit n a) → IsMade t (n, a)
  join-made t true zero n a e = absurd (true≢false (sym (ap is_submit (same_Some (requests.Join who.client (suc (joins t)) who.interest) (requests.Submit n a) e))))
  join-made t true (suc j) n a e = submits-made (IsMade t) (pending_of t) (pending-made t) j n a e
  join-made t false j n a e = absurd (none-some (requests.Submit n a) e)

  event-made : (ev : Event) (t : List Event) (s j n : ℕ) (a : Action) → slice_get (asked_by_event who.client who.interest t ev s) j ≡ Some (requests.Submit n a) → IsMade (ev ∷ t) (n, a)
  event-made (events.Join m) t s j n a e = join-made t (m == s) j n a e
  event-made (events.Make action) t s j n a e = submit-if (IsMade (events.Make action ∷ t)) (is_session (current_session t) s) (suc (makes t)) action (made-now action t) j n a e
  event-made (events.Got m r) t s j n a e = absurd (no-submit_done who (m == s) (held_of t) r j n a e)
  event-made events.Poll t s j n a e = absurd (no-submit (is_session (current_session t) s) requests.Poll j n a refl e)
  event-made (events.Observe objects wait) t s j n a e = absurd (no-submit (is_session (current_session t) s) (requests.Observe objects wait) j n a refl e)
  event-made events.Leave t s j n a e = absurd (no-submit (is_session (current_session t) s) requests.Leave j n a refl e)
  event-made events.Cut t s j n a e = absurd (none-some (requests.Submit n a) e)
  event-made events.Quit t s j n a e = absurd (none-some (requests.Submit n a) e)
  event-made (events.Show objects) t s j n a e = absurd (none-some (requests.Submit n a) e)

  -- Each Submit that is asked is of the action made with its number.
  pub submit-made : (t : List Event) (s i n : ℕ) (a : Action) → slice_get (asked who.client who.interest t s) i ≡ Some (requests.Submit n a) → IsMade t (n, a)
  submit-made [] s i n a e = absurd (none-some (requests.Submit n a) e)
  submit-made (ev ∷ t) s i n a e =
      let before = submit-made t s i n a in
      elim (get-append_cases (asked who.client who.interest t s) (asked_by_event who.client who.interest t ev s) i (requests.Submit n a) e) [
        | inl f ↦ made-later ev t (n, a) (before f)
        | inr f ↦ event-made ev t s f.0 n a f.1.1
      ]
