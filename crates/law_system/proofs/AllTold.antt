-- Each action of a client that left has one outcome.
use Rattle.std.proofs.Common.{◌≡◌, ℕ, ◌<◌, ◌≤◌, Bool, true, false, ◌==◌, inl, inr, List, [], ◌∷◌, drop, reverse, length, Option, Some, None, slice_get, refl, sym, ap, ◌∙◌, arith, true≢false}
use Rattle.std.specs.List.{list_any}
use Rattle.std.proofs.lemmas.Bool.{cond-true, cond-false, cases_Bool}
use Rattle.std.proofs.lemmas.Option.{none-some}
use Rattle.sv_pending.specs.Pending.{PendingAction}
use Rattle.sv_versions.specs.Held.{Held}
use Rattle.sv_wire.specs.declared.message.Reply.{Reply}
use Rattle.sv_wire.specs.declared.message.Reply.TheVariants as replies
use Rattle.sv_journal.specs.History.{Authored, accepted, outcomes_of, next_seq}
use Rattle.sv_client.specs.declared.trace.Event.{Event}
use Rattle.sv_client.specs.declared.trace.Event.TheVariants as events
use Rattle.sv_client.specs.Traces.{makes, current_session, held_of, with_reply, has_news, pending_with, pending_of, asked, got}
use Rattle.sv_client.specs.Taking.{Identity, outstanding, unanswered}
use Rattle.sv_client.specs.Proper.{in_session, identity_of}
use Rattle.law_system.specs.Clients.{AreClientEvents}
use Rattle.sv_script.specs.Following.{is_finished}
use Rattle.law_system.specs.Outcomes.{is_quit, HasOutcomes}
use Rattle.law_system.proofs.Awaited.{Owner}
use Rattle.law_system.proofs.Histories.{same}
use Rattle.law_system.proofs.Entered.{IsEntered, entered}
use Rattle.law_system.proofs.Asked.{all, may-answer, any-reverse}
use Rattle.law_system.proofs.Pendings.{keys, settled, counted, submits}
use Rattle.law_system.proofs.Aligned.{aligned}
use Rattle.law_system.proofs.Leaving.{leave-last}
use Rattle.law_system.proofs.Order.{got-replied, leave-only}
use Rattle.law_system.proofs.Window.{settled-next, outcomes-made}

-- ---- Nothing is pending once a client left

-- Where nothing is pending, a reply leaves it so.
none-with : (before more : List Held) (r : Reply) → pending_with before more r [] ≡ []
none-with before more (replies.Relay seq commit head items) = elim (cases_Bool (seq == 0)) [ inl t ↦ cond-true (seq == 0) _ _ t | inr f ↦ cond-false (seq == 0) _ _ f ]
none-with before more (replies.Dropped seq chain far) = refl
none-with before more (replies.Denied seq object) = refl
none-with before more (replies.Seen last commit head items) =
    elim (cases_Bool (has_news head items)) [ inl t ↦ cond-true (has_news head items) _ _ t | inr f ↦ cond-false (has_news head items) _ _ f ]
none-with before more (replies.Settled seq pos) = refl
none-with before more (replies.Welcome commit head) = refl
none-with before more (replies.Noted commit) = refl
none-with before more replies.Idle = refl
none-with before more (replies.Refused code detail) = refl
none-with before more replies.Bye = refl

no-keys : (ps : List PendingAction) → keys ps ≡ [] → ps ≡ []
no-keys [] e = refl
no-keys (p ∷ ps) e = absurd (let l : length (keys (p ∷ ps)) ≡ 0 = ap length e in omega arith)

module _ (who : Identity) where
  none-outstanding : (t : List Event) → AreClientEvents who t → (o : Option ℕ) → current_session t ≡ o → in_session t ≡ true → outstanding who t ≡ [] → pending_of t ≡ []
  none-outstanding t p None c i e = absurd (no-session t c i)
    where
      no-session : (t : List Event) → current_session t ≡ None → in_session t ≡ true → ⊥
      no-session [] c i = true≢false (sym i)
      no-session (events.Join s ∷ t) c i = none-some s (sym c)
      no-session (events.Make action ∷ t) c i = no-session t c i
      no-session (events.Poll ∷ t) c i = no-session t c i
      no-session (events.Observe objects wait ∷ t) c i = no-session t c i
      no-session (events.Leave ∷ t) c i = true≢false (sym i)
      no-session (events.Got s reply ∷ t) c i = no-session t c i
      no-session (events.Cut ∷ t) c i = no-session t c i
      no-session (events.Quit ∷ t) c i = no-session t c i
      no-session (events.Show objects ∷ t) c i = no-session t c i
  none-outstanding t p (Some s) c i e =
      let these : drop (length (got t s)) (asked who.client who.interest t s) ≡ [] = sym (ap (unanswered who t) c) ∙ e in
      no-keys (pending_of t) (sym (aligned who t p s c) ∙ ap submits these)

  -- A client that left has nothing pending.
  pub left-none : (t : List Event) → AreClientEvents who t → in_session t ≡ false → pending_of t ≡ []
  left-none [] p i = refl
  left-none (events.Join s ∷ t) p i = absurd (true≢false i)
  left-none (events.Make action ∷ t) p i = absurd (true≢false (sym p.0.joined ∙ i))
  left-none (events.Poll ∷ t) p i = left-none t p.1 i
  left-none (events.Observe objects wait ∷ t) p i = left-none t p.1 i
  left-none (events.Leave ∷ t) p i = none-outstanding t p.1 (current_session t) refl p.0.joined p.0.settled
  left-none (events.Got s reply ∷ t) p i =
      ap (pending_with (held_of t) (with_reply (held_of t) reply) reply) (left-none t p.1 i) ∙ none-with (held_of t) (with_reply (held_of t) reply) reply
  left-none (events.Cut ∷ t) p i = left-none t p.1 i
  left-none (events.Quit ∷ t) p i = left-none t p.1 i
  left-none (events.Show objects ∷ t) p i = left-none t p.1 i

  -- All actions are settled then.
  pub left-settled : (t : List Event) → AreClientEvents who t → in_session t ≡ false → settled t ≡ makes t
  left-settled t p i =
      let c = counted who t p in
      let none : length (keys (pending_of t)) ≡ 0 = ap (λ (ps : List PendingAction). length (keys ps)) (left-none t p i) in
      let within : length (keys (pending_of t)) ≤ makes t = c.within in
      omega arith

  bye-left : (s : ℕ) (t : List Event) → AreClientEvents who (events.Got s replies.Bye ∷ t) → in_session t ≡ false
  bye-left s t p =
      let a = may-answer who t s replies.Bye p.0 in
      (leave-last who t p.1 s (length (got t s)) (a.asked_there ∙ ap Some (leave-only a.request a.kind))).out a.current

  -- A trace that is finished and did not quit left its session.
  pub finished-left : (t : List Event) → AreClientEvents who t → is_finished t ≡ true → list_any is_quit t ≡ false → in_session t ≡ false
  finished-left [] p f q = refl
  finished-left (events.Quit ∷ t) p f q = absurd (true≢false q)
  finished-left (events.Got s replies.Bye ∷ t) p f q = bye-left s t p
  finished-left (events.Got s replies.Idle ∷ t) p f q = absurd (true≢false (sym f))
  finished-left (events.Got s (replies.Welcome commit head) ∷ t) p f q = absurd (true≢false (sym f))
  finished-left (events.Got s (replies.Relay seq commit head items) ∷ t) p f q = absurd (true≢false (sym f))
  finished-left (events.Got s (replies.Dropped seq chain far) ∷ t) p f q = absurd (true≢false (sym f))
  finished-left (events.Got s (replies.Denied seq object) ∷ t) p f q = absurd (true≢false (sym f))
  finished-left (events.Got s (replies.Seen last commit head items) ∷ t) p f q = absurd (true≢false (sym f))
  finished-left (events.Got s (replies.Settled seq pos) ∷ t) p f q = absurd (true≢false (sym f))
  finished-left (events.Got s (replies.Noted commit) ∷ t) p f q = absurd (true≢false (sym f))
  finished-left (events.Got s (replies.Refused code detail) ∷ t) p f q = absurd (true≢false (sym f))
  finished-left (events.Join s ∷ t) p f q = absurd (true≢false (sym f))
  finished-left (events.Make action ∷ t) p f q = absurd (true≢false (sym f))
  finished-left (events.Poll ∷ t) p f q = absurd (true≢false (sym f))
  finished-left (events.Observe objects wait ∷ t) p f q = absurd (true≢false (sym f))
  finished-left (events.Leave ∷ t) p f q = absurd (true≢false (sym f))
  finished-left (events.Cut ∷ t) p f q = absurd (true≢false (sym f))
  finished-left (events.Show objects ∷ t) p f q = absurd (true≢false (sym f))

not-reversed : (p : Event → Bool) (xs : List Event) → list_any p xs ≡ false → list_any p (reverse xs) ≡ false
not-reversed p xs e = elim (cases_Bool (list_any p (reverse xs))) [ inr f ↦ f | inl t ↦ absurd (true≢false (sym (any-reverse p xs t) ∙ e)) ]

-- ---- As many outcomes as actions made

module _ (owner : Owner) where
  open owner use {keeping as K, rules as r, journal as H, trace as L, served}
  open owner.served use {fits as this_one}

  abbrev whole : List Event
  whole = reverse L.events

  abbrev A : List Authored
  A = accepted H

  abbrev who : Identity
  who = identity_of r.world.shape L

  abbrev k : ℕ
  k = L.client.0

  -- All that was got was answered in the journal.
  given : (o n : ℕ) (reply : Reply) → slice_get (got whole o) n ≡ Some reply → IsEntered A H o n reply
  given o n reply is = entered A H o n reply (got-replied K r H L served o n reply is)

  -- A client that left has one outcome for each action.
  pub as-many_outcomes : in_session whole ≡ false → length (outcomes_of H k) ≡ makes whole
  as-many_outcomes left =
      let all_settled : settled whole ≡ makes whole = left-settled who whole this_one.trace.events left in
      let told : settled whole < next_seq H k = settled-next owner H same given whole all in
      let made : length (outcomes_of H k) ≤ makes whole = outcomes-made owner H same given in
      omega arith

  pub has-outcomes : is_finished whole ≡ true → HasOutcomes H L
  has-outcomes f none = as-many_outcomes (finished-left who whole this_one.trace.events f (not-reversed is_quit L.events none))
