-- What holds of each relay that a client took.
use Rattle.std.proofs.Common.{◌≡◌, ◌↔◌, ℕ, suc, ◌≤◌, true, false, not, ◌==◌, List, [], ◌∷◌, ◌++◌, length, ℤ, Option, None, refl, sym, ap, arith, eqb-true, true≢false}
use Rattle.std.specs.List.{AllByRecursion}
use Rattle.std.proofs.lemmas.Bool.{cond_both, and_parts, or_parts, not-false}
use Rattle.std.proofs.lemmas.Option.{none-some}
use Rattle.sv_versions.specs.Held.{Held}
use Rattle.sv_pending.specs.Pending.{PendingAction, kept_of, redone_after, redone}
use Rattle.sv_wire.specs.declared.message.ObjectValue.{ObjectValue}
use Rattle.sv_wire.specs.declared.message.Item.{Item}
use Rattle.sv_wire.specs.declared.message.Request.{Request}
use Rattle.sv_wire.specs.declared.message.Request.TheVariants as requests
use Rattle.sv_wire.specs.declared.message.Reply.{Reply}
use Rattle.sv_wire.specs.declared.message.Reply.TheVariants as replies
use Rattle.sv_journal.specs.Serving.{is_poll}
use Rattle.sv_client.specs.declared.trace.Event.{Event}
use Rattle.sv_client.specs.declared.trace.Event.TheVariants as events
use Rattle.sv_client.specs.Traces.{makes, held_of, with_reply, head_held, results_of, last_values, are_same, without_front, settled_by, has_news, pending_with, pending_of}
use Rattle.sv_client.specs.Taking.{Identity, outstanding, allows, is_out_of_order, is_bad_head, is_for_front, ends_with_front, is_good_relay, is_bad_relay, has_bad_item, Unasked, fault_after}
use Rattle.sv_client.proofs.Faultless.{kind-of, good-of}
use Rattle.law_system.specs.Clients.{AreClientEvents}
use Rattle.law_journal.specs.Entries.{ForOldest, EachTaken}
use Rattle.law_journal.specs.Numbered.{IsZeroForPolls, TakenRelaysOfZeroAnswerPolls}
use Rattle.law_journal.specs.Brought.{HasItems, TakenRelaysHaveItems}

-- ---- Pending actions have numbers from 1 on

abbrev AreNumbered : List PendingAction → Type 0
AreNumbered ps = AllByRecursion (λ (p : PendingAction). 1 ≤ p.seq) ps

one-more : (ps : List PendingAction) (q : PendingAction) → AreNumbered ps → 1 ≤ q.seq → AreNumbered (ps ++ q ∷ [])
one-more [] q all some = (some, tt)
one-more (p ∷ ps) q all some = (all.0, one-more ps q all.1 some)

redone-numbered : (held : List Held) (earlier ps : List PendingAction) → AreNumbered earlier → AreNumbered ps → AreNumbered (redone_after held earlier ps)
redone-numbered held earlier [] before all = before
redone-numbered held earlier (p ∷ ps) before all =
    let q : PendingAction = record p { kept = kept_of held earlier p.action } in
    redone-numbered held (earlier ++ q ∷ []) ps (one-more earlier q before all.0) all.1

without-numbered : (ps : List PendingAction) → AreNumbered ps → AreNumbered (without_front ps)
without-numbered [] all = tt
without-numbered (p ∷ ps) all = all.1

settled-numbered : (held : List Held) (own : Option (List (List ℤ))) (ps : List PendingAction) → AreNumbered ps → AreNumbered (settled_by held own ps)
settled-numbered held own [] all = tt
settled-numbered held own (p ∷ ps) all =
    cond_both (are_same own p.kept) ps (redone held ps) AreNumbered (λ e. all.1) (λ e. redone-numbered held [] ps tt all.1)

with-numbered : (before more : List Held) (reply : Reply) (ps : List PendingAction) → AreNumbered ps → AreNumbered (pending_with before more reply ps)
with-numbered before more (replies.Relay seq commit head items) ps all =
    let own = last_values (results_of (before ++ head_held commit head) items) in
    cond_both (seq == 0) ps (settled_by more own ps) AreNumbered (λ e. all) (λ e. settled-numbered more own ps all)
with-numbered before more (replies.Dropped seq chain far) ps all = redone-numbered more [] (without_front ps) tt (without-numbered ps all)
with-numbered before more (replies.Seen last commit head items) ps all =
    cond_both (has_news head items) (redone more ps) ps AreNumbered (λ e. redone-numbered more [] ps tt all) (λ e. all)
with-numbered before more (replies.Denied seq object) ps all = redone-numbered more [] (without_front ps) tt (without-numbered ps all)
with-numbered before more (replies.Settled seq pos) ps all = redone-numbered more [] (without_front ps) tt (without-numbered ps all)
with-numbered before more (replies.Welcome commit head) ps all = all
with-numbered before more (replies.Noted commit) ps all = all
with-numbered before more replies.Idle ps all = all
with-numbered before more (replies.Refused code detail) ps all = all
with-numbered before more replies.Bye ps all = all

pending-numbered : (t : List Event) → AreNumbered (pending_of t)
pending-numbered [] = tt
pending-numbered (events.Make action ∷ t) =
    let q : PendingAction = record { seq = suc (makes t); action = action; kept = kept_of (held_of t) (pending_of t) action } in
    let some : 1 ≤ suc (makes t) = omega arith in
    one-more (pending_of t) q (pending-numbered t) some
pending-numbered (events.Got s reply ∷ t) = with-numbered (held_of t) (with_reply (held_of t) reply) reply (pending_of t) (pending-numbered t)
pending-numbered (events.Join s ∷ t) = pending-numbered t
pending-numbered (events.Poll ∷ t) = pending-numbered t
pending-numbered (events.Observe objects wait ∷ t) = pending-numbered t
pending-numbered (events.Leave ∷ t) = pending-numbered t
pending-numbered (events.Cut ∷ t) = pending-numbered t
pending-numbered (events.Quit ∷ t) = pending-numbered t
pending-numbered (events.Show objects ∷ t) = pending-numbered t

front-some : (n : ℕ) (ps : List PendingAction) → AreNumbered ps → is_for_front n ps ≡ true → 1 ≤ n
front-some n [] all e = absurd (true≢false (sym e))
front-some n (p ∷ ps) all e = (let same : n ≡ p.seq = eqb-true n p.seq e in let some : 1 ≤ p.seq = all.0 in omega arith)

-- ---- A relay without a fault

some-items : (items : List Item) → (length items == 0) ≡ false → 1 ≤ length items
some-items [] e = absurd (true≢false e)
some-items (i ∷ items) e = omega arith

module _ (who : Identity) (ps : List PendingAction) (all : AreNumbered ps) (seq commit : ℕ) (head : List ObjectValue) (items : List Item) where
  abbrev relay : Reply
  relay = replies.Relay seq commit head items

  good-relay : (q : Request) → has_bad_item who ps q relay ≡ false → is_bad_relay who ps q seq items ≡ false
  good-relay q good = (or_parts (is_bad_head who.shape head) (is_bad_relay who ps q seq items) good).1

  for-request : (q : Request) → has_bad_item who ps q relay ≡ false → is_good_relay who ps q seq items ≡ true
  for-request q good = not-false (is_good_relay who ps q seq items) (or_parts _ (not (is_good_relay who ps q seq items)) (good-relay q good)).1

  has-items : (q : Request) → has_bad_item who ps q relay ≡ false → 1 ≤ length items
  has-items q good = some-items items (or_parts (length items == 0) _ (or_parts _ (not (is_good_relay who ps q seq items)) (good-relay q good)).0).0

  zero-for : (q : Request) → allows q relay ≡ true → has_bad_item who ps q relay ≡ false → (seq ≡ 0) ↔ (q ≡ requests.Poll)
  zero-for (requests.Submit n a) kind good =
      let front : is_for_front seq ps ≡ true = (and_parts (is_for_front seq ps) (ends_with_front who ps items) (for-request (requests.Submit n a) good)).0 in
      let some : 1 ≤ seq = front-some seq ps all front in
      ((λ (e : seq ≡ 0). absurd (omega arith)), (λ (e : requests.Submit n a ≡ requests.Poll). absurd (true≢false (sym (ap is_poll e)))))
  zero-for requests.Poll kind good = ((λ e. refl), (λ e. eqb-true seq 0 (for-request requests.Poll good)))
  zero-for (requests.Observe objects wait) kind good = absurd (true≢false (sym kind))
  zero-for (requests.Join client life interest) kind good = absurd (true≢false (sym kind))
  zero-for (requests.Done results) kind good = absurd (true≢false (sym kind))
  zero-for requests.Leave kind good = absurd (true≢false (sym kind))
  zero-for requests.Bad kind good = absurd (true≢false (sym kind))
  zero-for requests.End kind good = absurd (true≢false (sym kind))

-- ---- Each reply

-- What holds of each request and reply that may stand together, with no bad item.
abbrev Suits : Identity → List Event → (Request → Reply → Type 0) → Type 0
Suits who t P = (q : Request) (reply : Reply) → allows q reply ≡ true → has_bad_item who (pending_of t) q reply ≡ false → P q reply

suits-zero : (who : Identity) (t : List Event) → Suits who t IsZeroForPolls
suits-zero who t q (replies.Relay seq commit head items) kind good = zero-for who (pending_of t) (pending-numbered t) seq commit head items q kind good
suits-zero who t q (replies.Welcome commit head) kind good = tt
suits-zero who t q (replies.Dropped seq chain far) kind good = tt
suits-zero who t q (replies.Seen last commit head items) kind good = tt
suits-zero who t q (replies.Denied seq object) kind good = tt
suits-zero who t q (replies.Settled seq pos) kind good = tt
suits-zero who t q (replies.Noted commit) kind good = tt
suits-zero who t q replies.Idle kind good = tt
suits-zero who t q (replies.Refused code detail) kind good = tt
suits-zero who t q replies.Bye kind good = tt

suits-items : (who : Identity) (t : List Event) → Suits who t (λ q reply. HasItems reply)
suits-items who t q (replies.Relay seq commit head items) kind good = has-items who (pending_of t) (pending-numbered t) seq commit head items q good
suits-items who t q (replies.Welcome commit head) kind good = tt
suits-items who t q (replies.Dropped seq chain far) kind good = tt
suits-items who t q (replies.Seen last commit head items) kind good = tt
suits-items who t q (replies.Denied seq object) kind good = tt
suits-items who t q (replies.Settled seq pos) kind good = tt
suits-items who t q (replies.Noted commit) kind good = tt
suits-items who t q replies.Idle kind good = tt
suits-items who t q (replies.Refused code detail) kind good = tt
suits-items who t q replies.Bye kind good = tt

module _ (who : Identity) (P : Request → Reply → Type 0) (suits : (t : List Event) → Suits who t P) where
  oldest : (t : List Event) (qs : List Request) (reply : Reply) → fault_after who t qs reply ≡ None → ForOldest P qs reply
  oldest t [] reply e = none-some Unasked (sym e)
  oldest t (q ∷ qs) reply e =
      suits t q reply (kind-of (allows q reply) _ e) (good-of (allows q reply) (is_out_of_order t reply) (has_bad_item who (pending_of t) q reply) _ e)

  each-taken : (t : List Event) → AreClientEvents who t → EachTaken P who t
  each-taken [] p = tt
  each-taken (events.Got s reply ∷ t) p = (oldest t (outstanding who t) reply p.0.taken, each-taken t p.1)
  each-taken (events.Join s ∷ t) p = each-taken t p.1
  each-taken (events.Make action ∷ t) p = each-taken t p.1
  each-taken (events.Poll ∷ t) p = each-taken t p.1
  each-taken (events.Observe objects wait ∷ t) p = each-taken t p.1
  each-taken (events.Leave ∷ t) p = each-taken t p.1
  each-taken (events.Cut ∷ t) p = each-taken t p.1
  each-taken (events.Quit ∷ t) p = each-taken t p.1
  each-taken (events.Show objects ∷ t) p = each-taken t p.1

pub taken_zero : TakenRelaysOfZeroAnswerPolls
taken_zero who t p = each-taken who IsZeroForPolls (λ u. suits-zero who u) t p

pub taken_items : TakenRelaysHaveItems
taken_items who t p = each-taken who (λ q reply. HasItems reply) (λ u. suits-items who u) t p
